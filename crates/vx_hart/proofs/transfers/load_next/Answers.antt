-- The accesses in the list are the element's.
use Rattle.std.proofs.Common.{List, ap, ◌∙◌, subst}
use Rattle.std.specs.List.{Contains}
use Rattle.vx_vaddr.specs.Items.{accesses_of_items}
use Rattle.vx_vector.specs.Accesses.{Access}
use Rattle.vx_hart.proofs.transfers.load_next.Goals as goal

pub load_element-requires-clause-placed : goal.load_element-requires-clause-placed
load_element-requires-clause-placed g c = λ a h. c.requires.placed a (subst (λ (xs : List Access). Contains xs a) (ap accesses_of_items c.slice.ensures ∙ c.fill.ensures) h)
