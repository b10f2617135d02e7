-- The accesses in the list are the element's.
use Rattle.std.proofs.Common.{List, ap, ◌∙◌, subst}
use Rattle.std.specs.List.{Contains}
use Rattle.vx_vaddr.specs.Items.{accesses_of_items}
use Rattle.vx_vector.specs.Accesses.{Access}
use Rattle.vx_hart.proofs.transfers.store_next.Goals as goal

pub store_element-requires-clause-placed : goal.store_element-requires-clause-placed
store_element-requires-clause-placed g c a h =
    c.requires.placed a (subst (λ (xs : List Access). Contains xs a) (ap accesses_of_items c.slice.ensures ∙ c.fill.ensures) h)
