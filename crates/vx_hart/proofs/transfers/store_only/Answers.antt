-- The access is the element's, so it is placed.
use Rattle.std.proofs.Common.{List, [], subst}
use Rattle.std.specs.List.{Contains}
use Rattle.vx_vaddr.specs.Items.{access_of_item}
use Rattle.vx_vector.specs.Accesses.{Access}
use Rattle.vx_hart.proofs.Elements.{ahead}
use Rattle.vx_hart.proofs.transfers.store_only.Goals as goal

pub store_one-requires-clause-placed : goal.store_one-requires-clause-placed
store_one-requires-clause-placed g c =
    c.requires.placed (access_of_item c.in-Some.item) (subst (λ (xs : List Access). Contains xs (access_of_item c.in-Some.item)) c.in-Some.ensures (ahead c.in-Some.item []))
