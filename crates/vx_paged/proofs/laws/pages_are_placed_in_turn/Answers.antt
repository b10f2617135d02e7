use Rattle.vx_paged.proofs.InTurn.{IsPlacement-in_turn}
use Rattle.vx_paged.proofs.Joined.{IsPlacedAs-boot}
use Rattle.vx_paged.proofs.laws.pages_are_placed_in_turn.Goals as goal

pub returns-clause-placed : goal.returns-clause-placed
returns-clause-placed c = IsPlacedAs-boot

pub returns-clause-placement : goal.returns-clause-placement
returns-clause-placement c = IsPlacement-in_turn
