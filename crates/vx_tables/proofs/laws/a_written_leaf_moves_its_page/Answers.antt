use Rattle.vx_tables.proofs.Moving.{Stand-moved}
use Rattle.vx_tables.proofs.laws.a_written_leaf_moves_its_page.Goals as goal

pub returns : goal.returns
returns c contents first number residency p place stand room is = Stand-moved contents first number residency p place is room stand
