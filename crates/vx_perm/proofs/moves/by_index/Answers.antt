-- A slide or a gather.
use Rattle.std.proofs.Common.{◌+◌, ◌*◌, ◌/◌}
use Rattle.vx_perm.proofs.Facts.{moves_by_index, moves_destination}
use Rattle.vx_perm.proofs.moves.by_index.Goals as goal

pub moved_by_index-requires-clause-by_index : goal.moved_by_index-requires-clause-by_index
moved_by_index-requires-clause-by_index g c = moves_by_index c.args.form.family c.requires.kind

pub moved_by_index-requires-clause-destination : goal.moved_by_index-requires-clause-destination
moved_by_index-requires-clause-destination g c = moves_destination c.args.form.family c.requires.kind

pub moved_by_index-requires-clause-callable : goal.moved_by_index-requires-clause-callable
moved_by_index-requires-clause-callable g c k l below = c.requires.callable (c.args.w * (64 / c.args.sew) + k) below

pub moved_by_index-requires-clause-moves : goal.moved_by_index-requires-clause-moves
moved_by_index-requires-clause-moves g c k l below = c.requires.moves (c.args.w * (64 / c.args.sew) + k) below
