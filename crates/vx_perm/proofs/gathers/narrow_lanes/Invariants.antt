-- The lanes so far are the elements at their indices.
use Rattle.std.proofs.Common.{◌+◌, ◌*◌, ◌/◌}
use Rattle.vx_vstate.specs.Views.{view_of}
use Rattle.vx_operands.specs.Forms.{reading}
use Rattle.vx_vector.specs.Lists.{element_or_zero, gather_index}
use Rattle.vx_vector.specs.Reading.{lists_of}
use Rattle.vx_perm.proofs.Joining.{AreFirst}
use Rattle.vx_perm.proofs.gathers.narrow_lanes.Given as goal

abbrev pub invariant-loop-k : goal.invariant-loop-k
invariant-loop-k l = AreFirst l.sew l.k l.value (λ k. element_or_zero (lists_of (reading l.form (view_of l.at) l.regs l.words)) (gather_index (lists_of (reading l.form (view_of l.at) l.regs l.words)) (l.w * (64 / l.sew) + k)))
