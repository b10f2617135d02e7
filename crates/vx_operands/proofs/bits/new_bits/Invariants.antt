use Rattle.vx_vstate.specs.Views.{view_of}
use Rattle.std.proofs.Common.{◌*◌}
use Rattle.vx_operands.specs.Forms.{reading}
use Rattle.vx_operands.proofs.Compared.{AreBitsBelow}
use Rattle.vx_operands.proofs.bits.new_bits.Given as goal

-- the bits of the words of vs2 before this one are made
abbrev pub invariant-loop-j : goal.invariant-loop-j
invariant-loop-j g l = AreBitsBelow (reading l.form (view_of l.at) l.regs (g.S.WordFile.words l.file)) l.w (l.j * l.count) l.new
