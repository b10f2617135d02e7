use Rattle.std.proofs.Common.{refl}
use Rattle.vx_asm.specs.declared.part.Part.{Part}
use Rattle.vx_asm.proofs.Chunks.{part-none}
use Rattle.vx_asm.proofs.part.Part.new.Goals as goal

pub returns-clause-part : goal.returns-clause-part
returns-clause-part c =
    let made : Part = record { bytes = c.new.result; zeros = 0 } in
    part-none made c.new.ensures.items refl
