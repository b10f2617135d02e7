use Rattle.std.proofs.Common.{◌+◌, refl}
use Rattle.vx_asm.specs.declared.part.Part.{Part}
use Rattle.vx_asm.proofs.Chunks.{part-with-zeros}
use Rattle.vx_asm.proofs.part.Part.put.Goals as goal

pub returns-in-Zeros-clause-part : goal.returns-in-Zeros-clause-part
returns-in-Zeros-clause-part c chunks is =
    let made : Part = record { bytes = c.args.self.now.bytes; zeros = c.args.self.now.zeros + c.in-Zeros.count } in
    rw c.in-Zeros.is (part-with-zeros chunks c.args.self.now made c.in-Zeros.count refl refl is)
