use Rattle.std.proofs.Common.{length, length-append, ap, arith}
use Rattle.vx_hart.proofs.Written.{length-bytes_at}
use Rattle.vx_hart.proofs.service.write.Goals as goal

pub returns-clause-still_within : goal.returns-clause-still_within
returns-clause-still_within g c =
    let memory = g.M.Memory.state c.is_readable.new.self c.is_readable.new.physical in
    omega (arith, simp length-append at (ap length c.append_to.ensures.bytes), length-bytes_at memory c.args.address c.args.count)
