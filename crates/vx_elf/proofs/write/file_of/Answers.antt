-- The variables stand behind the code.
use Rattle.std.proofs.Common.{length, ap, arith}
use Rattle.std.proofs.lemmas.Grind.{div_ceil_times}
use Rattle.vx_elf.proofs.Placed.{length-start}
use Rattle.vx_elf.proofs.write.file_of.Goals as goal

pub put_at-requires : goal.put_at-requires
put_at-requires c =
    let bounds = div_ceil_times (length c.args.program.now.code) 4096 (omega arith) in
    omega (arith, c.in_ok-out.out.ok.0, ap length c.in_ok-out.ensures.bytes, length-start c.args.program.now, c.whole_pages-place.ensures, c.len.ensures, bounds.0)
