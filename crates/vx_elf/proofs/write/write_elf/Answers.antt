-- The file is read again as the program's segments.
use Rattle.std.proofs.Common.{◌∙◌}
use Rattle.vx_elf.proofs.Written.{read_again}
use Rattle.vx_elf.proofs.write.write_elf.Goals as goal

pub returns-clause-read_again : goal.returns-clause-read_again
returns-clause-read_again c =
    let made = c.of.ensures ∙ c.in_ok-file_of.ensures.bytes in
    rw made (read_again c.args.program.now c.requires c.in_ok-file_of.ensures.entry)
