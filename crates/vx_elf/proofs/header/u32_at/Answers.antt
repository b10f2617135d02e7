-- The reader's number is the field.
use Rattle.std.proofs.Common.{◌∙◌}
use Rattle.vx_elf.proofs.Fields.{number_there}
use Rattle.vx_elf.proofs.header.u32_at.Goals as goal

pub returns : goal.returns
returns c = c.read_u32.ensures ∙ number_there c.args.bytes.now c.args.place 4 c.requires
