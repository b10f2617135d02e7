-- The reader's number is the field.
use Rattle.std.proofs.Common.{◌∙◌}
use Rattle.vx_elf.proofs.Fields.{number_there}
use Rattle.vx_elf.proofs.header.u64_at.Goals as goal

pub returns : goal.returns
returns c = c.read_u64.ensures ∙ number_there c.args.bytes.now c.args.place 8 c.requires
