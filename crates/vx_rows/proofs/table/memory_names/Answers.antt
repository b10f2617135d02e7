use Rattle.std.proofs.Common.{refl}
use Rattle.vx_rows.proofs.table.memory_names.Goals as goal

pub returns-clause-names : goal.returns-clause-names
returns-clause-names c = refl
