use Rattle.vx_rows.proofs.InTable.{has_rows}
use Rattle.vx_rows.proofs.table.has_its_rows.Goals as goal

pub returns : goal.returns
returns c = has_rows
