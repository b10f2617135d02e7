use Rattle.vx_rows.specs.Table.{table}
use Rattle.vx_rows.proofs.Apart.{fits_one}
use Rattle.vx_rows.proofs.InTable.{are_apart-table}
use Rattle.vx_rows.proofs.table.fits_one_at_most.Goals as goal

pub returns : goal.returns
returns c = fits_one table are_apart-table
