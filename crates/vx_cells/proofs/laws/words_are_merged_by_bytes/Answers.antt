use Rattle.vx_cells.proofs.Merged.{merged-byte, merged-whole}
use Rattle.vx_cells.proofs.laws.words_are_merged_by_bytes.Goals as goal

pub returns-clause-byte : goal.returns-clause-byte
returns-clause-byte c mask old value j within = merged-byte mask old value j within

pub returns-clause-whole : goal.returns-clause-whole
returns-clause-whole c old value fits = merged-whole old value fits
