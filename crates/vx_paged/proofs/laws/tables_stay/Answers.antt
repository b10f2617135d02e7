use Rattle.vx_paged.proofs.Staying.{words_stay, held_stays}
use Rattle.vx_paged.proofs.laws.tables_stay.Goals as goal

pub returns-clause-words : goal.returns-clause-words
returns-clause-words c = words_stay

pub returns-clause-held : goal.returns-clause-held
returns-clause-held c = held_stays
