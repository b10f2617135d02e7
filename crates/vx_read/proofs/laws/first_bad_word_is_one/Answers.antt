use Rattle.vx_read.proofs.Whole.{one_first_bad}
use Rattle.vx_read.proofs.laws.first_bad_word_is_one.Goals as goal

pub returns : goal.returns
returns c = one_first_bad
