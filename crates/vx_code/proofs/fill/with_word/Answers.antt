use Rattle.vx_code.proofs.Ranges.{low-below}
use Rattle.vx_code.proofs.fill.with_word.Goals as goal

pub overflow_shl-part : goal.overflow_shl-part
overflow_shl-part c = rw c.low.ensures (low-below c.args.field)
