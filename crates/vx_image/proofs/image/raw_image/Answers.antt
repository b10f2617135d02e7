-- The first fault of the bytes, or their image.
use Rattle.std.proofs.Common.{sym}
use Rattle.vx_image.proofs.Raw.{raw_answers}
use Rattle.vx_image.proofs.image.raw_image.Goals as goal

pub returns-in-Some : goal.returns-in-Some
returns-in-Some c = raw_answers c.args.bytes.now c.in-Some.fault (sym c.in-Some.ensures)
