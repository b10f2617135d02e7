-- A placed access has a width that an access may have.
use Rattle.vx_hart.proofs.Moved.{access-width}
use Rattle.vx_hart.proofs.transfers.store_element.Goals as goal

pub first_failing-requires-clause-widths : goal.first_failing-requires-clause-widths
first_failing-requires-clause-widths g c = λ a m. access-width a.width (c.requires.placed a m).width
