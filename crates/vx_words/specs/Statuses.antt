-- The exit statuses. This project's own.
use Rattle.std.specs.Prelude.{ℕ}
use Rattle.vx_words.specs.declared.status.Status.{Status}
use Rattle.vx_words.specs.declared.status.Status.TheVariants.{Done, Usage, ReadFault, BadImage, WriteFault, Spent, NoMemory, BadSource, TooFewFrames}

abbrev pub number_of : Status → ℕ
number_of Done = 0
number_of Usage = 1
number_of ReadFault = 2
number_of BadImage = 3
number_of WriteFault = 4
number_of Spent = 5
number_of NoMemory = 8
number_of BadSource = 9
number_of TooFewFrames = 11
