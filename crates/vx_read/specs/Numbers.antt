-- The numbers that options were given so far. This project's own.
use Rattle.std.specs.Prelude.{◌≡◌, ℕ, Option, None}
use Rattle.vx_words.specs.Words.{OptionName, ImageFile}
use Rattle.vx_words.specs.Words.OptionName.{Vlen, Window, Lanes, Banks, BankTime, Frames, Budget}
use Rattle.vx_read.specs.declared.numbers.Numbers.{Numbers}
use Rattle.vx_read.specs.declared.run_words.RunWords.{RunWords}
use Rattle.vx_read.specs.Images.{image_of}

-- the option's number
abbrev pub number_in : OptionName → Numbers → Option ℕ
number_in Vlen numbers = numbers.vlen
number_in Window numbers = numbers.window
number_in Lanes numbers = numbers.lanes
number_in Banks numbers = numbers.banks
number_in BankTime numbers = numbers.bank_time
number_in Frames numbers = numbers.frames
number_in Budget numbers = numbers.budget

-- no option has one
abbrev pub nothing : Numbers
nothing = record { vlen = None; window = None; lanes = None; banks = None; bank_time = None; frames = None; budget = None }

-- the words of a command are these numbers and this image
pub record IsRunOf (numbers : Numbers) (image : ImageFile) (run : RunWords) : Type 0 where
  pub vlen : run.vlen ≡ numbers.vlen
  pub window : run.window ≡ numbers.window
  pub lanes : run.lanes ≡ numbers.lanes
  pub banks : run.banks ≡ numbers.banks
  pub bank_time : run.bank_time ≡ numbers.bank_time
  pub frames : run.frames ≡ numbers.frames
  pub budget : run.budget ≡ numbers.budget
  pub image_is : image_of run.image ≡ image
