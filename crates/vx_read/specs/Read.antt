-- What the words ask for, as it is read. This project's own.
use Rattle.std.specs.Prelude.{◌≡◌, ℕ, List, IfSome}
use Rattle.vx_words.specs.Words.{Given, given_number, IsInRange, AskFor}
use Rattle.vx_words.specs.Words.OptionName.{Vlen, Window, Lanes, Banks, BankTime, Frames, Budget}
use Rattle.vx_words.specs.Words.Command.{Execute, Dis, Asm}
use Rattle.vx_words.specs.declared.image_job.ImageJob.{ImageJob}
use Rattle.vx_read.specs.declared.asked.Asked.{Asked}
use Rattle.vx_read.specs.declared.asked.Asked.TheVariants as asked
use Rattle.vx_read.specs.declared.run_words.RunWords.{RunWords}
use Rattle.vx_read.specs.Images.{image_of}

-- each number that is given lies in its option's range
pub record AreInRange (run : RunWords) : Type 0 where
  pub vlen : IfSome run.vlen (λ number. IsInRange (record { option = Vlen; number = number }))
  pub window : IfSome run.window (λ number. IsInRange (record { option = Window; number = number }))
  pub lanes : IfSome run.lanes (λ number. IsInRange (record { option = Lanes; number = number }))
  pub banks : IfSome run.banks (λ number. IsInRange (record { option = Banks; number = number }))
  pub bank_time : IfSome run.bank_time (λ number. IsInRange (record { option = BankTime; number = number }))
  pub frames : IfSome run.frames (λ number. IsInRange (record { option = Frames; number = number }))
  pub budget : IfSome run.budget (λ number. IsInRange (record { option = Budget; number = number }))

-- the words ask for this job with this image under these options; each number is the one that its option is given
pub record AreRead (job : ImageJob) (words : List (List ℕ)) (run : RunWords) : Type 0 where
  pub givens : List Given
  pub asked : AskFor words (Execute job givens (image_of run.image))
  pub vlen : run.vlen ≡ given_number Vlen givens
  pub window : run.window ≡ given_number Window givens
  pub lanes : run.lanes ≡ given_number Lanes givens
  pub banks : run.banks ≡ given_number Banks givens
  pub bank_time : run.bank_time ≡ given_number BankTime givens
  pub frames : run.frames ≡ given_number Frames givens
  pub budget : run.budget ≡ given_number Budget givens
  pub in_range : AreInRange run

-- the words ask for this
abbrev pub IsRead : List (List ℕ) → Asked → Type 0
IsRead words (asked.Execute job run) = AreRead job words run
IsRead words (asked.Dis name) = AskFor words (Dis name.now)
IsRead words (asked.Asm name) = AskFor words (Asm name.now)
