-- What stands first in words behind those that are read. This project's own.
use Rattle.std.specs.Prelude.{◌≡◌, ℕ, List, [], ◌∷◌, map, None, string_bytes}
use Rattle.vx_words.specs.Words.{Given, IsFor, ImageFile, IsImage}
use Rattle.vx_words.specs.declared.image_job.ImageJob.{ImageJob}
use Rattle.vx_read.specs.declared.numbers.Numbers.{Numbers}
use Rattle.vx_read.specs.declared.fronts.Front.{Front}
use Rattle.vx_read.specs.declared.fronts.Front.TheVariants as front
use Rattle.vx_read.specs.Settings.{given_to}
use Rattle.vx_read.specs.Images.{image_of}
use Rattle.vx_read.specs.Numbers.{number_in}
use Rattle.vx_read.specs.Behind.{SpellBefore, AreBadBehind}

-- an option of the job that has no number yet stands first, with a number that it takes, and these words are behind them
pub record IsGivenFront (job : ImageJob) (numbers : Numbers) (words : List (List ℕ)) (given : Given) (rest : List (List ℕ)) : Type 0 where
  pub spelled : SpellBefore words given rest
  pub in_range : IsFor job given
  pub first_time : number_in given.option numbers ≡ None

-- the words are this image alone
abbrev pub AreImage : List (List ℕ) → ImageFile → Type 0
AreImage words image = (word : List ℕ) × (words ≡ word ∷ []) × IsImage word image

-- what stands first is as it says
abbrev pub IsFront : ImageJob → Numbers → List (List ℕ) → Front → Type 0
IsFront job numbers words (front.Given setting number rest) = IsGivenFront job numbers words (given_to setting number) (map string_bytes rest.now)
IsFront job numbers words (front.Image image) = AreImage words (image_of image)
IsFront job numbers words (front.Bad index) = AreBadBehind job numbers words index
