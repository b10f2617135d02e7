-- Words behind those that are read already: what they ask for, and what is wrong with them, given the numbers so far.
-- This project's own.
use Rattle.std.specs.Prelude.{◌≡◌, ℕ, ◌+◌, ◌<◌, ◌≤◌, List, [], ◌∷◌, ◌++◌, length, take, Option, Some, None, if◌then◌else◌}
use Rattle.vx_words.specs.Words.{OptionName, Given, given_number, is_same, IsFor, Spell, ImageFile, IsImage}
use Rattle.vx_words.specs.declared.image_job.ImageJob.{ImageJob}
use Rattle.vx_read.specs.declared.numbers.Numbers.{Numbers}
use Rattle.vx_read.specs.Numbers.{number_in}

-- the words begin with the option and its number, and these are behind them
abbrev pub SpellBefore : List (List ℕ) → Given → List (List ℕ) → Type 0
SpellBefore words given rest = (item : List (List ℕ)) × (words ≡ item ++ rest) × Spell item given

-- the words are options of the job with their numbers, none given twice, and then this image
abbrev pub AreOptionsAndImage : ImageJob → List (List ℕ) → List Given → ImageFile → Type 0
AreOptionsAndImage job words [] image = (word : List ℕ) × (words ≡ word ∷ []) × IsImage word image
AreOptionsAndImage job words (given ∷ givens) image =
    (rest : List (List ℕ))
    × SpellBefore words given rest
    × IsFor job given
    × (given_number given.option givens ≡ None)
    × AreOptionsAndImage job rest givens image

-- no option that has a number is given another
abbrev pub AreNew : Numbers → List Given → Type 0
AreNew numbers givens = (option : OptionName) (number : ℕ) → number_in option numbers ≡ Some number → given_number option givens ≡ None

-- the numbers after are those before, and this one
abbrev pub AreWith : Numbers → Given → Numbers → Type 0
AreWith before given after =
    (option : OptionName) → number_in option after ≡ (if is_same given.option option then Some given.number else number_in option before)

-- the words begin some that may follow these numbers
pub record AreBegunBehind (job : ImageJob) (numbers : Numbers) (words : List (List ℕ)) : Type 0 where
  pub rest : List (List ℕ)
  pub givens : List Given
  pub image : ImageFile
  pub asked : AreOptionsAndImage job (words ++ rest) givens image
  pub new : AreNew numbers givens

-- the words may not follow these numbers, and this is the index of the first bad one
pub record AreBadBehind (job : ImageJob) (numbers : Numbers) (words : List (List ℕ)) (index : ℕ) : Type 0 where
  pub outside : (givens : List Given) (image : ImageFile) → AreOptionsAndImage job words givens image → AreNew numbers givens → ⊥
  pub begun : AreBegunBehind job numbers (take index words)
  pub within : index ≤ length words
  pub bad : index < length words → AreBegunBehind job numbers (take (index + 1) words) → ⊥

-- the first number where there is one, or else the second
abbrev pub either : Option ℕ → Option ℕ → Option ℕ
either (Some number) other = Some number
either None other = other

-- the words follow these numbers, ask for this image, and leave these numbers in all
pub record AreReadBehind (job : ImageJob) (before after : Numbers) (words : List (List ℕ)) (image : ImageFile) : Type 0 where
  pub givens : List Given
  pub asked : AreOptionsAndImage job words givens image
  pub new : AreNew before givens
  pub numbers : (option : OptionName) → number_in option after ≡ either (number_in option before) (given_number option givens)
