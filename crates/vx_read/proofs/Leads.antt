-- How far the words behind the word of a job are read.
use Rattle.std.proofs.Common.{◌≡◌, ℕ, ◌+◌, ◌<◌, List, [], ◌∷◌, ◌++◌, length, Option, Some, None, decimal, refl, ap, subst, ◌∙◌, ⊎_elim, length-append, arith}
use Rattle.std.specs.Prelude.{codes}
use Rattle.vx_words.specs.Words.{Given, row_of, Spell, ImageFile}
use Rattle.vx_words.specs.declared.image_job.ImageJob.{ImageJob}
use Rattle.vx_read.specs.declared.numbers.Numbers.{Numbers}
use Rattle.vx_read.specs.Numbers.{number_in, nothing}
use Rattle.vx_read.specs.Behind.{AreWith, AreBadBehind, AreReadBehind, either}
use Rattle.vx_read.specs.Fronts.{IsGivenFront, AreImage}
use Rattle.vx_read.proofs.Onward.{IsNewGiven, read_from, bad_from}

-- the words are read up to the rest, and gave these numbers: what is read or bad there is read or bad in the whole
pub record LeadTo (job : ImageJob) (words : List (List ℕ)) (numbers : Numbers) (rest : List (List ℕ)) : Type 0 where
  pub passed : ℕ
  pub lengths : length words ≡ passed + length rest
  pub read : (final : Numbers) (image : ImageFile) → AreReadBehind job numbers final rest image → AreReadBehind job nothing final words image
  pub bad : (index : ℕ) → AreBadBehind job numbers rest index → AreBadBehind job nothing words (passed + index)

pub lead_start : (job : ImageJob) (words : List (List ℕ)) → LeadTo job words nothing words
lead_start job words = record {
  passed = 0;
  lengths = omega arith;
  read = λ final image read. read;
  bad = λ index bad. let At : ℕ → Type 0 = λ i. AreBadBehind job nothing words i in let e : index ≡ 0 + index = omega arith in subst At e bad;
}

-- an option's words are one or two
spelled_length : (item : List (List ℕ)) (given : Given) → Spell item given → 0 < length item
spelled_length item given spelled =
    ⊎_elim
    (λ (two : item ≡ (row_of given.option).word ∷ decimal given.number ∷ []). rw two (omega arith))
    (λ (one : item ≡ ((row_of given.option).word ++ codes "=" ++ decimal given.number) ∷ []). rw one (omega arith))
    spelled

pub shorter : (job : ImageJob) (numbers : Numbers) (words rest : List (List ℕ)) (given : Given) → IsGivenFront job numbers words given rest → length rest < length words
shorter job numbers words rest given front =
    let spelled = front.spelled in
    omega (arith, spelled_length spelled.0 given spelled.2, length-append spelled.0 rest, ap length spelled.1)

pub lead_on : (job : ImageJob) (words : List (List ℕ)) (numbers : Numbers) (rest : List (List ℕ)) (given : Given) (after : Numbers) (behind : List (List ℕ)) → LeadTo job words numbers rest → IsGivenFront job numbers rest given behind → AreWith numbers given after → LeadTo job words after behind
lead_on job words numbers rest given after behind lead front with =
    let spelled = front.spelled in
    let item = spelled.0 in
    let step : IsNewGiven job numbers given after = record { in_range = front.in_range; none_before = front.first_time; with = with } in
    let lengths : length rest ≡ length item + length behind = ap length spelled.1 ∙ length-append item behind in
    let whole = lead.lengths in
    record {
      passed = lead.passed + length item;
      lengths = omega arith;
      read = λ final image read. lead.read final image (read_from job numbers given after final rest behind image spelled step read);
      bad = λ index bad.
          let At : ℕ → Type 0 = λ i. AreBadBehind job nothing words i in
          let e : lead.passed + (length item + index) ≡ lead.passed + length item + index = omega arith in
          subst At e (lead.bad (length item + index) (bad_from job numbers given after rest behind (length item) index spelled step lengths bad));
    }

either_none : (had : Option ℕ) → had ≡ either had None
either_none None = refl
either_none (Some number) = refl

pub image_read : (job : ImageJob) (numbers : Numbers) (words : List (List ℕ)) (image : ImageFile) → AreImage words image → AreReadBehind job numbers numbers words image
image_read job numbers words image are = record {
  givens = [];
  asked = are;
  new = λ option number has. refl;
  numbers = λ option. either_none (number_in option numbers);
}
