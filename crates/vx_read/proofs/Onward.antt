-- From the words behind an option to the words from it on.
use Rattle.std.proofs.Common.{◌≡◌, ℕ, ◌+◌, Bool, true, false, cond, ◌⊎◌, List, ◌∷◌, ◌++◌, length, take, Option, Some, None, refl, sym, ap, subst, ◌∙◌, inl, inr, ⊎_elim, append_assoc, length-append, add_assoc, arith}
use Rattle.std.proofs.Math.Seq.{take-append-add}
use Rattle.vx_words.specs.Words.{OptionName, Given, is_same, given_number, IsFor, ImageFile}
use Rattle.vx_words.specs.declared.image_job.ImageJob.{ImageJob}
use Rattle.vx_read.specs.declared.numbers.Numbers.{Numbers}
use Rattle.vx_read.specs.Numbers.{number_in}
use Rattle.vx_read.specs.Behind.{SpellBefore, AreNew, AreWith, AreBegunBehind, AreBadBehind, AreReadBehind, either}
use Rattle.vx_read.proofs.Spellings.{same_option, is_same_itself}
use Rattle.vx_read.proofs.Heads.{spelled_head}

pub true_or_false : (b : Bool) → (b ≡ true) ⊎ (b ≡ false)
true_or_false true = inl refl
true_or_false false = inr refl

-- the option and number are behind these numbers, and then those
pub record IsNewGiven (job : ImageJob) (before : Numbers) (given : Given) (after : Numbers) : Type 0 where
  pub in_range : IsFor job given
  pub none_before : number_in given.option before ≡ None
  pub with : AreWith before given after

-- an option that is given isn't given later
once_later : (job : ImageJob) (before : Numbers) (given : Given) (after : Numbers) (later : List Given) → IsNewGiven job before given after → AreNew after later → given_number given.option later ≡ None
once_later job before given after later step new =
    let all = step.with given.option in
    let same = is_same_itself given.option in
    new given.option given.number (rw same at all)

new_from : (job : ImageJob) (before : Numbers) (given : Given) (after : Numbers) (later : List Given) → IsNewGiven job before given after → AreNew after later → AreNew before (given ∷ later)
new_from job before given after later step new option number has =
    let all = step.with option in
    ⊎_elim
    (λ (yes : is_same given.option option ≡ true).
    let e = same_option given.option option yes in
    let HasNone : OptionName → Type 0 = λ o. number_in o before ≡ None in
    let none : number_in option before ≡ None = subst HasNone e step.none_before in
    let no : None ≡ Some number = sym none ∙ has in absurd (cc))
    (λ (no : is_same given.option option ≡ false).
    let kept : number_in option after ≡ Some number = rw no at all ∙ has in
    rw no (new option number kept))
    (true_or_false (is_same given.option option))

new_onward : (job : ImageJob) (before : Numbers) (given : Given) (after : Numbers) (later : List Given) → IsNewGiven job before given after → given_number given.option later ≡ None → AreNew before (given ∷ later) → AreNew after later
new_onward job before given after later step once new option number has =
    let all = step.with option in
    ⊎_elim
    (λ (yes : is_same given.option option ≡ true).
    let HasNone : OptionName → Type 0 = λ o. given_number o later ≡ None in
    subst HasNone (same_option given.option option yes) once)
    (λ (no : is_same given.option option ≡ false).
    let kept : number_in option before ≡ Some number = sym (rw no at all) ∙ has in
    rw no at (new option number kept))
    (true_or_false (is_same given.option option))

either_step : (same : Bool) (number : ℕ) (before later : Option ℕ) → (same ≡ true → before ≡ None)
    → either (cond same (Some number) before) later ≡ either before (cond same (Some number) later)
either_step true number before later none = rw (none refl) refl
either_step false number before later none = refl

-- what is read behind it is read from it on
pub read_from : (job : ImageJob) (before : Numbers) (given : Given) (after final : Numbers) (words rest : List (List ℕ)) (image : ImageFile) → SpellBefore words given rest → IsNewGiven job before given after → AreReadBehind job after final rest image → AreReadBehind job before final words image
read_from job before given after final words rest image spelled step read = record {
  givens = given ∷ read.givens;
  asked = (rest, spelled, step.in_range, once_later job before given after read.givens step read.new, read.asked);
  new = new_from job before given after read.givens step read.new;
  numbers = λ option.
      let all = step.with option in
      let none : is_same given.option option ≡ true → number_in option before ≡ None =
      (λ yes. let HasNone : OptionName → Type 0 = λ o. number_in o before ≡ None in subst HasNone (same_option given.option option yes) step.none_before) in
      read.numbers option ∙ ap (λ n. either n (given_number option read.givens)) all ∙ either_step (is_same given.option option) given.number (number_in option before) (given_number option read.givens) none;
}

-- words that begin behind it begin from it on, and the other way round
begun_from : (job : ImageJob) (before : Numbers) (given : Given) (after : Numbers) (words rest : List (List ℕ)) → SpellBefore words given rest → IsNewGiven job before given after → AreBegunBehind job after rest → AreBegunBehind job before words
begun_from job before given after words rest spelled step begun =
    let e : words ++ begun.rest ≡ spelled.0 ++ (rest ++ begun.rest) = ap (λ w. w ++ begun.rest) spelled.1 ∙ append_assoc spelled.0 rest begun.rest in
    record {
      rest = begun.rest;
      givens = given ∷ begun.givens;
      image = begun.image;
      asked = (rest ++ begun.rest, (spelled.0, e, spelled.2), step.in_range, once_later job before given after begun.givens step begun.new, begun.asked);
      new = new_from job before given after begun.givens step begun.new;
    }

begun_onward : (job : ImageJob) (before : Numbers) (given : Given) (after : Numbers) (words rest : List (List ℕ)) → SpellBefore words given rest → IsNewGiven job before given after → AreBegunBehind job before words → AreBegunBehind job after rest
begun_onward job before given after words rest spelled step begun =
    let e : words ++ begun.rest ≡ spelled.0 ++ (rest ++ begun.rest) = ap (λ w. w ++ begun.rest) spelled.1 ∙ append_assoc spelled.0 rest begun.rest in
    let h = spelled_head job (words ++ begun.rest) given (rest ++ begun.rest) begun.givens begun.image (spelled.0, e, spelled.2) step.in_range begun.asked in
    let New : List Given → Type 0 = λ givens. AreNew before givens in
    record {
      rest = begun.rest;
      givens = h.later;
      image = begun.image;
      asked = h.asked;
      new = new_onward job before given after h.later step h.once (subst New h.givens_are begun.new);
    }

-- what is bad behind it is bad from it on
pub bad_from : (job : ImageJob) (before : Numbers) (given : Given) (after : Numbers) (words rest : List (List ℕ)) (passed index : ℕ) → SpellBefore words given rest → IsNewGiven job before given after → length words ≡ passed + length rest → AreBadBehind job after rest index → AreBadBehind job before words (passed + index)
bad_from job before given after words rest passed index spelled step lengths bad =
    let item = spelled.0 in
    let e : words ≡ item ++ rest = spelled.1 in
    let passed_is : passed ≡ length item = omega (arith, length-append item rest, ap length e) in
    let begun_words : take (passed + index) words ≡ item ++ take index rest = rw (passed_is, e) (take-append-add item rest index) in
    let more_words : take (passed + index + 1) words ≡ item ++ take (index + 1) rest = rw (passed_is, e, add_assoc) (take-append-add item rest (index + 1)) in
    record {
      outside = λ givens image asked new.
          let h = spelled_head job words given rest givens image spelled step.in_range asked in
          let New : List Given → Type 0 = λ givens. AreNew before givens in
          bad.outside h.later image h.asked (new_onward job before given after h.later step h.once (subst New h.givens_are new));
      begun = begun_from job before given after (take (passed + index) words) (take index rest) (item, begun_words, spelled.2) step bad.begun;
      within = let w = bad.within in omega arith;
      bad = λ inside begun. bad.bad (omega arith) (begun_onward job before given after (take (passed + index + 1) words) (take (index + 1) rest) (item, more_words, spelled.2) step begun);
    }
