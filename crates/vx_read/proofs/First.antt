-- What stands first in words, and which of them is the first bad one.
use Rattle.std.proofs.Common.{◌≡◌, ℕ, ◌<◌, true, false, List, [], ◌∷◌, ◌++◌, length, Option, Some, None, is_some, decimal, refl, sym, ap, subst, ◌∙◌, inl, inr, ⊎_elim, lit<, arith}
use Rattle.std.specs.Prelude.{codes}
use Rattle.std.proofs.lemmas.Bool.{false≢true}
use Rattle.vx_words.specs.Words.{OptionName, Given, row_of, is_same, is_option_of, given_number, IsInRange, IsFor, ImageFile, IsImage}
use Rattle.vx_words.specs.Words.ImageFile.{Raw}
use Rattle.vx_words.specs.Words.OptionName.{Vlen, Window, Lanes, Banks, BankTime, Frames, Budget}
use Rattle.vx_words.specs.declared.image_job.ImageJob.{ImageJob}
use Rattle.vx_read.specs.declared.numbers.Numbers.{Numbers}
use Rattle.vx_read.specs.Numbers.{number_in}
use Rattle.vx_read.specs.Forms.{IsBoth, HasNoForm}
use Rattle.vx_read.specs.Behind.{AreOptionsAndImage, AreNew, AreBegunBehind, AreBadBehind}
use Rattle.vx_read.specs.Fronts.{IsGivenFront, AreImage}
use Rattle.vx_read.proofs.Spellings.{same_option, is_same_itself}
use Rattle.vx_read.proofs.Heads.{image_head, name_head, both_head, no_head}
use Rattle.vx_read.proofs.Onward.{true_or_false}

-- an image may end any words
some_image : IsImage (codes "raw:x") (Raw (codes "x"))
some_image = (lit< tt, refl)

pub begun_nowhere : (job : ImageJob) (numbers : Numbers) → AreBegunBehind job numbers []
begun_nowhere job numbers = record { rest = codes "raw:x" ∷ []; givens = []; image = Raw (codes "x"); asked = (codes "raw:x", refl, some_image); new = λ option number has. refl }

-- no words at all
pub bad_none : (job : ImageJob) (numbers : Numbers) → AreBadBehind job numbers [] 0
bad_none job numbers = record {
  outside = λ givens image asked new. none givens image asked;
  begun = begun_nowhere job numbers;
  within = omega arith;
  bad = λ inside begun. absurd (omega arith);
} where
  none : (givens : List Given) (image : ImageFile) → AreOptionsAndImage job [] givens image → ⊥
  none [] image t = let e = t.1 in cc
  none (given ∷ givens) image t =
      let e = t.1.1 in
      ⊎_elim
      (λ (two : t.1.0 ≡ (row_of given.option).word ∷ decimal given.number ∷ []).
      let never : [] ≡ (row_of given.option).word ∷ decimal given.number ∷ t.0 = e ∙ ap (λ item. item ++ t.0) two in cc)
      (λ (one : t.1.0 ≡ ((row_of given.option).word ++ codes "=" ++ decimal given.number) ∷ []).
      let never : [] ≡ ((row_of given.option).word ++ codes "=" ++ decimal given.number) ∷ t.0 = e ∙ ap (λ item. item ++ t.0) one in cc)
      t.1.2

-- a first word behind which nothing may stand
pub bad_first : (job : ImageJob) (numbers : Numbers) (word : List ℕ) (rest : List (List ℕ)) → ((more : List (List ℕ)) (givens : List Given) (image : ImageFile) → AreOptionsAndImage job (word ∷ more) givens image → AreNew numbers givens → ⊥) → AreBadBehind job numbers (word ∷ rest) 0
bad_first job numbers word rest never = record {
  outside = never rest;
  begun = begun_nowhere job numbers;
  within = omega arith;
  bad = λ inside begun. never begun.rest begun.givens begun.image begun.asked begun.new;
}

pub bad_form : (job : ImageJob) (numbers : Numbers) (word : List ℕ) (rest : List (List ℕ)) → HasNoForm word → AreBadBehind job numbers (word ∷ rest) 0
bad_form job numbers word rest none = bad_first job numbers word rest (λ more givens image asked new. no_head job word more givens image none asked)

-- a word behind the image
bad_behind_image : (job : ImageJob) (numbers : Numbers) (word next : List ℕ) (image : ImageFile) (rest : List (List ℕ)) → IsImage word image → AreBadBehind job numbers (word ∷ next ∷ rest) 1
bad_behind_image job numbers word next image rest is = record {
  outside = λ givens asked_image asked new. let never = (image_head job word (next ∷ rest) givens image asked_image is asked).no_words in cc;
  begun = record { rest = []; givens = []; image = image; asked = (word, refl, is); new = λ option number has. refl };
  within = omega arith;
  bad = λ inside begun. let never = (image_head job word (next ∷ begun.rest) begun.givens image begun.image is begun.asked).no_words in cc;
}

-- an option that has a number already
given_first : (given : Given) (later : List Given) (option : OptionName) → given.option ≡ option → given_number option (given ∷ later) ≡ Some given.number
given_first given later option e =
    let Same : OptionName → Type 0 = λ o. is_same given.option o ≡ true in
    let same : is_same given.option option ≡ true = subst Same e (is_same_itself given.option) in rw same refl

not_new : (numbers : Numbers) (option : OptionName) (given : Given) (givens later : List Given) → is_some (number_in option numbers) ≡ true → givens ≡ given ∷ later → given.option ≡ option → AreNew numbers givens → ⊥
not_new numbers option given givens later has are e new =
    never (number_in option numbers) refl has
  where
    never : (had : Option ℕ) → number_in option numbers ≡ had → is_some had ≡ true → ⊥
    never None is held = cc
    never (Some number) is held =
        let none : given_number option givens ≡ None = new option number is in
        let some : given_number option givens ≡ Some given.number = rw are (given_first given later option e) in
        let cannot : None ≡ Some given.number = sym none ∙ some in cc

pub bad_second_name : (job : ImageJob) (numbers : Numbers) (word : List ℕ) (rest : List (List ℕ)) (option : OptionName) → word ≡ (row_of option).word → is_some (number_in option numbers) ≡ true → AreBadBehind job numbers (word ∷ rest) 0
bad_second_name job numbers word rest option is has = bad_first job numbers word rest (λ more givens image asked new.
    let h = name_head job word more givens image option is asked in not_new numbers option h.given givens h.later has h.givens_are h.option_is new)

pub bad_second_both : (job : ImageJob) (numbers : Numbers) (word : List ℕ) (rest : List (List ℕ)) (option : OptionName) (text : List ℕ) → IsBoth word option text → is_some (number_in option numbers) ≡ true → AreBadBehind job numbers (word ∷ rest) 0
bad_second_both job numbers word rest option text is has = bad_first job numbers word rest (λ more givens image asked new.
    let h = both_head job word more givens image option text is asked in not_new numbers option h.given givens h.later has h.givens_are h.option_is new)

-- an option that the job doesn't have
bad_option : (job : ImageJob) (option : OptionName) (given : Given) → is_option_of job option ≡ false → given.option ≡ option → IsFor job given → ⊥
bad_option job option given never is for =
    let Has : OptionName → Type 0 = λ o. is_option_of job o ≡ true in
    false≢true (sym never ∙ subst Has is for.0)

pub bad_other_name : (job : ImageJob) (numbers : Numbers) (word : List ℕ) (rest : List (List ℕ)) (option : OptionName) → word ≡ (row_of option).word → is_option_of job option ≡ false → AreBadBehind job numbers (word ∷ rest) 0
bad_other_name job numbers word rest option is never = bad_first job numbers word rest (λ more givens image asked new.
    let h = name_head job word more givens image option is asked in bad_option job option h.given never h.option_is h.in_range)

pub bad_other_both : (job : ImageJob) (numbers : Numbers) (word : List ℕ) (rest : List (List ℕ)) (option : OptionName) (text : List ℕ) → IsBoth word option text → is_option_of job option ≡ false → AreBadBehind job numbers (word ∷ rest) 0
bad_other_both job numbers word rest option text is never = bad_first job numbers word rest (λ more givens image asked new.
    let h = both_head job word more givens image option text is asked in bad_option job option h.given never h.option_is h.in_range)

-- an option's word begins words that give it its least number
least_in_range : (option : OptionName) → IsInRange (record { option = option; number = (row_of option).least })
least_in_range Vlen = (omega arith, omega arith, refl)
least_in_range Window = (omega arith, omega arith, refl)
least_in_range Lanes = (omega arith, omega arith, refl)
least_in_range Banks = (omega arith, omega arith, refl)
least_in_range BankTime = (omega arith, omega arith, refl)
least_in_range Frames = (omega arith, omega arith, refl)
least_in_range Budget = (omega arith, omega arith, refl)

is_none : (had : Option ℕ) → is_some had ≡ false → had ≡ None
is_none None none = refl
is_none (Some number) none = cc

least_new : (numbers : Numbers) (option : OptionName) (number : ℕ) → number_in option numbers ≡ None → AreNew numbers (record { option = option; number = number } ∷ [])
least_new numbers option number none other has_number has =
    ⊎_elim
    (λ (held : is_same option other ≡ true).
    let HasNone : OptionName → Type 0 = λ o. number_in o numbers ≡ None in
    let other_none : number_in other numbers ≡ None = subst HasNone (same_option option other held) none in
    let never : None ≡ Some has_number = sym other_none ∙ has in absurd (cc))
    (λ (never : is_same option other ≡ false). rw never refl)
    (true_or_false (is_same option other))

begun_by_name : (job : ImageJob) (numbers : Numbers) (word : List ℕ) (option : OptionName) → word ≡ (row_of option).word → is_option_of job option ≡ true → is_some (number_in option numbers) ≡ false → AreBegunBehind job numbers (word ∷ [])
begun_by_name job numbers word option is may none =
    let least = (row_of option).least in
    record {
      rest = decimal least ∷ codes "raw:x" ∷ [];
      givens = record { option = option; number = least } ∷ [];
      image = Raw (codes "x");
      asked = (codes "raw:x" ∷ [], (word ∷ decimal least ∷ [], refl, inl (ap (λ w. w ∷ decimal least ∷ []) is)), (may, least_in_range option), refl, (codes "raw:x", refl, some_image));
      new = least_new numbers option least (is_none (number_in option numbers) none);
    }

-- an option's word without a number
pub bad_end : (job : ImageJob) (numbers : Numbers) (word : List ℕ) (option : OptionName) → word ≡ (row_of option).word → is_option_of job option ≡ true → is_some (number_in option numbers) ≡ false → AreBadBehind job numbers (word ∷ []) 1
bad_end job numbers word option is may none = record {
  outside = λ givens image asked new. let never = (name_head job word [] givens image option is asked).words_are in cc;
  begun = begun_by_name job numbers word option is may none;
  within = omega arith;
  bad = λ inside begun. absurd (omega arith);
}

-- the text is no number of the option
abbrev pub IsNoNumber : OptionName → List ℕ → Type 0
IsNoNumber option text = (number : ℕ) → IsInRange (record { option = option; number = number }) → text ≡ decimal number → ⊥

no_number : (option : OptionName) (text : List ℕ) (given : Given) → IsNoNumber option text → given.option ≡ option → IsInRange given → text ≡ decimal given.number → ⊥
no_number option text given never e in_range is =
    let make : OptionName → Given = λ o. record { option = o; number = given.number } in
    let InRange : OptionName → Type 0 = λ o. IsInRange (make o) in
    never given.number (subst InRange e in_range) is

-- a text that is no number of the option, as a word of its own and behind `=`
pub bad_number : (job : ImageJob) (numbers : Numbers) (word text : List ℕ) (rest : List (List ℕ)) (option : OptionName) → word ≡ (row_of option).word → is_option_of job option ≡ true → is_some (number_in option numbers) ≡ false → IsNoNumber option text → AreBadBehind job numbers (word ∷ text ∷ rest) 1
bad_number job numbers word text rest option is may none never = record {
  outside = λ givens image asked new. cannot rest givens image asked;
  begun = begun_by_name job numbers word option is may none;
  within = omega arith;
  bad = λ inside begun. cannot begun.rest begun.givens begun.image begun.asked;
} where
  cannot : (more : List (List ℕ)) (givens : List Given) (image : ImageFile) → AreOptionsAndImage job (word ∷ text ∷ more) givens image → ⊥
  cannot more givens image asked =
      let h = name_head job word (text ∷ more) givens image option is asked in
      let e = h.words_are in
      no_number option text h.given never h.option_is h.in_range.1 (cc)

pub bad_both_number : (job : ImageJob) (numbers : Numbers) (word text : List ℕ) (rest : List (List ℕ)) (option : OptionName) → IsBoth word option text → IsNoNumber option text → AreBadBehind job numbers (word ∷ rest) 0
bad_both_number job numbers word text rest option is never = bad_first job numbers word rest (λ more givens image asked new.
    let h = both_head job word more givens image option text is asked in no_number option text h.given never h.option_is h.in_range.1 h.text_is)

-- an option and its number, in two words and in one
pub given_in_two : (job : ImageJob) (numbers : Numbers) (word text : List ℕ) (rest : List (List ℕ)) (given : Given) → word ≡ (row_of given.option).word → text ≡ decimal given.number → IsFor job given → is_some (number_in given.option numbers) ≡ false → IsGivenFront job numbers (word ∷ text ∷ rest) given rest
given_in_two job numbers word text rest given is number in_range none = record {
  spelled = (word ∷ text ∷ [], refl, inl (rw (is, number) refl));
  in_range = in_range;
  first_time = is_none (number_in given.option numbers) none;
}

pub given_in_one : (job : ImageJob) (numbers : Numbers) (word text : List ℕ) (rest : List (List ℕ)) (given : Given) → IsBoth word given.option text → text ≡ decimal given.number → IsFor job given → is_some (number_in given.option numbers) ≡ false → IsGivenFront job numbers (word ∷ rest) given rest
given_in_one job numbers word text rest given is number in_range none = record {
  spelled = (word ∷ [], refl, inr (rw (is, number) refl));
  in_range = in_range;
  first_time = is_none (number_in given.option numbers) none;
}

-- an image, with words behind it and alone
pub bad_behind : (job : ImageJob) (numbers : Numbers) (word : List ℕ) (image : ImageFile) (rest : List (List ℕ)) → IsImage word image → 0 < length rest → AreBadBehind job numbers (word ∷ rest) 1
bad_behind job numbers word image [] is some = absurd (omega arith)
bad_behind job numbers word image (next ∷ rest) is some = bad_behind_image job numbers word next image rest is

pub image_alone : (word : List ℕ) (image : ImageFile) (rest : List (List ℕ)) → length rest ≡ 0 → IsImage word image → AreImage (word ∷ rest) image
image_alone word image [] none is = (word, refl, is)
image_alone word image (next ∷ rest) none is = absurd (omega arith)
