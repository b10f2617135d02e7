-- What options and an image begin with, by their first word.
use Rattle.std.proofs.Common.{◌≡◌, ℕ, ◌^◌, ◌<◌, ◌≤◌, ◌⊎◌, List, [], ◌∷◌, ◌++◌, None, decimal, refl, sym, ap, subst, ◌∙◌, inl, inr, ⊎_elim, append_assoc, arith}
use Rattle.std.specs.Prelude.{codes}
use Rattle.std.proofs.lemmas.Fmt.{decimal_injective}
use Rattle.vx_words.specs.Words.{OptionName, Given, row_of, given_number, IsInRange, IsFor, job_word, SpellAll, ImageFile, IsImage, AskFor}
use Rattle.vx_words.specs.Words.OptionName.{Vlen, Window, Lanes, Banks, BankTime, Frames, Budget}
use Rattle.vx_words.specs.Words.Command.{Execute}
use Rattle.vx_words.specs.declared.image_job.ImageJob.{ImageJob}
use Rattle.vx_read.specs.Forms.{IsBoth, HasNoForm}
use Rattle.vx_read.specs.Behind.{SpellBefore, AreOptionsAndImage}
use Rattle.vx_read.proofs.Spellings.{name_is_name, name_is_not_both, both_is_both, image_is_not_name, image_is_not_both, image_is_image}

-- options and an image, as the grammar has them
of_options : (job : ImageJob) (options : List (List ℕ)) (givens : List Given) (word : List ℕ) (image : ImageFile) → SpellAll job options givens → IsImage word image → AreOptionsAndImage job (options ++ word ∷ []) givens image
of_options job options [] word image none is = (word, rw none refl, is)
of_options job options (given ∷ givens) word image all is =
    let e : options ++ word ∷ [] ≡ all.0 ++ (all.1 ++ word ∷ []) = rw (all.2, append_assoc) in
    (all.1 ++ word ∷ [], (all.0, e, all.3), all.4, all.5, of_options job all.1 givens word image all.6 is)

abbrev InGrammar : ImageJob → List (List ℕ) → List Given → ImageFile → Type 0
InGrammar job words givens image = (options : List (List ℕ)) × (word : List ℕ) × (words ≡ options ++ word ∷ []) × SpellAll job options givens × IsImage word image

joined : (words item rest options : List (List ℕ)) (word : List ℕ) → words ≡ item ++ rest → rest ≡ options ++ word ∷ [] → words ≡ (item ++ options) ++ word ∷ []
joined words item rest options word front back = rw (front, back, append_assoc)

in_grammar : (job : ImageJob) (words : List (List ℕ)) (givens : List Given) (image : ImageFile) → AreOptionsAndImage job words givens image → InGrammar job words givens image
in_grammar job words [] image t = ([], t.0, t.1, refl, t.2)
in_grammar job words (given ∷ givens) image t =
    let more = in_grammar job t.0 givens image t.4 in
    (t.1.0 ++ more.0, more.1, joined words t.1.0 t.0 more.0 more.1 t.1.1 more.2, (t.1.0, more.0, refl, t.1.2, t.2, t.3, more.3), more.4)

-- behind the word of a job
pub asks : (job : ImageJob) (words : List (List ℕ)) (givens : List Given) (image : ImageFile) → AreOptionsAndImage job words givens image → AskFor (job_word job ∷ words) (Execute job givens image)
asks job words givens image t = let g = in_grammar job words givens image t in (g.0, g.1, ap (λ rest. job_word job ∷ rest) g.2, g.3, g.4)

pub asked : (job : ImageJob) (words : List (List ℕ)) (givens : List Given) (image : ImageFile) → AskFor (job_word job ∷ words) (Execute job givens image) → AreOptionsAndImage job words givens image
asked job words givens image asks =
    let e : words ≡ asks.0 ++ asks.1 ∷ [] = cc in
    rw e (of_options job asks.0 givens asks.1 image asks.3 asks.4)

-- an image ends the words
pub record IsEnd (image : ImageFile) (rest : List (List ℕ)) (givens : List Given) (asked : ImageFile) : Type 0 where
  pub no_words : rest ≡ []
  pub no_givens : givens ≡ []
  pub same_image : asked ≡ image

-- an option's word is followed by its number
pub record IsNamed (job : ImageJob) (option : OptionName) (words : List (List ℕ)) (givens : List Given) (image : ImageFile) : Type 0 where
  pub given : Given
  pub later : List Given
  pub rest : List (List ℕ)
  pub givens_are : givens ≡ given ∷ later
  pub option_is : given.option ≡ option
  pub words_are : words ≡ decimal given.number ∷ rest
  pub in_range : IsFor job given
  pub once : given_number given.option later ≡ None
  pub asked : AreOptionsAndImage job rest later image

-- an option's word with a text is that of its number
pub record IsBothGiven (job : ImageJob) (option : OptionName) (text : List ℕ) (words : List (List ℕ)) (givens : List Given) (image : ImageFile) : Type 0 where
  pub given : Given
  pub later : List Given
  pub givens_are : givens ≡ given ∷ later
  pub option_is : given.option ≡ option
  pub text_is : text ≡ decimal given.number
  pub in_range : IsFor job given
  pub once : given_number given.option later ≡ None
  pub asked : AreOptionsAndImage job words later image

-- how a spelled option stands at the front of words
by_spelling : (word : List ℕ) (words : List (List ℕ)) (given : Given) (rest : List (List ℕ)) → SpellBefore (word ∷ words) given rest
    → ((word ≡ (row_of given.option).word) × (words ≡ decimal given.number ∷ rest)) ⊎ (IsBoth word given.option (decimal given.number) × (words ≡ rest))
by_spelling word words given rest spelled =
    ⊎_elim
    (λ (two : spelled.0 ≡ (row_of given.option).word ∷ decimal given.number ∷ []).
    let e : word ∷ words ≡ (row_of given.option).word ∷ decimal given.number ∷ rest = spelled.1 ∙ ap (λ item. item ++ rest) two in
    inl (cc, cc))
    (λ (one : spelled.0 ≡ ((row_of given.option).word ++ codes "=" ++ decimal given.number) ∷ []).
    let e : word ∷ words ≡ ((row_of given.option).word ++ codes "=" ++ decimal given.number) ∷ rest = spelled.1 ∙ ap (λ item. item ++ rest) one in
    inr (cc, cc))
    spelled.2

pub image_head : (job : ImageJob) (word : List ℕ) (rest : List (List ℕ)) (givens : List Given) (image asked : ImageFile) → IsImage word image → AreOptionsAndImage job (word ∷ rest) givens asked → IsEnd image rest givens asked
image_head job word rest [] image asked is t =
    let e = t.1 in
    let same : t.0 ≡ word = cc in
    let Is : List ℕ → Type 0 = λ w. IsImage w asked in
    record { no_words = cc; no_givens = refl; same_image = image_is_image word asked image (subst Is same t.2) is }
image_head job word rest (given ∷ givens) image asked is t =
    ⊎_elim
    (λ n. absurd (image_is_not_name word image given.option is n.0))
    (λ b. absurd (image_is_not_both word image (decimal given.number) given.option is b.0))
    (by_spelling word rest given t.0 t.1)

pub name_head : (job : ImageJob) (word : List ℕ) (words : List (List ℕ)) (givens : List Given) (image : ImageFile) (option : OptionName) → word ≡ (row_of option).word → AreOptionsAndImage job (word ∷ words) givens image → IsNamed job option words givens image
name_head job word words [] image option is t =
    let e = t.1 in
    let same : t.0 ≡ word = cc in
    let Is : List ℕ → Type 0 = λ w. IsImage w image in
    absurd (image_is_not_name word image option (subst Is same t.2) is)
name_head job word words (given ∷ givens) image option is t =
    ⊎_elim
    (λ n. record { given = given; later = givens; rest = t.0; givens_are = refl; option_is = name_is_name word given.option option n.0 is; words_are = n.1; in_range = t.2; once = t.3; asked = t.4 })
    (λ b. absurd (name_is_not_both word option given.option (decimal given.number) is b.0))
    (by_spelling word words given t.0 t.1)

pub both_head : (job : ImageJob) (word : List ℕ) (words : List (List ℕ)) (givens : List Given) (image : ImageFile) (option : OptionName) (text : List ℕ) → IsBoth word option text → AreOptionsAndImage job (word ∷ words) givens image → IsBothGiven job option text words givens image
both_head job word words [] image option text is t =
    let e = t.1 in
    let same : t.0 ≡ word = cc in
    let Is : List ℕ → Type 0 = λ w. IsImage w image in
    absurd (image_is_not_both word image text option (subst Is same t.2) is)
both_head job word words (given ∷ givens) image option text is t =
    let Asked : List (List ℕ) → Type 0 = λ rest. AreOptionsAndImage job rest givens image in
    ⊎_elim
    (λ n. absurd (name_is_not_both word given.option option text n.0 is))
    (λ b. let same = both_is_both word given.option option (decimal given.number) text b.0 is in
    record { given = given; later = givens; givens_are = refl; option_is = same.0; text_is = sym same.1; in_range = t.2; once = t.3; asked = subst Asked (sym b.1) t.4 })
    (by_spelling word words given t.0 t.1)

pub no_head : (job : ImageJob) (word : List ℕ) (words : List (List ℕ)) (givens : List Given) (image : ImageFile) → HasNoForm word → AreOptionsAndImage job (word ∷ words) givens image → ⊥
no_head job word words [] image none t =
    let e = t.1 in
    let same : t.0 ≡ word = cc in
    let Is : List ℕ → Type 0 = λ w. IsImage w image in
    none.no_image image (subst Is same t.2)
no_head job word words (given ∷ givens) image none t =
    ⊎_elim
    (λ n. none.no_name given.option n.0)
    (λ b. none.no_both given.option (decimal given.number) b.0)
    (by_spelling word words given t.0 t.1)

-- numbers in range are below 2^64, so that their digits tell them apart
small_in : (option : OptionName) (n : ℕ) → n ≤ (row_of option).greatest → n < 2 ^ 64
small_in Vlen n h = omega arith
small_in Window n h = omega arith
small_in Lanes n h = omega arith
small_in Banks n h = omega arith
small_in BankTime n h = omega arith
small_in Frames n h = omega arith
small_in Budget n h = omega arith

pub small : (given : Given) → IsInRange given → given.number < 2 ^ 64
small given h = small_in given.option given.number h.1

same_given : (one other : Given) → one.option ≡ other.option → one.number ≡ other.number → one ≡ other
same_given one other options numbers =
    let make : OptionName → ℕ → Given = λ o n. record { option = o; number = n } in
    ap (λ o. make o one.number) options ∙ ap (λ n. make other.option n) numbers

-- the words behind a spelled option are those that are left
pub record IsGivenFirst (job : ImageJob) (given : Given) (words : List (List ℕ)) (givens : List Given) (image : ImageFile) : Type 0 where
  pub later : List Given
  pub givens_are : givens ≡ given ∷ later
  pub once : given_number given.option later ≡ None
  pub asked : AreOptionsAndImage job words later image

first_is : (job : ImageJob) (given found : Given) (words rest : List (List ℕ)) (givens later : List Given) (image : ImageFile) → found.option ≡ given.option → IsFor job given → IsFor job found → decimal given.number ≡ decimal found.number
    → words ≡ rest → givens ≡ found ∷ later → given_number found.option later ≡ None → AreOptionsAndImage job rest later image → IsGivenFirst job given words givens image
first_is job given found words rest givens later image options given_range found_range digits same are once asked =
    let numbers = decimal_injective given.number found.number (small given given_range.1) (small found found_range.1) digits in
    let e = same_given found given options (sym numbers) in
    let Once : OptionName → Type 0 = λ o. given_number o later ≡ None in
    let Asked : List (List ℕ) → Type 0 = λ w. AreOptionsAndImage job w later image in
    record { later = later; givens_are = are ∙ ap (λ g. g ∷ later) e; once = subst Once options once; asked = subst Asked (sym same) asked }

pub spelled_head : (job : ImageJob) (words : List (List ℕ)) (given : Given) (rest : List (List ℕ)) (givens : List Given) (image : ImageFile) → SpellBefore words given rest → IsFor job given → AreOptionsAndImage job words givens image → IsGivenFirst job given rest givens image
spelled_head job words given rest givens image spelled in_range asked =
    let Asked : List (List ℕ) → Type 0 = λ w. AreOptionsAndImage job w givens image in
    ⊎_elim
    (λ (two : spelled.0 ≡ (row_of given.option).word ∷ decimal given.number ∷ []).
    let e : words ≡ (row_of given.option).word ∷ decimal given.number ∷ rest = spelled.1 ∙ ap (λ item. item ++ rest) two in
    let h = name_head job (row_of given.option).word (decimal given.number ∷ rest) givens image given.option refl (subst Asked e asked) in
    let are = h.words_are in
    first_is job given h.given rest h.rest givens h.later image h.option_is in_range h.in_range (cc) (cc) h.givens_are h.once h.asked)
    (λ (one : spelled.0 ≡ ((row_of given.option).word ++ codes "=" ++ decimal given.number) ∷ []).
    let e : words ≡ ((row_of given.option).word ++ codes "=" ++ decimal given.number) ∷ rest = spelled.1 ∙ ap (λ item. item ++ rest) one in
    let h = both_head job ((row_of given.option).word ++ codes "=" ++ decimal given.number) rest givens image given.option (decimal given.number) refl (subst Asked e asked) in
    first_is job given h.given rest rest givens h.later image h.option_is in_range h.in_range h.text_is refl h.givens_are h.once h.asked)
    spelled.2
