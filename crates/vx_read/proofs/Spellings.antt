-- A word is spelled in one way: it is one option's word, or one option's word with one text behind it, or one image.
use Rattle.std.proofs.Common.{◌≡◌, ◌≢◌, ℕ, Bool, true, false, List, [], ◌∷◌, ◌++◌, get_or, Option, Some, None, cond, eqb, refl, sym, ap, subst, ◌∙◌, arith}
use Rattle.std.specs.Prelude.{codes}
use Rattle.std.specs.Str.{bytes_eq}
use Rattle.std.proofs.lemmas.Bool.{false≢true}
use Rattle.vx_words.specs.Words.{OptionName, row_of, is_same, IsFile, ImageFile, IsRawImage, IsImage}
use Rattle.vx_words.specs.Words.ImageFile.{Raw, Elf}
use Rattle.vx_words.specs.Words.OptionName.{Vlen, Window, Lanes, Banks, BankTime, Frames, Budget}
use Rattle.vx_read.specs.Forms.{IsBoth}

-- the option whose word this is
abbrev named : List ℕ → Option OptionName
named word =
    cond (bytes_eq word (codes "--vlen")) (Some Vlen)
    (cond (bytes_eq word (codes "--window")) (Some Window)
    (cond (bytes_eq word (codes "--lanes")) (Some Lanes)
    (cond (bytes_eq word (codes "--banks")) (Some Banks)
    (cond (bytes_eq word (codes "--bank-time")) (Some BankTime)
    (cond (bytes_eq word (codes "--frames")) (Some Frames)
    (cond (bytes_eq word (codes "--budget")) (Some Budget) None))))))

-- what stands before the first `=`, and what behind it
abbrev before_equals : List ℕ → List ℕ
before_equals [] = []
before_equals (c ∷ cs) = cond (eqb c 61) [] (c ∷ before_equals cs)

abbrev behind_equals : List ℕ → List ℕ
behind_equals [] = []
behind_equals (c ∷ cs) = cond (eqb c 61) cs (behind_equals cs)

abbrev has_equals : List ℕ → Bool
has_equals [] = false
has_equals (c ∷ cs) = cond (eqb c 61) true (has_equals cs)

-- what an option's word is, seen by these
record IsNameOf (option : OptionName) (word : List ℕ) : Type 0 where
  named_so : named word ≡ Some option
  no_equals : has_equals word ≡ false
  first : get_or word 0 0 ≡ 45

row_is_name : (option : OptionName) → IsNameOf option (row_of option).word
row_is_name Vlen = record { named_so = refl; no_equals = refl; first = refl }
row_is_name Window = record { named_so = refl; no_equals = refl; first = refl }
row_is_name Lanes = record { named_so = refl; no_equals = refl; first = refl }
row_is_name Banks = record { named_so = refl; no_equals = refl; first = refl }
row_is_name BankTime = record { named_so = refl; no_equals = refl; first = refl }
row_is_name Frames = record { named_so = refl; no_equals = refl; first = refl }
row_is_name Budget = record { named_so = refl; no_equals = refl; first = refl }

-- and what it is with `=` and a text
record IsBothOf (option : OptionName) (text word : List ℕ) : Type 0 where
  before : before_equals word ≡ (row_of option).word
  behind : behind_equals word ≡ text
  equals : has_equals word ≡ true
  first : get_or word 0 0 ≡ 45

row_is_both : (option : OptionName) (text : List ℕ) → IsBothOf option text ((row_of option).word ++ codes "=" ++ text)
row_is_both Vlen text = record { before = refl; behind = refl; equals = refl; first = refl }
row_is_both Window text = record { before = refl; behind = refl; equals = refl; first = refl }
row_is_both Lanes text = record { before = refl; behind = refl; equals = refl; first = refl }
row_is_both Banks text = record { before = refl; behind = refl; equals = refl; first = refl }
row_is_both BankTime text = record { before = refl; behind = refl; equals = refl; first = refl }
row_is_both Frames text = record { before = refl; behind = refl; equals = refl; first = refl }
row_is_both Budget text = record { before = refl; behind = refl; equals = refl; first = refl }

-- no two options have one word
same_name : (one other : OptionName) → (row_of one).word ≡ (row_of other).word → one ≡ other
same_name one other same =
    let e = ap named same in
    let one_named = (row_is_name one).named_so in
    let other_named = (row_is_name other).named_so in
    let both : Some one ≡ Some other = sym one_named ∙ e ∙ other_named in cc

pub name_is_name : (word : List ℕ) (one other : OptionName) → word ≡ (row_of one).word → word ≡ (row_of other).word → one ≡ other
name_is_name word one other is_one is_other = same_name one other (sym is_one ∙ is_other)

pub name_is_not_both : (word : List ℕ) (one other : OptionName) (text : List ℕ) → word ≡ (row_of one).word → IsBoth word other text → ⊥
name_is_not_both word one other text is_one is_other =
    false≢true (sym (row_is_name one).no_equals ∙ ap has_equals (sym is_one ∙ is_other) ∙ (row_is_both other text).equals)

pub both_is_both : (word : List ℕ) (one other : OptionName) (text more : List ℕ) → IsBoth word one text → IsBoth word other more → (one ≡ other) × (text ≡ more)
both_is_both word one other text more is_one is_other =
    let same = sym is_one ∙ is_other in (
      same_name one other (sym (row_is_both one text).before ∙ ap before_equals same ∙ (row_is_both other more).before),
      sym (row_is_both one text).behind ∙ ap behind_equals same ∙ (row_is_both other more).behind,
    )

-- an image is a file, and so neither
no_dash : (first : ℕ) → first ≡ 114 → first ≢ 45
no_dash first is dash = omega arith

raw_is_file : (word name : List ℕ) → IsRawImage word name → IsFile word
raw_is_file word name raw = let File : List ℕ → Type 0 = λ w. IsFile w in subst File (sym raw.1) (no_dash 114 refl)

pub image_is_file : (word : List ℕ) (image : ImageFile) → IsImage word image → IsFile word
image_is_file word (Raw name) is = raw_is_file word name is
image_is_file word (Elf name) is = is.1

file_first : (word : List ℕ) → IsFile word → get_or word 0 0 ≢ 45
file_first [] file = absurd file
file_first (first ∷ rest) file = file

pub image_is_not_name : (word : List ℕ) (image : ImageFile) (option : OptionName) → IsImage word image → word ≡ (row_of option).word → ⊥
image_is_not_name word image option is_image is =
    let first : get_or word 0 0 ≡ 45 = rw is (row_is_name option).first in file_first word (image_is_file word image is_image) first

pub image_is_not_both : (word : List ℕ) (image : ImageFile) (text : List ℕ) (option : OptionName) → IsImage word image → IsBoth word option text → ⊥
image_is_not_both word image text option is_image is =
    let first : get_or word 0 0 ≡ 45 = rw is (row_is_both option text).first in file_first word (image_is_file word image is_image) first

-- a word is one image
pub image_is_image : (word : List ℕ) (one other : ImageFile) → IsImage word one → IsImage word other → one ≡ other
image_is_image word (Raw one) (Raw other) is_one is_other =
    let same : codes "raw:" ++ one ≡ codes "raw:" ++ other = sym is_one.1 ∙ is_other.1 in cc
image_is_image word (Raw one) (Elf other) is_one is_other = absurd (is_other.2 one is_one)
image_is_image word (Elf one) (Raw other) is_one is_other = absurd (is_one.2 other is_other)
image_is_image word (Elf one) (Elf other) is_one is_other = ap (λ name. Elf name) (sym is_one.0 ∙ is_other.0)

-- an option is the same as itself, and as no other
pub same_option : (one other : OptionName) → is_same one other ≡ true → one ≡ other
same_option Vlen Vlen same = refl
same_option Window Window same = refl
same_option Lanes Lanes same = refl
same_option Banks Banks same = refl
same_option BankTime BankTime same = refl
same_option Frames Frames same = refl
same_option Budget Budget same = refl
same_option one other same = absurd (false≢true same)

pub is_same_itself : (option : OptionName) → is_same option option ≡ true
is_same_itself Vlen = refl
is_same_itself Window = refl
is_same_itself Lanes = refl
is_same_itself Banks = refl
is_same_itself BankTime = refl
is_same_itself Frames = refl
is_same_itself Budget = refl
