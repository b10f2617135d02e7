-- Words that are written one after another, and the bytes of a word.
use Rattle.std.proofs.Common.{pow-add, ◌≡◌, ℕ, zero, suc, ◌+◌, ◌*◌, ◌/◌, ◌%◌, ◌^◌, ◌<◌, ◌≤◌, inl, inr, List, [], ◌∷◌, ◌++◌, length, get_or, set, map, refl, sym, ap, ◌∙◌, get_or-set_same, get_or-set_other, length-set, arith}
use Rattle.std.specs.Prelude.{◌≢◌}
use Rattle.std.proofs.lemmas.Bool.{cases_lt}
use Rattle.std.proofs.Math.Nat.{div-div-eq-div-mul, div-le_self}
use Rattle.vx_base.specs.Numbers.{field, from_little_endian}
use Rattle.vx_cells.specs.Cells.{with_access, with_accesses}
use Rattle.vx_cells.specs.Merging.{merged}
use Rattle.vx_cells.specs.declared.access.Access.{Access}
use Rattle.vx_paged.specs.Booting.{word_in}
use Rattle.vx_tables.specs.Building.{kernel_write, kernel_writes}

pub with_accesses-behind : (xs ys : List Access) (contents : List ℕ) → with_accesses contents (xs ++ ys) ≡ with_accesses (with_accesses contents xs) ys
with_accesses-behind [] ys contents = refl
with_accesses-behind (x ∷ xs) ys contents = with_accesses-behind xs ys (with_access contents x)

-- words that were written one after another
module _ (whole : (old value : ℕ) → value < 2 ^ 64 → merged 255 old value ≡ value) (contents : List ℕ) (cycle start : ℕ) (v : ℕ → ℕ) where
  abbrev pub after_words : ℕ → List ℕ
  after_words count = with_accesses contents (kernel_writes cycle start v count)

  pub one-word : (count : ℕ) → v count < 2 ^ 64 → after_words (suc count) ≡ set (after_words count) (start + count) (v count)
  unfolding kernel_writes
  one-word count small =
      with_accesses-behind (kernel_writes cycle start v count) (kernel_write cycle (start + count) (v count) ∷ []) contents
      ∙ ap (set (after_words count) (start + count)) (whole (get_or (after_words count) (start + count) 0) (v count) small)

  pub no-word : after_words 0 ≡ contents
  unfolding kernel_writes
  no-word = refl

  pub length-words : (count : ℕ) → ((i : ℕ) → i < count → v i < 2 ^ 64) → length (after_words count) ≡ length contents
  length-words zero small = ap length no-word
  length-words (suc count) small =
      ap length (one-word count (small count (omega arith)))
      ∙ length-set (after_words count) (start + count) (v count)
      ∙ length-words count (λ i lt. small i (omega arith))

  pub words-inside : (count i : ℕ) → i < count → start + count ≤ length contents → ((j : ℕ) → j < count → v j < 2 ^ 64) → get_or (after_words count) (start + i) 0 ≡ v i
  words-inside zero i lt room small = absurd (omega arith)
  words-inside (suc count) i lt room small =
      let rest : (j : ℕ) → j < count → v j < 2 ^ 64 = λ j less. small j (omega arith) in
      let size = length-words count rest in
      elim (cases_lt i count) [
        | inl less ↦
            ap (λ (ws : List ℕ). get_or ws (start + i) 0) (one-word count (small count (omega arith)))
            ∙ get_or-set_other (after_words count) (start + count) (start + i) (v count) 0 (λ same. omega (arith, same))
            ∙ words-inside count i less (omega arith) rest
        | inr more ↦
            let e : i ≡ count = omega arith in
            let within : start + count < length (after_words count) = omega (arith, size) in
            ap (λ (ws : List ℕ). get_or ws (start + i) 0) (one-word count (small count (omega arith)))
            ∙ ap (λ (n : ℕ). get_or (set (after_words count) (start + count) (v count)) (start + n) 0) e
            ∙ get_or-set_same (after_words count) (start + count) (v count) 0 within
            ∙ ap v (sym e)
      ]

  pub words-outside : (count word : ℕ) → ((i : ℕ) → i < count → start + i ≢ word) → ((j : ℕ) → j < count → v j < 2 ^ 64) → get_or (after_words count) word 0 ≡ get_or contents word 0
  words-outside zero word apart small = ap (λ (ws : List ℕ). get_or ws word 0) no-word
  words-outside (suc count) word apart small =
      ap (λ (ws : List ℕ). get_or ws word 0) (one-word count (small count (omega arith)))
      ∙ get_or-set_other (after_words count) (start + count) word (v count) 0 (λ same. apart count (omega arith) (sym same))
      ∙ words-outside count word (λ i lt. apart i (omega arith)) (λ j lt. small j (omega arith))

next_place : (j : ℕ) → 2 ^ (8 * suc j) ≡ 256 * 2 ^ (8 * j)
next_place j = let e : 8 * suc j ≡ 8 + 8 * j = omega arith in rw (e, pow-add 2 8 (8 * j)) refl

pub digit_of : (bs : List ℕ) (j : ℕ) → ((i : ℕ) → get_or bs i 0 < 256) → field (from_little_endian bs) (8 * j) 8 ≡ get_or bs j 0
digit_of [] j below = let e : 0 / 2 ^ (8 * j) ≡ 0 = omega (arith, div-le_self 0 (2 ^ (8 * j))) in ap (λ (q : ℕ). q % 2 ^ 8) e
digit_of (b ∷ bs) zero below = let small : b < 256 = below 0 in omega arith
digit_of (b ∷ bs) (suc j) below =
    let small : b < 256 = below 0 in
    let rest : (b + 256 * from_little_endian bs) / 256 ≡ from_little_endian bs = omega arith in
    let place : (b + 256 * from_little_endian bs) / 2 ^ (8 * suc j) ≡ from_little_endian bs / 2 ^ (8 * j) =
    ap (λ (q : ℕ). (b + 256 * from_little_endian bs) / q) (next_place j)
    ∙ sym (div-div-eq-div-mul (b + 256 * from_little_endian bs) 256 (2 ^ (8 * j)))
    ∙ ap (λ (q : ℕ). q / 2 ^ (8 * j)) rest in
    ap (λ (q : ℕ). q % 2 ^ 8) place ∙ digit_of bs j (λ i. below (suc i))

small_digits : (f : ℕ → ℕ) → ((j : ℕ) → f j < 256) → (js : List ℕ) (i : ℕ) → get_or (map f js) i 0 < 256
small_digits f small [] i = omega arith
small_digits f small (j ∷ js) zero = small j
small_digits f small (j ∷ js) (suc i) = small_digits f small js i

at_place : (f : ℕ → ℕ) (j : ℕ) → j < 8 → get_or (map f (0 ∷ 1 ∷ 2 ∷ 3 ∷ 4 ∷ 5 ∷ 6 ∷ 7 ∷ [])) j 0 ≡ f j
at_place f zero h = refl
at_place f (suc zero) h = refl
at_place f (suc (suc zero)) h = refl
at_place f (suc (suc (suc zero))) h = refl
at_place f (suc (suc (suc (suc zero)))) h = refl
at_place f (suc (suc (suc (suc (suc zero))))) h = refl
at_place f (suc (suc (suc (suc (suc (suc zero)))))) h = refl
at_place f (suc (suc (suc (suc (suc (suc (suc zero))))))) h = refl
at_place f (suc (suc (suc (suc (suc (suc (suc (suc j)))))))) h = absurd (omega arith)

-- a byte of the word that eight bytes are
pub word_byte : (bytes : List ℕ) (w j : ℕ) → j < 8 → ((i : ℕ) → get_or bytes i 0 < 256) → field (word_in bytes w) (8 * j) 8 ≡ get_or bytes (8 * w + j) 0
word_byte bytes w j within small =
    let f : ℕ → ℕ = λ j. get_or bytes (8 * w + j) 0 in
    digit_of (map f (0 ∷ 1 ∷ 2 ∷ 3 ∷ 4 ∷ 5 ∷ 6 ∷ 7 ∷ [])) j (small_digits f (λ k. small (8 * w + k)) (0 ∷ 1 ∷ 2 ∷ 3 ∷ 4 ∷ 5 ∷ 6 ∷ 7 ∷ []))
    ∙ at_place f j within

pub word_small : (bytes : List ℕ) (w : ℕ) → ((i : ℕ) → get_or bytes i 0 < 256) → word_in bytes w < 2 ^ 64
word_small bytes w small =
    let s0 = small (8 * w + 0) in
    let s1 = small (8 * w + 1) in
    let s2 = small (8 * w + 2) in
    let s3 = small (8 * w + 3) in
    let s4 = small (8 * w + 4) in
    let s5 = small (8 * w + 5) in
    let s6 = small (8 * w + 6) in
    let s7 = small (8 * w + 7) in
    omega arith
