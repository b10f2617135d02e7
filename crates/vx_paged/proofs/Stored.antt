-- A word of which some bytes are written, as bytes of memory.
use Rattle.std.proofs.Common.{◌≡◌, ℕ, ◌+◌, ◌-◌, ◌*◌, ◌/◌, ◌%◌, ◌^◌, ◌<◌, ◌≤◌, ◌&&◌, eqb, leb, ltb, List, length, get_or, set, sym, ap, ◌∙◌, inl, inr, arith}
use Rattle.std.specs.Prelude.{◌⊎◌, nat_le, nat_lt}
use Rattle.std.proofs.lemmas.Bool.{cases_Bool, leb-true, leb-false, ltb-true, ltb-false, eq-eqb, eqb-true, false≢true}
use Rattle.std.proofs.lemmas.List.{get_or-set_same, get_or-set_other}
use Rattle.vx_base.specs.Numbers.{field, little_endian, truth}
use Rattle.vx_base.specs.Page.{byte_of_words}
use Rattle.vx_cells.specs.Merging.{merged, merged_byte}
use Rattle.vx_paged.proofs.Shown.{changes, changes_in, changes_off}
use Rattle.vx_paged.proofs.Words.{little_at, length-little_endian, moved_byte}

-- that merged words are merged by bytes
abbrev pub AreMerged : Type 0
AreMerged = (mask old value j : ℕ) → j < 8 → field (merged mask old value) (8 * j) 8 ≡ merged_byte mask old value j

-- a mask names so many bytes from one on
abbrev pub Names : (mask from width : ℕ) → Type 0
Names mask from width = (j : ℕ) → j < 8 → field mask j 1 ≡ truth (nat_le from j && nat_lt j (from + width))

in_range : (from j width : ℕ) → ((from ≤ j) × (j < from + width)) ⊎ ((j < from) ⊎ (from + width ≤ j))
in_range from j width =
    elim (cases_Bool (leb from j)) [
      | inl low ↦ elim (cases_Bool (ltb j (from + width))) [
        | inl high ↦ inl (leb-true from j low, ltb-true j (from + width) high)
        | inr past ↦ inr (inr (ltb-false j (from + width) past))
      ]
      | inr below ↦ inr (inl (leb-false from j below))
    ]

module _ (laws : AreMerged) (mask old value j : ℕ) (within : j < 8) where
  named : field mask j 1 ≡ 1 → field (merged mask old (merged mask 0 value)) (8 * j) 8 ≡ field value (8 * j) 8
  named is =
      let outer = rw is at (laws mask old (merged mask 0 value) j within) in
      let inner = rw is at (laws mask 0 value j within) in
      outer ∙ inner

  kept : field mask j 1 ≡ 0 → field (merged mask old (merged mask 0 value)) (8 * j) 8 ≡ field old (8 * j) 8
  kept is = rw is at (laws mask old (merged mask 0 value) j within)

mask_in : (mask from width j : ℕ) → Names mask from width → j < 8 → from ≤ j → j < from + width → field mask j 1 ≡ 1
mask_in mask from width j names within low high = let is = names j within in grind (arith, is)

mask_off : (mask from width j : ℕ) → Names mask from width → j < 8 → (j < from) ⊎ (from + width ≤ j) → field mask j 1 ≡ 0
mask_off mask from width j names within (inl below) = let is = names j within in grind (arith, is)
mask_off mask from width j names within (inr past) = let is = names j within in grind (arith, is)

module _ (laws : AreMerged) (contents : List ℕ) (word from width mask value : ℕ) (inside : word < length contents) (fits : from + width ≤ 8) (names : Names mask from width) where
  moved : ℕ
  moved = value * 2 ^ (8 * from) % 2 ^ 64

  made : ℕ
  made = merged mask (get_or contents word 0) (merged mask 0 moved)

  after : List ℕ
  after = set contents word made

  -- a byte of another word
  elsewhere : (i : ℕ) → (i / 8 ≡ word → ⊥) → byte_of_words after i ≡ changes (byte_of_words contents) (8 * word + from) (little_endian width value) i
  unfolding after
  elsewhere i other =
      let long = length-little_endian width value in
      let off : (i < 8 * word + from) ⊎ (8 * word + from + length (little_endian width value) ≤ i) = elim (in_range (8 * word) i 8) [
        | inl here ↦ absurd (other (omega arith))
        | inr out ↦ elim out [ inl below ↦ inl (omega arith) | inr past ↦ inr (omega arith) ]
      ] in
      ap (λ (w : ℕ). field w (8 * (i % 8)) 8) (get_or-set_other contents word (i / 8) made 0 other)
      ∙ sym (changes_off (little_endian width value) (byte_of_words contents) (8 * word + from) i off)

  -- a byte of the word
  there : (j i : ℕ) → j < 8 → i ≡ 8 * word + j → byte_of_words after i ≡ changes (byte_of_words contents) (8 * word + from) (little_endian width value) i
  unfolding after made moved
  there j i below same =
      let long = length-little_endian width value in
      let quotient : i / 8 ≡ word = omega arith in
      let rest : i % 8 ≡ j = omega arith in
      let old : ℕ = get_or contents word 0 in
      let read : byte_of_words after i ≡ field made (8 * j) 8 =
      ap (λ (q : ℕ). field (get_or after q 0) (8 * (i % 8)) 8) quotient
      ∙ ap (λ (w : ℕ). field w (8 * (i % 8)) 8) (get_or-set_same contents word made 0 inside)
      ∙ ap (λ (n : ℕ). field made (8 * n) 8) rest in
      elim (in_range from j width) [
        | inl here ↦ let k : ℕ = j - from in
            let split : from + k ≡ j = omega (arith, here.0) in
            read
            ∙ named laws mask old moved j below (mask_in mask from width j names below here.0 here.1)
            ∙ ap (λ (n : ℕ). field moved (8 * n) 8) (sym split)
            ∙ moved_byte value from k (omega (arith, split))
            ∙ sym (little_at width value k (omega (arith, here.1)))
            ∙ sym (changes_in (little_endian width value) (byte_of_words contents) (8 * word + from) k i (omega arith) (omega (arith, here.1)))
        | inr out ↦ let off : (i < 8 * word + from) ⊎ (8 * word + from + length (little_endian width value) ≤ i) = elim out [ inl low ↦ inl (omega arith) | inr past ↦ inr (omega arith) ] in
            read
            ∙ kept laws mask old moved j below (mask_off mask from width j names below out)
            ∙ sym (ap (λ (q : ℕ). field (get_or contents q 0) (8 * (i % 8)) 8) quotient ∙ ap (λ (n : ℕ). field old (8 * n) 8) rest)
            ∙ sym (changes_off (little_endian width value) (byte_of_words contents) (8 * word + from) i off)
      ]

  pub written : (i : ℕ) → byte_of_words (set contents word (merged mask (get_or contents word 0) (merged mask 0 (value * 2 ^ (8 * from) % 2 ^ 64)))) i ≡ changes (byte_of_words contents) (8 * word + from) (little_endian width value) i
  unfolding after made moved
  written i =
      elim (cases_Bool (eqb (i / 8) word)) [
        | inl is ↦ there (i % 8) i (omega arith) (omega (arith, eqb-true (i / 8) word is))
        | inr not ↦ elsewhere i (λ same. false≢true (sym not ∙ eq-eqb (i / 8) word same))
      ]
