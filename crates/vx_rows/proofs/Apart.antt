-- Rows that no word fits both.
use Rattle.std.proofs.Common.{◌≡◌, ℕ, zero, suc, Bool, true, false, ◌==◌, ◌&&◌, not, List, [], ◌∷◌, Some, slice_get, refl, sym, ap, ◌∙◌, bit_and}
use Rattle.std.proofs.lemmas.Bool.{eqb-true, eq-eqb, and_parts, false≢true}
use Rattle.std.proofs.lemmas.Nat.{and_assoc, and_comm}
use Rattle.std.specs.List.{list_all}
use Rattle.vx_rows.specs.Table.{has_bits_of, FitsOneAtMost}
use Rattle.vx_rows.specs.declared.row.Row.{Row}

-- the two rows fix some bit to different values
abbrev pub is_apart : Row → Row → Bool
is_apart r s = not (bit_and r.value s.mask == bit_and s.value r.mask)

-- each row is so from each later one
abbrev pub are_apart : List Row → Bool
are_apart [] = true
are_apart (r ∷ rs) = list_all (is_apart r) rs && are_apart rs

-- a word that fits two rows has one value where both fix its bits
both : (word m v n w : ℕ) → bit_and word m ≡ v → bit_and word n ≡ w → bit_and v n ≡ bit_and w m
both word m v n w p q =
    ap (λ x. bit_and x n) (sym p) ∙ and_assoc n word m ∙ ap (λ x. bit_and word x) (and_comm m n) ∙ sym (and_assoc m word n) ∙ ap (λ x. bit_and x m) q

not_true : (b : Bool) → not b ≡ true → b ≡ true → ⊥
not_true true n p = false≢true n
not_true false n p = false≢true p

-- a word that fits a row fits none that is apart from it
pub not_both : (word : ℕ) (r s : Row) → is_apart r s ≡ true → has_bits_of word r ≡ true → has_bits_of word s ≡ true → ⊥
not_both word r s a p q =
    not_true _ a (eq-eqb _ _ (both word r.mask r.value s.mask s.value (eqb-true _ _ p) (eqb-true _ _ q)))

not_in : (word j : ℕ) (r s : Row) (rows : List Row) → list_all (is_apart r) rows ≡ true → slice_get rows j ≡ Some s → has_bits_of word r ≡ true → has_bits_of word s ≡ true → ⊥
not_in word j r s [] a at p q = cc
not_in word zero r s (t ∷ rows) a at p q =
    let same : t ≡ s = cc in
    let here : is_apart r t ≡ true = (and_parts _ _ a).0 in
    not_both word r s (rw same at here) p q
not_in word (suc j) r s (t ∷ rows) a at p q = not_in word j r s rows (and_parts _ _ a).1 at p q

-- rows each of which is apart from each later one
pub fits_one : (rows : List Row) → are_apart rows ≡ true → FitsOneAtMost rows
fits_one [] a word i j r s at_i at_j p q = cc
fits_one (t ∷ rows) a word zero zero r s at_i at_j p q = refl
fits_one (t ∷ rows) a word zero (suc j) r s at_i at_j p q =
    let same : t ≡ r = cc in
    let rest : list_all (is_apart t) rows ≡ true = (and_parts _ _ a).0 in
    absurd (not_in word j r s rows (rw same at rest) at_j p q)
fits_one (t ∷ rows) a word (suc i) zero r s at_i at_j p q =
    let same : t ≡ s = cc in
    let rest : list_all (is_apart t) rows ≡ true = (and_parts _ _ a).0 in
    absurd (not_in word i s r rows (rw same at rest) at_i q p)
fits_one (t ∷ rows) a word (suc i) (suc j) r s at_i at_j p q =
    ap suc (fits_one rows (and_parts _ _ a).1 word i j r s at_i at_j p q)
