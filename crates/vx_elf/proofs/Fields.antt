-- The numbers of the fields as the kit's reader gives them.
use Rattle.std.proofs.Common.{◌≡◌, ℕ, zero, suc, ◌+◌, ◌-◌, ◌*◌, ◌≤◌, List, [], ◌∷◌, length, take, drop, slice_index, refl, ap, ◌∙◌, length-drop, arith}
use Rattle.std.proofs.lemmas.List.{take_all}
use Rattle.byteorder.specs.Endian.{little_from, little_number}
use Rattle.vx_base.specs.Numbers.{from_little_endian}
use Rattle.vx_elf.specs.Layout.{number_at}

-- a byte in front moves the places on
little_from-cons : (i n a : ℕ) (xs : List ℕ) → little_from (suc i) n (a ∷ xs) ≡ little_from i n xs
little_from-cons i zero a xs = refl
little_from-cons i (suc n) a xs = ap (λ (r : ℕ). slice_index xs i + 256 * r) (little_from-cons (suc i) n a xs)

-- the reader's number of so many bytes is that of the bytes taken
little_is : (n : ℕ) (xs : List ℕ) → n ≤ length xs → little_number n xs ≡ from_little_endian (take n xs)
little_is zero xs enough = refl
little_is (suc n) [] enough = absurd (omega arith)
little_is (suc n) (x ∷ xs) enough =
    ap (λ (r : ℕ). x + 256 * r) (little_from-cons 0 n x xs ∙ little_is n xs (omega arith))

-- the reader's number from a place on is the field there
pub number_there : (bytes : List ℕ) (place width : ℕ) → place + width ≤ length bytes → little_number width (take (length bytes - place) (drop place bytes)) ≡ number_at bytes place width
unfolding number_at
number_there bytes place width within =
    ap (λ (xs : List ℕ). little_number width xs) (take_all (length bytes - place) (drop place bytes) (omega (arith, length-drop place bytes)))
    ∙ little_is width (drop place bytes) (omega (arith, length-drop place bytes))
