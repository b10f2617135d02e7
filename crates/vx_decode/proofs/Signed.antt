-- Signed numbers and the numbers that they are reduced to.
use Rattle.std.proofs.Common.{◌≡◌, ℕ, zero, suc, ◌*◌, ◌-◌, ◌%◌, ◌<◌, ◌≤◌, Bool, true, false, cond, ltb, ap, refl, arith, ℤ, pos, negsuc, neg_ℤ}
use Rattle.std.proofs.lemmas.Int.{ints}
use Rattle.std.proofs.lemmas.Bool.Decides.{nat_tests}
use Rattle.std.proofs.Math.Nat.{mod-eq_of_lt}
use Rattle.std.proofs.lemmas.Nat.{mod_below}
use borrow.Author.Tests.{ltb-true, ltb-false}
use Rattle.std.specs.Prelude.{◌<ℤ◌, ◌≤ℤ◌, int_rem}

-- a number below `whole`, read as signed, and a signed number reduced, where `whole` is twice `half`
abbrev pub signed_by : ℕ → ℕ → ℕ → ℤ
signed_by half whole n = cond (ltb n half) (pos n) (negsuc (whole - 1 - n))

abbrev pub reduced_by : ℕ → ℤ → ℕ
reduced_by whole (pos n) = n % whole
reduced_by whole (negsuc n) = whole - 1 - n % whole

pub signed-reduced : (half whole : ℕ) → whole ≡ 2 * half → (z : ℤ) → neg_ℤ (pos half) ≤ℤ z → z <ℤ pos half → signed_by half whole (reduced_by whole z) ≡ z
signed-reduced half whole twice (pos n) low high =
    let below : n < half = omega (arith, ints) in
    let same : n % whole ≡ n = mod-eq_of_lt (omega arith) in
    rw same (grind (arith, nat_tests))
signed-reduced half whole twice (negsuc n) low high =
    let below : n < half = omega (arith, ints) in
    let same : n % whole ≡ n = mod-eq_of_lt (omega arith) in
    let not_low : ltb (whole - 1 - n) half ≡ false = grind (arith, nat_tests) in
    let back : negsuc (whole - 1 - (whole - 1 - n)) ≡ negsuc n = omega (arith, ints) in
    rw (same, not_low) back

reduced-choice : (whole n : ℕ) (b : Bool) → n < whole → reduced_by whole (cond b (pos n) (negsuc (whole - 1 - n))) ≡ n
reduced-choice whole n true below = mod-eq_of_lt below
reduced-choice whole n false below =
    let same : (whole - 1 - n) % whole ≡ whole - 1 - n = mod-eq_of_lt (omega arith) in
    rw same (omega arith)

pub reduced-signed : (half whole n : ℕ) → n < whole → reduced_by whole (signed_by half whole n) ≡ n
reduced-signed half whole n below = reduced-choice whole n (ltb n half) below

neg-zero : (m : ℕ) → neg_ℤ (pos m) ≡ pos 0 → m ≡ 0
neg-zero zero e = refl
neg-zero (suc m) e = cc

-- an even number stays even
pub reduced-even : (half whole : ℕ) → whole ≡ 2 * half → (z : ℤ) → neg_ℤ (pos half) ≤ℤ z → z <ℤ pos half → int_rem z (pos 2) ≡ pos 0 → reduced_by whole z % 2 ≡ 0
reduced-even half whole twice (pos n) low high even =
    let below : n < half = omega (arith, ints) in
    let even_n : n % 2 ≡ 0 = cc in
    let same : n % whole ≡ n = mod-eq_of_lt (omega arith) in
    rw same even_n
reduced-even half whole twice (negsuc n) low high even =
    let below : n < half = omega (arith, ints) in
    let even_n : suc n % 2 ≡ 0 = neg-zero (suc n % 2) even in
    let same : n % whole ≡ n = mod-eq_of_lt (omega arith) in
    rw same (omega arith)

pub reduced-unsigned : (whole : ℕ) (z : ℤ) → pos 0 ≤ℤ z → z <ℤ pos whole → pos (reduced_by whole z) ≡ z
reduced-unsigned whole (pos n) low high = ap pos (mod-eq_of_lt (omega (arith, ints)))
reduced-unsigned whole (negsuc n) low high = absurd (omega (arith, ints))

pub reduced-below : (whole : ℕ) (z : ℤ) → 0 < whole → reduced_by whole z < whole
reduced-below whole (pos n) some = mod_below n whole some
reduced-below whole (negsuc n) some = omega arith

-- what is read as signed lies in its range
in_range-choice : (half whole : ℕ) → whole ≡ 2 * half → (n : ℕ) → n < whole → (b : Bool) → ltb n half ≡ b → (neg_ℤ (pos half) ≤ℤ cond b (pos n) (negsuc (whole - 1 - n))) × (cond b (pos n) (negsuc (whole - 1 - n)) <ℤ pos half)
in_range-choice half whole twice n below true e =
    let small : n < half = ltb-true n half e in
    (omega (arith, ints), omega (arith, ints))
in_range-choice half whole twice n below false e =
    let large : half ≤ n = ltb-false n half e in
    (omega (arith, ints), omega (arith, ints))

pub signed-in_range : (half whole : ℕ) → whole ≡ 2 * half → (n : ℕ) → n < whole → (neg_ℤ (pos half) ≤ℤ signed_by half whole n) × (signed_by half whole n <ℤ pos half)
signed-in_range half whole twice n below = in_range-choice half whole twice n below (ltb n half) refl

-- and an even one is even
even-choice : (half whole : ℕ) → whole ≡ 2 * half → (n : ℕ) → n < whole → n % 2 ≡ 0 → (b : Bool) → int_rem (cond b (pos n) (negsuc (whole - 1 - n))) (pos 2) ≡ pos 0
even-choice half whole twice n below even true = ap pos even
even-choice half whole twice n below even false =
    let even_rest : suc (whole - 1 - n) % 2 ≡ 0 = omega arith in
    ap (λ m. neg_ℤ (pos m)) even_rest

pub signed-even : (half whole : ℕ) → whole ≡ 2 * half → (n : ℕ) → n < whole → n % 2 ≡ 0 → int_rem (signed_by half whole n) (pos 2) ≡ pos 0
signed-even half whole twice n below even = even-choice half whole twice n below even (ltb n half)
