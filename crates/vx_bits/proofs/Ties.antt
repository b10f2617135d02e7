-- How a shift is rounded, by the number that is lost.
use Rattle.std.proofs.Common.{◌≡◌, ℕ, zero, suc, ◌+◌, ◌-◌, ◌*◌, ◌/◌, ◌%◌, ◌^◌, ◌<◌, ◌≤◌, Bool, true, false, not, ◌&&◌, ◌||◌, leb, nat_eq, if◌then◌else◌, ℤ, pos, negsuc, ◌+ℤ◌, FitsSigned, to_z, of_z, sym, refl, ap, ◌∙◌, ⊎_elim, arith, pow_pos, mod-eq_of_lt, zero-add, div-one, add-one, le-leb, ne_eqb, mul-le-mul_left, div-mul-le_self}
use Rattle.std.specs.Int.{w128, int_shr, from_bool}
use Rattle.std.proofs.Math.Nat.{div-eq_of_lt, mod_self}
use Rattle.std.proofs.Math.Arith.{digits_div, digits_mod}
use Rattle.std.proofs.lemmas.Bool.{cases_lt, lt-leb}
use Rattle.std.proofs.lemmas.Nat.{pow-add, div_below, one_shl}
use Rattle.std.proofs.lemmas.Int.{ints, to_z-of_z}
use lib.Signed.{mag, mag_shr, shr_z}
use Rattle.vx_base.specs.Numbers.{reduced}
use Rattle.vx_bits.specs.Rounding.{bits_of, has_bit, rounds_up}
use Rattle.vx_bits.proofs.Readings.{reduced-lt, reduced-narrow}
use Rattle.vx_bits.proofs.Wide.{read_shifted}

-- ---- bits by what is left of the number

low_bits : (v : ℤ) (count : ℕ) → bits_of v 0 count ≡ reduced count v
low_bits v count = ap (λ k. reduced k v / 1 % 2 ^ count) (zero-add count) ∙ ap (λ n. n % 2 ^ count) (div-one (reduced count v)) ∙ mod-eq_of_lt (reduced-lt count v)

double : (k : ℕ) → 2 ^ (k + 1) ≡ 2 * 2 ^ k
double k = let e = pow-add 2 k 1 in omega arith

one_bit : (v : ℤ) (k : ℕ) → bits_of v k 1 ≡ reduced (k + 1) v / 2 ^ k
one_bit v k =
    let small = reduced-lt (k + 1) v in
    let e = double k in
    mod-eq_of_lt (div_below (reduced (k + 1) v) (2 ^ k) 2 (pow_pos k) (omega arith))

top_bit : (n half : ℕ) → 0 < half → n < 2 * half → nat_eq (n / half) 1 ≡ leb half n
top_bit n half p h = ⊎_elim below above (cases_lt n half)
  where
    below : n < half → nat_eq (n / half) 1 ≡ leb half n
    below l = ap (λ q. nat_eq q 1) (div-eq_of_lt l) ∙ sym (lt-leb half n l)

    above : half ≤ n → nat_eq (n / half) 1 ≡ leb half n
    above l =
        let rest : n - half < half = omega arith in
        let is : n ≡ 1 * half + (n - half) = omega arith in
        ap (λ m. nat_eq (m / half) 1) is ∙ ap (λ q. nat_eq q 1) (digits_div 1 rest) ∙ sym (le-leb half n l)

-- ---- the lost number against its half

lost_small : (v : ℤ) (k : ℕ) → reduced (suc k) v < 2 * 2 ^ k
lost_small v k =
    let small = reduced-lt (suc k) v in
    let e = double k in
    let one_more : 2 ^ suc k ≡ 2 ^ (k + 1) = ap (λ n. 2 ^ n) (sym (add-one k)) in
    omega arith

half_bit : (v : ℤ) (k : ℕ) → has_bit v k ≡ leb (2 ^ k) (reduced (suc k) v)
half_bit v k = ap (λ n. nat_eq n 1) (one_bit v k) ∙ ap (λ n. nat_eq (reduced n v / 2 ^ k) 1) (add-one k) ∙ top_bit (reduced (suc k) v) (2 ^ k) (pow_pos k) (lost_small v k)

rest_bits : (v : ℤ) (k : ℕ) → bits_of v 0 k ≡ reduced (suc k) v % 2 ^ k
rest_bits v k = let h : k ≤ suc k = omega arith in low_bits v k ∙ sym (reduced-narrow (suc k) k v h)

nearest_even : (v : ℤ) (k : ℕ) → rounds_up v (suc k) 1 ≡ (leb (2 ^ k) (reduced (suc k) v) && (not (nat_eq (reduced (suc k) v % 2 ^ k) 0) || nat_eq (reduced (suc k + 1) v / 2 ^ suc k) 1))
nearest_even v k = λ i. half_bit v k i && (not (nat_eq (rest_bits v k i) 0) || nat_eq (one_bit v (suc k) i) 1)

above_half : (n half : ℕ) (odd : Bool) → half < n → n < 2 * half → (leb half n && (not (nat_eq (n % half) 0) || odd)) ≡ true
above_half n half odd l h =
    let within : half ≤ n = omega arith in
    let rest : n - half < half = omega arith in
    let is : n ≡ 1 * half + (n - half) = omega arith in
    let lost : n % half ≡ n - half = ap (λ m. m % half) is ∙ digits_mod 1 rest in
    let some : n % half ≡ 0 → ⊥ = λ e. absurd (omega arith) in
    (λ i. le-leb half n within i && (not (ne_eqb (n % half) 0 some i) || odd))

at_half : (half : ℕ) (odd : Bool) → (leb half half && (not (nat_eq (half % half) 0) || odd)) ≡ odd
at_half half odd = (λ i. le-leb half half (omega arith) i && (not (nat_eq (mod_self half i) 0) || odd))

below_half : (n half : ℕ) (odd : Bool) → n < half → (leb half n && (not (nat_eq (n % half) 0) || odd)) ≡ false
below_half n half odd l = ap (λ t. t && (not (nat_eq (n % half) 0) || odd)) (lt-leb half n l)

-- ---- the code's conditions

abbrev pub half_of : ℕ → ℕ
half_of by = 1 * 2 ^ (by - 1) % 2 ^ 64

half_is : (k : ℕ) → suc k < 64 → half_of (suc k) ≡ 2 ^ k
half_is k h =
    let e : suc k - 1 ≡ k = omega arith in
    let within : k < 64 = omega arith in
    ap (λ j. 1 * 2 ^ j % 2 ^ 64) e ∙ one_shl k 64 within

pub ties_up : (v : ℤ) (by : ℕ) → by < 64 → (by ≡ 0 → ⊥) → leb (half_of by) (reduced by v) ≡ rounds_up v by 0
ties_up v zero h ne = absurd (ne refl)
ties_up v (suc k) h ne = ap (λ j. leb j (reduced (suc k) v)) (half_is k h) ∙ sym (half_bit v k)

pub even_above : (v : ℤ) (by : ℕ) → by < 64 → (by ≡ 0 → ⊥) → half_of by < reduced by v → rounds_up v by 1 ≡ true
even_above v zero h ne l = absurd (ne refl)
even_above v (suc k) h ne l =
    let e = half_is k h in
    nearest_even v k ∙ above_half (reduced (suc k) v) (2 ^ k) _ (omega arith) (lost_small v k)

pub even_at : (v : ℤ) (by : ℕ) → by < 64 → (by ≡ 0 → ⊥) → reduced by v ≡ half_of by → rounds_up v by 1 ≡ nat_eq (reduced (by + 1) v / 2 ^ by) 1
even_at v zero h ne l = absurd (ne refl)
even_at v (suc k) h ne l =
    let odd = nat_eq (reduced (suc k + 1) v / 2 ^ suc k) 1 in
    nearest_even v k ∙ ap (λ n. leb (2 ^ k) n && (not (nat_eq (n % 2 ^ k) 0) || odd)) (l ∙ half_is k h) ∙ at_half (2 ^ k) odd

pub even_below : (v : ℤ) (by : ℕ) → by < 64 → (by ≡ 0 → ⊥) → reduced by v < half_of by → rounds_up v by 1 ≡ false
even_below v zero h ne l = absurd (ne refl)
even_below v (suc k) h ne l =
    let e = half_is k h in
    nearest_even v k ∙ below_half (reduced (suc k) v) (2 ^ k) _ (omega arith)

pub to_odd : (v : ℤ) (by : ℕ) → (by ≡ 0 → ⊥) → rounds_up v by 3 ≡ (not (nat_eq (reduced (by + 1) v / 2 ^ by) 1) && not (nat_eq (reduced by v) 0))
to_odd v zero ne = absurd (ne refl)
to_odd v (suc k) ne = λ i. not (nat_eq (one_bit v (suc k) i) 1) && not (nat_eq (low_bits v (suc k) i) 0)

-- ---- the rounded number fits

mag_halved : (v : ℤ) (m : ℕ) → 2 ≤ m → mag (shr_z v m) * 2 ≤ mag v
mag_halved (pos a) m h = omega (arith, mul-le-mul_left (a / m) h, div-mul-le_self a m)
mag_halved (negsuc a) m h = omega (arith, mul-le-mul_left (a / m) h, div-mul-le_self a m)

one_more_fits : (z : ℤ) (up : Bool) → mag z * 2 < 2 ^ 127 → FitsSigned w128 (z +ℤ pos (if up then 1 else 0))
one_more_fits z true h = omega (arith, ints)
one_more_fits z false h = omega (arith, ints)

pub rounded_fits : (v : ℤ) (by mode : ℕ) → FitsSigned w128 v → FitsSigned w128 (int_shr v by +ℤ pos (if rounds_up v by mode then 1 else 0))
rounded_fits v zero mode f =
    let small = mag_shr v 1 in
    let g : FitsSigned w128 (int_shr v 0) = record { sfits = omega (arith, f.sfits) } in
    omega (arith, ints)
rounded_fits v (suc k) mode f =
    let some = pow_pos k in
    let two : 2 ≤ 2 ^ suc k = omega (arith, double k, ap (λ n. 2 ^ n) (add-one k)) in
    one_more_fits (int_shr v (suc k)) (rounds_up v (suc k) mode) (omega (arith, mag_halved v (2 ^ suc k) two, f.sfits))

read_bool : (up : Bool) → to_z w128 (from_bool up) ≡ pos (if up then 1 else 0)
read_bool true = refl
read_bool false = refl

pub read_rounded : (v : ℤ) (by mode : ℕ) (up : Bool) → FitsSigned w128 v → up ≡ rounds_up v by mode → to_z w128 (of_z w128 (to_z w128 (of_z w128 (int_shr (to_z w128 (of_z w128 v)) by)) +ℤ to_z w128 (from_bool up))) ≡ (int_shr v by +ℤ pos (if rounds_up v by mode then 1 else 0))
read_rounded v by mode up f e =
    (λ i. to_z w128 (of_z w128 (read_shifted v by f i +ℤ read_bool up i)))
    ∙ ap (λ t. to_z w128 (of_z w128 (int_shr v by +ℤ pos (if t then 1 else 0)))) e
    ∙ to_z-of_z w128 _ (rounded_fits v by mode f)
