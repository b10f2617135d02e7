-- Where words and elements stand.
use Rattle.std.proofs.Common.{◌≡◌, ℕ, List, suc, ◌+◌, ◌*◌, ◌/◌, ◌%◌, ◌^◌, ◌<◌, ◌≤◌, IsTrue, sym, ap, ◌∙◌, arith, ⊎_elim, mod-lt, mul-le-mul_right}
use Rattle.std.proofs.lemmas.Bool.{cases_lt}
use Rattle.std.proofs.lemmas.Nat.{shr-shr}
use Rattle.std.proofs.Math.Nat.{mod-add-div', mul-div_cancel, mul-mod_left, mul-le-mul_left}
use Rattle.std.proofs.lemmas.Bool.Decides.{nat_tests}
use Rattle.vx_base.specs.Options.{is_register_length}
use Rattle.vx_bits.specs.Width.{is_width}
use Rattle.std.proofs.Math.Arith.{mod-mul}
use Rattle.vx_base.specs.Numbers.{field}
use Rattle.vx_packed.specs.Joined.{lane}
use Rattle.vx_vstate.specs.Registers.{element, word_at, element_word, element_bit}

-- the word of a group in the register that it stands in
pub place_is : (r w p : ℕ) → (r + w / p) * p + w % p ≡ r * p + w
place_is r w p = let e = mod-add-div' w p in omega arith

pub register_below : (r w p : ℕ) → r * p + w < 32 * p → r + w / p < 32
register_below r w p h =
    ⊎_elim
    (λ l. l)
    (λ m. let low = mul-le-mul_right p m in let e = place_is r w p in absurd (omega arith))
    (cases_lt (r + w / p) 32)

-- a part of a word
pub in_one : (first x : ℕ) → first % 64 + x < 64 → ((first + x) / 64 ≡ first / 64) × ((first + x) % 64 ≡ first % 64 + x)
in_one first x h = (omega arith, omega arith)

-- what stands before a part of a word, and the part
pub part_ends : (w g : ℕ) → 64 / g * g ≡ 64 → w * g % 64 + g ≤ 64
part_ends w g e =
    let q = 64 / g in
    let some_q : 0 < q = ⊎_elim (λ l. l) (λ m. let none : q ≡ 0 = omega arith in let z : q * g ≡ 0 * g = ap (λ n. n * g) none in absurd (omega arith)) (cases_lt 0 q) in
    let some_g : 0 < g = ⊎_elim (λ l. l) (λ m. let none : g ≡ 0 = omega arith in let z : q * g ≡ q * 0 = ap (λ n. q * n) none in absurd (omega arith)) (cases_lt 0 g) in
    let back : w * g / g ≡ w = mul-div_cancel w some_g in
    let left = mul-mod_left w g in
    let digits = mod-mul (w * g) some_q some_g in
    let cut : w * g % 64 ≡ w % q * g = ap (λ n. w * g % n) (sym e) ∙ digits ∙ (λ i. back i % q * g + left i) ∙ omega arith in
    let below = mod-lt w some_q in
    let next : suc (w % q) ≤ q = below in
    let rows = mul-le-mul_right g next in
    omega arith

pub lane_in_part : (width count w k : ℕ) → 0 < width * count → 64 / (width * count) * (width * count) ≡ 64 → k < count → w * count * width % 64 + k * width < 64
lane_in_part width count w k some e l =
    let ends = part_ends w (width * count) e in
    let same : w * (width * count) ≡ w * count * width = omega arith in
    let moved = ap (λ n. n % 64) same in
    let next : suc k ≤ count = l in
    let rows = mul-le-mul_right width next in
    let some_width : 0 < width = ⊎_elim (λ l. l) (λ m. let none : width ≡ 0 = omega arith in let z : width * count ≡ 0 * count = ap (λ n. n * count) none in absurd (omega arith)) (cases_lt 0 width) in
    let turned : width * count ≡ count * width = omega arith in
    omega arith

-- the elements of a part
pub part_element : (width count w k : ℕ) → 0 < width * count → 64 / (width * count) * (width * count) ≡ 64 → k < count → (element_word width (w * count + k) ≡ w * count * width / 64) × (element_bit width (w * count + k) ≡ w * count * width % 64 + k * width)
part_element width count w k some e l =
    let sum : (w * count + k) * width ≡ w * count * width + k * width = omega arith in
    let both = in_one (w * count * width) (k * width) (lane_in_part width count w k some e l) in
    (ap (λ n. n / 64) sum ∙ both.0, ap (λ n. n % 64) sum ∙ both.1)

-- the product that tells the bit from which a part's elements stand is no large number
pub part_small : (w count width place p : ℕ) → 0 < width * count → place + w * count * width / 64 < 32 * p → p ≤ 32 → w * count < 65536
part_small w count width place p some h l =
    let some_width : 1 ≤ width = ⊎_elim (λ l. l) (λ m. let none : width ≡ 0 = omega arith in let z : width * count ≡ 0 * count = ap (λ n. n * count) none in absurd (omega arith)) (cases_lt 0 width) in
    let rows = mul-le-mul_left (w * count) some_width in
    omega arith

pub word_small : (w place p n : ℕ) → place + w < 32 * p → p ≤ 32 → n ≤ 64 → w * n < 65536
word_small w place p n h l m = let most = mul-le-mul_left w m in omega arith

pub registers_small : (vlen : ℕ) → IsTrue (is_register_length vlen) → vlen / 64 ≤ 32
registers_small vlen h = grind (arith, nat_tests, h)

-- elements that fill words
pub filled : (width : ℕ) → IsTrue (is_width width) → 64 / width * width ≡ 64
filled width h = grind (arith, h)

pub per_word-le : (width : ℕ) → IsTrue (is_width width) → 64 / width ≤ 64
per_word-le width h = grind (arith, h)

pub even_element : (vlen : ℕ) (words : List ℕ) (register width w k : ℕ) → IsTrue (is_width width) → k < 64 / width → element vlen words register width (w * (64 / width) + k) ≡ lane width (word_at vlen words register w) k
even_element vlen words register width w k h l =
    let full = filled width h in
    let rows : w * (64 / width * width) ≡ w * 64 = ap (λ n. w * n) full in
    let sum : (w * (64 / width) + k) * width ≡ w * 64 + k * width = omega arith in
    let next : suc k ≤ 64 / width = l in
    let top = mul-le-mul_right width next in
    let some : 0 < width = ⊎_elim (λ l. l) (λ m. let none : width ≡ 0 = omega arith in let z : 64 / width * width ≡ 64 / width * 0 = ap (λ n. 64 / width * n) none in absurd (omega arith)) (cases_lt 0 width) in
    let place : (w * (64 / width) + k) * width / 64 ≡ w = ap (λ n. n / 64) sum ∙ omega arith in
    let bit : (w * (64 / width) + k) * width % 64 ≡ k * width = ap (λ n. n % 64) sum ∙ omega arith in
    λ i. field (word_at vlen words register (place i)) (bit i) width

pub first_word : (width w : ℕ) → IsTrue (is_width width) → element_word width (w * (64 / width)) ≡ w
first_word width w h =
    let full = filled width h in
    let rows : w * (64 / width * width) ≡ w * 64 = ap (λ n. w * n) full in
    let sum : w * (64 / width) * width ≡ w * 64 = omega arith in
    ap (λ n. n / 64) sum ∙ omega arith

-- a word of a group stands among all
pub in_place : (register n w p : ℕ) → register + n ≤ 32 → w < n * p → register * p + w < 32 * p
in_place register n w p room below = let all = mul-le-mul_right p room in omega arith

-- what a lane of a word is that was shifted right
pub lane_shifted : (width x low k : ℕ) → lane width (x / 2 ^ low) k ≡ field x (low + k * width) width
lane_shifted width x low k = ap (λ n. n % 2 ^ width) (shr-shr x low (k * width))
