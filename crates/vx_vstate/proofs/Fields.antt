-- Fields of a number, of which one is set.
use Rattle.std.proofs.Common.{◌≡◌, ℕ, zero, suc, ◌+◌, ◌-◌, ◌*◌, ◌/◌, ◌%◌, ◌^◌, ◌<◌, ◌≤◌, sym, ap, ◌∙◌, arith, pow_pos, mod-lt}
use Rattle.std.proofs.lemmas.Nat.{pow-add, shr_high, mod_low, mod-pow-add, field_of, shr-shr, mul-add-lt, div_below}
use Rattle.vx_base.specs.Numbers.{field}
use Rattle.vx_vstate.specs.Registers.{with_field}

-- what is left at a width and then at a narrower one
pub mod-narrow : (n all width : ℕ) → width ≤ all → n % 2 ^ all % 2 ^ width ≡ n % 2 ^ width
mod-narrow n all width h =
    let rest = all - width in
    let whole : rest + width ≡ all = omega arith in
    ap (λ k. n % 2 ^ k % 2 ^ width) (sym whole) ∙ ap (λ m. m % 2 ^ width) (mod-pow-add n rest width) ∙ mod_low (n / 2 ^ width % 2 ^ rest) width (n % 2 ^ width) (mod-lt n (pow_pos width))

-- the number above its field's low end
above : (n low count value : ℕ) → with_field n low count value ≡ (n / 2 ^ (low + count) * 2 ^ count + value % 2 ^ count) * 2 ^ low + n % 2 ^ low
above n low count value =
    let power = pow-add 2 low count in
    ap (λ p. n / 2 ^ (low + count) * p + value % 2 ^ count * 2 ^ low + n % 2 ^ low) power ∙ omega arith

-- the field that was set
pub field-with_same : (n low count value : ℕ) → field (with_field n low count value) low count ≡ value % 2 ^ count
field-with_same n low count value =
    ap (λ m. field m low count) (above n low count value)
    ∙ ap (λ m. m % 2 ^ count) (shr_high (n / 2 ^ (low + count) * 2 ^ count + value % 2 ^ count) low (n % 2 ^ low) (mod-lt n (pow_pos low)))
    ∙ mod_low (n / 2 ^ (low + count)) count (value % 2 ^ count) (mod-lt value (pow_pos count))

-- what two numbers with the same low bits have there
field-from_low : (m n low count all : ℕ) → m % 2 ^ all ≡ n % 2 ^ all → count + low ≤ all → field m low count ≡ field n low count
field-from_low m n low count all e h =
    sym (field_of m count low)
    ∙ ap (λ k. k / 2 ^ low) (sym (mod-narrow m all (count + low) h) ∙ ap (λ k. k % 2 ^ (count + low)) e ∙ mod-narrow n all (count + low) h)
    ∙ field_of n count low

-- a field below it
pub field-with_below : (n low count value other_low other_count : ℕ) → other_low + other_count ≤ low → field (with_field n low count value) other_low other_count ≡ field n other_low other_count
field-with_below n low count value other_low other_count h =
    let same = ap (λ m. m % 2 ^ low) (above n low count value) ∙ mod_low (n / 2 ^ (low + count) * 2 ^ count + value % 2 ^ count) low (n % 2 ^ low) (mod-lt n (pow_pos low)) in
    field-from_low (with_field n low count value) n other_low other_count low same (omega arith)

-- the bits from the end of the field on
high-with_field : (n low count value : ℕ) → with_field n low count value / 2 ^ (low + count) ≡ n / 2 ^ (low + count)
high-with_field n low count value =
    let within = mul-add-lt (value % 2 ^ count) (2 ^ low) (n % 2 ^ low) (2 ^ count) (mod-lt value (pow_pos count)) (mod-lt n (pow_pos low)) in
    let power = pow-add 2 low count in
    let sum : with_field n low count value ≡ n / 2 ^ (low + count) * 2 ^ (low + count) + (value % 2 ^ count * 2 ^ low + n % 2 ^ low) = omega arith in
    ap (λ m. m / 2 ^ (low + count)) sum ∙ shr_high (n / 2 ^ (low + count)) (low + count) (value % 2 ^ count * 2 ^ low + n % 2 ^ low) (omega arith)

shr-from_high : (m n low other : ℕ) → m / 2 ^ low ≡ n / 2 ^ low → low ≤ other → m / 2 ^ other ≡ n / 2 ^ other
shr-from_high m n low other e h =
    let whole : low + (other - low) ≡ other = omega arith in
    ap (λ k. m / 2 ^ k) (sym whole) ∙ sym (shr-shr m low (other - low)) ∙ ap (λ k. k / 2 ^ (other - low)) e ∙ shr-shr n low (other - low) ∙ ap (λ k. n / 2 ^ k) whole

-- a field above it
pub field-with_above : (n low count value other_low other_count : ℕ) → low + count ≤ other_low → field (with_field n low count value) other_low other_count ≡ field n other_low other_count
field-with_above n low count value other_low other_count h =
    ap (λ k. k % 2 ^ other_count) (shr-from_high (with_field n low count value) n (low + count) other_low (high-with_field n low count value) h)

-- it stays within its width
pub with_field-lt : (n low count value width : ℕ) → low + count ≤ width → n < 2 ^ width → with_field n low count value < 2 ^ width
with_field-lt n low count value width h below =
    let rest = width - (low + count) in
    let whole : low + count + rest ≡ width = omega arith in
    let power = ap (λ k. 2 ^ k) (sym whole) ∙ pow-add 2 (low + count) rest in
    let some = pow_pos (low + count) in
    let within = mul-add-lt (value % 2 ^ count) (2 ^ low) (n % 2 ^ low) (2 ^ count) (mod-lt value (pow_pos count)) (mod-lt n (pow_pos low)) in
    let joined = pow-add 2 low count in
    let high : n / 2 ^ (low + count) < 2 ^ rest = div_below n (2 ^ (low + count)) (2 ^ rest) some (omega arith) in
    let sum = mul-add-lt (n / 2 ^ (low + count)) (2 ^ (low + count)) (value % 2 ^ count * 2 ^ low + n % 2 ^ low) (2 ^ rest) high (omega arith) in
    omega arith

-- a field of a field
pub field-in_field : (n low count inner one : ℕ) → inner + one ≤ count → field (field n low count) inner one ≡ field n (low + inner) one
field-in_field n low count inner one h =
    sym (field_of (n / 2 ^ low % 2 ^ count) one inner)
    ∙ ap (λ k. k / 2 ^ inner) (mod-narrow (n / 2 ^ low) count (one + inner) (omega arith))
    ∙ field_of (n / 2 ^ low) one inner
    ∙ ap (λ k. k % 2 ^ one) (shr-shr n low inner)

-- a field by its lowest bits and the rest
pub field-split : (n low first rest : ℕ) → field n low (first + rest) ≡ field n low first + 2 ^ first * field n (low + first) rest
field-split n low first rest =
    let turned : first + rest ≡ rest + first = omega arith in
    ap (λ k. n / 2 ^ low % 2 ^ k) turned
    ∙ mod-pow-add (n / 2 ^ low) rest first
    ∙ ap (λ k. k % 2 ^ rest * 2 ^ first + n / 2 ^ low % 2 ^ first) (shr-shr n low first)
    ∙ omega arith

-- two numbers with the same fields of one width
pub same_fields : (m n width count : ℕ) → ((j : ℕ) → j < count → field m (j * width) width ≡ field n (j * width) width) → m % 2 ^ (count * width) ≡ n % 2 ^ (count * width)
same_fields m n width zero same =
    let none : zero * width ≡ 0 = omega arith in
    let one : m % 2 ^ 0 ≡ n % 2 ^ 0 = omega arith in
    ap (λ k. m % 2 ^ k) none ∙ one ∙ ap (λ k. n % 2 ^ k) (sym none)
same_fields m n width (suc count) same =
    let more : suc count * width ≡ width + count * width = omega arith in
    let fewer = same_fields m n width count (λ j h. same j (omega (arith, h))) in
    ap (λ k. m % 2 ^ k) more
    ∙ mod-pow-add m width (count * width)
    ∙ (λ i. same count (omega arith) i * 2 ^ (count * width) + fewer i)
    ∙ sym (mod-pow-add n width (count * width))
    ∙ ap (λ k. n % 2 ^ k) (sym more)
