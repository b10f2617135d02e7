-- Groups of registers and the places of their elements.
use Rattle.std.proofs.Common.{◌≡◌, ℕ, zero, suc, ◌+◌, ◌-◌, ◌*◌, ◌/◌, ◌^◌, ◌<◌, ◌≤◌, ⊎_elim, Bool, true, false, IsTrue, if◌then◌else◌, nat_lt, refl, sym, ap, ◌∙◌, arith, pow_pos, pow_mono}
use Rattle.std.proofs.lemmas.Bool.{cases_lt, cases_Bool}
use Rattle.std.proofs.lemmas.Bool.Decides.{nat_tests}
use Rattle.std.proofs.lemmas.Nat.{pow-add, pow_below, div_below}
use Rattle.std.proofs.Math.Nat.{mul-div_cancel, mul-le-mul_right, div-mul-le_self, le_of_mul-le-mul_right}
use Rattle.vx_base.specs.Options.{is_register_length}
use Rattle.vx_vstate.specs.Vtype.{vlmul, vsew, sew, lmul_eighths, vlmax, is_vtype}
use Rattle.vx_vstate.specs.Groups.{emul_eighths, is_group_size, registers_of_group}
use Rattle.vx_vstate.specs.Registers.{words_of_register, element_word, is_byte_width}
use Rattle.vx_vstate.proofs.Bytes.{by_width}

-- ---- the range of SEW, of LMUL and of VLMAX

vsew-le : (vtype : ℕ) → IsTrue (is_vtype vtype) → vsew vtype ≤ 3
vsew-le vtype h = grind (arith, nat_tests, h)

width_of : (field : ℕ) → field ≤ 3 → IsTrue (is_byte_width (8 * 2 ^ field))
width_of zero h = refl
width_of (suc zero) h = refl
width_of (suc (suc zero)) h = refl
width_of (suc (suc (suc zero))) h = refl
width_of (suc (suc (suc (suc n)))) h = absurd (omega (arith, h))

pub sew-width : (vtype : ℕ) → IsTrue (is_vtype vtype) → IsTrue (is_byte_width (sew vtype))
sew-width vtype h = width_of (vsew vtype) (vsew-le vtype h)

sew-power : (vtype : ℕ) → sew vtype ≡ 2 ^ (vsew vtype + 3)
sew-power vtype = let e : 2 ^ (vsew vtype + 3) ≡ 2 ^ vsew vtype * 8 = pow-add 2 (vsew vtype) 3 in omega arith

lmul-power : (vtype : ℕ) → (k : ℕ) × ((lmul_eighths vtype ≡ 2 ^ k) × (k ≤ 6))
lmul-power vtype = ⊎_elim whole part (cases_Bool (nat_lt (vlmul vtype) 4))
  where
    Goal : Type 0
    Goal = (k : ℕ) × ((lmul_eighths vtype ≡ 2 ^ k) × (k ≤ 6))

    choice : Bool → ℕ
    choice b = if b then 8 * 2 ^ vlmul vtype else 2 ^ (vlmul vtype - 5)

    whole : nat_lt (vlmul vtype) 4 ≡ true → Goal
    whole e =
        let power : 2 ^ (vlmul vtype + 3) ≡ 2 ^ vlmul vtype * 8 = pow-add 2 (vlmul vtype) 3 in
        let turned : 8 * 2 ^ vlmul vtype ≡ 2 ^ (vlmul vtype + 3) = omega arith in
        let small : vlmul vtype < 4 = grind (arith, nat_tests, e) in
        (vlmul vtype + 3, (ap choice e ∙ turned, omega arith))

    part : nat_lt (vlmul vtype) 4 ≡ false → Goal
    part e = (vlmul vtype - 5, (ap choice e, omega arith))

pub lmul-range : (vtype : ℕ) → (1 ≤ lmul_eighths vtype) × (lmul_eighths vtype ≤ 64)
lmul-range vtype =
    let power = lmul-power vtype in
    let some = pow_pos power.0 in
    let most : 2 ^ power.0 ≤ 2 ^ 6 = pow_mono power.1.1 in
    (omega (arith, power.1.0), omega (arith, power.1.0))

pub vlmax-le : (vlen vtype : ℕ) → vlmax vlen vtype ≤ vlen
vlmax-le vlen vtype =
    let range = lmul-range vtype in
    let some = pow_pos (vsew vtype) in
    let wide : lmul_eighths vtype ≤ 8 * sew vtype = omega (arith, range.1) in
    let product = mul-le-mul_right {m = lmul_eighths vtype} {n = 8 * sew vtype} vlen wide in
    let back = div-mul-le_self (lmul_eighths vtype * vlen) (8 * sew vtype) in
    le_of_mul-le-mul_right {m = vlmax vlen vtype} {n = vlen} {k = 8 * sew vtype} (omega arith) (omega arith)

-- ---- EMUL is a power of two

quotient-power : (n b : ℕ) → 1 ≤ 2 ^ n / 2 ^ b → (m : ℕ) × ((2 ^ n / 2 ^ b ≡ 2 ^ m) × (2 ^ m * 2 ^ b ≡ 2 ^ n))
quotient-power n b h = ⊎_elim less more (cases_lt n b)
  where
    Goal : Type 0
    Goal = (m : ℕ) × ((2 ^ n / 2 ^ b ≡ 2 ^ m) × (2 ^ m * 2 ^ b ≡ 2 ^ n))

    less : n < b → Goal
    less k =
        let below = pow_below n b k in
        let none : 2 ^ n / 2 ^ b < 1 = div_below (2 ^ n) (2 ^ b) 1 (pow_pos b) (omega arith) in
        absurd (omega (arith, h))

    more : b ≤ n → Goal
    more k =
        let whole : n - b + b ≡ n = omega arith in
        let product : 2 ^ (n - b) * 2 ^ b ≡ 2 ^ n = sym (pow-add 2 (n - b) b) ∙ ap (λ j. 2 ^ j) whole in
        (n - b, (ap (λ p. p / 2 ^ b) (sym product) ∙ mul-div_cancel (2 ^ (n - b)) (pow_pos b), product))

width-power : (width : ℕ) → IsTrue (is_byte_width width) → (k : ℕ) × (width ≡ 2 ^ k)
width-power width h = by_width (λ w. (k : ℕ) × (w ≡ 2 ^ k)) width (3, refl) (4, refl) (5, refl) (6, refl) h

pub record IsEmul (vtype width : ℕ) : Type 0 where
  pub power : ℕ
  pub is : emul_eighths vtype width ≡ 2 ^ power
  pub exact : emul_eighths vtype width * sew vtype ≡ width * lmul_eighths vtype

emul-power : (vtype width : ℕ) → IsTrue (is_byte_width width) → 1 ≤ emul_eighths vtype width → IsEmul vtype width
emul-power vtype width h some =
    let wide = width-power width h in
    let lmul = lmul-power vtype in
    let b = vsew vtype + 3 in
    let product : width * lmul_eighths vtype ≡ 2 ^ (wide.0 + lmul.0) = (λ i. wide.1 i * lmul.1.0 i) ∙ sym (pow-add 2 wide.0 lmul.0) in
    let same : emul_eighths vtype width ≡ 2 ^ (wide.0 + lmul.0) / 2 ^ b = λ i. product i / sew-power vtype i in
    let quotient = quotient-power (wide.0 + lmul.0) b (omega (arith, same, some)) in
    record {
      power = quotient.0;
      is = same ∙ quotient.1.0;
      exact = (λ i. (same ∙ quotient.1.0) i * sew-power vtype i) ∙ quotient.1.1 ∙ sym product;
    }

-- ---- where the elements end

ends : (index width sew lmul vlen emul words : ℕ) → 0 < sew → suc index * (8 * sew) ≤ lmul * vlen → emul * sew ≡ width * lmul → vlen ≡ 64 * words → suc index * width ≤ emul * (8 * words)
ends index width sew lmul vlen emul words some below exact whole =
    let times = mul-le-mul_right {m = suc index * (8 * sew)} {n = lmul * vlen} width below in
    let bits : lmul * vlen * width ≡ emul * (8 * words) * (8 * sew) =
    (let e : lmul * vlen * width ≡ width * lmul * vlen = omega arith in e) ∙ (λ i. sym exact i * whole i) ∙ omega arith in
    le_of_mul-le-mul_right {m = suc index * width} {n = emul * (8 * words)} {k = 8 * sew} (omega arith) (omega arith)

within_registers : (bits emul power words : ℕ) → emul ≡ 2 ^ power → 0 < words → bits < emul * (8 * words) → bits / 64 < registers_of_group emul * words
within_registers bits emul power words e some h = ⊎_elim part whole (cases_lt power 3)
  where
    part : power < 3 → bits / 64 < registers_of_group emul * words
    part k =
        let small : power ≤ 2 = omega arith in
        let most : 2 ^ power ≤ 2 ^ 2 = pow_mono small in
        let four : emul ≤ 4 = omega arith in
        let product = mul-le-mul_right {m = emul} {n = 4} (8 * words) four in
        let one : 1 ≤ registers_of_group emul = omega arith in
        let group = mul-le-mul_right {m = 1} {n = registers_of_group emul} words one in
        omega arith

    whole : 3 ≤ power → bits / 64 < registers_of_group emul * words
    whole k =
        let rest : power - 3 + 3 ≡ power = omega arith in
        let product : 2 ^ power ≡ 2 ^ (power - 3) * 8 = ap (λ j. 2 ^ j) (sym rest) ∙ pow-add 2 (power - 3) 3 in
        let eight : emul ≡ emul / 8 * 8 = omega arith in
        let all : emul * (8 * words) ≡ emul / 8 * words * 64 = ap (λ n. n * (8 * words)) eight ∙ omega arith in
        let more : emul / 8 ≤ registers_of_group emul = omega arith in
        let group = mul-le-mul_right {m = emul / 8} {n = registers_of_group emul} words more in
        let below = div_below bits 64 (emul / 8 * words) (omega arith) (omega arith) in
        omega arith

pub element-in_group : (vlen vtype width index : ℕ) → IsTrue (is_register_length vlen) → IsTrue (is_byte_width width) → 1 ≤ emul_eighths vtype width → index < vlmax vlen vtype → element_word width index < registers_of_group (emul_eighths vtype width) * words_of_register vlen
element-in_group vlen vtype width index h k some below =
    let emul = emul-power vtype width k some in
    let words : vlen ≡ 64 * words_of_register vlen = grind (arith, nat_tests, h) in
    let there : 0 < words_of_register vlen = grind (arith, nat_tests, h) in
    let p = pow_pos (vsew vtype) in
    let wide : 0 < width = grind (arith, nat_tests, k) in
    let next : suc index ≤ vlmax vlen vtype = omega arith in
    let times = mul-le-mul_right {m = suc index} {n = vlmax vlen vtype} (8 * sew vtype) next in
    let back = div-mul-le_self (lmul_eighths vtype * vlen) (8 * sew vtype) in
    let positive : 0 < sew vtype = omega arith in
    let end = ends index width (sew vtype) (lmul_eighths vtype) vlen (emul_eighths vtype width) (words_of_register vlen) positive (omega arith) emul.exact words in
    let product : suc index * width ≡ index * width + width = omega arith in
    within_registers (index * width) (emul_eighths vtype width) emul.power (words_of_register vlen) emul.is there (omega arith)

pub mask-in_register : (vlen vtype index : ℕ) → IsTrue (is_register_length vlen) → index < vlmax vlen vtype → element_word 1 index < words_of_register vlen
mask-in_register vlen vtype index h below =
    let words : vlen ≡ 64 * words_of_register vlen = grind (arith, nat_tests, h) in
    let most = vlmax-le vlen vtype in
    omega arith

size_of : (power : ℕ) → power ≤ 6 → IsTrue (is_group_size (registers_of_group (2 ^ power)))
size_of zero h = refl
size_of (suc zero) h = refl
size_of (suc (suc zero)) h = refl
size_of (suc (suc (suc zero))) h = refl
size_of (suc (suc (suc (suc zero)))) h = refl
size_of (suc (suc (suc (suc (suc zero))))) h = refl
size_of (suc (suc (suc (suc (suc (suc zero)))))) h = refl
size_of (suc (suc (suc (suc (suc (suc (suc n))))))) h = absurd (omega (arith, h))

pub group-size : (vtype width : ℕ) → IsTrue (is_byte_width width) → 1 ≤ emul_eighths vtype width → emul_eighths vtype width ≤ 64 → IsTrue (is_group_size (registers_of_group (emul_eighths vtype width)))
group-size vtype width h some most =
    let emul = emul-power vtype width h some in
    ⊎_elim
    (λ small. let within : emul.power ≤ 6 = omega arith in ap (λ n. is_group_size (registers_of_group n)) emul.is ∙ size_of emul.power within)
    (λ large. let least : 2 ^ 7 ≤ 2 ^ emul.power = pow_mono large in absurd (omega (arith, emul.is)))
    (cases_lt emul.power 7)
