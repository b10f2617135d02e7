-- What the elements below one load is apart from what those from it on are read from: the mask and the indices.
use Rattle.std.proofs.Common.{◌≡◌, ◌≢◌, ℕ, zero, suc, ◌+◌, ◌-◌, ◌*◌, ◌/◌, ◌%◌, ◌^◌, ◌<◌, ◌≤◌, Bool, true, false, not, ◌&&◌, ◌||◌, IsTrue, nat_eq, leb, ltb, max, if◌then◌else◌, sym, ap, subst, inl, inr, ⊎_elim, arith}
use Rattle.std.proofs.lemmas.Bool.{not-false, and_parts, or_cases, and_cases, eqb-true, ltb-true, ltb-false, leb-true, cases_eq, cases_lt}
use Rattle.std.proofs.lemmas.Nat.{mod_below}
use Rattle.std.proofs.Math.Nat.{mul-le-mul_left, mul-le-mul_right}
use Rattle.vx_base.specs.Options.{is_register_length}
use Rattle.vx_vstate.specs.Groups.{emul_eighths, registers_of_group, is_group_size}
use Rattle.vx_vstate.specs.Registers.{words_of_register, element_word, is_byte_width, AreApart}
use Rattle.vx_vstate.specs.Vtype.{sew, vlmul, lmul_eighths, vlmax}

-- ---- numbers

pub by_size : (P : ℕ → Type 0) (n : ℕ) → P 1 → P 2 → P 4 → P 8 → is_group_size n ≡ true → P n
by_size P n one two four eight h =
    ⊎_elim
    (λ t. ⊎_elim
    (λ t. ⊎_elim
    (λ t. subst P (sym (eqb-true n 1 t)) one)
    (λ t. subst P (sym (eqb-true n 2 t)) two)
    (or_cases (nat_eq n 1) (nat_eq n 2) t))
    (λ t. subst P (sym (eqb-true n 4 t)) four)
    (or_cases (nat_eq n 1 || nat_eq n 2) (nat_eq n 4) t))
    (λ t. subst P (sym (eqb-true n 8 t)) eight)
    (or_cases (nat_eq n 1 || nat_eq n 2 || nat_eq n 4) (nat_eq n 8) h)

pub by_width : (P : ℕ → Type 0) (n : ℕ) → P 8 → P 16 → P 32 → P 64 → is_byte_width n ≡ true → P n
by_width P n one two four eight h =
    ⊎_elim
    (λ t. ⊎_elim
    (λ t. ⊎_elim
    (λ t. subst P (sym (eqb-true n 8 t)) one)
    (λ t. subst P (sym (eqb-true n 16 t)) two)
    (or_cases (nat_eq n 8) (nat_eq n 16) t))
    (λ t. subst P (sym (eqb-true n 32 t)) four)
    (or_cases (nat_eq n 8 || nat_eq n 16) (nat_eq n 32) t))
    (λ t. subst P (sym (eqb-true n 64 t)) eight)
    (or_cases (nat_eq n 8 || nat_eq n 16 || nat_eq n 32) (nat_eq n 64) h)

-- LMUL in eighths, by vlmul
abbrev eighths_by : ℕ → ℕ
eighths_by n = if ltb n 4 then 8 * 2 ^ n else 2 ^ (n - 5)

by_lmul : (P : ℕ → Type 0) (n : ℕ) → n < 8 → P 1 → P 2 → P 4 → P 8 → P 16 → P 32 → P 64 → P (eighths_by n)
by_lmul P zero l a b c d e f g = d
by_lmul P (suc zero) l a b c d e f g = e
by_lmul P (suc (suc zero)) l a b c d e f g = f
by_lmul P (suc (suc (suc zero))) l a b c d e f g = g
by_lmul P (suc (suc (suc (suc zero)))) l a b c d e f g = a
by_lmul P (suc (suc (suc (suc (suc zero))))) l a b c d e f g = a
by_lmul P (suc (suc (suc (suc (suc (suc zero)))))) l a b c d e f g = b
by_lmul P (suc (suc (suc (suc (suc (suc (suc zero))))))) l a b c d e f g = c
by_lmul P (suc (suc (suc (suc (suc (suc (suc (suc n)))))))) l a b c d e f g = absurd (omega (arith, l))

pub by_eighths : (P : ℕ → Type 0) (vtype : ℕ) → P 1 → P 2 → P 4 → P 8 → P 16 → P 32 → P 64 → P (lmul_eighths vtype)
by_eighths P vtype a b c d e f g = by_lmul P (vlmul vtype) (mod_below _ (2 ^ 3) (omega arith)) a b c d e f g

-- ---- places

-- a word of a group lies before those behind the group, and behind those before it
before : (r n q p x y : ℕ) → r + n ≤ q → x < n * p → r * p + x ≢ q * p + y
before r n q p x y h l e = let ends = mul-le-mul_right p h in omega arith

-- an element that ends before another begins lies in another word or ends before it in that word
lies-before : (r q p x y W : ℕ) → r * p + x / 64 ≡ q * p + y / 64 → 64 * (r * p) + x + W ≤ 64 * (q * p) + y → x % 64 + W ≤ y % 64
lies-before r q p x y W e h = omega arith

apart-before : (vlen r W i q w j : ℕ) → 64 * (r * words_of_register vlen) + i * W + W ≤ 64 * (q * words_of_register vlen) + j * w → AreApart vlen r W i q w j
apart-before vlen r W i q w j h =
    ⊎_elim
    (λ e. inr (inl (lies-before r q (words_of_register vlen) (i * W) (j * w) W e h)))
    (λ ne. inl ne)
    (cases_eq (r * words_of_register vlen + element_word W i) (q * words_of_register vlen + element_word w j))

-- an element of a register behind v0 is apart from each bit of the mask
pub apart-from-mask : (vlen r W i j : ℕ) → 1 ≤ r → element_word 1 j < words_of_register vlen → AreApart vlen r W i 0 1 j
apart-from-mask vlen r W i j some l =
    let within : element_word 1 j < 1 * words_of_register vlen = omega arith in
    let one : 0 + 1 ≤ r = some in
    inl (λ e. before 0 1 r (words_of_register vlen) (element_word 1 j) (element_word W i) one within (sym e))

-- ---- the destination on the indices

-- one group, and elements no wider than the indices
at-lowest : (r q p W w i j : ℕ) → r ≡ q → W ≤ w → i < j → 64 * (r * p) + i * W + W ≤ 64 * (q * p) + j * w
at-lowest r q p W w i j e h l =
    let next : suc i ≤ j = l in
    let ends = mul-le-mul_right W next in
    let wider = mul-le-mul_left j h in
    let same = ap (λ n. n * p) e in
    omega arith

-- the indices at the destination's highest part
abbrev AtHighest : (L W w : ℕ) → Type 0
AtHighest L W w = (vlen i j : ℕ) → vlen % 64 ≡ 0 → w < W → 8 ≤ w * L / W → j < L * vlen / (8 * W) → i < j → i * W + W + max 1 (w * L / W / 8) * vlen ≤ max 1 (W * L / W / 8) * vlen + j * w

narrower : (L W w : ℕ) → W ≤ w → AtHighest L W w
narrower L W w h vlen i j whole less some inside later = absurd (omega (arith, less))

highest-16-8 : (vtype : ℕ) → AtHighest (lmul_eighths vtype) 16 8
highest-16-8 vtype =
    by_eighths (λ L. AtHighest L 16 8) vtype
    (λ vlen i j whole less some inside later. omega arith)
    (λ vlen i j whole less some inside later. omega arith)
    (λ vlen i j whole less some inside later. omega arith)
    (λ vlen i j whole less some inside later. omega arith)
    (λ vlen i j whole less some inside later. omega arith)
    (λ vlen i j whole less some inside later. omega arith)
    (λ vlen i j whole less some inside later. omega arith)

highest-32-8 : (vtype : ℕ) → AtHighest (lmul_eighths vtype) 32 8
highest-32-8 vtype =
    by_eighths (λ L. AtHighest L 32 8) vtype
    (λ vlen i j whole less some inside later. omega arith)
    (λ vlen i j whole less some inside later. omega arith)
    (λ vlen i j whole less some inside later. omega arith)
    (λ vlen i j whole less some inside later. omega arith)
    (λ vlen i j whole less some inside later. omega arith)
    (λ vlen i j whole less some inside later. omega arith)
    (λ vlen i j whole less some inside later. omega arith)

highest-32-16 : (vtype : ℕ) → AtHighest (lmul_eighths vtype) 32 16
highest-32-16 vtype =
    by_eighths (λ L. AtHighest L 32 16) vtype
    (λ vlen i j whole less some inside later. omega arith)
    (λ vlen i j whole less some inside later. omega arith)
    (λ vlen i j whole less some inside later. omega arith)
    (λ vlen i j whole less some inside later. omega arith)
    (λ vlen i j whole less some inside later. omega arith)
    (λ vlen i j whole less some inside later. omega arith)
    (λ vlen i j whole less some inside later. omega arith)

highest-64-8 : (vtype : ℕ) → AtHighest (lmul_eighths vtype) 64 8
highest-64-8 vtype =
    by_eighths (λ L. AtHighest L 64 8) vtype
    (λ vlen i j whole less some inside later. omega arith)
    (λ vlen i j whole less some inside later. omega arith)
    (λ vlen i j whole less some inside later. omega arith)
    (λ vlen i j whole less some inside later. omega arith)
    (λ vlen i j whole less some inside later. omega arith)
    (λ vlen i j whole less some inside later. omega arith)
    (λ vlen i j whole less some inside later. omega arith)

highest-64-16 : (vtype : ℕ) → AtHighest (lmul_eighths vtype) 64 16
highest-64-16 vtype =
    by_eighths (λ L. AtHighest L 64 16) vtype
    (λ vlen i j whole less some inside later. omega arith)
    (λ vlen i j whole less some inside later. omega arith)
    (λ vlen i j whole less some inside later. omega arith)
    (λ vlen i j whole less some inside later. omega arith)
    (λ vlen i j whole less some inside later. omega arith)
    (λ vlen i j whole less some inside later. omega arith)
    (λ vlen i j whole less some inside later. omega arith)

highest-64-32 : (vtype : ℕ) → AtHighest (lmul_eighths vtype) 64 32
highest-64-32 vtype =
    by_eighths (λ L. AtHighest L 64 32) vtype
    (λ vlen i j whole less some inside later. omega arith)
    (λ vlen i j whole less some inside later. omega arith)
    (λ vlen i j whole less some inside later. omega arith)
    (λ vlen i j whole less some inside later. omega arith)
    (λ vlen i j whole less some inside later. omega arith)
    (λ vlen i j whole less some inside later. omega arith)
    (λ vlen i j whole less some inside later. omega arith)

highest-8 : (vtype w : ℕ) → is_byte_width w ≡ true → AtHighest (lmul_eighths vtype) 8 w
highest-8 vtype w h = by_width (AtHighest (lmul_eighths vtype) 8) w (narrower (lmul_eighths vtype) 8 8 (omega arith)) (narrower (lmul_eighths vtype) 8 16 (omega arith)) (narrower (lmul_eighths vtype) 8 32 (omega arith)) (narrower (lmul_eighths vtype) 8 64 (omega arith)) h

highest-16 : (vtype w : ℕ) → is_byte_width w ≡ true → AtHighest (lmul_eighths vtype) 16 w
highest-16 vtype w h = by_width (AtHighest (lmul_eighths vtype) 16) w (highest-16-8 vtype) (narrower (lmul_eighths vtype) 16 16 (omega arith)) (narrower (lmul_eighths vtype) 16 32 (omega arith)) (narrower (lmul_eighths vtype) 16 64 (omega arith)) h

highest-32 : (vtype w : ℕ) → is_byte_width w ≡ true → AtHighest (lmul_eighths vtype) 32 w
highest-32 vtype w h = by_width (AtHighest (lmul_eighths vtype) 32) w (highest-32-8 vtype) (highest-32-16 vtype) (narrower (lmul_eighths vtype) 32 32 (omega arith)) (narrower (lmul_eighths vtype) 32 64 (omega arith)) h

highest-64 : (vtype w : ℕ) → is_byte_width w ≡ true → AtHighest (lmul_eighths vtype) 64 w
highest-64 vtype w h = by_width (AtHighest (lmul_eighths vtype) 64) w (highest-64-8 vtype) (highest-64-16 vtype) (highest-64-32 vtype) (narrower (lmul_eighths vtype) 64 64 (omega arith)) h

at-highest : (vtype W w : ℕ) → is_byte_width W ≡ true → is_byte_width w ≡ true → AtHighest (lmul_eighths vtype) W w
at-highest vtype W w h g = by_width (λ n. AtHighest (lmul_eighths vtype) n w) W (highest-8 vtype w g) (highest-16 vtype w g) (highest-32 vtype w g) (highest-64 vtype w g) h

-- groups of one size that meet are one
one-group : (n r q : ℕ) → is_group_size n ≡ true → r % n ≡ 0 → q % n ≡ 0 → r < q + n → q < r + n → r ≡ q
one-group n r q h a b l m =
    by_size (λ n. r % n ≡ 0 → q % n ≡ 0 → r < q + n → q < r + n → r ≡ q) n
    (λ a b l m. omega arith) (λ a b l m. omega arith) (λ a b l m. omega arith) (λ a b l m. omega arith) h a b l m

-- ---- what legality says

module _ (vtype rd q nf w : ℕ) where
  -- the registers of a field and of the indices
  abbrev field_registers : ℕ
  field_registers = registers_of_group (emul_eighths vtype (sew vtype))

  abbrev index_registers : ℕ
  index_registers = registers_of_group (emul_eighths vtype w)

  abbrev do_meet : Bool
  do_meet = ltb rd (q + 1 * index_registers) && ltb q (rd + (nf + 1) * field_registers)

  abbrev at_highest : Bool
  at_highest = ltb w (sew vtype) && leb 8 (emul_eighths vtype w) && nat_eq (q + 1 * index_registers) (rd + (nf + 1) * field_registers)

  abbrev do_fit : Bool
  do_fit = nat_eq (sew vtype) w || (ltb (sew vtype) w && nat_eq rd q) || at_highest

  -- the destination of an indexed load and its indices
  pub record AreKeptApart : Type 0 where
    pub width : is_byte_width w ≡ true
    pub own_width : is_byte_width (sew vtype) ≡ true
    pub sized : is_group_size field_registers ≡ true
    pub aligned : rd % field_registers ≡ 0
    pub aligned_indices : q % index_registers ≡ 0
    pub fits : (do_meet && not do_fit) ≡ false
    pub alone : (ltb 0 nf && do_meet) ≡ false

  -- element i of field f, and a later index
  module _ (k : AreKeptApart) (vlen f i j : ℕ) (length_in_range : IsTrue (is_register_length vlen)) (field : f < nf + 1) (later : i < j) (last : j < vlmax vlen vtype) (within : element_word (sew vtype) i < field_registers * words_of_register vlen) (index_within : element_word w j < index_registers * words_of_register vlen) where
    abbrev Apart : Type 0
    Apart = AreApart vlen (rd + f * field_registers) (sew vtype) i q w j

    abbrev p : ℕ
    p = words_of_register vlen

    length-in-words : vlen ≡ 64 * p
    length-in-words =
        ⊎_elim
        (λ a. ⊎_elim
        (λ b. ⊎_elim
        (λ c. ⊎_elim
        (λ d. let e = eqb-true vlen 128 d in omega arith)
        (λ d. let e = eqb-true vlen 256 d in omega arith)
        (or_cases (nat_eq vlen 128) (nat_eq vlen 256) c))
        (λ c. let e = eqb-true vlen 512 c in omega arith)
        (or_cases (nat_eq vlen 128 || nat_eq vlen 256) (nat_eq vlen 512) b))
        (λ b. let e = eqb-true vlen 1024 b in omega arith)
        (or_cases (nat_eq vlen 128 || nat_eq vlen 256 || nat_eq vlen 512) (nat_eq vlen 1024) a))
        (λ a. let e = eqb-true vlen 2048 a in omega arith)
        (or_cases (nat_eq vlen 128 || nat_eq vlen 256 || nat_eq vlen 512 || nat_eq vlen 1024) (nat_eq vlen 2048) length_in_range)

    indices-first : q + index_registers ≤ rd → Apart
    indices-first h =
        let ends : q + index_registers ≤ rd + f * field_registers = omega arith in
        inl (λ e. before q index_registers (rd + f * field_registers) p (element_word w j) (element_word (sew vtype) i) ends index_within (sym e))

    indices-last : rd + (nf + 1) * field_registers ≤ q → Apart
    indices-last h =
        let next : suc f ≤ nf + 1 = field in
        let fields = mul-le-mul_right field_registers next in
        let ends : rd + f * field_registers + field_registers ≤ q = omega arith in
        inl (before (rd + f * field_registers) field_registers q p (element_word (sew vtype) i) (element_word w j) ends within)

    not-met : do_meet ≡ false → Apart
    not-met h =
        ⊎_elim
        (λ e. let past = ltb-false rd (q + 1 * index_registers) e in indices-first (omega arith))
        (λ e. indices-last (ltb-false q (rd + (nf + 1) * field_registers) e))
        (and_cases (ltb rd (q + 1 * index_registers)) (ltb q (rd + (nf + 1) * field_registers)) h)

    -- of a row with one field
    ends-before : nf ≡ 0 → 64 * (rd * p) + i * sew vtype + sew vtype ≤ 64 * (q * p) + j * w → Apart
    ends-before one h =
        let first : f ≡ 0 = omega arith in
        let none : f * field_registers ≡ 0 * field_registers = ap (λ n. n * field_registers) first in
        let there : rd + f * field_registers ≡ rd = omega arith in
        subst (λ r. AreApart vlen r (sew vtype) i q w j) (sym there) (apart-before vlen rd (sew vtype) i q w j h)

    one-width : nf ≡ 0 → nat_eq (sew vtype) w ≡ true → Apart
    one-width one h = ⊎_elim (λ a. ⊎_elim (meeting a) indices-last-one (cases_lt q (rd + field_registers))) indices-first-one (cases_lt rd (q + field_registers))
      where
        same : sew vtype ≡ w
        same = eqb-true (sew vtype) w h

        registers : index_registers ≡ field_registers
        registers = ap (λ n. registers_of_group (emul_eighths vtype n)) (sym same)

        aligned : q % field_registers ≡ 0
        aligned = subst (λ n. q % n ≡ 0) registers k.aligned_indices

        meeting : rd < q + field_registers → q < rd + field_registers → Apart
        meeting a b =
            let wide : sew vtype ≤ w = omega (arith, same) in
            ends-before one (at-lowest rd q p (sew vtype) w i j (one-group field_registers rd q k.sized k.aligned aligned a b) wide later)

        indices-first-one : q + field_registers ≤ rd → Apart
        indices-first-one l = indices-first (omega (arith, l, registers))

        indices-last-one : rd + field_registers ≤ q → Apart
        indices-last-one l =
            let count : (nf + 1) * field_registers ≡ 1 * field_registers = ap (λ n. (n + 1) * field_registers) one in
            indices-last (omega arith)

    narrow : nf ≡ 0 → (ltb (sew vtype) w && nat_eq rd q) ≡ true → Apart
    narrow one h =
        let parts = and_parts (ltb (sew vtype) w) (nat_eq rd q) h in
        let less = ltb-true (sew vtype) w parts.0 in
        let wide : sew vtype ≤ w = omega arith in
        ends-before one (at-lowest rd q p (sew vtype) w i j (eqb-true rd q parts.1) wide later)

    wide : nf ≡ 0 → at_highest ≡ true → Apart
    wide one h =
        let parts = and_parts (ltb w (sew vtype) && leb 8 (emul_eighths vtype w)) (nat_eq (q + 1 * index_registers) (rd + (nf + 1) * field_registers)) h in
        let both = and_parts (ltb w (sew vtype)) (leb 8 (emul_eighths vtype w)) parts.0 in
        let less = ltb-true w (sew vtype) both.0 in
        let some = leb-true 8 (emul_eighths vtype w) both.1 in
        let ends = eqb-true (q + 1 * index_registers) (rd + (nf + 1) * field_registers) parts.1 in
        let count : (nf + 1) * field_registers ≡ 1 * field_registers = ap (λ n. (n + 1) * field_registers) one in
        let both_end : q + index_registers ≡ rd + field_registers = omega arith in
        let scaled : (q + index_registers) * p ≡ (rd + field_registers) * p = ap (λ n. n * p) both_end in
        let words = length-in-words in
        let whole : vlen % 64 ≡ 0 = omega arith in
        let top = at-highest vtype (sew vtype) w k.own_width k.width vlen i j whole less some last later in
        let indices : index_registers * vlen ≡ index_registers * (64 * p) = ap (λ n. index_registers * n) words in
        let fields : field_registers * vlen ≡ field_registers * (64 * p) = ap (λ n. field_registers * n) words in
        ends-before one (omega (arith, top, scaled, indices, fields))

    met : nf ≡ 0 → do_fit ≡ true → Apart
    met one h =
        ⊎_elim
        (λ a. ⊎_elim (one-width one) (narrow one) (or_cases (nat_eq (sew vtype) w) (ltb (sew vtype) w && nat_eq rd q) a))
        (wide one)
        (or_cases (nat_eq (sew vtype) w || (ltb (sew vtype) w && nat_eq rd q)) at_highest h)

    pub apart-from-index : Apart
    apart-from-index =
        ⊎_elim
        not-met
        (λ h. ⊎_elim
        (λ e. let few = ltb-false 0 nf e in met (omega arith) (not-false do_fit h))
        not-met
        (and_cases (ltb 0 nf) do_meet k.alone))
        (and_cases do_meet (not do_fit) k.fits)
