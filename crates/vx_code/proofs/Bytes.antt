-- Bytes of numbers.
use Rattle.std.proofs.Common.{◌≡◌, ℕ, zero, suc, ◌+◌, ◌-◌, ◌*◌, ◌/◌, ◌%◌, ◌^◌, ◌<◌, ◌≤◌, arith, eqb, true, ◌||◌, ◌⊎◌, inl, inr, ℤ, pos, negsuc, List, [], ◌∷◌, ◌++◌, append_assoc, append-nil, refl, sym, ap, ◌∙◌}
use Rattle.std.proofs.Math.Nat.{mod-lt, pow-le-pow_right}
use Rattle.std.proofs.lemmas.Bool.{or_cases, eqb-true}
use Rattle.std.proofs.lemmas.Nat.{one_shl, pow_pos}
use Rattle.std.specs.Int.{next_multiple_of}
use Rattle.vx_base.specs.Numbers.{reduced, little_endian}

first-byte : (k n : ℕ) → 0 < k → little_endian k n ≡ n % 256 ∷ little_endian (k - 1) (n / 256)
first-byte zero n some = absurd (omega (arith, some))
first-byte (suc k) n some = let e : suc k - 1 ≡ k = omega arith in rw e refl

pub byte-on : (count counter n : ℕ) (old new whole : List ℕ) → counter < count → new ≡ old ++ n % 256 ∷ [] → old ++ little_endian (count - counter) n ≡ whole → new ++ little_endian (count - (counter + 1)) (n / 256) ≡ whole
byte-on count counter n old new whole more pushed before =
    let left : count - counter - 1 ≡ count - (counter + 1) = omega arith in
    ap (λ (l : List ℕ). l ++ little_endian (count - (counter + 1)) (n / 256)) pushed
    ∙ append_assoc old (n % 256 ∷ []) (little_endian (count - (counter + 1)) (n / 256))
    ∙ ap (λ (k : ℕ). old ++ n % 256 ∷ little_endian k (n / 256)) (sym left)
    ∙ ap (λ (l : List ℕ). old ++ l) (sym (first-byte (count - counter) n (omega (arith, more))))
    ∙ before

pub byte-over : (count counter n : ℕ) (old whole : List ℕ) → count ≤ counter → old ++ little_endian (count - counter) n ≡ whole → old ≡ whole
byte-over count counter n old whole past before =
    let none : count - counter ≡ 0 = omega (arith, past) in
    sym (append-nil old) ∙ ap (λ (k : ℕ). old ++ little_endian k n) (sym none) ∙ before

-- a number of 64 bits has the bytes of each smaller width
cut-pos : (k n : ℕ) → (k ≡ 1) ⊎ (k ≡ 2) ⊎ (k ≡ 4) ⊎ (k ≡ 8) → little_endian k (n % 2 ^ 64) ≡ little_endian k (n % 2 ^ (8 * k))
cut-pos k n (inl e) = rw e (λ j. (let h : n % 2 ^ 64 % 256 ≡ n % 2 ^ 8 % 256 = omega arith in h) j ∷ [])
cut-pos k n (inr (inl e)) = rw e (λ j. (let h : n % 2 ^ 64 % 256 ≡ n % 2 ^ 16 % 256 = omega arith in h) j ∷ (let h : n % 2 ^ 64 / 256 % 256 ≡ n % 2 ^ 16 / 256 % 256 = omega arith in h) j ∷ [])
cut-pos k n (inr (inr (inl e))) = rw e (λ j. (let h : n % 2 ^ 64 % 256 ≡ n % 2 ^ 32 % 256 = omega arith in h) j ∷ (let h : n % 2 ^ 64 / 256 % 256 ≡ n % 2 ^ 32 / 256 % 256 = omega arith in h) j ∷ (let h : n % 2 ^ 64 / 256 / 256 % 256 ≡ n % 2 ^ 32 / 256 / 256 % 256 = omega arith in h) j ∷ (let h : n % 2 ^ 64 / 256 / 256 / 256 % 256 ≡ n % 2 ^ 32 / 256 / 256 / 256 % 256 = omega arith in h) j ∷ [])
cut-pos k n (inr (inr (inr e))) = rw e refl

-- the same of a number below that
again : (k n : ℕ) → n < 2 ^ 64 → (k ≡ 1) ⊎ (k ≡ 2) ⊎ (k ≡ 4) ⊎ (k ≡ 8) → little_endian k n ≡ little_endian k (n % 2 ^ (8 * k))
again k n below w =
    let same : n % 2 ^ 64 ≡ n = omega (arith, below) in
    ap (little_endian k) (sym same) ∙ cut-pos k n w

mod-of-mod : (k : ℕ) (z : ℤ) → (k ≡ 1) ⊎ (k ≡ 2) ⊎ (k ≡ 4) ⊎ (k ≡ 8) → reduced 64 z % 2 ^ (8 * k) ≡ reduced (8 * k) z
mod-of-mod k (pos n) (inl e) = rw e (omega arith)
mod-of-mod k (pos n) (inr (inl e)) = rw e (omega arith)
mod-of-mod k (pos n) (inr (inr (inl e))) = rw e (omega arith)
mod-of-mod k (pos n) (inr (inr (inr e))) = rw e (omega arith)
mod-of-mod k (negsuc n) (inl e) = rw e (omega arith)
mod-of-mod k (negsuc n) (inr (inl e)) = rw e (omega arith)
mod-of-mod k (negsuc n) (inr (inr (inl e))) = rw e (omega arith)
mod-of-mod k (negsuc n) (inr (inr (inr e))) = rw e (omega arith)

reduced-below : (z : ℤ) → reduced 64 z < 2 ^ 64
reduced-below (pos n) = omega arith
reduced-below (negsuc n) = omega arith

widths : (k : ℕ) → (eqb k 1 || (eqb k 2 || (eqb k 4 || eqb k 8))) ≡ true → (k ≡ 1) ⊎ (k ≡ 2) ⊎ (k ≡ 4) ⊎ (k ≡ 8)
widths k h = elim (or_cases (eqb k 1) _ h) [
  | inl a ↦ inl (eqb-true k 1 a)
  | inr a ↦ elim (or_cases (eqb k 2) _ a) [
    | inl b ↦ inr (inl (eqb-true k 2 b))
    | inr b ↦ elim (or_cases (eqb k 4) _ b) [
      | inl d ↦ inr (inr (inl (eqb-true k 4 d)))
      | inr d ↦ inr (inr (inr (eqb-true k 8 d)))
    ]
  ]
]

pub narrowed : (k : ℕ) (z : ℤ) → (eqb k 1 || (eqb k 2 || (eqb k 4 || eqb k 8))) ≡ true → little_endian k (reduced 64 z) ≡ little_endian k (reduced (8 * k) z)
narrowed k z h = again k (reduced 64 z) (reduced-below z) (widths k h) ∙ ap (little_endian k) (mod-of-mod k z (widths k h))

-- the multiple of a power of two behind an offset
unit-fits : (x y : ℕ) → 0 < y → y ≤ 4096 → x + 4096 < 2 ^ 128 → next_multiple_of x y < 2 ^ 128
unit-fits x y some small room = let h = mod-lt (y - x % y) some in omega (arith, h, small, room)

pub padding_fits : (x p : ℕ) → p ≤ 12 → x + 4096 < 2 ^ 128 → next_multiple_of x (1 * 2 ^ p % 2 ^ 128) < 2 ^ 128
padding_fits x p small room =
    let unit : 1 * 2 ^ p % 2 ^ 128 ≡ 2 ^ p = one_shl p 128 (omega (arith, small)) in
    let least : 2 ^ p ≤ 2 ^ 12 = pow-le-pow_right (omega arith) small in
    rw unit (unit-fits x (2 ^ p) (pow_pos p) least room)
