-- Numbers put together of parts that share no bit.
use Rattle.std.proofs.Common.{◌≡◌, ℕ, ◌+◌, ◌-◌, ◌*◌, ◌/◌, ◌%◌, ◌^◌, ◌<◌, min, max, ap, sym, refl, ◌∙◌, bit_and, bit_or, add-zero, add_comm, arith}
use Rattle.std.proofs.lemmas.Nat.{or_disjoint, and_assoc, and_comm, and_block, and_mask, shr_split, pow_pos}
use Rattle.std.proofs.lemmas.Nat.Bits.{same_from_bits, bit_at_and, bit_at_or}
use Rattle.std.proofs.lemmas.Nat.{shl-shr}
use Rattle.std.proofs.Math.Nat.{mod-eq_of_lt}
use Rattle.std.specs.Int.Bits.{and_self, and_zero_r}
use Rattle.std.specs.Int.{bit_at}
use Rattle.vx_base.specs.Numbers.{field}
use Rattle.vx_rows.specs.Layouts.{bits_at}
use Rattle.vx_decode.proofs.Fields.{low-below}

spread : (a b c : ℕ) → min a (max b c) ≡ max (min a b) (min a c)
spread a b c = omega arith

and-or : (w m n : ℕ) → bit_and w (bit_or m n) ≡ bit_or (bit_and w m) (bit_and w n)
and-or w m n =
    same_from_bits _ _ (λ i. bit_at_and w (bit_or m n) i ∙ ap (λ x. min (bit_at w i) x) (bit_at_or m n i) ∙ spread (bit_at w i) (bit_at m i) (bit_at n i) ∙ ap (λ x. max x (min (bit_at w i) (bit_at n i))) (sym (bit_at_and w m i)) ∙ ap (λ x. max (bit_at (bit_and w m) i) x) (sym (bit_at_and w n i)) ∙ sym (bit_at_or (bit_and w m) (bit_and w n) i))

-- what lies under masks that share no bit shares none
pub apart-within : (x y m n : ℕ) → bit_and x m ≡ x → bit_and y n ≡ y → bit_and m n ≡ 0 → bit_and x y ≡ 0
apart-within x y m n in_x in_y apart =
    ap (λ z. bit_and z y) (sym in_x)
    ∙ ap (λ z. bit_and (bit_and x m) z) (sym in_y)
    ∙ and_assoc (bit_and y n) x m
    ∙ ap (bit_and x) (ap (bit_and m) (and_comm y n) ∙ sym (and_assoc y m n) ∙ ap (λ z. bit_and z y) apart ∙ and_comm 0 y ∙ and_zero_r y)
    ∙ and_zero_r x

under : (w m : ℕ) → bit_and (bit_and w m) m ≡ bit_and w m
under w m = and_assoc m w m ∙ ap (bit_and w) (and_self m)

-- the bits under two masks are those under the one and those under the other
pub and-sum : (w m n : ℕ) → bit_and m n ≡ 0 → bit_and w (m + n) ≡ bit_and w m + bit_and w n
and-sum w m n apart =
    ap (bit_and w) (sym (or_disjoint m n apart)) ∙ and-or w m n ∙ or_disjoint _ _ (apart-within (bit_and w m) (bit_and w n) m n (under w m) (under w n) apart)

left : (x y m n : ℕ) → bit_and x m ≡ x → bit_and y n ≡ y → bit_and m n ≡ 0 → bit_and (x + y) m ≡ x
left x y m n in_x in_y apart =
    and_comm (x + y) m
    ∙ and-sum m x y (apart-within x y m n in_x in_y apart)
    ∙ ap (λ z. z + bit_and m y) (and_comm m x ∙ in_x)
    ∙ ap (λ z. x + z) (apart-within m y m n (and_self m) in_y apart)
    ∙ add-zero x

right : (x y m n : ℕ) → bit_and x m ≡ x → bit_and y n ≡ y → bit_and m n ≡ 0 → bit_and (x + y) n ≡ y
right x y m n in_x in_y apart = ap (λ z. bit_and z n) (add_comm x y) ∙ left y x n m in_y in_x (and_comm n m ∙ apart)

-- the bits under a part of two masks
sub_left : (w m n : ℕ) → bit_and m n ≡ 0 → bit_and (bit_and w (m + n)) m ≡ bit_and w m
sub_left w m n apart =
    and_assoc m w (m + n) ∙ ap (bit_and w) (left m n m n (and_self m) (and_self n) apart)

sub_right : (w m n : ℕ) → bit_and m n ≡ 0 → bit_and (bit_and w (m + n)) n ≡ bit_and w n
sub_right w m n apart =
    and_assoc n w (m + n) ∙ ap (bit_and w) (right m n m n (and_self m) (and_self n) apart)

-- a sum of two parts, and the parts
pub within-sum : (x y m n : ℕ) → bit_and x m ≡ x → bit_and y n ≡ y → bit_and m n ≡ 0 → bit_and (x + y) (m + n) ≡ x + y
within-sum x y m n in_x in_y apart =
    and-sum (x + y) m n apart ∙ ap (λ z. z + bit_and (x + y) n) (left x y m n in_x in_y apart) ∙ ap (λ z. x + z) (right x y m n in_x in_y apart)

pub record Halves (w x y m n : ℕ) : Type 0 where
  pub low : bit_and w m ≡ x
  pub high : bit_and w n ≡ y

pub halves : (w x y m n : ℕ) → bit_and x m ≡ x → bit_and y n ≡ y → bit_and m n ≡ 0 → bit_and w (m + n) ≡ x + y → Halves w x y m n
halves w x y m n in_x in_y apart is =
    record {
      low = sym (sub_left w m n apart) ∙ ap (λ z. bit_and z m) is ∙ left x y m n in_x in_y apart;
      high = sym (sub_right w m n apart) ∙ ap (λ z. bit_and z n) is ∙ right x y m n in_x in_y apart;
    }

-- `count` bits from bit `low` on
pub and-bits_at : (w low count : ℕ) → bit_and w (bits_at low count) ≡ field w low count * 2 ^ low
and-bits_at w low count =
    ap (bit_and w) (sym (add-zero (bits_at low count)))
    ∙ ap (λ x. bit_and x (bits_at low count + 0)) (sym (shr_split w low))
    ∙ and_block low (w / 2 ^ low) (2 ^ count - 1) (w % 2 ^ low) 0 (low-below w low) (pow_pos low)
    ∙ ap (λ x. bit_and (w / 2 ^ low) (2 ^ count - 1) * 2 ^ low + x) (and_zero_r (w % 2 ^ low))
    ∙ add-zero _
    ∙ ap (λ x. x * 2 ^ low) (and_mask (w / 2 ^ low) count)

-- a number below 2 ^ count, put from bit `low` on
pub within-bits_at : (n low count : ℕ) → n < 2 ^ count → bit_and (n * 2 ^ low) (bits_at low count) ≡ n * 2 ^ low
within-bits_at n low count below =
    and-bits_at (n * 2 ^ low) low count ∙ ap (λ x. x % 2 ^ count * 2 ^ low) (shl-shr n low) ∙ ap (λ x. x * 2 ^ low) (mod-eq_of_lt below)

pub within-none : bit_and 0 0 ≡ 0
within-none = refl

-- numbers put at one place are equal
pub same-at : (a b low : ℕ) → a * 2 ^ low ≡ b * 2 ^ low → a ≡ b
same-at a b low e = sym (shl-shr a low) ∙ ap (λ x. x / 2 ^ low) e ∙ shl-shr b low
