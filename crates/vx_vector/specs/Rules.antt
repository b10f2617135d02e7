-- What each family computes, one line each: RISC-V "V" 1.0, sections 11, 12, 14, 15 and 16. In a rule over numbers, a is the
-- element of vs2, b that of vs1, of the integer register or of the number, d the old element and m the bit of v0; results
-- are reduced to the width of the destination.
use Rattle.std.specs.Prelude.{ℕ, ◌+◌, ◌-◌, ◌*◌, ◌%◌, ◌^◌, Bool, not, ◌==◌, ◌&&◌, ◌||◌, nat_lt, nat_le, min, max, bit_and, bit_or, bit_xor, ℤ, pos, ◌+ℤ◌, ◌-ℤ◌, ◌*ℤ◌, if◌then◌else◌, true, false, ◌/◌, Option, Some, unwrap_or}
use Rattle.vx_base.specs.Numbers.{reduced, truth}
use Rattle.vx_bits.specs.Arithmetic.{sum_at, difference_at, product_at, signed_high_at, unsigned_high_at, mixed_high_at, signed_quotient_at, unsigned_quotient_at, signed_remainder_at, unsigned_remainder_at, shifted_left_at, shifted_right_at, sign_shifted_right_at}
use Rattle.vx_bits.specs.Saturation.{fitted_at, unsigned_saturated_sum_at, signed_saturated_sum_at, unsigned_saturated_difference_at, signed_saturated_difference_at}
use Rattle.vx_bits.specs.Rounding.{rounded}
use Rattle.vx_bits.specs.Width.{signed_at}
use Rattle.vx_bits.specs.declared.saturation.Sat.{Sat}
use Rattle.vx_rows.specs.declared.family.Family.{Family}
use Rattle.vx_rows.specs.declared.family.Family.TheVariants.{Vadd, Vsub, Vrsub, Vminu, Vmin, Vmaxu, Vmax, Vand, Vor, Vxor, Vmerge, VmvV, Vsll, Vsrl, Vsra, Vmv1r, Vmv2r, Vmv4r, Vmv8r, VzextVf8, VsextVf8, VzextVf4, VsextVf4, VzextVf2, VsextVf2, Vdivu, Vdiv, Vremu, Vrem, Vmulhu, Vmul, Vmulhsu, Vmulh, Vmadd, Vnmsub, Vmacc, Vnmsac, Vadc, Vmadc, Vsbc, Vmsbc, Vmseq, Vmsne, Vmsltu, Vmslt, Vmsleu, Vmsle, Vmsgtu, Vmsgt, Vnsrl, Vnsra, Vwaddu, Vwadd, Vwsubu, Vwsub, VwadduW, VwaddW, VwsubuW, VwsubW, Vwmulu, Vwmulsu, Vwmul, Vwmaccu, Vwmacc, Vwmaccus, Vwmaccsu, Vsaddu, Vsadd, Vssubu, Vssub, Vsmul, Vssrl, Vssra, Vnclipu, Vnclip, Vaaddu, Vaadd, Vasubu, Vasub, Vredsum, Vredand, Vredor, Vredxor, Vredminu, Vredmin, Vredmaxu, Vredmax, Vwredsumu, Vwredsum, VmvXS, Vcpop, Vfirst, Vmsbf, Vmsof, Vmsif, Viota, Vid, Vmandn, Vmand, Vmor, Vmxor, Vmorn, Vmnand, Vmnor, Vmxnor, Vrgather, Vrgatherei16, Vslideup, Vslidedown, Vslide1up, Vslide1down, VmvSX, Vcompress}
use Rattle.vx_vector.specs.Lists.{Lists, element_or_zero, gather_index, slid_up, marks, marks_below, count_true, first_true}
use Rattle.vx_vector.specs.Numbers.{Numbers, plain, is_set, is_less_at, extended_at, amount_at, rounded_at}

-- how a family's result comes
pub data Rule : Type 0 where
  -- each active element, of the numbers at its index
  Each : (Numbers → Sat) → Rule
  -- each active element, of SEW and its index
  Index : (ℕ → ℕ → ℕ) → Rule
  -- each active element, of elements at other indices; None leaves it unchanged
  Permute : (Lists → ℕ → Option ℕ) → Rule
  -- element 0: that of vs1, joined with each active element of vs2 in turn, of SEW and the two
  Reduce : ((sew sum x : ℕ) → ℕ) → Rule
  -- the elements of vs2 that the mask in vs1 chooses, from element 0 on
  Pack : Rule
  -- element 0: the integer register
  Put : Rule
  -- the integer register rd
  Tell : (Lists → ℕ) → Rule

-- a rule of SEW, a and b
abbrev of_ab : (ℕ → ℕ → ℕ → ℕ) → Rule
of_ab f = Each (λ n. plain (f n.sew n.a n.b))

-- a rule of a and b that may saturate
abbrev saturating : (ℕ → ℕ → ℕ → Sat) → Rule
saturating f = Each (λ n. f n.sew n.a n.b)

-- a rule of a alone
abbrev of_a : (ℕ → ℕ → ℕ) → Rule
of_a f = Each (λ n. plain (f n.sew n.a))

-- a rule of a, b and d: a whole number reduced to the width that is so many times SEW
abbrev of_abd : ℕ → (ℕ → ℕ → ℕ → ℕ → ℤ) → Rule
of_abd times f = Each (λ n. plain (reduced (times * n.sew) (f n.sew n.a n.b n.d)))

-- a comparison, of SEW, a and b
abbrev compares : (ℕ → ℕ → ℕ → Bool) → Rule
compares f = Each (λ n. plain (truth (f n.sew n.a n.b)))

-- a comparison of masks' bits
abbrev of_bits : (Bool → Bool → Bool) → Rule
of_bits f = Each (λ n. plain (truth (f (is_set n.a) (is_set n.b))))

-- one of the two holds, and the other doesn't
abbrev differ : Bool → Bool → Bool
differ a b = if a then not b else b

-- a permutation that changes each element
abbrev moves : (Lists → ℕ → ℕ) → Rule
moves f = Permute (λ s i. Some (f s i))

-- the lesser and the greater of two signed numbers
abbrev lesser_at : (sew a b : ℕ) → ℕ
lesser_at sew a b = if is_less_at sew b a then b else a

abbrev greater_at : (sew a b : ℕ) → ℕ
greater_at sew a b = if is_less_at sew a b then b else a

-- a whole number at twice SEW
abbrev wide : ℕ → ℤ → ℕ
wide sew v = reduced (2 * sew) v

abbrev pub rule_of : Family → Rule
-- 11.1, 11.3: single width, and extensions
rule_of Vadd = of_ab sum_at
rule_of Vsub = of_ab difference_at
rule_of Vrsub = of_ab (λ S a b. difference_at S b a)
rule_of VzextVf8 = of_a (λ S a. a)
rule_of VsextVf8 = of_a (λ S a. extended_at (S / 8) S a)
rule_of VzextVf4 = of_a (λ S a. a)
rule_of VsextVf4 = of_a (λ S a. extended_at (S / 4) S a)
rule_of VzextVf2 = of_a (λ S a. a)
rule_of VsextVf2 = of_a (λ S a. extended_at (S / 2) S a)
-- 11.2: widening
rule_of Vwaddu = of_ab (λ S a b. wide S (pos a +ℤ pos b))
rule_of Vwadd = of_ab (λ S a b. wide S (signed_at S a +ℤ signed_at S b))
rule_of Vwsubu = of_ab (λ S a b. wide S (pos a -ℤ pos b))
rule_of Vwsub = of_ab (λ S a b. wide S (signed_at S a -ℤ signed_at S b))
rule_of VwadduW = of_ab (λ S a b. wide S (pos a +ℤ pos b))
rule_of VwaddW = of_ab (λ S a b. wide S (pos a +ℤ signed_at S b))
rule_of VwsubuW = of_ab (λ S a b. wide S (pos a -ℤ pos b))
rule_of VwsubW = of_ab (λ S a b. wide S (pos a -ℤ signed_at S b))
-- 11.4: carries and borrows
rule_of Vadc = Each (λ n. plain (reduced n.sew (pos (n.a + n.b + truth n.m))))
rule_of Vmadc = Each (λ n. plain (truth (nat_le (2 ^ n.sew) (n.a + n.b + truth n.m))))
rule_of Vsbc = Each (λ n. plain (reduced n.sew (pos n.a -ℤ pos (n.b + truth n.m))))
rule_of Vmsbc = Each (λ n. plain (truth (nat_lt n.a (n.b + truth n.m))))
-- 11.5, 11.6, 11.7: bits, shifts, and shifts that narrow
rule_of Vand = of_ab (λ S a b. bit_and a b)
rule_of Vor = of_ab (λ S a b. bit_or a b)
rule_of Vxor = of_ab (λ S a b. bit_xor a b)
rule_of Vsll = of_ab shifted_left_at
rule_of Vsrl = of_ab shifted_right_at
rule_of Vsra = of_ab sign_shifted_right_at
rule_of Vnsrl = of_ab (λ S a b. shifted_right_at (2 * S) a b % 2 ^ S)
rule_of Vnsra = of_ab (λ S a b. sign_shifted_right_at (2 * S) a b % 2 ^ S)
-- 11.8, 11.9: comparisons, minimum and maximum
rule_of Vmseq = compares (λ S a b. a == b)
rule_of Vmsne = compares (λ S a b. not (a == b))
rule_of Vmsltu = compares (λ S a b. nat_lt a b)
rule_of Vmslt = compares (λ S a b. is_less_at S a b)
rule_of Vmsleu = compares (λ S a b. nat_le a b)
rule_of Vmsle = compares (λ S a b. not (is_less_at S b a))
rule_of Vmsgtu = compares (λ S a b. nat_lt b a)
rule_of Vmsgt = compares (λ S a b. is_less_at S b a)
rule_of Vminu = of_ab (λ S a b. min a b)
rule_of Vmin = of_ab lesser_at
rule_of Vmaxu = of_ab (λ S a b. max a b)
rule_of Vmax = of_ab greater_at
-- 11.10, 11.11, 11.12: products and quotients
rule_of Vmul = of_ab product_at
rule_of Vmulh = of_ab signed_high_at
rule_of Vmulhu = of_ab unsigned_high_at
rule_of Vmulhsu = of_ab mixed_high_at
rule_of Vdivu = of_ab unsigned_quotient_at
rule_of Vdiv = of_ab signed_quotient_at
rule_of Vremu = of_ab unsigned_remainder_at
rule_of Vrem = of_ab signed_remainder_at
rule_of Vwmul = of_ab (λ S a b. wide S (signed_at S a *ℤ signed_at S b))
rule_of Vwmulu = of_ab (λ S a b. wide S (pos (a * b)))
rule_of Vwmulsu = of_ab (λ S a b. wide S (signed_at S a *ℤ pos b))
-- 11.13, 11.14: products added to or taken from the old element, or to which vs2 is added
rule_of Vmacc = of_abd 1 (λ S a b d. pos (b * a + d))
rule_of Vnmsac = of_abd 1 (λ S a b d. pos d -ℤ pos (b * a))
rule_of Vmadd = of_abd 1 (λ S a b d. pos (b * d + a))
rule_of Vnmsub = of_abd 1 (λ S a b d. pos a -ℤ pos (b * d))
rule_of Vwmaccu = of_abd 2 (λ S a b d. pos (b * a + d))
rule_of Vwmacc = of_abd 2 (λ S a b d. signed_at S b *ℤ signed_at S a +ℤ pos d)
rule_of Vwmaccsu = of_abd 2 (λ S a b d. signed_at S b *ℤ pos a +ℤ pos d)
rule_of Vwmaccus = of_abd 2 (λ S a b d. pos b *ℤ signed_at S a +ℤ pos d)
-- 11.15, 11.16: merges and moves
rule_of Vmerge = Each (λ n. plain (if n.m then n.b else n.a))
rule_of VmvV = of_ab (λ S a b. b)
-- 16.6: whole registers
rule_of Vmv1r = of_a (λ S a. a)
rule_of Vmv2r = of_a (λ S a. a)
rule_of Vmv4r = of_a (λ S a. a)
rule_of Vmv8r = of_a (λ S a. a)
-- 12: fixed point. A right shift by b is rounded in the mode
rule_of Vsaddu = saturating unsigned_saturated_sum_at
rule_of Vsadd = saturating signed_saturated_sum_at
rule_of Vssubu = saturating unsigned_saturated_difference_at
rule_of Vssub = saturating signed_saturated_difference_at
rule_of Vaaddu = Each (λ n. plain (rounded_at n.sew (pos (n.a + n.b)) 1 n.mode))
rule_of Vaadd = Each (λ n. plain (rounded_at n.sew (signed_at n.sew n.a +ℤ signed_at n.sew n.b) 1 n.mode))
rule_of Vasubu = Each (λ n. plain (rounded_at n.sew (pos n.a -ℤ pos n.b) 1 n.mode))
rule_of Vasub = Each (λ n. plain (rounded_at n.sew (signed_at n.sew n.a -ℤ signed_at n.sew n.b) 1 n.mode))
rule_of Vsmul = Each (λ n. fitted_at n.sew true (rounded (signed_at n.sew n.a *ℤ signed_at n.sew n.b) (n.sew - 1) n.mode))
rule_of Vssrl = Each (λ n. plain (rounded_at n.sew (pos n.a) (amount_at n.sew n.b) n.mode))
rule_of Vssra = Each (λ n. plain (rounded_at n.sew (signed_at n.sew n.a) (amount_at n.sew n.b) n.mode))
rule_of Vnclipu = Each (λ n. fitted_at n.sew false (rounded (pos n.a) (amount_at (2 * n.sew) n.b) n.mode))
rule_of Vnclip = Each (λ n. fitted_at n.sew true (rounded (signed_at (2 * n.sew) n.a) (amount_at (2 * n.sew) n.b) n.mode))
-- 14: reductions
rule_of Vredsum = Reduce sum_at
rule_of Vredand = Reduce (λ S sum x. bit_and sum x)
rule_of Vredor = Reduce (λ S sum x. bit_or sum x)
rule_of Vredxor = Reduce (λ S sum x. bit_xor sum x)
rule_of Vredminu = Reduce (λ S sum x. min sum x)
rule_of Vredmin = Reduce lesser_at
rule_of Vredmaxu = Reduce (λ S sum x. max sum x)
rule_of Vredmax = Reduce greater_at
rule_of Vwredsumu = Reduce (λ S sum x. wide S (pos (sum + x)))
rule_of Vwredsum = Reduce (λ S sum x. wide S (pos sum +ℤ signed_at S x))
-- 15.1: mask logic
rule_of Vmand = of_bits (λ a b. a && b)
rule_of Vmnand = of_bits (λ a b. not (a && b))
rule_of Vmandn = of_bits (λ a b. a && not b)
rule_of Vmxor = of_bits differ
rule_of Vmor = of_bits (λ a b. a || b)
rule_of Vmnor = of_bits (λ a b. not (a || b))
rule_of Vmorn = of_bits (λ a b. a || not b)
rule_of Vmxnor = of_bits (λ a b. not (differ a b))
-- 15.2 to 15.9: what masks tell. The first mark is the first active element whose bit is set
rule_of Vcpop = Tell (λ s. count_true (marks s))
rule_of Vfirst = Tell (λ s. unwrap_or (first_true (marks s)) (2 ^ 64 - 1))
rule_of Vmsbf = moves (λ s i. truth (marks_below s (i + 1) == 0))
rule_of Vmsif = moves (λ s i. truth (marks_below s i == 0))
rule_of Vmsof = moves (λ s i. truth (marks_below s i == 0 && not (marks_below s (i + 1) == 0)))
rule_of Viota = moves (λ s i. marks_below s i % 2 ^ s.sew)
rule_of Vid = Index (λ S i. i % 2 ^ S)
-- 16: permutations
rule_of VmvXS = Tell (λ s. extended_at s.sew 64 (element_or_zero s 0))
rule_of VmvSX = Put
rule_of Vslideup = Permute (λ s i. slid_up s s.x i)
rule_of Vslidedown = moves (λ s i. element_or_zero s (i + s.x))
rule_of Vslide1up = moves (λ s i. if i == 0 then s.x % 2 ^ s.sew else element_or_zero s (i - 1))
rule_of Vslide1down = moves (λ s i. if i + 1 == s.vl then s.x % 2 ^ s.sew else element_or_zero s (i + 1))
rule_of Vrgather = moves (λ s i. element_or_zero s (gather_index s i))
rule_of Vrgatherei16 = moves (λ s i. element_or_zero s (gather_index s i))
rule_of Vcompress = Pack
