-- What holds of the families by their kinds.
use Rattle.vx_packed.specs.Made.{IsPacking}
use Rattle.std.proofs.Common.{◌≡◌, ℕ, ◌*◌, ◌/◌, ◌<◌, ◌≤◌, Bool, true, false, not, ◌&&◌, ◌||◌, IsTrue, nat_eq, refl, sym, ap, ◌∙◌, subst, ⊎_elim, arith}
use Rattle.std.proofs.lemmas.Bool.{false≢true, and_parts, or_cases, eqb-true}
use Rattle.vx_bits.specs.Width.{is_width}
use Rattle.vx_rows.specs.Families.{operands_of}
use Rattle.vx_rows.specs.declared.family.Family.{Family}
use Rattle.vx_rows.specs.declared.family.Family.TheVariants.{Vadd, Vmv1r, Vmv2r, Vmv4r, Vmv8r, VzextVf8, VsextVf8, VzextVf4, VsextVf4, VzextVf2, VsextVf2}
use Rattle.vx_rows.specs.declared.family.Operand.{Operand}
use Rattle.vx_rows.specs.declared.family.Operand.TheVariants.{Absent}
use Rattle.vx_rows.specs.declared.family.Operands.{Operands}
use Rattle.vx_rows.specs.declared.row.First.{First}
use Rattle.vx_rows.specs.declared.row.First.TheVariants.{Vector, Fixed}
use Rattle.vx_rows.specs.declared.row.Vm.{Vm}
use Rattle.vx_rows.specs.declared.row.Vm.TheVariants.{One}
use Rattle.vx_vstate.specs.Registers.{is_element_width}
use Rattle.vx_vector.specs.Laws.{is_absent}
use Rattle.vx_vector.specs.Rules.{rule_of}
use Rattle.vx_operands.specs.Lanes.{FillsPart, is_each, is_single, is_even, is_group, are_groups, is_whole}
use Rattle.vx_elem.specs.Kinds.{is_plain, is_copy, is_extension, is_other}

-- ---- operands of SEW

follows : (a b : Bool) → (not a || b) ≡ true → a ≡ true → b ≡ true
follows true b h e = h
follows false b h e = absurd (false≢true e)

plain_suits : (f : Family) → (not (is_plain f) || (is_each (rule_of f) && (is_single (operands_of f).destination && is_single (operands_of f).vs2 && is_single (operands_of f).vs1))) ≡ true
plain_suits Vadd = refl
plain_suits other = refl

even_with : (first : First) (o : Operands) → (is_single o.destination && is_single o.vs2 && is_single o.vs1) ≡ true → IsTrue (is_even first o)
even_with Vector o h = h
even_with other o h = (and_parts (is_single o.destination && is_single o.vs2) (is_single o.vs1) h).0

pub plain_each : (f : Family) → IsTrue (is_plain f) → IsTrue (is_each (rule_of f))
plain_each f h = (and_parts (is_each (rule_of f)) (is_single (operands_of f).destination && is_single (operands_of f).vs2 && is_single (operands_of f).vs1) (follows (is_plain f) _ (plain_suits f) h)).0

pub plain_even : (f : Family) (first : First) → IsTrue (is_plain f) → IsTrue (is_even first (operands_of f))
plain_even f first h = even_with first (operands_of f) (and_parts (is_each (rule_of f)) (is_single (operands_of f).destination && is_single (operands_of f).vs2 && is_single (operands_of f).vs1) (follows (is_plain f) _ (plain_suits f) h)).1

-- ---- whole registers and extensions

pub copy_whole : (f : Family) (first : First) (v : Vm) → IsTrue (is_other f first v) → IsTrue (is_copy f) → IsTrue (is_whole (operands_of f) v)
copy_whole Vmv1r first One h k = refl
copy_whole Vmv1r first other h k = absurd (false≢true h)
copy_whole Vmv2r first One h k = refl
copy_whole Vmv2r first other h k = absurd (false≢true h)
copy_whole Vmv4r first One h k = refl
copy_whole Vmv4r first other h k = absurd (false≢true h)
copy_whole Vmv8r first One h k = refl
copy_whole Vmv8r first other h k = absurd (false≢true h)
copy_whole other first v h k = absurd (false≢true k)

pub extension_groups : (f : Family) (first : First) (v : Vm) → IsTrue (is_other f first v) → IsTrue (is_extension f) → IsTrue (are_groups first (operands_of f))
extension_groups VzextVf8 Fixed v h k = refl
extension_groups VzextVf8 other v h k = absurd (false≢true h)
extension_groups VsextVf8 Fixed v h k = refl
extension_groups VsextVf8 other v h k = absurd (false≢true h)
extension_groups VzextVf4 Fixed v h k = refl
extension_groups VzextVf4 other v h k = absurd (false≢true h)
extension_groups VsextVf4 Fixed v h k = refl
extension_groups VsextVf4 other v h k = absurd (false≢true h)
extension_groups VzextVf2 Fixed v h k = refl
extension_groups VzextVf2 other v h k = absurd (false≢true h)
extension_groups VsextVf2 Fixed v h k = refl
extension_groups VsextVf2 other v h k = absurd (false≢true h)
extension_groups other first v h k = absurd (false≢true k)

-- ---- widths

by_width : (P : ℕ → Type 0) (n : ℕ) → IsTrue (is_width n) → P 8 → P 16 → P 32 → P 64 → P n
by_width P n h a b c d =
    ⊎_elim
    (λ e. ⊎_elim
    (λ f. ⊎_elim
    (λ g. subst P (sym (eqb-true n 8 g)) a)
    (λ g. subst P (sym (eqb-true n 16 g)) b)
    (or_cases (nat_eq n 8) (nat_eq n 16) f))
    (λ f. subst P (sym (eqb-true n 32 f)) c)
    (or_cases (nat_eq n 8 || nat_eq n 16) (nat_eq n 32) e))
    (λ e. subst P (sym (eqb-true n 64 e)) d)
    (or_cases (nat_eq n 8 || nat_eq n 16 || nat_eq n 32) (nat_eq n 64) h)

pub record Fits (a d : ℕ) : Type 0 where
  pub some : 0 < a
  pub product : 0 < a * (64 / d)
  pub part : FillsPart a (64 / d)
  pub bits : 64 / d * a ≤ 64

one_fits : (d : ℕ) → IsTrue (is_width d) → Fits 1 d
one_fits d h = by_width (λ d. Fits 1 d) d h
    (record { some = omega arith; product = omega arith; part = refl; bits = omega arith })
    (record { some = omega arith; product = omega arith; part = refl; bits = omega arith })
    (record { some = omega arith; product = omega arith; part = refl; bits = omega arith })
    (record { some = omega arith; product = omega arith; part = refl; bits = omega arith })

wide_fits : (a d : ℕ) → IsTrue (is_width a) → IsTrue (is_width d) → a ≤ d → Fits a d
wide_fits a d h k = by_width (λ a. a ≤ d → Fits a d) a h
    (by_width (λ d. 8 ≤ d → Fits 8 d) d k
    (λ l. record { some = omega arith; product = omega arith; part = refl; bits = omega arith })
    (λ l. record { some = omega arith; product = omega arith; part = refl; bits = omega arith })
    (λ l. record { some = omega arith; product = omega arith; part = refl; bits = omega arith })
    (λ l. record { some = omega arith; product = omega arith; part = refl; bits = omega arith }))
    (by_width (λ d. 16 ≤ d → Fits 16 d) d k
    (λ l. absurd (omega arith))
    (λ l. record { some = omega arith; product = omega arith; part = refl; bits = omega arith })
    (λ l. record { some = omega arith; product = omega arith; part = refl; bits = omega arith })
    (λ l. record { some = omega arith; product = omega arith; part = refl; bits = omega arith }))
    (by_width (λ d. 32 ≤ d → Fits 32 d) d k
    (λ l. absurd (omega arith))
    (λ l. absurd (omega arith))
    (λ l. record { some = omega arith; product = omega arith; part = refl; bits = omega arith })
    (λ l. record { some = omega arith; product = omega arith; part = refl; bits = omega arith }))
    (by_width (λ d. 64 ≤ d → Fits 64 d) d k
    (λ l. absurd (omega arith))
    (λ l. absurd (omega arith))
    (λ l. absurd (omega arith))
    (λ l. record { some = omega arith; product = omega arith; part = refl; bits = omega arith }))

pub fits : (a d : ℕ) → IsTrue (is_element_width a) → IsTrue (is_width d) → a ≤ d → Fits a d
fits a d h k l =
    ⊎_elim
    (λ e. subst (λ n. Fits n d) (sym (eqb-true a 1 e)) (one_fits d k))
    (λ e. wide_fits a d e k l)
    (or_cases (nat_eq a 1) (is_width a) h)

present : (o : Operand) → IsTrue (is_group o) → is_absent o ≡ false
present Absent h = absurd (false≢true h)
present other h = refl

pub group_width : (o : Operand) (width : ℕ) → IsTrue (is_group o) → IsTrue (is_absent o || is_element_width width) → IsTrue (is_element_width width)
group_width o width g h = sym (ap (λ b. b || is_element_width width) (present o g)) ∙ h

pub vs2_group : (first : First) (o : Operands) → IsTrue (are_groups first o) → IsTrue (is_group o.vs2)
vs2_group Vector o h = (and_parts (is_group o.destination) (is_group o.vs2) (and_parts (is_group o.destination && is_group o.vs2) (is_single o.vs1) h).0).1
vs2_group other o h = (and_parts (is_group o.destination) (is_group o.vs2) h).1

pub even_some : (d : ℕ) → IsTrue (is_width d) → Fits d d
even_some d h = wide_fits d d h h (omega arith)

-- elements of a width, each extended from another, are as many as a word holds
pub packed : (a d : ℕ) → Fits a d → IsTrue (is_width d) → IsPacking (record { count = 64 / d; width = d; a = a; b = d })
packed a d fit h = record {
  width = is_some d h;
  a = fit.some;
  b = is_some d h;
  width_fits = by_width (λ d. 64 / d * d ≤ 64) d h (omega arith) (omega arith) (omega arith) (omega arith);
  a_fits = fit.bits;
  b_fits = by_width (λ d. 64 / d * d ≤ 64) d h (omega arith) (omega arith) (omega arith) (omega arith);
}
  where
    is_some : (d : ℕ) → IsTrue (is_width d) → 0 < d
    is_some d h = by_width (λ d. 0 < d) d h (omega arith) (omega arith) (omega arith) (omega arith)

pub le_64 : (a d : ℕ) → IsTrue (is_width d) → a ≤ d → a ≤ 64
le_64 a d h l = by_width (λ d. a ≤ d → a ≤ 64) d h (λ k. omega arith) (λ k. omega arith) (λ k. omega arith) (λ k. omega arith) l
