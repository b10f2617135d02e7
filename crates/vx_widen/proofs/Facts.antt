-- What holds of the families by their kinds.
use Rattle.std.proofs.Common.{◌≡◌, Bool, true, false, not, ◌&&◌, ◌||◌, IsTrue, refl, sym, ◌∙◌}
use Rattle.std.proofs.lemmas.Bool.{false≢true, and_parts}
use Rattle.vx_decode.specs.Legal.{compares}
use Rattle.vx_rows.specs.Families.{operands_of}
use Rattle.vx_rows.specs.declared.family.Family.{Family}
use Rattle.vx_rows.specs.declared.family.Family.TheVariants.{Vadc, Vmadc, Vmsbc, Vmseq, Vmsne, Vmsltu, Vmslt, Vmsleu, Vmsle, Vmsgtu, Vmsgt, Vnsrl, Vwaddu, VwadduW}
use Rattle.vx_rows.specs.declared.family.Operands.{Operands}
use Rattle.vx_rows.specs.declared.row.First.{First}
use Rattle.vx_rows.specs.declared.row.First.TheVariants.{Vector}
use Rattle.vx_vector.specs.Numbers.{Numbers}
use Rattle.vx_vector.specs.Rules.{rule_of}
use Rattle.vx_operands.specs.Lanes.{answer, is_each, is_single, is_even}
use Rattle.vx_operands.specs.Parts.{is_double, is_mask, is_comparing, is_narrowing, is_doubling}
use Rattle.vx_widen.specs.Kinds.{carries, narrows, doubles, extends, is_widen_family}

follows : (a b : Bool) → (not a || b) ≡ true → a ≡ true → b ≡ true
follows true b h e = h
follows false b h e = absurd (false≢true e)

-- ---- comparisons

abbrev are_compared : Operands → Bool
are_compared o = is_mask o.destination && is_single o.vs2 && is_single o.vs1

compares_suit : (f : Family) → (not (compares f) || (is_each (rule_of f) && are_compared (operands_of f))) ≡ true
compares_suit Vmadc = refl
compares_suit other = refl

comparing_with : (first : First) (o : Operands) → are_compared o ≡ true → IsTrue (is_comparing first o)
comparing_with Vector o h = h
comparing_with other o h = (and_parts (is_mask o.destination && is_single o.vs2) (is_single o.vs1) h).0

pub compares_each : (f : Family) → IsTrue (compares f) → IsTrue (is_each (rule_of f))
compares_each f h = (and_parts (is_each (rule_of f)) (are_compared (operands_of f)) (follows (compares f) _ (compares_suit f) h)).0

pub compares_operands : (f : Family) (first : First) → IsTrue (compares f) → IsTrue (is_comparing first (operands_of f))
compares_operands f first h = comparing_with first (operands_of f) (and_parts (is_each (rule_of f)) (are_compared (operands_of f)) (follows (compares f) _ (compares_suit f) h)).1

pub compares_plain : (f : Family) → IsTrue (compares f) → (n : Numbers) → (answer f n).sat ≡ false
compares_plain Vmadc h n = refl
compares_plain Vmsbc h n = refl
compares_plain Vmseq h n = refl
compares_plain Vmsne h n = refl
compares_plain Vmsltu h n = refl
compares_plain Vmslt h n = refl
compares_plain Vmsleu h n = refl
compares_plain Vmsle h n = refl
compares_plain Vmsgtu h n = refl
compares_plain Vmsgt h n = refl
compares_plain other h n = absurd (false≢true h)

-- ---- shifts that narrow

abbrev are_narrowed : Operands → Bool
are_narrowed o = is_single o.destination && is_double o.vs2 && is_single o.vs1

narrows_suit : (f : Family) → (not (narrows f) || (is_each (rule_of f) && are_narrowed (operands_of f))) ≡ true
narrows_suit Vnsrl = refl
narrows_suit other = refl

narrowing_with : (first : First) (o : Operands) → are_narrowed o ≡ true → IsTrue (is_narrowing first o)
narrowing_with Vector o h = h
narrowing_with other o h = (and_parts (is_single o.destination && is_double o.vs2) (is_single o.vs1) h).0

pub narrows_each : (f : Family) → IsTrue (narrows f) → IsTrue (is_each (rule_of f))
narrows_each f h = (and_parts (is_each (rule_of f)) (are_narrowed (operands_of f)) (follows (narrows f) _ (narrows_suit f) h)).0

pub narrows_operands : (f : Family) (first : First) → IsTrue (narrows f) → IsTrue (is_narrowing first (operands_of f))
narrows_operands f first h = narrowing_with first (operands_of f) (and_parts (is_each (rule_of f)) (are_narrowed (operands_of f)) (follows (narrows f) _ (narrows_suit f) h)).1

-- ---- elements of twice SEW

abbrev are_doubled : Operands → Bool
are_doubled o = is_double o.destination && is_single o.vs2 && is_single o.vs1

doubles_suit : (f : Family) → (not (doubles f) || (is_each (rule_of f) && are_doubled (operands_of f))) ≡ true
doubles_suit Vwaddu = refl
doubles_suit other = refl

doubling_with : (first : First) (o : Operands) → are_doubled o ≡ true → IsTrue (is_doubling false first o)
doubling_with Vector o h = h
doubling_with other o h = (and_parts (is_double o.destination && is_single o.vs2) (is_single o.vs1) h).0

pub doubles_each : (f : Family) → IsTrue (doubles f) → IsTrue (is_each (rule_of f))
doubles_each f h = (and_parts (is_each (rule_of f)) (are_doubled (operands_of f)) (follows (doubles f) _ (doubles_suit f) h)).0

pub doubles_operands : (f : Family) (first : First) → IsTrue (doubles f) → IsTrue (is_doubling false first (operands_of f))
doubles_operands f first h = doubling_with first (operands_of f) (and_parts (is_each (rule_of f)) (are_doubled (operands_of f)) (follows (doubles f) _ (doubles_suit f) h)).1

abbrev are_extended : Operands → Bool
are_extended o = is_double o.destination && is_double o.vs2 && is_single o.vs1

extends_suit : (f : Family) → (not (extends f) || (is_each (rule_of f) && are_extended (operands_of f))) ≡ true
extends_suit VwadduW = refl
extends_suit other = refl

extending_with : (first : First) (o : Operands) → are_extended o ≡ true → IsTrue (is_doubling true first o)
extending_with Vector o h = h
extending_with other o h = (and_parts (is_double o.destination && is_double o.vs2) (is_single o.vs1) h).0

pub extends_each : (f : Family) → IsTrue (extends f) → IsTrue (is_each (rule_of f))
extends_each f h = (and_parts (is_each (rule_of f)) (are_extended (operands_of f)) (follows (extends f) _ (extends_suit f) h)).0

pub extends_operands : (f : Family) (first : First) → IsTrue (extends f) → IsTrue (is_doubling true first (operands_of f))
extends_operands f first h = extending_with first (operands_of f) (and_parts (is_each (rule_of f)) (are_extended (operands_of f)) (follows (extends f) _ (extends_suit f) h)).1

-- ---- carries and borrows

abbrev are_carried : Operands → Bool
are_carried o = is_single o.destination && is_single o.vs2 && is_single o.vs1

carries_suit : (f : Family) → (not (carries f) || (is_each (rule_of f) && are_carried (operands_of f))) ≡ true
carries_suit Vadc = refl
carries_suit other = refl

carrying_with : (first : First) (o : Operands) → are_carried o ≡ true → IsTrue (is_even first o)
carrying_with Vector o h = h
carrying_with other o h = (and_parts (is_single o.destination && is_single o.vs2) (is_single o.vs1) h).0

pub carries_each : (f : Family) → IsTrue (carries f) → IsTrue (is_each (rule_of f))
carries_each f h = (and_parts (is_each (rule_of f)) (are_carried (operands_of f)) (follows (carries f) _ (carries_suit f) h)).0

pub carries_even : (f : Family) (first : First) → IsTrue (carries f) → IsTrue (is_even first (operands_of f))
carries_even f first h = carrying_with first (operands_of f) (and_parts (is_each (rule_of f)) (are_carried (operands_of f)) (follows (carries f) _ (carries_suit f) h)).1

-- a family of this crate that is of none of the other kinds
pub carries_left : (f : Family) → IsTrue (is_widen_family f) → compares f ≡ false → narrows f ≡ false → doubles f ≡ false → extends f ≡ false → carries f ≡ true
carries_left f h c n d e = sym (λ i. c i || n i || d i || e i || carries f) ∙ h
