-- What holds of the families by their kinds.
use Rattle.std.proofs.Common.{◌≡◌, Bool, true, false, not, ◌&&◌, ◌||◌, IsTrue, refl, sym, ap, ◌∙◌}
use Rattle.std.proofs.lemmas.Bool.{false≢true, and_parts}
use Rattle.vx_rows.specs.Families.{operands_of}
use Rattle.vx_rows.specs.declared.family.Family.{Family}
use Rattle.vx_rows.specs.declared.family.Family.TheVariants.{Vsaddu, Vnclipu}
use Rattle.vx_rows.specs.declared.family.Operands.{Operands}
use Rattle.vx_rows.specs.declared.row.First.{First}
use Rattle.vx_rows.specs.declared.row.First.TheVariants.{Vector}
use Rattle.vx_vector.specs.Rules.{rule_of}
use Rattle.vx_operands.specs.Lanes.{is_each, is_single, is_even}
use Rattle.vx_operands.specs.Parts.{is_double, is_narrowing}
use Rattle.vx_fixed.specs.Kinds.{clips, is_even_family, is_fixed_family}

follows : (a b : Bool) → (not a || b) ≡ true → a ≡ true → b ≡ true
follows true b h e = h
follows false b h e = absurd (false≢true e)

-- ---- clips

abbrev are_clipped : Operands → Bool
are_clipped o = is_single o.destination && is_double o.vs2 && is_single o.vs1

clips_suit : (f : Family) → (not (clips f) || (is_each (rule_of f) && are_clipped (operands_of f))) ≡ true
clips_suit Vnclipu = refl
clips_suit other = refl

clipping_with : (first : First) (o : Operands) → are_clipped o ≡ true → IsTrue (is_narrowing first o)
clipping_with Vector o h = h
clipping_with other o h = (and_parts (is_single o.destination && is_double o.vs2) (is_single o.vs1) h).0

pub clips_each : (f : Family) → IsTrue (clips f) → IsTrue (is_each (rule_of f))
clips_each f h = (and_parts (is_each (rule_of f)) (are_clipped (operands_of f)) (follows (clips f) _ (clips_suit f) h)).0

pub clips_operands : (f : Family) (first : First) → IsTrue (clips f) → IsTrue (is_narrowing first (operands_of f))
clips_operands f first h = clipping_with first (operands_of f) (and_parts (is_each (rule_of f)) (are_clipped (operands_of f)) (follows (clips f) _ (clips_suit f) h)).1

-- ---- operands of SEW

abbrev are_even : Operands → Bool
are_even o = is_single o.destination && is_single o.vs2 && is_single o.vs1

even_suit : (f : Family) → (not (is_even_family f) || (is_each (rule_of f) && are_even (operands_of f))) ≡ true
even_suit Vsaddu = refl
even_suit other = refl

even_with : (first : First) (o : Operands) → are_even o ≡ true → IsTrue (is_even first o)
even_with Vector o h = h
even_with other o h = (and_parts (is_single o.destination && is_single o.vs2) (is_single o.vs1) h).0

pub even_each : (f : Family) → IsTrue (is_even_family f) → IsTrue (is_each (rule_of f))
even_each f h = (and_parts (is_each (rule_of f)) (are_even (operands_of f)) (follows (is_even_family f) _ (even_suit f) h)).0

pub even_operands : (f : Family) (first : First) → IsTrue (is_even_family f) → IsTrue (is_even first (operands_of f))
even_operands f first h = even_with first (operands_of f) (and_parts (is_each (rule_of f)) (are_even (operands_of f)) (follows (is_even_family f) _ (even_suit f) h)).1

-- a family of this crate that doesn't clip
pub even_left : (f : Family) → IsTrue (is_fixed_family f) → clips f ≡ false → is_even_family f ≡ true
even_left f h c = sym (ap (λ b. b || is_even_family f) c) ∙ h
