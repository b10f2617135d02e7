-- An instruction of vector arithmetic: the fold over its elements in rising order. RISC-V "V" 1.0, sections 5.3, 5.4, 10, 14
-- and 16. Elements that take no part stay as they are, also where vta or vma is set, and so do a mask's bits past vl: choices
-- that the standard leaves (section 3.4.3).
use Rattle.std.specs.Prelude.{ℕ, zero, suc, ◌%◌, ◌^◌, Bool, false, ◌==◌, ◌&&◌, nat_lt, List, length, get_or, if◌then◌else◌, Option, Some, None, option_map}
use Rattle.vx_bits.specs.declared.saturation.Sat.{Sat}
use Rattle.vx_packed.specs.Joined.{some_below}
use Rattle.vx_vstate.specs.Registers.{with_element}
use Rattle.vx_vector.specs.Lists.{joined_with, packed}
use Rattle.vx_vector.specs.Numbers.{plain}
use Rattle.vx_vector.specs.Reading.{Reading, sew_of, destination_width, count_of, is_active, numbers_at, lists_of}
use Rattle.vx_vector.specs.Rules.{Rule, rule_of}
use Rattle.vx_vector.specs.Rules.Rule.{Each, Index, Permute, Reduce, Pack, Put, Tell}

-- a value where a condition holds
abbrev pub given : {X : Type 0} → Bool → X → Option X
given holds x = if holds then Some x else None

-- i is element 0, and a row that writes it alone does: vstart is below vl
abbrev pub has_first : Reading → ℕ → Bool
has_first r i = i == 0 && nat_lt r.at.vstart r.at.vl

-- what becomes of element i by a rule, where it is written
abbrev pub becomes_by : Rule → Reading → ℕ → Option Sat
becomes_by (Each f) r i = given (is_active r i) (f (numbers_at r i))
becomes_by (Index f) r i = given (is_active r i) (plain (f (sew_of r) i))
becomes_by (Permute f) r i = if is_active r i then option_map plain (f (lists_of r) i) else None
becomes_by (Reduce f) r i = given (has_first r i) (plain (joined_with (f (sew_of r)) (lists_of r)))
becomes_by Pack r i = given (nat_lt i (length (packed (lists_of r)))) (plain (get_or (packed (lists_of r)) i 0))
becomes_by Put r i = given (has_first r i) (plain (r.at.scalar % 2 ^ sew_of r))
becomes_by (Tell f) r i = None

abbrev pub becomes : Reading → ℕ → Option Sat
becomes r i = becomes_by (rule_of r.family) r i

-- the words with what became of element i
abbrev pub with_result : Reading → (i : ℕ) → Option Sat → List ℕ → List ℕ
with_result r i None words = words
with_result r i (Some s) words = with_element r.at.vlen words r.places.vd (destination_width r) i s.value

-- the words after the elements below n
unfoldable pub after_elements : Reading → (n : ℕ) → List ℕ
after_elements r zero = r.words
after_elements r (suc n) = with_result r n (becomes r n) (after_elements r n)

-- the words after the instruction
abbrev pub words_after : Reading → List ℕ
words_after r = after_elements r (count_of r)

-- what became of an element saturated
abbrev pub has_saturated : Option Sat → Bool
has_saturated None = false
has_saturated (Some s) = s.sat

-- some element saturated
abbrev pub saturates : Reading → Bool
saturates r = some_below (count_of r) (λ i. has_saturated (becomes r i))

-- what a rule puts into the integer register rd, where it does
abbrev pub told_by : Rule → Reading → Option ℕ
told_by (Tell f) r = Some (f (lists_of r))
told_by (Each f) r = None
told_by (Index f) r = None
told_by (Permute f) r = None
told_by (Reduce f) r = None
told_by Pack r = None
told_by Put r = None

abbrev pub told : Reading → Option ℕ
told r = told_by (rule_of r.family) r
