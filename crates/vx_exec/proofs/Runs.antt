-- The words that an instruction makes are those of its run.
use Rattle.std.proofs.Common.{◌≡◌, ℕ, zero, suc, ◌+◌, ◌-◌, ◌<◌, ◌≤◌, Bool, true, false, ltb, nat_eq, if◌then◌else◌, List, [], ◌∷◌, map, None, refl, sym, ap, ◌∙◌, subst, arith, mul-le-mul_right}
use Rattle.std.specs.List.{Contains, range_with_len}
use Rattle.std.proofs.lemmas.Bool.{false≢true, ltb-true}
use Rattle.vx_decode.specs.Groups.{width_of}
use Rattle.vx_mask.specs.Kinds.{is_element, is_telling}
use Rattle.vx_operands.specs.Rising.{is_first_alone}
use Rattle.vx_packed.specs.Joined.{some_below}
use Rattle.vx_rows.specs.Families.{operands_of}
use Rattle.vx_rows.specs.declared.family.Family.{Family}
use Rattle.vx_rows.specs.declared.family.Family.TheVariants.{Vadd, VmvXS, Vcpop, Vfirst}
use Rattle.vx_rows.specs.declared.family.Operand.{Operand}
use Rattle.vx_rows.specs.declared.family.Operand.TheVariants.{Element, WideElement, Whole1, Whole2, Whole4, Whole8}
use Rattle.vx_vector.proofs.Members.{member_first, member_of_range, member_of_map, member_before_map, range_parts}
use Rattle.vx_vector.specs.Arithmetic.{becomes_by, has_saturated, saturates, told, told_by}
use Rattle.vx_vector.specs.Laws.{made_words}
use Rattle.vx_vector.specs.Reading.{Reading, count_in, count_of, whole_registers, destination_width, vs2_width}
use Rattle.vx_vector.specs.Rules.{Rule, rule_of}
use Rattle.vx_vector.specs.Rules.Rule.{Each, Index, Permute as Permutes, Reduce, Pack, Put, Tell}
use Rattle.vx_vector.specs.Words.{handled_by, made_by}
use Rattle.vx_vstate.specs.Registers.{element_word}
use Rattle.vx_vstate.specs.State.{SettingView}
use Rattle.vx_vstate.specs.Vtype.{sew}
use Rattle.vx_exec.specs.Runs.{IsInRun, count_by, run_of, run_by, words_from}
use Rattle.vx_exec.specs.declared.run.Run.{Run}

-- ---- rules and operands

abbrev is_tell : Rule → Bool
is_tell (Tell f) = true
is_tell other = false

-- a row has one result where its destination is one element
one-is : (f : Family) → is_first_alone (rule_of f) ≡ is_element (operands_of f).destination
one-is Vadd = refl
one-is other = refl

tell-is : (f : Family) → is_tell (rule_of f) ≡ is_telling f
tell-is VmvXS = refl
tell-is Vcpop = refl
tell-is Vfirst = refl
tell-is other = refl

untold-by : (rule : Rule) (r : Reading) → is_tell rule ≡ false → told_by rule r ≡ None
untold-by (Tell f) r h = absurd (false≢true (sym h))
untold-by (Each f) r h = refl
untold-by (Index f) r h = refl
untold-by (Permutes f) r h = refl
untold-by (Reduce f) r h = refl
untold-by Pack r h = refl
untold-by Put r h = refl

pub untold : (r : Reading) → is_telling r.family ≡ false → told r ≡ None
untold r h = untold-by (rule_of r.family) r (tell-is r.family ∙ h)

-- a row that tells a number saturates nothing
silent-by : (rule : Rule) (r : Reading) (i : ℕ) → is_tell rule ≡ true → becomes_by rule r i ≡ None
silent-by (Tell f) r i h = refl
silent-by other r i h = absurd (false≢true h)

none-below : (n : ℕ) (p : ℕ → Bool) → ((k : ℕ) → p k ≡ false) → some_below n p ≡ false
unfolding some_below
none-below zero p h = refl
none-below (suc n) p h = rw (none-below n p h, h n) refl

pub silent : (r : Reading) → is_telling r.family ≡ true → saturates r ≡ false
silent r h = none-below (count_of r) _ (λ i. ap has_saturated (silent-by (rule_of r.family) r i (tell-is r.family ∙ h)))

-- ---- how many elements

count-in : (r : Reading) (o : Operand) → (if nat_eq (whole_registers o) 0 then r.at.vl else count_in r o) ≡ count_by o r.at
count-in r Whole1 = refl
count-in r Whole2 = refl
count-in r Whole4 = refl
count-in r Whole8 = refl
count-in r other = refl

count-by : (r : Reading) → count_of r ≡ count_by (operands_of r.family).destination r.at
count-by r = count-in r (operands_of r.family).destination

-- ---- members of a run

abbrev run_if : (holds : Bool) → (first count : ℕ) → Run
run_if holds first count = if holds then record { first = first; count = count } else record { first = 0; count = 0 }

abbrev list_if : (holds : Bool) → (first count : ℕ) → List ℕ
list_if holds first count = if holds then range_with_len first count else []

no-member : (w : ℕ) → Contains {X = ℕ} [] w → ⊥
no-member w c = omega (arith, c.1)

in-range : (holds : Bool) (first count w : ℕ) → Contains (map (λ (k : ℕ). k) (list_if holds first count)) w → IsInRun (run_if holds first count) w
in-range true first count w c =
    let one = member_before_map (λ (k : ℕ). k) (range_with_len first count) w c in
    let parts = range_parts first count one.0 one.1 in
    (omega (arith, parts.0, one.2), omega (arith, parts.1, one.2))
in-range false first count w c = absurd (no-member w c)

of-range : (holds : Bool) (first count w : ℕ) → IsInRun (run_if holds first count) w → Contains (map (λ (k : ℕ). k) (list_if holds first count)) w
of-range true first count w h = member_of_map (λ (k : ℕ). k) (range_with_len first count) w (member_of_range first count w h.0 h.1)
of-range false first count w h = absurd (omega (arith, h.0, h.1))

in-first : (holds : Bool) (first count w : ℕ) → Contains (map (λ (k : ℕ). 0) (list_if holds first count)) w → IsInRun (run_if holds 0 1) w
in-first true first count w c =
    let one = member_before_map (λ (k : ℕ). 0) (range_with_len first count) w c in
    (omega (arith, one.2), omega (arith, one.2))
in-first false first count w c = absurd (no-member w c)

of-first : (holds : Bool) (first count w : ℕ) → (holds ≡ true → 0 < count) → IsInRun (run_if holds 0 1) w → Contains (map (λ (k : ℕ). 0) (list_if holds first count)) w
of-first true first count w some h =
    let more : 0 < count = some refl in
    let member : Contains (range_with_len first count) first = member_of_range first count first (omega arith) (omega (arith, more)) in
    let one : Contains (map (λ (k : ℕ). 0) (range_with_len first count)) 0 = member_of_map (λ (k : ℕ). 0) (range_with_len first count) first member in
    let is : 0 ≡ w = omega (arith, h.1) in
    subst (Contains (map (λ (k : ℕ). 0) (range_with_len first count))) is one
of-first false first count w some h = absurd (omega (arith, h.0, h.1))

in-one : (holds : Bool) (w : ℕ) → Contains {X = ℕ} (map (λ (k : ℕ). k) (if holds then 0 ∷ [] else [])) w → IsInRun (run_if holds 0 1) w
in-one true w (zero, l, e) = (omega (arith, e), omega (arith, e))
in-one true w (suc k, l, e) = absurd (omega (arith, l))
in-one false w c = absurd (no-member w c)

of-one : (holds : Bool) (w : ℕ) → IsInRun (run_if holds 0 1) w → Contains {X = ℕ} (map (λ (k : ℕ). k) (if holds then 0 ∷ [] else [])) w
of-one true w h =
    let is : 0 ≡ w = omega (arith, h.1) in
    subst (Contains {X = ℕ} (0 ∷ [])) is (member_first 0 [])
of-one false w h = absurd (omega (arith, h.0, h.1))

-- an element from vstart on lies in some word
some-word : (width from count : ℕ) → ltb from count ≡ true → 0 < element_word width (count - 1) + 1 - element_word width from
some-word width from count h =
    let less = ltb-true from count h in
    let most : from ≤ count - 1 = omega arith in
    let product = mul-le-mul_right width most in
    omega arith

-- a run of no words begins at 0
empty-if : (holds : Bool) (run : Run) → (holds ≡ true → run.count ≡ 0 → run.first ≡ 0) → (if holds then run else record { first = 0; count = 0 }).count ≡ 0 → (if holds then run else record { first = 0; count = 0 }).first ≡ 0
empty-if true run h e = h refl e
empty-if false run h e = refl

one-or : (is_one : Bool) (run : Run) → 0 < run.count → 0 < (if is_one then record { first = 0; count = 1 } else run).count
one-or true run h = omega arith
one-or false run h = h

pub empty-by : (o : Operand) (at : SettingView) → (run_by o at).count ≡ 0 → (run_by o at).first ≡ 0
empty-by o at =
    let width = width_of o (sew at.vtype) in
    let count = count_by o at in
    let run = words_from width at.vstart count in
    empty-if (ltb at.vstart count) (if is_element o then record { first = 0; count = 1 } else run) (λ h none.
    let some = one-or (is_element o) run (some-word width at.vstart count h) in
    absurd (omega (arith, some, none)))

-- ---- the run of a rule

abbrev run_as : Reading → Rule → Run
run_as r rule = run_of (is_first_alone rule) (destination_width r) r.at.vstart (count_of r)

is-in : (r : Reading) (rule : Rule) (w : ℕ) → is_tell rule ≡ false → (is_first_alone rule ≡ true → count_of r ≡ r.at.vl) → Contains (map (made_by r rule) (handled_by r rule)) w → IsInRun (run_as r rule) w
is-in r (Each f) w t one c = in-range (ltb r.at.vstart (count_of r)) _ _ w c
is-in r (Index f) w t one c = in-range (ltb r.at.vstart (count_of r)) _ _ w c
is-in r (Permutes f) w t one c = in-range (ltb r.at.vstart (count_of r)) _ _ w c
is-in r Pack w t one c = in-range (ltb r.at.vstart (count_of r)) _ _ w c
is-in r (Reduce f) w t one c = in-first (ltb r.at.vstart (count_of r)) _ _ w c
is-in r Put w t one c =
    subst (λ n. IsInRun (run_if (ltb r.at.vstart n) 0 1) w) (sym (one refl)) (in-one (ltb r.at.vstart r.at.vl) w c)
is-in r (Tell f) w t one c = absurd (false≢true (sym t))

is-made : (r : Reading) (rule : Rule) (w : ℕ) → is_tell rule ≡ false → (is_first_alone rule ≡ true → count_of r ≡ r.at.vl) → IsInRun (run_as r rule) w → Contains (map (made_by r rule) (handled_by r rule)) w
is-made r (Each f) w t one h = of-range (ltb r.at.vstart (count_of r)) _ _ w h
is-made r (Index f) w t one h = of-range (ltb r.at.vstart (count_of r)) _ _ w h
is-made r (Permutes f) w t one h = of-range (ltb r.at.vstart (count_of r)) _ _ w h
is-made r Pack w t one h = of-range (ltb r.at.vstart (count_of r)) _ _ w h
is-made r (Reduce f) w t one h = of-first (ltb r.at.vstart (count_of r)) _ _ w (some-word (vs2_width r) r.at.vstart (count_of r)) h
is-made r Put w t one h =
    of-one (ltb r.at.vstart r.at.vl) w (subst (λ n. IsInRun (run_if (ltb r.at.vstart n) 0 1) w) (one refl) h)
is-made r (Tell f) w t one h = absurd (false≢true (sym t))

-- one element has no whole registers
one-count : (o : Operand) (at : SettingView) → is_element o ≡ true → count_by o at ≡ at.vl
one-count Element at h = refl
one-count WideElement at h = refl
one-count other at h = absurd (false≢true h)

pub record IsRun (r : Reading) (run : Run) : Type 0 where
  pub holds : (w : ℕ) → Contains (made_words r) w → IsInRun run w
  pub made : (w : ℕ) → IsInRun run w → Contains (made_words r) w

same-run : (r : Reading) → run_as r (rule_of r.family) ≡ run_by (operands_of r.family).destination r.at
same-run r = λ j. run_of (one-is r.family j) (destination_width r) r.at.vstart (count-by r j)

one-all : (r : Reading) → is_first_alone (rule_of r.family) ≡ true → count_of r ≡ r.at.vl
one-all r h = count-by r ∙ one-count (operands_of r.family).destination r.at (sym (one-is r.family) ∙ h)

pub run-is : (r : Reading) → is_telling r.family ≡ false → IsRun r (run_by (operands_of r.family).destination r.at)
run-is r t =
    let untold = tell-is r.family ∙ t in
    record {
      holds = λ w c. subst (λ run. IsInRun run w) (same-run r) (is-in r (rule_of r.family) w untold (one-all r) c);
      made = λ w h. is-made r (rule_of r.family) w untold (one-all r) (subst (λ run. IsInRun run w) (sym (same-run r)) h);
    }
