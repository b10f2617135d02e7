-- The words that are made are words of the destination.
use Rattle.std.proofs.Common.{◌≡◌, ℕ, zero, suc, ◌+◌, ◌-◌, ◌*◌, ◌<◌, ◌≤◌, Bool, true, false, not, ◌&&◌, ◌||◌, if◌then◌else◌, ltb, [], ◌∷◌, map, length, None, refl, sym, ◌∙◌, subst, ⊎_elim, arith, mul-le-mul_right}
use Rattle.std.specs.List.{Contains, range_with_len}
use Rattle.std.proofs.lemmas.Bool.{and_parts, or_cases, ltb-true, false≢true, true≢false}
use Rattle.std.proofs.lemmas.Bool.Decides.{nat_tests}
use Rattle.std.proofs.lemmas.List.FromFn.{length-range_with_len}
use Rattle.vx_rows.specs.Families.{family_line, operands_of}
use Rattle.vx_rows.specs.declared.family.Operand.{Operand}
use Rattle.vx_rows.specs.declared.family.Operand.TheVariants.{Absent}
use Rattle.vx_rows.specs.declared.row.Class.TheVariants.{VectorArithmetic}
use Rattle.vx_decode.specs.Legal.{begins_at_first}
use Rattle.vx_vstate.specs.Registers.{words_of_register, place_of, element_word}
use Rattle.vx_vstate.specs.State.{IsSetting}
use Rattle.vx_vector.specs.Arithmetic.{told, told_by}
use Rattle.vx_vector.specs.Laws.{IsSound, is_absent, made_words}
use Rattle.vx_vector.specs.Reading.{Reading, destination_width, count_in, count_of}
use Rattle.vx_vector.specs.Rules.{Rule, rule_of}
use Rattle.vx_vector.specs.Rules.Rule.{Each, Index, Permute as Permutes, Reduce, Pack, Put, Tell}
use Rattle.vx_vector.specs.Words.{registers_of_operand, places_of_operand, destination_words, words_holding, handled_by, made_by}
use Rattle.vx_vector.proofs.Members.{member_before_map, range_parts}
use Rattle.vx_vector.proofs.Suits.{needs_all, is_single, is_grouped, is_whole, fits, rule_fits}
use Rattle.vx_vector.proofs.Written.{by_group, by_whole}

-- a word that holds elements is no later than that of the last one
held-by : (b : Bool) (from n w : ℕ) → Contains (if b then range_with_len from n else []) w → (b ≡ true) × (w < from + n) × (from ≤ w)
held-by true from n w h = let p = range_parts from n w h in (refl, p.1, p.0)
held-by false from n w h = absurd (omega (arith, h.1))

record IsHeld (r : Reading) (width w : ℕ) : Type 0 where
  pub some : r.at.vstart < count_of r
  pub until : w ≤ element_word width (count_of r - 1)

held : (r : Reading) (width w : ℕ) → Contains (words_holding r width) w → IsHeld r width w
held r width w h =
    let from = element_word width r.at.vstart in
    let n = element_word width (count_of r - 1) + 1 - from in
    let p = held-by (ltb r.at.vstart (count_of r)) from n w h in
    record { some = ltb-true r.at.vstart (count_of r) p.0; until = omega (arith, p.1, p.2) }

some-words : (r : Reading) → IsSetting r.at → 0 < words_of_register r.at.vlen
some-words r k = let h = k.vlen_in_range in grind (arith, nat_tests, h)

first-inside : (r : Reading) → IsSetting r.at → (o : Operand) → 0 < registers_of_operand r o * words_of_register r.at.vlen
first-inside r k o =
    let some = some-words r k in
    let one : 1 ≤ registers_of_operand r o = omega arith in
    let product = mul-le-mul_right (words_of_register r.at.vlen) one in
    omega arith

last-inside : (r : Reading) (w : ℕ) → IsSound r → ((i : ℕ) → i < count_of r → i < count_in r (operands_of r.family).destination) → IsHeld r (destination_width r) w → w < registers_of_operand r (operands_of r.family).destination * words_of_register r.at.vlen
last-inside r w s within h =
    let last : count_of r - 1 < count_of r = omega (arith, h.some) in
    let inside = s.destination.within (count_of r - 1) (within (count_of r - 1) last) in
    omega (arith, h.until)

put-first : (b : Bool) (x : ℕ) → Contains {X = ℕ} (if b then 0 ∷ [] else []) x → x ≡ 0
put-first true x (zero, l, e) = sym e
put-first true x (suc k, l, e) = absurd (omega (arith, l))
put-first false x h = absurd (omega (arith, h.1))

inside-by : (r : Reading) (rule : Rule) (w : ℕ) → IsSound r → fits rule (needs_all (family_line r.family).unit) (begins_at_first (VectorArithmetic r.family)) (operands_of r.family).destination ≡ true → Contains (map (made_by r rule) (handled_by r rule)) w → told_by rule r ≡ None → w < registers_of_operand r (operands_of r.family).destination * words_of_register r.at.vlen
inside-by r (Each f) w s h m t =
    let kind = (and_parts (not (needs_all (family_line r.family).unit)) (is_grouped (operands_of r.family).destination || is_whole (operands_of r.family).destination) h).1 in
    let x = member_before_map (made_by r (Each f)) (handled_by r (Each f)) w m in
    let inside = last-inside r x.0 s (λ i l. ⊎_elim (λ g. by_group r s.setting i g l) (λ g. by_whole r i g l) (or_cases (is_grouped (operands_of r.family).destination) (is_whole (operands_of r.family).destination) kind)) (held r (destination_width r) x.0 x.1) in
    subst (λ v. v < registers_of_operand r (operands_of r.family).destination * words_of_register r.at.vlen) x.2 inside
inside-by r (Index f) w s h m t =
    let kind = (and_parts (not (needs_all (family_line r.family).unit)) (is_grouped (operands_of r.family).destination) h).1 in
    let x = member_before_map (made_by r (Index f)) (handled_by r (Index f)) w m in
    subst (λ v. v < registers_of_operand r (operands_of r.family).destination * words_of_register r.at.vlen) x.2 (last-inside r x.0 s (λ i l. by_group r s.setting i kind l) (held r (destination_width r) x.0 x.1))
inside-by r (Permutes f) w s h m t =
    let kind = (and_parts (needs_all (family_line r.family).unit) (is_grouped (operands_of r.family).destination) h).1 in
    let x = member_before_map (made_by r (Permutes f)) (handled_by r (Permutes f)) w m in
    subst (λ v. v < registers_of_operand r (operands_of r.family).destination * words_of_register r.at.vlen) x.2 (last-inside r x.0 s (λ i l. by_group r s.setting i kind l) (held r (destination_width r) x.0 x.1))
inside-by r Pack w s h m t =
    let parts = and_parts (needs_all (family_line r.family).unit && is_grouped (operands_of r.family).destination) (begins_at_first (VectorArithmetic r.family)) h in
    let kind = (and_parts (needs_all (family_line r.family).unit) (is_grouped (operands_of r.family).destination) parts.0).1 in
    let x = member_before_map (made_by r Pack) (handled_by r Pack) w m in
    subst (λ v. v < registers_of_operand r (operands_of r.family).destination * words_of_register r.at.vlen) x.2 (last-inside r x.0 s (λ i l. by_group r s.setting i kind l) (held r (destination_width r) x.0 x.1))
inside-by r (Reduce f) w s h m t =
    let x = member_before_map (made_by r (Reduce f)) (handled_by r (Reduce f)) w m in
    subst (λ v. v < registers_of_operand r (operands_of r.family).destination * words_of_register r.at.vlen) x.2 (first-inside r s.setting (operands_of r.family).destination)
inside-by r Put w s h m t =
    let x = member_before_map (made_by r Put) (handled_by r Put) w m in
    let none = put-first (ltb r.at.vstart r.at.vl) x.0 x.1 in
    subst (λ v. v < registers_of_operand r (operands_of r.family).destination * words_of_register r.at.vlen) (sym none ∙ x.2) (first-inside r s.setting (operands_of r.family).destination)
inside-by r (Tell f) w s h m t = absurd (cc)

-- a row that tells nothing has a destination
grouped-present : (o : Operand) → is_grouped o ≡ true → is_absent o ≡ false
grouped-present Absent h = absurd (false≢true h)
grouped-present other h = refl

whole-present : (o : Operand) → is_whole o ≡ true → is_absent o ≡ false
whole-present Absent h = absurd (false≢true h)
whole-present other h = refl

single-present : (o : Operand) → is_single o ≡ true → is_absent o ≡ false
single-present Absent h = absurd (false≢true h)
single-present other h = refl

present-by : (r : Reading) (rule : Rule) → fits rule (needs_all (family_line r.family).unit) (begins_at_first (VectorArithmetic r.family)) (operands_of r.family).destination ≡ true → told_by rule r ≡ None → is_absent (operands_of r.family).destination ≡ false
present-by r (Each f) h t =
    let kind = (and_parts (not (needs_all (family_line r.family).unit)) (is_grouped (operands_of r.family).destination || is_whole (operands_of r.family).destination) h).1 in
    ⊎_elim (grouped-present (operands_of r.family).destination) (whole-present (operands_of r.family).destination) (or_cases (is_grouped (operands_of r.family).destination) (is_whole (operands_of r.family).destination) kind)
present-by r (Index f) h t = grouped-present (operands_of r.family).destination (and_parts (not (needs_all (family_line r.family).unit)) (is_grouped (operands_of r.family).destination) h).1
present-by r (Permutes f) h t = grouped-present (operands_of r.family).destination (and_parts (needs_all (family_line r.family).unit) (is_grouped (operands_of r.family).destination) h).1
present-by r (Reduce f) h t = single-present (operands_of r.family).destination (and_parts (needs_all (family_line r.family).unit) (is_single (operands_of r.family).destination) h).1
present-by r Pack h t = grouped-present (operands_of r.family).destination (and_parts (needs_all (family_line r.family).unit) (is_grouped (operands_of r.family).destination) (and_parts (needs_all (family_line r.family).unit && is_grouped (operands_of r.family).destination) (begins_at_first (VectorArithmetic r.family)) h).0).1
present-by r Put h t = single-present (operands_of r.family).destination (and_parts (needs_all (family_line r.family).unit) (is_single (operands_of r.family).destination) h).1
present-by r (Tell f) h t = absurd (cc)

length-places : (r : Reading) (o : Operand) (register : ℕ) → is_absent o ≡ false → length (places_of_operand r o register) ≡ registers_of_operand r o * words_of_register r.at.vlen
length-places r Absent register p = absurd (true≢false p)
length-places r other register p = length-range_with_len (place_of r.at.vlen register 0) (registers_of_operand r other * words_of_register r.at.vlen)

pub made-inside : (r : Reading) (w : ℕ) → IsSound r → told r ≡ None → Contains (made_words r) w → w < length (destination_words r)
made-inside r w s t m =
    let fit = rule_fits r.family in
    let present = present-by r (rule_of r.family) fit t in
    subst (λ n. w < n) (sym (length-places r (operands_of r.family).destination r.places.vd present)) (inside-by r (rule_of r.family) w s fit m t)
