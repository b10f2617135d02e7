-- Words all of whose elements are active.
use Rattle.std.proofs.Common.{◌≡◌, ◌≢◌, ℕ, zero, suc, ◌+◌, ◌*◌, ◌/◌, ◌%◌, ◌^◌, ◌<◌, ◌≤◌, Bool, true, false, ◌&&◌, ◌||◌, IsTrue, List, length, length-set, slice_index, slice_set, leb, ltb, if◌then◌else◌, refl, sym, ap, ◌∙◌, subst, ⊎_elim, arith, eq-or-lt_of_le, le-leb, lt-ltb, mul-le-mul_right}
use Rattle.std.proofs.lemmas.Bool.{cases_Bool, true≢false}
use Rattle.std.proofs.lemmas.Grind.{get_or-set_at}
use Rattle.std.proofs.lemmas.List.{get_or-set_other}
use Rattle.vx_bits.specs.Width.{is_width}
use Rattle.vx_packed.specs.Joined.{joined, lane}
use Rattle.vx_packed.specs.Made.{even_packing, lane_of, made}
use Rattle.vx_packed.specs.declared.elements.Made.{Made}
use Rattle.vx_packed.specs.declared.elements.Packing.{Packing}
use Rattle.vx_packed.specs.declared.elements.Sources.{Sources}
use Rattle.vx_rows.specs.Families.{operands_of}
use Rattle.vx_rows.specs.declared.row.First.{First}
use Rattle.vx_rows.specs.declared.row.First.TheVariants.{Vector}
use Rattle.vx_rows.specs.declared.row.Vm.{Vm}
use Rattle.vx_rows.specs.declared.row.Vm.TheVariants.{Any, Zero, One}
use Rattle.vx_vstate.specs.Registers.{element, word_at}
use Rattle.vx_vector.specs.Arithmetic.{becomes, has_saturated, words_after}
use Rattle.vx_vector.specs.Laws.{IsSound, element_after, made_word, per_word, word_saturates}
use Rattle.vx_vector.specs.Numbers.{Numbers}
use Rattle.vx_vector.specs.Reading.{Reading, count_of, destination_width, element_of, is_active, is_unmasked_by, mask_bit, number_by, numbers_at, second_by, sew_of, vs1_width}
use Rattle.vx_vector.specs.Rules.{rule_of}
use Rattle.vx_vector.specs.Words.{destination_words}
use Rattle.vx_operands.specs.Forms.{second_operand}
use Rattle.vx_operands.specs.Lanes.{AreLanes, AreSources, answer, index_at, is_each, numbers_of}
use Rattle.vx_operands.proofs.Even.{IsEvenOf, count_even, destination_even, sources_are, vs1_even}
use Rattle.vx_operands.proofs.Places.{even_element}
use Rattle.vx_operands.proofs.Merging.{Element, Same, element_is, none_below, saturates_is}

unmasked_by : (r : Reading) (v : Vm) → r.places.vm ≡ true → is_unmasked_by r v ≡ true
unmasked_by r Any h = h
unmasked_by r Zero h = refl
unmasked_by r One h = refl

pub all_active : (r : Reading) (i : ℕ) → r.at.vstart ≡ 0 → i < count_of r → r.places.vm ≡ true → is_active r i ≡ true
all_active r i start below h =
    let unmasked = unmasked_by r r.vm h in
    let low : r.at.vstart ≤ i = omega (arith, start) in
    let from : leb r.at.vstart i ≡ true = le-leb r.at.vstart i low in
    let to : ltb i (count_of r) ≡ true = lt-ltb i (count_of r) below in
    λ j. (from j && to j) && (unmasked j || mask_bit r i)

-- the new elements are the word
pub full_value : Same → (r : Reading) (w : ℕ) (at : Packing) (from : Sources) (new : Made) → IsTrue (is_each (rule_of r.family)) → at.width ≡ destination_width r → at.count ≡ per_word r → AreSources r w at from → ((k : ℕ) → k < per_word r → is_active r (index_at r w k) ≡ true) → new ≡ made at from (λ l. answer r.family (numbers_of (sew_of r) r.at.vxrm l)) → new.value ≡ made_word r w
full_value same r w at from new each width count sources active is =
    let d = destination_width r in
    ap (λ (m : Made). m.value) is
    ∙ (λ i. joined (width i) (count i) (λ k. (answer r.family (numbers_of (sew_of r) r.at.vxrm (lane_of at from k))).value))
    ∙ same d (per_word r) (λ k. (answer r.family (numbers_of (sew_of r) r.at.vxrm (lane_of at from k))).value) (λ k. element_after r (w * per_word r + k))
    (λ k l.
    let i = w * per_word r + k in
    ap (λ x. x % 2 ^ d) (
    ap (λ n. (answer r.family n).value) (sources k l)
    ∙ sym (element_is r i each ∙ ap (λ (b : Bool). if b then (answer r.family (numbers_at r i)).value else element_of r r.places.vd d i) (active k l))))

and_never : (b : Bool) → (b && false) ≡ false
and_never true = refl
and_never false = refl

-- where no element ever saturates
pub never_sat : (r : Reading) (w : ℕ) → IsTrue (is_each (rule_of r.family)) → ((n : Numbers) → (answer r.family n).sat ≡ false) → word_saturates r w ≡ false
never_sat r w each never =
    none_below (per_word r) (λ k. has_saturated (becomes r (w * per_word r + k)))
    (λ k l.
    saturates_is r (w * per_word r + k) each
    ∙ ap (λ b. is_active r (w * per_word r + k) && b) (never (numbers_at r (w * per_word r + k)))
    ∙ and_never (is_active r (w * per_word r + k)))

-- word w begins before the last element, and ends there at the most
pub begins : (w count n vl : ℕ) → 0 < n → count * n ≤ vl → w < count → w * n < vl
begins w count n vl some below l =
    let next : suc w ≤ count = l in
    let rows = mul-le-mul_right n next in
    omega arith

pub ends : (w count n k vl : ℕ) → count * n ≤ vl → w < count → k < n → w * n + k < vl
ends w count n k vl below l inside =
    let next : suc w ≤ count = l in
    let rows = mul-le-mul_right n next in
    omega arith

pub some_lanes : (sew : ℕ) → IsTrue (is_width sew) → 0 < 64 / sew
some_lanes sew h = grind (arith, h)

-- ---- the second operand

pub by_number : (r : Reading) (f : First) (i : ℕ) → (f ≡ Vector → ⊥) → number_by r f % 2 ^ sew_of r ≡ second_by r f i
by_number r Vector i h = absurd (h refl)
by_number r other i h = refl

pub second_lanes : Element → (r : Reading) (w sew b fixed x : ℕ) (is_group : Bool) → IsEvenOf r.first (operands_of r.family) → sew ≡ sew_of r → IsTrue (is_width sew) → (is_group ≡ true → r.first ≡ Vector) → (is_group ≡ false → r.first ≡ Vector → ⊥) → (is_group ≡ true → b ≡ word_at r.at.vlen r.words r.places.vs1 w) → (is_group ≡ false → b ≡ fixed) → fixed ≡ joined sew (64 / sew) (λ k. x) → x ≡ number_by r r.first → AreLanes sew b (64 / sew) (λ k. second_operand r (w * (64 / sew) + k))
second_lanes joins r w sew b fixed x is_group even e width group other of_group of_other splat is k l =
    ⊎_elim
    (λ t.
    let v = group t in
    let widths : vs1_width r ≡ sew = vs1_even r even v ∙ sym e in
    ap (λ word. lane sew word k) (of_group t)
    ∙ sym (even_element r.at.vlen r.words r.places.vs1 sew w k width l)
    ∙ ap (λ n. element r.at.vlen r.words r.places.vs1 n (w * (64 / sew) + k)) (sym widths)
    ∙ ap (λ (f : First). second_by r f (w * (64 / sew) + k)) (sym v))
    (λ f.
    ap (λ word. lane sew word k) (of_other f ∙ splat)
    ∙ joins sew (64 / sew) (λ k. x) k l
    ∙ (λ i. is i % 2 ^ e i)
    ∙ by_number r r.first (w * (64 / sew) + k) (other f))
    (cases_Bool is_group)

-- what the law says of a word
abbrev pub IsMade : Type 0
IsMade = (r : Reading) (w : ℕ) → IsSound r → word_at r.at.vlen r.words r.places.vd w < 2 ^ 64 → w < length (destination_words r) → word_at r.at.vlen (words_after r) r.places.vd w ≡ made_word r w

pub full_word : Same → IsMade → (r : Reading) (w count sew : ℕ) (from : Sources) (new : Made) → IsSound r → IsTrue (is_each (rule_of r.family)) → IsEvenOf r.first (operands_of r.family) → sew ≡ sew_of r → IsTrue (is_width sew) → count * (64 / sew) ≤ r.at.vl → w < count → r.at.vstart ≡ 0 → r.places.vm ≡ true → w < length (destination_words r) → from.a ≡ word_at r.at.vlen r.words r.places.vs2 w → AreLanes sew from.b (64 / sew) (λ k. second_operand r (w * (64 / sew) + k)) → from.d ≡ word_at r.at.vlen r.words r.places.vd w → from.m ≡ 0 → from.d < 2 ^ 64 → new ≡ made (even_packing sew) from (λ l. answer r.family (numbers_of sew r.at.vxrm l)) → new.value ≡ word_at r.at.vlen (words_after r) r.places.vd w
full_word same law r w count sew from new sound each even e width below l start vm within a b d m small is =
    let widths : IsTrue (is_width (sew_of r)) = subst (λ n. IsTrue (is_width n)) e width in
    let sources : AreSources r w (even_packing (sew_of r)) from = sources_are r w sew from even widths e a b d (λ f. absurd (true≢false (sym vm ∙ f))) (λ t. m) in
    let n : 64 / sew_of r ≡ per_word r = ap (λ n. 64 / n) (sym (destination_even r even)) in
    let most : count * per_word r ≤ count_of r = subst (λ n. count * n ≤ count_of r) (ap (λ s. 64 / s) e ∙ n) (subst (λ c. count * (64 / sew) ≤ c) (sym (count_even r even)) below) in
    let all : (k : ℕ) → k < per_word r → is_active r (index_at r w k) ≡ true = λ k inside. all_active r (w * per_word r + k) start (ends w count (per_word r) k (count_of r) most l inside) vm in
    let made_of : new ≡ made (even_packing (sew_of r)) from (λ l. answer r.family (numbers_of (sew_of r) r.at.vxrm l)) = is ∙ ap (λ s. made (even_packing s) from (λ l. answer r.family (numbers_of s r.at.vxrm l))) e in
    full_value same r w (even_packing (sew_of r)) from new each (sym (destination_even r even)) n sources all made_of
    ∙ sym (law r w sound (subst (λ x. x < 2 ^ 64) d small) within)

-- ---- one word more

pub record IsFilledBelow (f : ℕ → ℕ) (size n : ℕ) (words : List ℕ) : Type 0 where
  pub room : length words ≡ size
  pub made : (k : ℕ) → k < n → slice_index words k ≡ f k

pub filled_none : (f : ℕ → ℕ) (words : List ℕ) → IsFilledBelow f (length words) 0 words
filled_none f words = record { room = refl; made = λ k l. absurd (omega (arith, l)) }

pub filled_more : (f : ℕ → ℕ) (size n value : ℕ) (words : List ℕ) → IsFilledBelow f size n words → n < size → value ≡ f n → IsFilledBelow f size (n + 1) (slice_set words n value)
filled_more f size n value words h l is = record {
  room = length-set words n value ∙ h.room;
  made = λ k b.
      let at_most : k ≤ n = omega arith in
      let within : n < length words = omega (arith, h.room) in
      ⊎_elim
      (λ e. get_or-set_at words n k value 0 e within ∙ is ∙ ap f (sym e))
      (λ less. get_or-set_other words n k value 0 (λ e. omega (arith, e, less)) ∙ h.made k less)
      (eq-or-lt_of_le at_most);
}
