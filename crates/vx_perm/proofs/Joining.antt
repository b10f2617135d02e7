-- Elements that stand in a row in the source and go into one word.
use Rattle.std.proofs.Common.{◌≡◌, ℕ, suc, List, ◌+◌, ◌-◌, ◌*◌, ◌/◌, ◌%◌, ◌^◌, ◌<◌, ◌≤◌, Bool, true, ◌&&◌, ◌||◌, IsTrue, nat_eq, leb, ltb, if◌then◌else◌, refl, sym, ap, ◌∙◌, subst, ⊎_elim, arith, pow_pos, mod-lt, mod-eq_of_lt, mul-le-mul_right, Some, unwrap_or}
use Rattle.std.proofs.lemmas.Bool.{cases_lt, and_parts}
use Rattle.std.proofs.lemmas.Bool.Decides.{nat_tests}
use Rattle.std.proofs.lemmas.Nat.{mod-pow-add}
use Rattle.std.proofs.Math.Nat.{mod-add-div', mul-div_cancel, mul-mod_left, mod-mod}
use Rattle.std.proofs.Math.Pow.{shr_lt}
use Rattle.std.specs.Int.Bits.{bit_or}
use Rattle.vx_base.specs.Numbers.{field}
use Rattle.vx_bits.specs.Width.{is_width}
use Rattle.vx_packed.specs.Joined.{lane, joined}
use Rattle.vx_vstate.specs.Registers.{element, element_word, element_bit, is_element_width, place_of, word_at, words_of_all}
use Rattle.vx_vector.specs.Laws.{IsPlaced, made_word}
use Rattle.vx_vector.specs.Reading.{Reading, count_of, destination_width, element_of, is_active, lists_of, mask_bit, sew_of, vs1_width}
use Rattle.vx_vector.specs.Rules.{rule_of}
use Rattle.vx_operands.specs.Forms.{is_unmasked}
use Rattle.vx_operands.specs.Rising.{is_by_index, moved_by}
use Rattle.vx_operands.proofs.ByIndex.{Lanes, is_below, moved_value, one_lane}
use Rattle.vx_operands.proofs.Merging.{Same, Whole, full_bit}
use Rattle.vx_operands.proofs.Places.{filled, first_word, in_one, lane_shifted}
use Rattle.vx_packed.proofs.Masks.{or_above}
use Rattle.vx_decode.specs.Groups.{width_of}
use Rattle.vx_rows.specs.Families.{operands_of}
use Rattle.vx_rows.specs.declared.family.Family.{Family}
use Rattle.vx_rows.specs.declared.family.Family.TheVariants.{Vrgather}
use Rattle.vx_rows.specs.declared.row.First.TheVariants.{Vector}
use Rattle.vx_vstate.specs.State.{IsSetting}
use Rattle.vx_vector.specs.Lists.{gather_index}
use Rattle.vx_vector.specs.Words.{vs1_operand}
use Rattle.vx_perm.proofs.Facts.{index_is, index_place}
use Rattle.vx_perm.specs.Kinds.{IsIndexed}

-- ---- bits across two words

-- a number that is shifted left loses what goes beyond
cut : (n s k : ℕ) → s + k ≡ 64 → n * 2 ^ k % 2 ^ 64 ≡ n % 2 ^ s * 2 ^ k
cut n s k e =
    let back : n * 2 ^ k / 2 ^ k ≡ n = mul-div_cancel n (pow_pos k) in
    let left : n * 2 ^ k % 2 ^ k ≡ 0 = mul-mod_left n (2 ^ k) in
    ap (λ m. n * 2 ^ k % 2 ^ m) (sym e)
    ∙ mod-pow-add (n * 2 ^ k) s k
    ∙ (λ i. back i % 2 ^ s * 2 ^ k + left i)
    ∙ omega arith

pub across_is : (low high s k : ℕ) → s + k ≡ 64 → low < 2 ^ 64 → bit_or (low / 2 ^ s) (high * 2 ^ k % 2 ^ 64) ≡ low / 2 ^ s + high % 2 ^ s * 2 ^ k
across_is low high s k e small =
    let turned : k + s ≡ 64 = omega (arith, e) in
    let fits : k + s ≤ 64 = omega (arith, e) in
    let below : low / 2 ^ s < 2 ^ k = shr_lt k s (subst (λ n. low < 2 ^ n) (sym turned) small) in
    let moved : high * 2 ^ k % 2 ^ 64 ≡ high % 2 ^ s * 2 ^ k % 2 ^ 64 = cut high s k e ∙ sym (cut (high % 2 ^ s) s k e ∙ ap (λ n. n * 2 ^ k) (mod-mod high (2 ^ s))) in
    ap (λ n. bit_or (low / 2 ^ s) n) moved ∙ or_above (low / 2 ^ s) (high % 2 ^ s) k s fits below (mod-lt high (pow_pos s))

-- ---- where the elements stand

-- element `first` stands behind d others of its word
record IsSplit (width first d : ℕ) : Type 0 where
  below : d < 64 / width
  sum : first * width ≡ first * width / 64 * 64 + d * width
  bit : first * width % 64 ≡ d * width
  rest : (64 / width - d) * width + d * width ≡ 64

split : (width first : ℕ) → IsTrue (is_width width) → IsSplit width first (first % (64 / width))
split width first h =
    let per = 64 / width in
    let d = first % per in
    let full : per * width ≡ 64 = filled width h in
    let some : 0 < per = grind (arith, h) in
    let below : d < per = mod-lt first some in
    let parts : d + first / per * per ≡ first = mod-add-div' first per in
    let rows : first / per * (per * width) ≡ first / per * 64 = ap (λ n. first / per * n) full in
    let whole : (d + first / per * per) * width ≡ first * width = ap (λ n. n * width) parts in
    let sum : first * width ≡ first / per * 64 + d * width = omega (arith, rows, whole) in
    let next : suc d ≤ per = below in
    let top = mul-le-mul_right width next in
    let wide : 1 ≤ width = grind (arith, h) in
    let inside : d * width < 64 = omega (arith, top, full, wide) in
    let word : first * width / 64 ≡ first / per = ap (λ n. n / 64) sum ∙ omega (arith, inside) in
    let bit : first * width % 64 ≡ d * width = ap (λ n. n % 64) sum ∙ omega (arith, inside) in
    let left : per - d + d ≡ per = omega (arith, below) in
    let both : (per - d + d) * width ≡ per * width = ap (λ n. n * width) left in
    record {
      below = below;
      sum = omega (arith, sum, word);
      bit = bit;
      rest = omega (arith, both, full);
    }

-- an element of the first word, and one of the next
low_place : (width first d k : ℕ) → IsSplit width first d → 1 ≤ width → k < 64 / width - d → (element_word width (first + k) ≡ first * width / 64) × (element_bit width (first + k) ≡ first * width % 64 + k * width)
low_place width first d k p wide l =
    let next : suc k ≤ 64 / width - d = l in
    let top = mul-le-mul_right width next in
    let rest = p.rest in
    let bit = p.bit in
    let sum : (first + k) * width ≡ first * width + k * width = omega arith in
    let both = in_one (first * width) (k * width) (omega (arith, top, rest, bit, wide)) in
    (ap (λ n. n / 64) sum ∙ both.0, ap (λ n. n % 64) sum ∙ both.1)

high_place : (width first d k : ℕ) → IsSplit width first d → 1 ≤ width → k < d → (element_word width (first + (64 / width - d + k)) ≡ first * width / 64 + 1) × (element_bit width (first + (64 / width - d + k)) ≡ k * width)
high_place width first d k p wide l =
    let next : suc k ≤ d = l in
    let top = mul-le-mul_right width next in
    let rest = p.rest in
    let begins = p.sum in
    let before = mul-le-mul_right width p.below in
    let sum : (first + (64 / width - d + k)) * width ≡ first * width + (64 / width - d) * width + k * width = omega arith in
    let all : (first + (64 / width - d + k)) * width ≡ (first * width / 64 + 1) * 64 + k * width = omega (arith, sum, begins, rest) in
    let inside : k * width < 64 = omega (arith, top, rest, wide) in
    (ap (λ n. n / 64) all ∙ omega (arith, inside), ap (λ n. n % 64) all ∙ omega (arith, inside))

wide_of : (width : ℕ) → IsTrue (is_width width) → 1 ≤ width
wide_of width h = grind (arith, h)

pub count_some : (width : ℕ) → IsTrue (is_width width) → 0 < 64 / width
count_some width h = grind (arith, h)

pub next_place : (width first : ℕ) → IsTrue (is_width width) → 0 < first * width % 64 → (k : ℕ) → k ≡ 64 / width - first % (64 / width) → (k < 64 / width) × (element_word width (first + k) ≡ first * width / 64 + 1)
next_place width first h some k e =
    let d = first % (64 / width) in
    let p = split width first h in
    let bit = p.bit in
    let there : 0 < d = ⊎_elim (λ l. l) (λ m. let none : d ≡ 0 = omega (arith, m) in let z : d * width ≡ 0 * width = ap (λ n. n * width) none in absurd (omega (arith, z, bit, some))) (cases_lt 0 d) in
    let below = p.below in
    let at = high_place width first d 0 p (wide_of width h) there in
    let same : k ≡ 64 / width - d + 0 = omega (arith, e) in
    (omega (arith, e, there, below), ap (λ n. element_word width (first + n)) same ∙ at.0)

-- ---- the word that they make

module _ (whole : Whole) (same : Same) (vlen : ℕ) (words : List ℕ) (register width first : ℕ) (h : IsTrue (is_width width)) where
  abbrev pub from : ℕ → ℕ
  from k = element vlen words register width (first + k)

  abbrev pub d : ℕ
  d = first % (64 / width)

  low_is : (word : ℕ) → word < 2 ^ 64 → word ≡ word_at vlen words register (first * width / 64) → word / 2 ^ (first * width % 64) ≡ joined width (64 / width - d) from
  low_is word small is =
      let p = split width first h in
      let rest = p.rest in
      let bit = p.bit in
      let size : (64 / width - d) * width + first * width % 64 ≡ 64 = omega (arith, rest, bit) in
      let below : word / 2 ^ (first * width % 64) < 2 ^ ((64 / width - d) * width) = shr_lt ((64 / width - d) * width) (first * width % 64) (subst (λ n. word < 2 ^ n) (sym size) small) in
      sym (mod-eq_of_lt below)
      ∙ sym (whole width (64 / width - d) (word / 2 ^ (first * width % 64)))
      ∙ same width (64 / width - d) (lane width (word / 2 ^ (first * width % 64))) from (λ k l.
      let at = low_place width first d k p (wide_of width h) l in
      ap (λ n. n % 2 ^ width) (
      lane_shifted width word (first * width % 64) k
      ∙ (λ i. field (is i) (sym at.1 i) width)
      ∙ ap (λ n. field (word_at vlen words register n) (element_bit width (first + k)) width) (sym at.0)))

  high_is : (word : ℕ) → word ≡ word_at vlen words register (first * width / 64 + 1) → word % 2 ^ (first * width % 64) ≡ joined width d (λ k. from (64 / width - d + k))
  high_is word is =
      let p = split width first h in
      ap (λ n. word % 2 ^ n) p.bit
      ∙ sym (whole width d word)
      ∙ same width d (lane width word) (λ k. from (64 / width - d + k)) (λ k l.
      let at = high_place width first d k p (wide_of width h) l in
      ap (λ n. n % 2 ^ width) (
      (λ i. field (is i) (sym at.1 i) width)
      ∙ ap (λ n. field (word_at vlen words register n) (element_bit width (first + (64 / width - d + k))) width) (sym at.0)))

  pub alone_is : (word : ℕ) → word < 2 ^ 64 → word ≡ word_at vlen words register (first * width / 64) → first * width % 64 ≡ 0 → word ≡ joined width (64 / width) from
  alone_is word small is none =
      let p = split width first h in
      let rest = p.rest in
      let bit = p.bit in
      let full = filled width h in
      let wide = wide_of width h in
      let nothing : d ≡ 0 = ⊎_elim (λ l. let next : 1 ≤ d = l in let top = mul-le-mul_right width next in absurd (omega (arith, top, bit, none, wide))) (λ m. omega (arith, m)) (cases_lt 0 d) in
      let count : 64 / width - d ≡ 64 / width = omega (arith, nothing) in
      let one : word ≡ word / 2 ^ 0 = omega arith in
      one ∙ ap (λ n. word / 2 ^ n) (sym none) ∙ low_is word small is ∙ ap (λ n. joined width n from) count

  pub both_are : ((width n m : ℕ) (f : ℕ → ℕ) → joined width (n + m) f ≡ joined width n f + joined width m (λ k. f (n + k)) * 2 ^ (n * width)) → (low high : ℕ) → low < 2 ^ 64 → low ≡ word_at vlen words register (first * width / 64) → high ≡ word_at vlen words register (first * width / 64 + 1) → low / 2 ^ (first * width % 64) + high % 2 ^ (first * width % 64) * 2 ^ (64 - first * width % 64) ≡ joined width (64 / width) from
  both_are beside low high small low_at high_at =
      let p = split width first h in
      let rest = p.rest in
      let bit = p.bit in
      let below = p.below in
      let bits : 64 - first * width % 64 ≡ (64 / width - d) * width = omega (arith, rest, bit) in
      let count : 64 / width - d + d ≡ 64 / width = omega (arith, below) in
      (λ i. low_is low small low_at i + high_is high high_at i * 2 ^ bits i)
      ∙ sym (beside width (64 / width - d) d from)
      ∙ ap (λ n. joined width n from) count

-- ---- a word of a run

pub leb_tells : (a b : ℕ) → leb a b ≡ true → a ≤ b
leb_tells a b h = grind (arith, nat_tests, h)

both_true : (a b : Bool) → a ≡ true → b ≡ true → (a && b) ≡ true
both_true a b e f = λ i. e i && f i

le_true : (a b : ℕ) → a ≤ b → leb a b ≡ true
le_true a b h = grind (arith, nat_tests, h)

pub all_active : (r : Reading) (first count k : ℕ) → count_of r ≡ r.at.vl → (is_unmasked r && leb r.at.vstart first && leb (first + count) r.at.vl) ≡ true → k < count → is_active r (first + k) ≡ true
all_active r first count k is h l =
    let two = and_parts (is_unmasked r && leb r.at.vstart first) (leb (first + count) r.at.vl) h in
    let more = and_parts (is_unmasked r) (leb r.at.vstart first) two.0 in
    let begins = leb_tells r.at.vstart first more.1 in
    let ends = leb_tells (first + count) r.at.vl two.1 in
    both_true (leb r.at.vstart (first + k) && ltb (first + k) (count_of r)) (is_unmasked r || mask_bit r (first + k))
    (both_true (leb r.at.vstart (first + k)) (ltb (first + k) (count_of r)) (le_true r.at.vstart (first + k) (omega (arith, begins))) (is_below (first + k) (count_of r) (omega (arith, ends, is, l))))
    (ap (λ b. b || mask_bit r (first + k)) more.0)

-- a word all of whose elements are active and become something
pub moved_whole : Same → Lanes → (r : Reading) (w width old : ℕ) (f : ℕ → ℕ) → IsTrue (is_by_index (rule_of r.family)) → width ≡ destination_width r → IsTrue (is_element_width width) → 64 / width ≤ 64 → ((k : ℕ) → k < 64 / width → is_active r (w * (64 / width) + k) ≡ true) → old ≡ word_at r.at.vlen r.words r.places.vd w → ((k : ℕ) → k < 64 / width → moved_by (rule_of r.family) (lists_of r) (w * (64 / width) + k) ≡ Some (f k)) → joined width (64 / width) f ≡ made_word r w
moved_whole same lanes r w width old f by e is_width few active is moves =
    let all : ℕ = 2 ^ 64 - 1 in
    same width (64 / width) f (λ k. if nat_eq (lane 1 (2 ^ 64 - 1) k) 1 then unwrap_or (moved_by (rule_of r.family) (lists_of r) (w * (64 / width) + k)) (lane width old k) else lane width old k)
    (λ k l. ap (λ n. n % 2 ^ width) (sym (
    ap (λ (b : Bool). if b then unwrap_or (moved_by (rule_of r.family) (lists_of r) (w * (64 / width) + k)) (lane width old k) else lane width old k) (full_bit k (omega (arith, l, few)))
    ∙ ap (λ o. unwrap_or o (lane width old k)) (moves k l))))
    ∙ moved_value same lanes r w width (2 ^ 64 - 1) old by e is_width (λ k l. full_bit k (omega (arith, l, few)) ∙ sym (active k l)) is

-- ---- one lane after another

-- a word has the first k lanes of f, and nothing above
pub record AreFirst (width k value : ℕ) (f : ℕ → ℕ) : Type 0 where
  pub below : value < 2 ^ (k * width)
  pub is : value ≡ joined width k f

none_joined : (width : ℕ) (f : ℕ → ℕ) → joined width 0 f ≡ 0
unfolding joined
none_joined width f = refl

pub first_none : (width : ℕ) (f : ℕ → ℕ) → AreFirst width 0 0 f
first_none width f = record { below = pow_pos (0 * width); is = sym (none_joined width f) }

pub first_more : (width k value next lowest result : ℕ) (f : ℕ → ℕ) → AreFirst width k value f → next ≡ f k → lowest ≡ next % 2 ^ width → ((g : ℕ → ℕ) → value ≡ joined width k g → lowest ≡ joined width 1 (λ j. g (k + j)) → result ≡ joined width (k + 1) g) → result < 2 ^ ((k + 1) * width) → AreFirst width (k + 1) result f
first_more width k value next lowest result f so_far is low joins below =
    let same : k + 0 ≡ k = omega arith in
    record {
      below = below;
      is = joins f so_far.is (one_lane width lowest (λ j. f (k + j)) (low ∙ ap (λ m. m % 2 ^ width) (is ∙ sym (ap f same))));
    }

-- ---- the indices of a word

-- a gather's index is a lane of the word of vs1
pub index_lane : Lanes → (r : Reading) (w sew word k : ℕ) → IsSetting r.at → IsIndexed r → r.family ≡ Vrgather → r.first ≡ Vector → sew ≡ sew_of r → IsTrue (is_element_width sew) → word ≡ word_at r.at.vlen r.words r.places.vs1 w → k < 64 / sew → w * (64 / sew) + k < r.at.vl → lane sew word k ≡ gather_index (lists_of r) (w * (64 / sew) + k)
index_lane lanes r w sew word k setting indexed family v e width is l below =
    let even : sew ≡ vs1_width r = e ∙ sym (ap (λ (f : Family). width_of (operands_of f).vs1 (sew_of r)) family) in
    ap (λ x. lane sew x k) is
    ∙ sym (lanes r.at.vlen r.words r.places.vs1 sew w k width l)
    ∙ ap (λ s. element_of r r.places.vs1 s (w * (64 / sew) + k)) even
    ∙ index_is r (w * (64 / sew) + k) setting indexed v below

pub index_word : (r : Reading) (w sew : ℕ) → IsSetting r.at → IsIndexed r → r.family ≡ Vrgather → r.first ≡ Vector → sew ≡ sew_of r → IsTrue (is_width sew) → IsPlaced r (vs1_operand r) r.places.vs1 → w * (64 / sew) < r.at.vl → place_of r.at.vlen r.places.vs1 w < words_of_all r.at.vlen
index_word r w sew setting indexed family v e width placed below =
    let even : sew ≡ vs1_width r = e ∙ sym (ap (λ (f : Family). width_of (operands_of f).vs1 (sew_of r)) family) in
    let word : element_word (vs1_width r) (w * (64 / sew)) ≡ w = ap (λ s. element_word s (w * (64 / sew))) (sym even) ∙ first_word sew w width in
    subst (λ n. place_of r.at.vlen r.places.vs1 n < words_of_all r.at.vlen) word (index_place r (w * (64 / sew)) setting indexed v placed below)
