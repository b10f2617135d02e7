-- Elements at other indices, and those that a mask chooses.
use Rattle.std.proofs.Common.{◌≡◌, ◌⊎◌, ℕ, zero, suc, [], ◌∷◌, ◌++◌, ◌+◌, ◌-◌, ◌*◌, ◌/◌, ◌%◌, ◌^◌, ◌<◌, ◌≤◌, Bool, true, false, not, ◌&&◌, ◌||◌, IsTrue, nat_eq, leb, ltb, if◌then◌else◌, map, take, length, get_or, refl, sym, ap, ◌∙◌, subst, ⊎_elim, inl, inr, arith, eq-eqb, pow_pos, length-append, Some}
use Rattle.std.specs.List.{range_with_len}
use Rattle.std.proofs.Math.Seq.{get_or-append_seam}
use Rattle.std.proofs.lemmas.Bool.{false≢true, cases_lt}
use Rattle.std.proofs.lemmas.Bool.Decides.{nat_tests}
use Rattle.std.proofs.lemmas.List.{get_or_append_left, get_or_past}
use Rattle.std.proofs.lemmas.List.FromFn.{get_or-map-range_with_len, length-map-range_with_len, take-map-range_with_len}
use Rattle.vx_decode.specs.Groups.{width_of}
use Rattle.vx_packed.specs.Joined.{lane, joined}
use Rattle.vx_rows.specs.Families.{operands_of}
use Rattle.vx_rows.specs.declared.family.Family.{Family}
use Rattle.vx_rows.specs.declared.family.Family.TheVariants.{Vrgather, Vrgatherei16, Vslideup, Vslidedown, Vslide1up, Vslide1down, VmvSX, Vcompress}
use Rattle.vx_rows.specs.declared.family.Operand.{Operand}
use Rattle.vx_rows.specs.declared.family.Operand.TheVariants.{Single, Mask}
use Rattle.vx_rows.specs.declared.row.First.{First}
use Rattle.vx_rows.specs.declared.row.First.TheVariants.{Vector}
use Rattle.vx_operands.specs.Forms.{is_vector}
use Rattle.vx_operands.specs.declared.form.Form.{Form}
use Rattle.vx_vstate.specs.Registers.{element_word, is_element_width, place_of, words_of_all, word_at}
use Rattle.vx_vstate.specs.State.{IsSetting}
use Rattle.vx_vstate.specs.Vtype.{vlmax}
use Rattle.vx_vector.specs.Arithmetic.{given, becomes, becomes_by, has_saturated}
use Rattle.vx_vector.specs.Laws.{IsPlaced, element_after, made_word, per_word, value_after, word_saturates}
use Rattle.vx_vector.specs.Lists.{Lists, chosen, element_or_zero, gather_index, packed}
use Rattle.vx_vector.specs.Numbers.{plain}
use Rattle.vx_vector.specs.Reading.{Reading, sew_of, destination_width, vs1_width, count_in, element_of, elements_of, elements_by, lists_of, number_by}
use Rattle.vx_vector.specs.Rules.{rule_of}
use Rattle.vx_vector.specs.Words.{registers_of_operand, vs1_operand}
use Rattle.vx_operands.specs.Rising.{count_below, is_by_index, moved_by}
use Rattle.vx_operands.proofs.Places.{in_place}
use Rattle.vx_operands.proofs.Even.{vl-le, vs1_is}
use Rattle.vx_operands.proofs.ByIndex.{Lanes, quiet, is_below, not_below, one_lane}
use Rattle.vx_operands.proofs.Merging.{Same}
use Rattle.vx_operands.proofs.Counts.{count_zero, count_sum, count_alike, count_front, count_most, count_more, chosen_below, chosen_more, chosen_long}
use Rattle.vx_perm.specs.Kinds.{IsIndexed, IsPassed, chooses, is_gather, is_move, is_slide, is_pack, is_put, is_perm_form}
use Rattle.vx_perm.specs.declared.packs.Passed.{Passed}

follows : (a b : Bool) → (not a || b) ≡ true → a ≡ true → b ≡ true
follows true b h e = h
follows false b h e = absurd (false≢true e)

-- ---- slides and gathers

moves_suits : (f : Family) → (not (is_move f) || is_by_index (rule_of f)) ≡ true
moves_suits Vrgather = refl
moves_suits other = refl

pub moves_by_index : (f : Family) → IsTrue (is_move f) → IsTrue (is_by_index (rule_of f))
moves_by_index f h = follows (is_move f) (is_by_index (rule_of f)) (moves_suits f) h

pub moves_destination : (f : Family) → IsTrue (is_move f) → (operands_of f).destination ≡ Single
moves_destination Vrgather h = refl
moves_destination Vrgatherei16 h = refl
moves_destination Vslideup h = refl
moves_destination Vslidedown h = refl
moves_destination Vslide1up h = refl
moves_destination Vslide1down h = refl
moves_destination other h = absurd (false≢true h)

pub moves_vs2 : (f : Family) → IsTrue (is_move f) → (operands_of f).vs2 ≡ Single
moves_vs2 Vrgather h = refl
moves_vs2 Vrgatherei16 h = refl
moves_vs2 Vslideup h = refl
moves_vs2 Vslidedown h = refl
moves_vs2 Vslide1up h = refl
moves_vs2 Vslide1down h = refl
moves_vs2 other h = absurd (false≢true h)

-- ---- an element of an operand

pub placed_element : (r : Reading) (o : Operand) (register i : ℕ) → IsPlaced r o register → i < count_in r o → place_of r.at.vlen register (element_word (width_of o (sew_of r)) i) < words_of_all r.at.vlen
placed_element r o register i placed l = in_place register (registers_of_operand r o) (element_word (width_of o (sew_of r)) i) (r.at.vlen / 64) placed.room (placed.within i l)

pub source_place : (r : Reading) (register i : ℕ) → (operands_of r.family).vs2 ≡ Single → IsPlaced r (operands_of r.family).vs2 register → i < vlmax r.at.vlen r.at.vtype → place_of r.at.vlen register (element_word (sew_of r) i) < words_of_all r.at.vlen
source_place r register i e placed l = placed_element r Single register i (subst (λ (o : Operand). IsPlaced r o register) e placed) l

pub source_is : (r : Reading) (i : ℕ) → (operands_of r.family).vs2 ≡ Single → i < vlmax r.at.vlen r.at.vtype → element_of r r.places.vs2 (sew_of r) i ≡ element_or_zero (lists_of r) i
source_is r i e l =
    let z : 0 + i ≡ i = omega arith in
    sym (ap (λ (o : Operand). get_or (elements_of r o r.places.vs2) i 0) e
    ∙ get_or-map-range_with_len (element_of r r.places.vs2 (sew_of r)) 0 (vlmax r.at.vlen r.at.vtype) i i 0 l z)

pub source_past : (r : Reading) (i : ℕ) → (operands_of r.family).vs2 ≡ Single → vlmax r.at.vlen r.at.vtype ≤ i → 0 ≡ element_or_zero (lists_of r) i
source_past r i e l =
    let count = length-map-range_with_len (element_of r r.places.vs2 (sew_of r)) 0 (vlmax r.at.vlen r.at.vtype) in
    let short : length (map (element_of r r.places.vs2 (sew_of r)) (range_with_len 0 (vlmax r.at.vlen r.at.vtype))) ≤ i = omega (arith, count, l) in
    sym (ap (λ (o : Operand). get_or (elements_of r o r.places.vs2) i 0) e ∙ get_or_past (map (element_of r r.places.vs2 (sew_of r)) (range_with_len 0 (vlmax r.at.vlen r.at.vtype))) i 0 short)

-- an index, and a sum that is cut off at the greatest number: past all elements either way
pub cut_off : (r : Reading) (n : ℕ) → (operands_of r.family).vs2 ≡ Single → vlmax r.at.vlen r.at.vtype ≤ 2 ^ 64 - 1 → element_or_zero (lists_of r) (if ltb n (2 ^ 64) then n else 2 ^ 64 - 1) ≡ element_or_zero (lists_of r) n
cut_off r n e most =
    ⊎_elim
    (λ l. ap (λ (b : Bool). element_or_zero (lists_of r) (if b then n else 2 ^ 64 - 1)) (is_below n (2 ^ 64) l))
    (λ g.
    ap (λ (b : Bool). element_or_zero (lists_of r) (if b then n else 2 ^ 64 - 1)) (not_below n (2 ^ 64) g)
    ∙ sym (source_past r (2 ^ 64 - 1) e most)
    ∙ source_past r n e (omega (arith, most, g)))
    (cases_lt n (2 ^ 64))

pub index_place : (r : Reading) (i : ℕ) → IsSetting r.at → IsIndexed r → r.first ≡ Vector → IsPlaced r (vs1_operand r) r.places.vs1 → i < r.at.vl → place_of r.at.vlen r.places.vs1 (element_word (vs1_width r) i) < words_of_all r.at.vlen
index_place r i k indexed v placed l =
    let most = vl-le r.at k in
    placed_element r (operands_of r.family).vs1 r.places.vs1 i (subst (λ (o : Operand). IsPlaced r o r.places.vs1) (vs1_is r v) placed) (omega (arith, most, indexed.count, l))

pub index_is : (r : Reading) (i : ℕ) → IsSetting r.at → IsIndexed r → r.first ≡ Vector → i < r.at.vl → element_of r r.places.vs1 (vs1_width r) i ≡ gather_index (lists_of r) i
index_is r i k indexed v l =
    let most = vl-le r.at k in
    let z : 0 + i ≡ i = omega arith in
    sym (ap (λ (f : First). get_or (elements_by r f) i (number_by r r.first)) v
    ∙ get_or-map-range_with_len (element_of r r.places.vs1 (vs1_width r)) 0 (count_in r (operands_of r.family).vs1) i i (number_by r r.first) (omega (arith, most, indexed.count, l)) z)

-- ---- elements that are chosen

one_length : (b : Bool) (x : ℕ) → length (if b then x ∷ [] else []) ≡ (if b then 1 else 0)
one_length true x = refl
one_length false x = refl

pub chosen_length : (f : ℕ → ℕ) (h : ℕ → Bool) (n : ℕ) → length (chosen_below f h n) ≡ count_below h n
unfolding count_below
chosen_length f h zero = refl
chosen_length f h (suc n) =
    ap length (chosen_more f h n)
    ∙ length-append (chosen_below f h n) (if h n then f n ∷ [] else [])
    ∙ (λ i. chosen_length f h n i + one_length (h n) (f n) i)

grown : (f : ℕ → ℕ) (h : ℕ → Bool) (m d i : ℕ) → i < length (chosen_below f h m) → (get_or (chosen_below f h (m + d)) i 0 ≡ get_or (chosen_below f h m) i 0) × (length (chosen_below f h m) ≤ length (chosen_below f h (m + d)))
grown f h m zero i l =
    let z : m + 0 ≡ m = omega arith in
    let same = ap (λ n. length (chosen_below f h n)) z in
    (ap (λ n. get_or (chosen_below f h n) i 0) z, omega (arith, same))
grown f h m (suc d) i l =
    let e : m + suc d ≡ suc (m + d) = omega arith in
    let rest = grown f h m d i l in
    let inside : i < length (chosen_below f h (m + d)) = omega (arith, rest.1, l) in
    let more = chosen_more f h (m + d) in
    let count = ap (λ n. length (chosen_below f h n)) e ∙ ap length more ∙ length-append (chosen_below f h (m + d)) (if h (m + d) then f (m + d) ∷ [] else []) in (
      ap (λ n. get_or (chosen_below f h n) i 0) e ∙ ap (λ xs. get_or xs i 0) more ∙ get_or_append_left (chosen_below f h (m + d)) (if h (m + d) then f (m + d) ∷ [] else []) 0 i inside ∙ rest.0,
      omega (arith, rest.1, count),
    )

-- an element that is chosen stands behind as many as are chosen before it
pub chosen_at : (f : ℕ → ℕ) (h : ℕ → Bool) (n j i : ℕ) → j < n → h j ≡ true → i ≡ count_below h j → (i < length (chosen_below f h n)) × (get_or (chosen_below f h n) i 0 ≡ f j)
chosen_at f h n j i l t e =
    let whole : suc j + (n - suc j) ≡ n = omega (arith, l) in
    let here : chosen_below f h (suc j) ≡ chosen_below f h j ++ f j ∷ [] = chosen_more f h j ∙ ap (λ (b : Bool). chosen_below f h j ++ (if b then f j ∷ [] else [])) t in
    let place : i ≡ length (chosen_below f h j) = e ∙ sym (chosen_length f h j) in
    let size = ap length here ∙ length-append (chosen_below f h j) (f j ∷ []) in
    let inside : i < length (chosen_below f h (suc j)) = omega (arith, size, place) in
    let more = grown f h (suc j) (n - suc j) i inside in
    let last : get_or (chosen_below f h (suc j)) i 0 ≡ f j = ap (λ xs. get_or xs i 0) here ∙ ap (λ k. get_or (chosen_below f h j ++ f j ∷ []) k 0) place ∙ get_or-append_seam (chosen_below f h j) (f j) [] 0 in
    let total = ap (λ k. length (chosen_below f h k)) whole in
    (omega (arith, more.1, inside, total), ap (λ k. get_or (chosen_below f h k) i 0) (sym whole) ∙ more.0 ∙ last)

packed_is : (r : Reading) → IsSetting r.at → r.family ≡ Vcompress → r.first ≡ Vector → packed (lists_of r) ≡ chosen_below (element_of r r.places.vs2 (sew_of r)) (chooses r) r.at.vl
packed_is r k e v =
    ap (λ (f : Family). chosen (take r.at.vl (elements_of r (operands_of f).vs2 r.places.vs2)) (map (λ bit. nat_eq bit 1) (elements_by r r.first))) e
    ∙ ap (λ (f : First). chosen (take r.at.vl (elements_of r Single r.places.vs2)) (map (λ bit. nat_eq bit 1) (elements_by r f))) v
    ∙ ap (λ (f : Family). chosen (take r.at.vl (elements_of r Single r.places.vs2)) (map (λ bit. nat_eq bit 1) (elements_of r (operands_of f).vs1 r.places.vs1))) e
    ∙ ap (λ xs. chosen (take r.at.vl (elements_of r Single r.places.vs2)) xs) (map_map (element_of r r.places.vs1 1) 0 (vlmax r.at.vlen r.at.vtype))
    ∙ ap (λ xs. chosen xs (map (chooses r) (range_with_len 0 (vlmax r.at.vlen r.at.vtype)))) (take-map-range_with_len (element_of r r.places.vs2 (sew_of r)) 0 (vlmax r.at.vlen r.at.vtype) r.at.vl (vl-le r.at k))
    ∙ chosen_long (element_of r r.places.vs2 (sew_of r)) (chooses r) 0 (vlmax r.at.vlen r.at.vtype) r.at.vl (vl-le r.at k)
  where
    map_map : (g : ℕ → ℕ) (s n : ℕ) → map (λ bit. nat_eq bit 1) (map g (range_with_len s n)) ≡ map (λ i. nat_eq (g i) 1) (range_with_len s n)
    map_map g s zero = refl
    map_map g s (suc n) = ap (λ xs. nat_eq (g s) 1 ∷ xs) (map_map g (s + 1) n)

pack_becomes : (r : Reading) (i : ℕ) → r.family ≡ Vcompress → becomes r i ≡ given (ltb i (length (packed (lists_of r)))) (plain (get_or (packed (lists_of r)) i 0))
pack_becomes r i e = ap (λ (f : Family). becomes_by (rule_of f) r i) e

given_after : (b : Bool) (x old : ℕ) → value_after (given b (plain x)) old ≡ (if b then x else old)
given_after true x old = refl
given_after false x old = refl

given_quiet : (b : Bool) (x : ℕ) → has_saturated (given b (plain x)) ≡ false
given_quiet true x = refl
given_quiet false x = refl

pub pack_quiet : (r : Reading) (w : ℕ) → r.family ≡ Vcompress → word_saturates r w ≡ false
pack_quiet r w e = quiet r w (λ k l. ap has_saturated (pack_becomes r (w * per_word r + k) e) ∙ given_quiet (ltb (w * per_word r + k) (length (packed (lists_of r)))) (get_or (packed (lists_of r)) (w * per_word r + k) 0))

pub pack_found : (r : Reading) (i j old : ℕ) → IsSetting r.at → r.family ≡ Vcompress → r.first ≡ Vector → j < r.at.vl → chooses r j ≡ true → i ≡ count_below (chooses r) j → element_of r r.places.vs2 (sew_of r) j ≡ value_after (becomes r i) old
pack_found r i j old k e v l t c =
    let f : ℕ → ℕ = element_of r r.places.vs2 (sew_of r) in
    let list = packed_is r k e v in
    let at = chosen_at f (chooses r) r.at.vl j i l t c in
    let inside : ltb i (length (packed (lists_of r))) ≡ true = ap (λ xs. ltb i (length xs)) list ∙ is_below i (length (chosen_below f (chooses r) r.at.vl)) at.0 in
    sym at.1
    ∙ ap (λ xs. get_or xs i 0) (sym list)
    ∙ sym (ap (λ b. value_after b old) (pack_becomes r i e) ∙ ap (λ (b : Bool). value_after (given b (plain (get_or (packed (lists_of r)) i 0))) old) inside)

pub pack_past : (r : Reading) (i old : ℕ) → IsSetting r.at → r.family ≡ Vcompress → r.first ≡ Vector → count_below (chooses r) r.at.vl ≤ i → old ≡ value_after (becomes r i) old
pack_past r i old k e v l =
    let f : ℕ → ℕ = element_of r r.places.vs2 (sew_of r) in
    let count = ap length (packed_is r k e v) ∙ chosen_length f (chooses r) r.at.vl in
    let past : ltb i (length (packed (lists_of r))) ≡ false = not_below i (length (packed (lists_of r))) (omega (arith, count, l)) in
    sym (ap (λ b. value_after b old) (pack_becomes r i e) ∙ ap (λ (b : Bool). value_after (given b (plain (get_or (packed (lists_of r)) i 0))) old) past)

-- ---- words of the mask that are passed

pub le_zero : (x : ℕ) → leb 0 x ≡ true
le_zero x = grind (arith, nat_tests)

pub mask_bit_place : (r : Reading) (i : ℕ) → IsSetting r.at → (operands_of r.family).vs1 ≡ Mask → IsPlaced r (operands_of r.family).vs1 r.places.vs1 → i < r.at.vl → place_of r.at.vlen r.places.vs1 (element_word 1 i) < words_of_all r.at.vlen
mask_bit_place r i k e placed l =
    let most = vl-le r.at k in
    placed_element r Mask r.places.vs1 i (subst (λ (o : Operand). IsPlaced r o r.places.vs1) e placed) (omega (arith, most, l))

pub mask_word_place : (r : Reading) (v : ℕ) → IsSetting r.at → (operands_of r.family).vs1 ≡ Mask → IsPlaced r (operands_of r.family).vs1 r.places.vs1 → v * 64 < r.at.vl → place_of r.at.vlen r.places.vs1 v < words_of_all r.at.vlen
mask_word_place r v k e placed l =
    let w : element_word 1 (v * 64) ≡ v = omega arith in
    subst (λ n. place_of r.at.vlen r.places.vs1 n < words_of_all r.at.vlen) w (mask_bit_place r (v * 64) k e placed l)

-- so many elements were passed, which may lie past vl, and of those below it so many are chosen
pub record IsPassing (r : Reading) (target n chosen : ℕ) : Type 0 where
  pub is : chosen ≡ count_below (λ i. ltb i r.at.vl && chooses r i) n
  pub few : chosen ≤ target

pub passing_none : (r : Reading) (target : ℕ) → IsPassing r target (0 * 64) 0
passing_none r target =
    let z : 0 * 64 ≡ 0 = omega arith in
    record {
      is = sym (ap (λ n. count_below (λ i. ltb i r.at.vl && chooses r i) n) z ∙ count_zero (λ i. ltb i r.at.vl && chooses r i));
      few = omega arith;
    }

pub passing_more : (r : Reading) (target v chosen more : ℕ) → IsPassing r target (v * 64) chosen → more ≡ count_below (λ k. ltb (v * 64 + k) r.at.vl && chooses r (v * 64 + k)) 64 → chosen + more ≤ target → IsPassing r target ((v + 1) * 64) (chosen + more)
passing_more r target v chosen more p e few =
    let next : v * 64 + 64 ≡ (v + 1) * 64 = omega arith in
    record {
      is = (λ i. p.is i + e i) ∙ sym (count_sum (λ i. ltb i r.at.vl && chooses r i) (v * 64) 64) ∙ ap (λ n. count_below (λ i. ltb i r.at.vl && chooses r i) n) next;
      few = few;
    }

pub passing_stops : (r : Reading) (target n chosen : ℕ) → IsPassing r target n chosen → n < r.at.vl → IsPassed r target (record { elements = n; chosen = chosen })
passing_stops r target n chosen p l = record {
  most = omega (arith, l);
  chosen = p.is ∙ count_alike (λ i. ltb i r.at.vl && chooses r i) (chooses r) n (λ k k_below. ap (λ b. b && chooses r k) (is_below k r.at.vl (omega (arith, k_below, l))));
  few = p.few;
}

pub passing_ends : (r : Reading) (target n chosen : ℕ) → IsPassing r target n chosen → r.at.vl ≤ n → IsPassed r target (record { elements = r.at.vl; chosen = chosen })
passing_ends r target n chosen p l = record {
  most = omega arith;
  chosen = p.is ∙ count_front (chooses r) r.at.vl n l;
  few = p.few;
}

pub passing_small : (r : Reading) (target n chosen : ℕ) → IsPassing r target n chosen → chosen ≤ n
passing_small r target n chosen p = let most = count_most (λ i. ltb i r.at.vl && chooses r i) n in omega (arith, most, p.is)

-- ---- elements that are passed

pub passed_small : (r : Reading) (target i chosen : ℕ) → IsPassed r target (record { elements = i; chosen = chosen }) → chosen ≤ i
passed_small r target i chosen p = let most = count_most (chooses r) i in omega (arith, most, p.chosen)

pub passed_more : (r : Reading) (target i chosen : ℕ) (b : Bool) (one : ℕ) → IsPassed r target (record { elements = i; chosen = chosen }) → i < r.at.vl → b ≡ chooses r i → one ≡ (if b then 1 else 0) → (b && nat_eq chosen target) ≡ false → IsPassed r target (record { elements = i + 1; chosen = chosen + one })
passed_more r target i chosen b one p l e n h = record {
  most = omega (arith, l);
  chosen = (λ j. p.chosen j + (n ∙ ap {B = ℕ} (λ (b : Bool). if b then 1 else 0) e) j) ∙ sym (count_more (chooses r) i);
  few = few b n h;
}
  where
    few : (b : Bool) → one ≡ (if b then 1 else 0) → (b && nat_eq chosen target) ≡ false → chosen + one ≤ target
    few true n h =
        ⊎_elim
        (λ a. omega (arith, a, n))
        (λ z. let same : chosen ≡ target = let f = p.few in omega (arith, z, f) in absurd (false≢true (sym h ∙ eq-eqb chosen target same)))
        (cases_lt chosen target)
    few false n h = let f = p.few in omega (arith, f, n)

pub passed_later : (r : Reading) (target later : ℕ) (passed : Passed) → IsPassed r target passed → target ≤ later → IsPassed r later passed
passed_later r target later passed p l = record { most = p.most; chosen = p.chosen; few = let f = p.few in omega (arith, f, l) }

-- ---- the word

pub record ArePacked (r : Reading) (sew first old k : ℕ) (now : Passed) (value : ℕ) : Type 0 where
  pub passed : IsPassed r (first + k) now
  pub below : value < 2 ^ (k * sew)
  pub is : value ≡ joined sew k (λ j. value_after (becomes r (first + j)) (lane sew old j))

none_joined : (width : ℕ) (f : ℕ → ℕ) → joined width 0 f ≡ 0
unfolding joined
none_joined width f = refl

pub packed_none : (r : Reading) (sew first old : ℕ) (passed : Passed) → IsPassed r first passed → ArePacked r sew first old 0 passed 0
packed_none r sew first old passed p = record {
  passed = passed_later r first (first + 0) passed p (omega arith);
  below = pow_pos (0 * sew);
  is = sym (none_joined sew _);
}

pub packed_more : (r : Reading) (sew first old k : ℕ) (passed : Passed) (value next lowest result : ℕ) → value ≡ joined sew k (λ j. value_after (becomes r (first + j)) (lane sew old j)) → IsPassed r (first + k) passed → next ≡ value_after (becomes r (first + k)) (lane sew old k) → lowest ≡ next % 2 ^ sew → ((f : ℕ → ℕ) → value ≡ joined sew k f → lowest ≡ joined sew 1 (λ j. f (k + j)) → result ≡ joined sew (k + 1) f) → result < 2 ^ ((k + 1) * sew) → ArePacked r sew first old (k + 1) passed result
packed_more r sew first old k passed value next lowest result so_far p is low joins below =
    let f : ℕ → ℕ = λ j. value_after (becomes r (first + j)) (lane sew old j) in
    let same : k + 0 ≡ k = omega arith in
    record {
      passed = passed_later r (first + k) (first + (k + 1)) passed p (omega arith);
      below = below;
      is = joins f so_far (one_lane sew lowest (λ j. f (k + j)) (low ∙ ap (λ m. m % 2 ^ sew) (is ∙ sym (ap f same))));
    }

pub packed_value : Same → Lanes → (r : Reading) (w sew old : ℕ) → sew ≡ destination_width r → IsTrue (is_element_width sew) → old ≡ word_at r.at.vlen r.words r.places.vd w → joined sew (64 / sew) (λ k. value_after (becomes r (w * (64 / sew) + k)) (lane sew old k)) ≡ made_word r w
packed_value same lanes r w sew old e width is =
    same sew (64 / sew) (λ k. value_after (becomes r (w * (64 / sew) + k)) (lane sew old k)) (λ k. element_after r (w * (64 / sew) + k))
    (λ k l. ap (λ n. value_after (becomes r (w * (64 / sew) + k)) n % 2 ^ sew)
    (ap (λ word. lane sew word k) is
    ∙ sym (lanes r.at.vlen r.words r.places.vd sew w k width l)
    ∙ ap (λ d. element_of r r.places.vd d (w * (64 / sew) + k)) e))
    ∙ ap (λ d. joined d (64 / d) (λ k. element_after r (w * (64 / d) + k))) e

-- ---- forms

is_vector_true : (f : First) → is_vector f ≡ true → f ≡ Vector
is_vector_true Vector h = refl
is_vector_true other h = absurd (false≢true h)

pub pack_registers : (form : Form) → IsTrue (is_perm_form form) → form.family ≡ Vcompress → form.first ≡ Vector
pack_registers form h e =
    let vector : is_vector form.first ≡ true = sym (ap (λ (f : Family). is_move f || is_put f || (is_pack f && is_vector form.first)) e) ∙ h in
    is_vector_true form.first vector

pub pack_family : (f : Family) → is_pack f ≡ true → f ≡ Vcompress
pack_family Vcompress h = refl
pack_family other h = absurd (false≢true h)

pub put_family : (f : Family) (v : Bool) → (is_move f || is_put f || (is_pack f && v)) ≡ true → is_slide f ≡ false → is_gather f ≡ false → is_pack f ≡ false → f ≡ VmvSX
put_family VmvSX v h m g p = refl
put_family Vcompress v h m g p = absurd (false≢true (sym p))
put_family other v h m g p = absurd (false≢true (sym (λ i. (m i || g i) || is_put other || (is_pack other && v)) ∙ h))

either : (a b : Bool) → (a ≡ true) ⊎ (b ≡ true) → (a || b) ≡ true
either true b h = refl
either false true h = refl
either false false h = absurd (⊎_elim (λ e. false≢true e) (λ e. false≢true e) h)

pub slide_moves : (f : Family) → is_slide f ≡ true → IsTrue (is_move f)
slide_moves f h = either (is_slide f) (is_gather f) (inl h)

pub gather_moves : (f : Family) → is_gather f ≡ true → IsTrue (is_move f)
gather_moves f h = either (is_slide f) (is_gather f) (inr h)

pub gather_indexed : (r : Reading) → is_gather r.family ≡ true → IsIndexed r
gather_indexed r h = record { count = counts r.family h }
  where
    counts : (f : Family) → is_gather f ≡ true → count_in r (operands_of f).vs1 ≡ vlmax r.at.vlen r.at.vtype
    counts Vrgather h = refl
    counts Vrgatherei16 h = refl
    counts other h = absurd (false≢true h)

pub gather_takes : (f : Family) (s : Lists) (i : ℕ) → is_gather f ≡ true → moved_by (rule_of f) s i ≡ Some (element_or_zero s (gather_index s i))
gather_takes Vrgather s i h = refl
gather_takes Vrgatherei16 s i h = refl
gather_takes other s i h = absurd (false≢true h)
