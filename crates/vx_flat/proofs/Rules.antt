-- What legality says of a vector load: its destination doesn't lie on what later elements read.
use Rattle.std.proofs.Common.{◌≡◌, ℕ, ◌+◌, ◌%◌, ◌≤◌, Bool, true, false, not, ◌&&◌, ◌||◌, IsTrue, nat_eq, leb, ltb, List, [], ◌∷◌, refl, sym, ap, ◌∙◌, subst, ⊎_elim, arith}
use Rattle.std.proofs.Math.Bool.{and-false}
use Rattle.std.proofs.Math.Nat.{mul-le-mul_right}
use Rattle.std.proofs.lemmas.Bool.{not-false, false≢true, or_parts, and_parts, and_cases, eqb-true, ltb-false, leb-true}
use Rattle.vx_decode.specs.Groups.{bits_of_eew, group_at, moved, indices, mask_at, extent, meet, destinations_as, sources_as}
use Rattle.vx_decode.specs.Legal.{some_group, needs_none, is_bad_group, is_bad_width, is_too_long, may_write_mask, reads_first, may_meet, is_kept_apart, begins_at_first, is_high_half, is_illegal}
use Rattle.vx_decode.specs.declared.group.Group.{Group}
use Rattle.vx_decode.specs.declared.instr.Instr.{Instr}
use Rattle.vx_rows.specs.Table.{class_of, shape_of}
use Rattle.vx_rows.specs.declared.row.Addressing.{Addressing}
use Rattle.vx_rows.specs.declared.row.Addressing.TheVariants.{Unit, FaultOnlyFirst, Whole, MaskBits, Strided, Unordered, Ordered}
use Rattle.vx_rows.specs.declared.row.Class.{Class}
use Rattle.vx_rows.specs.declared.row.Class.TheVariants.{VectorLoad, VectorStore}
use Rattle.vx_rows.specs.declared.row.Eew.{Eew}
use Rattle.vx_rows.specs.declared.row.Eew.TheVariants.{E8}
use Rattle.vx_vstate.specs.Groups.{emul_eighths, registers_of_group, is_group_size}
use Rattle.vx_vstate.specs.Registers.{is_byte_width}
use Rattle.vx_vstate.specs.State.{SettingView}
use Rattle.vx_vstate.specs.Vtype.{vill, sew, is_vtype}
use Rattle.vx_vector.specs.Batches.{has_indices}
use Rattle.vx_flat.proofs.Apart.{AreKeptApart}
use Rattle.vx_flat.proofs.Between.{moved_alike}

-- legality, of the class, the groups, and whether the row can't begin where it does
abbrev illegal_by : Class → (ds ss : List Group) → Instr → (vtype : ℕ) → (late : Bool) → Bool
illegal_by c ds ss i vtype late =
    (nat_eq vtype vill && not (needs_none c))
    || (some_group ds is_bad_group || some_group ss is_bad_group)
    || (some_group ds is_too_long || some_group ss is_too_long)
    || (not i.vm && not (may_write_mask c) && some_group ds (meet (mask_at 0)))
    || (not (reads_first c) && some_group ds (λ d. some_group ss (λ s. meet d s && not (may_meet d s))))
    || (is_kept_apart c i.nf && some_group ds (λ d. some_group ss (meet d) || (not i.vm && meet d (mask_at 0))))
    || late
    || (nat_eq (sew vtype) 64 && is_high_half c)

abbrev late_at : Class → (vstart : ℕ) → Bool
late_at c vstart = not (nat_eq vstart 0) && begins_at_first c

by-class : (i : Instr) (at : SettingView) (c : Class) → class_of i.op ≡ c → is_illegal i at ≡ illegal_by c (destinations_as c i at) (sources_as c (shape_of i.op) i at) i at.vtype (late_at c at.vstart)
by-class i at c e = ap (λ c. illegal_by c (destinations_as c i at) (sources_as c (shape_of i.op) i at) i at.vtype (late_at c at.vstart)) e

-- ---- from an element on

indices_alike : (a : Addressing) (e : Eew) (i : Instr) (at : SettingView) (k : ℕ) → indices a e i (record at { vstart = k }) ≡ indices a e i at
indices_alike Unit e i at k = refl
indices_alike FaultOnlyFirst e i at k = refl
indices_alike Whole e i at k = refl
indices_alike MaskBits e i at k = refl
indices_alike Strided e i at k = refl
indices_alike Unordered e i at k = refl
indices_alike Ordered e i at k = refl

pub load-legal-alike : (a : Addressing) (e : Eew) (i : Instr) (at : SettingView) (k : ℕ) → class_of i.op ≡ VectorLoad a e → is_illegal i (record at { vstart = k }) ≡ is_illegal i at
load-legal-alike a e i at k q =
    let group = moved_alike a e i at k in
    let index = indices_alike a e i at k in
    let late : late_at (VectorLoad a e) k ≡ late_at (VectorLoad a e) at.vstart = and-false (not (nat_eq k 0)) ∙ sym (and-false (not (nat_eq at.vstart 0))) in
    by-class i (record at { vstart = k }) (VectorLoad a e) q
    ∙ (λ j. illegal_by (VectorLoad a e) (group j ∷ []) (index j) i at.vtype (late j))
    ∙ sym (by-class i at (VectorLoad a e) q)

pub store-legal-alike : (a : Addressing) (e : Eew) (i : Instr) (at : SettingView) (k : ℕ) → class_of i.op ≡ VectorStore a e → is_illegal i (record at { vstart = k }) ≡ is_illegal i at
store-legal-alike a e i at k q =
    let group = moved_alike a e i at k in
    let index = indices_alike a e i at k in
    let late : late_at (VectorStore a e) k ≡ late_at (VectorStore a e) at.vstart = and-false (not (nat_eq k 0)) ∙ sym (and-false (not (nat_eq at.vstart 0))) in
    by-class i (record at { vstart = k }) (VectorStore a e) q
    ∙ (λ j. illegal_by (VectorStore a e) [] (group j ∷ index j) i at.vtype (late j))
    ∙ sym (by-class i at (VectorStore a e) q)

-- ---- the rules

pub record AreRules (b d e f : Bool) : Type 0 where
  pub bad : b ≡ false
  pub mask : d ≡ false
  pub overlap : e ≡ false
  pub source : f ≡ false

rules : (a b c d e f g h : Bool) → (a || b || c || d || e || f || g || h) ≡ false → AreRules b d e f
rules a b c d e f g h q =
    let q7 = or_parts (a || b || c || d || e || f || g) h q in
    let q6 = or_parts (a || b || c || d || e || f) g q7.0 in
    let q5 = or_parts (a || b || c || d || e) f q6.0 in
    let q4 = or_parts (a || b || c || d) e q5.0 in
    let q3 = or_parts (a || b || c) d q4.0 in
    let q2 = or_parts (a || b) c q3.0 in
    let q1 = or_parts a b q2.0 in
    record { bad = q1.1; mask = q3.1; overlap = q4.1; source = q5.1 }

module _ (a : Addressing) (e : Eew) (i : Instr) (at : SettingView) where
  abbrev c : Class
  c = VectorLoad a e

  abbrev ds : List Group
  ds = moved a e i at ∷ []

  abbrev ss : List Group
  ss = indices a e i at

  abbrev pub Rules : Type 0
  Rules = AreRules
      (some_group ds is_bad_group || some_group ss is_bad_group)
      (not i.vm && not (may_write_mask c) && some_group ds (meet (mask_at 0)))
      (not (reads_first c) && some_group ds (λ d. some_group ss (λ s. meet d s && not (may_meet d s))))
      (is_kept_apart c i.nf && some_group ds (λ d. some_group ss (meet d) || (not i.vm && meet d (mask_at 0))))

  pub load-rules : class_of i.op ≡ VectorLoad a e → is_illegal i at ≡ false → Rules
  load-rules q legal =
      rules
      (nat_eq at.vtype vill && not (needs_none c))
      (some_group ds is_bad_group || some_group ss is_bad_group)
      (some_group ds is_too_long || some_group ss is_too_long)
      (not i.vm && not (may_write_mask c) && some_group ds (meet (mask_at 0)))
      (not (reads_first c) && some_group ds (λ d. some_group ss (λ s. meet d s && not (may_meet d s))))
      (is_kept_apart c i.nf && some_group ds (λ d. some_group ss (meet d) || (not i.vm && meet d (mask_at 0))))
      (late_at c at.vstart)
      (nat_eq (sew at.vtype) 64 && is_high_half c)
      (sym (by-class i at c q) ∙ legal)

-- ---- the mask

moved-register : (a : Addressing) (e : Eew) (i : Instr) (at : SettingView) → (moved a e i at).register ≡ i.rd
moved-register Unit e i at = refl
moved-register FaultOnlyFirst e i at = refl
moved-register Whole e i at = refl
moved-register MaskBits e i at = refl
moved-register Strided e i at = refl
moved-register Unordered e i at = refl
moved-register Ordered e i at = refl

behind-mask : (g : Group) → 1 ≤ g.fields → meet (mask_at 0) g ≡ false → 1 ≤ g.register
behind-mask g some h =
    let registers = mul-le-mul_right (registers_of_group g.emul_eighths) some in
    let positive : 1 ≤ registers_of_group g.emul_eighths = omega arith in
    ⊎_elim
    (λ q. let none = ltb-false 0 (g.register + extent g) q in omega (arith, none, registers))
    (λ q. let past = ltb-false g.register (0 + extent (mask_at 0)) q in omega (arith, past))
    (and_cases (ltb 0 (g.register + extent g)) (ltb g.register (0 + extent (mask_at 0))) h)

masked-group : (vm : Bool) (g : Group) → vm ≡ false → (not vm && true && (meet (mask_at 0) g || false)) ≡ false → meet (mask_at 0) g ≡ false
masked-group true g e h = absurd (false≢true (sym e))
masked-group false g e h = (or_parts (meet (mask_at 0) g) false h).0

-- a masked load writes no register of the mask
pub behind-v0 : (a : Addressing) (e : Eew) (i : Instr) (at : SettingView) → Rules a e i at → 1 ≤ (moved a e i at).fields → i.vm ≡ false → 1 ≤ i.rd
behind-v0 a e i at r some masked =
    subst (λ n. 1 ≤ n) (moved-register a e i at) (behind-mask (moved a e i at) some (masked-group i.vm (moved a e i at) masked r.mask))

-- ---- the indices

record IsGood (g : Group) : Type 0 where
  pub least : 1 ≤ g.emul_eighths
  pub most : g.emul_eighths ≤ 64
  pub aligned : g.register % registers_of_group g.emul_eighths ≡ 0

good-group : (g : Group) → is_bad_group g ≡ false → IsGood g
good-group g h =
    let one = or_parts (is_bad_width g || not (leb 1 g.emul_eighths && leb g.emul_eighths 64)) (not (nat_eq (g.register % registers_of_group g.emul_eighths) 0)) h in
    let two = or_parts (is_bad_width g) (not (leb 1 g.emul_eighths && leb g.emul_eighths 64)) one.0 in
    let range = and_parts (leb 1 g.emul_eighths) (leb g.emul_eighths 64) (not-false (leb 1 g.emul_eighths && leb g.emul_eighths 64) two.1) in
    record {
      least = leb-true 1 g.emul_eighths range.0;
      most = leb-true g.emul_eighths 64 range.1;
      aligned = eqb-true (g.register % registers_of_group g.emul_eighths) 0 (not-false (nat_eq (g.register % registers_of_group g.emul_eighths) 0) one.1);
    }

eew-bytes : (e : Eew) → is_byte_width (bits_of_eew e) ≡ true
eew-bytes E8 = refl
eew-bytes other = refl

alone-of : (some meets masked : Bool) → (some && (((meets || false) || masked) || false)) ≡ false → (some && meets) ≡ false
alone-of true meets masked h = (or_parts meets false (or_parts (meets || false) masked (or_parts ((meets || false) || masked) false h).0).0).0
alone-of false meets masked h = refl

pub record SizeLaws : Type 0 where
  pub width : (vtype : ℕ) → IsTrue (is_vtype vtype) → IsTrue (is_byte_width (sew vtype))
  pub registers : (vtype width : ℕ) → IsTrue (is_byte_width width) → 1 ≤ emul_eighths vtype width → emul_eighths vtype width ≤ 64 → IsTrue (is_group_size (registers_of_group (emul_eighths vtype width)))

module _ (L : SizeLaws) (e : Eew) (i : Instr) (at : SettingView) (in_range : IsTrue (is_vtype at.vtype)) where
  abbrev d : Group
  d = group_at at i.rd (sew at.vtype) (i.nf + 1)

  abbrev g : Group
  g = group_at at i.rs2 (bits_of_eew e) 1

  kept-by : ((is_bad_group d || false) || (is_bad_group g || false)) ≡ false → (((meet d g && not (may_meet d g)) || false) || false) ≡ false → (ltb 0 i.nf && (((meet d g || false) || (not i.vm && meet d (mask_at 0))) || false)) ≡ false → AreKeptApart at.vtype i.rd i.rs2 i.nf (bits_of_eew e)
  kept-by bad overlap source =
      let two = or_parts (is_bad_group d || false) (is_bad_group g || false) bad in
      let of_d = good-group d (or_parts (is_bad_group d) false two.0).0 in
      let of_g = good-group g (or_parts (is_bad_group g) false two.1).0 in
      let own = L.width at.vtype in_range in
      record {
        width = eew-bytes e;
        own_width = own;
        sized = L.registers at.vtype (sew at.vtype) own of_d.least of_d.most;
        aligned = of_d.aligned;
        aligned_indices = of_g.aligned;
        fits = (or_parts (meet d g && not (may_meet d g)) false (or_parts ((meet d g && not (may_meet d g)) || false) false overlap).0).0;
        alone = alone-of (ltb 0 i.nf) (meet d g) (not i.vm && meet d (mask_at 0)) source;
      }

  -- the destination of a legal load with indices doesn't lie on those of later elements
  pub kept-apart : (a : Addressing) → Rules a e i at → has_indices a ≡ true → AreKeptApart at.vtype i.rd i.rs2 i.nf (bits_of_eew e)
  kept-apart Unordered r h = kept-by r.bad r.overlap r.source
  kept-apart Ordered r h = kept-by r.bad r.overlap r.source
  kept-apart a r h = absurd (false≢true h)
