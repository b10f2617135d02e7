-- Active bits are set by the first mark.
use Rattle.vx_vstate.specs.Views.{view_of}
use Rattle.std.proofs.Common.{◌≡◌, ℕ, ◌+◌, ◌*◌, ◌/◌, ◌^◌, ◌-◌, ◌<◌, ◌≤◌, ◌∙◌, Bool, true, false, ◌&&◌, nat_eq, leb, ltb, Option, Some, None, option_map, if◌then◌else◌, sym, ap, subst, arith, refl}
use Rattle.vx_packed.specs.Joined.{lane}
use Rattle.vx_base.specs.Numbers.{truth}
use Rattle.vx_rows.specs.declared.family.Operand.{Operand}
use Rattle.vx_rows.specs.declared.family.Operands.{Operands}
use Rattle.vx_rows.specs.Families.{operands_of}
use Rattle.vx_operands.specs.Forms.{reading}
use Rattle.vx_operands.specs.Rising.{mark, moved_by}
use Rattle.vx_operands.proofs.Merging.{behind, full_bit}
use Rattle.vx_operands.proofs.Counts.{none_counted}
use Rattle.vx_operands.proofs.ByIndex.{active_below, count_is, mask_value, mask_unchanged, mask_unchanged_sat, moved_becomes, moved_late, moved_sat}
use Rattle.vx_vector.specs.Arithmetic.{becomes}
use Rattle.vx_vector.specs.Lists.{marks_below}
use Rattle.vx_vector.specs.Numbers.{plain}
use Rattle.vx_vector.specs.Reading.{is_active, lists_of}
use Rattle.vx_vector.specs.Rules.{rule_of}
use Rattle.vx_mask.specs.Kinds.{spans_from, spans_to}
use Rattle.vx_mask.proofs.Families.{span_operands, span_by_index, mask_word}
use Rattle.vx_mask.proofs.Marked.{below_are, span_moves}
use Rattle.vx_mask.proofs.span.span_word.Goals as goal

and_true : (b c : Bool) → c ≡ true → (b && c) ≡ b
and_true true c e = e
and_true false c e = refl

pub group_word-old-requires-clause-within : goal.group_word-old-requires-clause-within
group_word-old-requires-clause-within g c =
    let r = reading c.args.form (view_of c.args.at.now) c.args.regs.now (g.S.WordFile.words c.args.file.now) in
    let m = mask_word r c.args.w c.requires.sound (ap (λ (o : Operands). o.destination) (span_operands c.args.form.family c.requires.span)) c.requires.within in
    m.place

pub overflow_mul-w : goal.overflow_mul-w
overflow_mul-w g c =
    let r = reading c.args.form (view_of c.args.at.now) c.args.regs.now (g.S.WordFile.words c.args.file.now) in
    let m = mask_word r c.args.w c.requires.sound (ap (λ (o : Operands). o.destination) (span_operands c.args.form.family c.requires.span)) c.requires.within in
    omega (arith, m.few)

pub returns-then-at-w-clause-value : goal.returns-then-at-w-clause-value
returns-then-at-w-clause-value g c =
    let r = reading c.args.form (view_of c.args.at.now) c.args.regs.now (g.S.WordFile.words c.args.file.now) in
    let m = mask_word r c.args.w c.requires.sound (ap (λ (o : Operands). o.destination) (span_operands c.args.form.family c.requires.span)) c.requires.within in
    mask_unchanged r c.args.w c.args.at.now.vl m.width c.unchanged.result.value c.group_word-old.result c.unchanged.ensures.value (λ i late. moved_late r i (span_by_index c.args.form.family c.requires.span) (omega (arith, m.count, late))) c.if-at-w.true c.group_word-old.ensures

pub returns-then-at-w-clause-sat : goal.returns-then-at-w-clause-sat
returns-then-at-w-clause-sat g c =
    let r = reading c.args.form (view_of c.args.at.now) c.args.regs.now (g.S.WordFile.words c.args.file.now) in
    let m = mask_word r c.args.w c.requires.sound (ap (λ (o : Operands). o.destination) (span_operands c.args.form.family c.requires.span)) c.requires.within in
    mask_unchanged_sat r c.args.w c.args.at.now.vl m.width c.unchanged.result.sat c.unchanged.ensures.sat (λ i late. moved_late r i (span_by_index c.args.form.family c.requires.span) (omega (arith, m.count, late))) c.if-at-w.true

pub active_word-active-requires-clause-elements : goal.active_word-active-requires-clause-elements
active_word-active-requires-clause-elements g c =
    let r = reading c.args.form (view_of c.args.at.now) c.args.regs.now (g.S.WordFile.words c.args.file.now) in
    let m = mask_word r c.args.w c.requires.sound (ap (λ (o : Operands). o.destination) (span_operands c.args.form.family c.requires.span)) c.requires.within in
    m.whole

pub first_mark-first-requires-clause-elements : goal.first_mark-first-requires-clause-elements
first_mark-first-requires-clause-elements g c =
    let r = reading c.args.form (view_of c.args.at.now) c.args.regs.now (g.S.WordFile.words c.args.file.now) in
    let m = mask_word r c.args.w c.requires.sound (ap (λ (o : Operands). o.destination) (span_operands c.args.form.family c.requires.span)) c.requires.within in
    m.whole

pub first_mark-first-requires-clause-mask : goal.first_mark-first-requires-clause-mask
first_mark-first-requires-clause-mask g c = ap (λ (o : Operands). o.vs2) (span_operands c.args.form.family c.requires.span)

pub returns-clause-value : goal.returns-clause-value
returns-clause-value g c =
    let r = reading c.args.form (view_of c.args.at.now) c.args.regs.now (g.S.WordFile.words c.args.file.now) in
    let f = c.args.form.family in
    let by = span_by_index f c.requires.span in
    let e = span_operands f c.requires.span in
    let m = mask_word r c.args.w c.requires.sound (ap (λ (o : Operands). o.destination) e) c.requires.within in
    let vs2 = ap (λ (o : Operands). o.vs2) e in
    let none : (i : ℕ) → is_active r i ≡ false → becomes r i ≡ None = λ i q. moved_becomes (rule_of f) r i by ∙ ap (λ (b : Bool). if b then option_map plain (moved_by (rule_of f) (lists_of r) i) else None) q in
    let some : (k : ℕ) → k < 64 → is_active r (c.args.w * 64 + k) ≡ true → becomes r (c.args.w * 64 + k) ≡ Some (plain (lane 1 c.active_lanes-new.result k)) = λ k l t.
    let i = c.args.w * 64 + k in
    let low = active_below r i t in
    let inside : i < c.args.at.now.vl = omega (arith, low, m.count) in
    let at : nat_eq (marks_below (lists_of r) i) 0 ≡ leb i c.first_mark-first.result = ap (λ n. nat_eq n 0) (below_are r c.requires.sound.setting vs2 i (omega (arith, inside))) ∙ none_counted (mark r) c.args.at.now.vl c.first_mark-first.result i c.first_mark-first.ensures (omega (arith, inside)) in
    let next : nat_eq (marks_below (lists_of r) (i + 1)) 0 ≡ leb (i + 1) c.first_mark-first.result = ap (λ n. nat_eq n 0) (below_are r c.requires.sound.setting vs2 (i + 1) (omega (arith, inside))) ∙ none_counted (mark r) c.args.at.now.vl c.first_mark-first.result (i + 1) c.first_mark-first.ensures (omega (arith, inside)) in
    let bit : lane 1 c.active_lanes-new.result k ≡ truth (leb (spans_from f c.first_mark-first.result) i && ltb i (spans_to f c.first_mark-first.result)) =
    c.active_lanes-new.ensures k l
    ∙ ap truth (and_true (leb c.spans_from-from.result i && ltb i c.spans_to-to.result) (nat_eq (lane 1 (2 ^ 64 - 1) k) 1) (full_bit k l))
    ∙ (λ j. truth (leb (c.spans_from-from.ensures j) i && ltb i (c.spans_to-to.ensures j))) in
    moved_becomes (rule_of f) r i by
    ∙ ap (λ (b : Bool). if b then option_map plain (moved_by (rule_of f) (lists_of r) i) else None) t
    ∙ ap (λ (o : Option ℕ). option_map plain o) (span_moves f c.requires.span (lists_of r) c.first_mark-first.result i at next)
    ∙ ap (λ n. Some (plain n)) (sym bit) in
    c.merge_bits.ensures
    ∙ mask_value c.joined_by_elements.ensures.same c.elements_are_lanes.ensures.lane r c.args.w c.active_word-active.result c.active_lanes-new.result c.group_word-old.result m.width c.active_word-active.ensures c.group_word-old.ensures none some

pub returns-clause-sat : goal.returns-clause-sat
returns-clause-sat g c =
    let r = reading c.args.form (view_of c.args.at.now) c.args.regs.now (g.S.WordFile.words c.args.file.now) in
    sym (moved_sat r c.args.w (span_by_index c.args.form.family c.requires.span))
