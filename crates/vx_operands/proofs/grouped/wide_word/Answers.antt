-- As many elements of each operand as make a word.
use Rattle.vx_vstate.specs.Views.{view_of}
use Rattle.std.proofs.Common.{◌≡◌, ◌+◌, ◌*◌, ◌/◌, ◌<◌, ◌≤◌, ◌∙◌, sym, ap, IsTrue, subst, false, arith, refl}
use Rattle.vx_bits.specs.Width.{is_width}
use Rattle.vx_packed.specs.Made.{made}
use Rattle.vx_packed.specs.declared.elements.Packing.{Packing}
use Rattle.vx_packed.specs.declared.elements.Sources.{Sources}
use Rattle.vx_decode.specs.Groups.{width_of}
use Rattle.vx_rows.specs.Families.{operands_of}
use Rattle.vx_rows.specs.declared.family.Operand.{Operand}
use Rattle.vx_rows.specs.declared.family.Operand.TheVariants.{Single}
use Rattle.vx_operands.specs.Forms.{reading}
use Rattle.vx_operands.specs.Lanes.{AreLanes, answer, numbers_of, packing_of}
use Rattle.vx_vstate.specs.Registers.{place_of, words_of_all, element, element_word}
use Rattle.vx_vector.specs.Laws.{IsPlaced, per_word}
use Rattle.vx_vector.specs.Reading.{sew_of, destination_width}
use Rattle.vx_operands.specs.Forms.{second_operand}
use Rattle.vx_operands.proofs.Places.{word_small, registers_small, per_word-le}
use Rattle.vx_operands.proofs.Even.{destination_place, vs1_is, masked, mask_are}
use Rattle.vx_operands.proofs.Merging.{made_are}
use Rattle.vx_operands.proofs.Groups.{groups_of, count_of_group, placed_part, sources_wide, count_divides, count_some}
use Rattle.vx_operands.proofs.grouped.wide_word.Goals as goal

pub group_word-old-requires-clause-within : goal.group_word-old-requires-clause-within
group_word-old-requires-clause-within g c =
    let r = reading c.args.form (view_of c.args.at.now) c.args.regs.now (g.S.WordFile.words c.args.file.now) in
    let groups = groups_of r c.args.form.first (operands_of c.args.form.family) c.requires.groups in
    destination_place r c.args.w groups.destination.there c.requires.sound.destination c.requires.within

pub overflow_mul-w : goal.overflow_mul-w
overflow_mul-w g c =
    let r = reading c.args.form (view_of c.args.at.now) c.args.regs.now (g.S.WordFile.words c.args.file.now) in
    let groups = groups_of r c.args.form.first (operands_of c.args.form.family) c.requires.groups in
    let place = destination_place r c.args.w groups.destination.there c.requires.sound.destination c.requires.within in
    let width = subst (λ (p : Packing). IsTrue (is_width p.width)) c.requires.widths c.requires.width in
    let most = subst (λ (p : Packing). p.count ≤ 64) (sym c.requires.widths) (per_word-le (destination_width (reading c.args.form (view_of c.args.at.now) c.args.regs.now (g.S.WordFile.words c.args.file.now))) width) in
    let small = word_small c.args.w (c.args.regs.now.vd * (c.args.at.now.vlen / 64)) (c.args.at.now.vlen / 64) c.args.widths.count place (registers_small c.args.at.now.vlen c.args.at.now.vlen_in_range) most in
    omega arith

pub returns-then-at-w-clause-value : goal.returns-then-at-w-clause-value
returns-then-at-w-clause-value g c =
    let r = reading c.args.form (view_of c.args.at.now) c.args.regs.now (g.S.WordFile.words c.args.file.now) in
    let groups = groups_of r c.args.form.first (operands_of c.args.form.family) c.requires.groups in
    let late = subst (λ (p : Packing). c.args.at.now.vl ≤ c.args.w * p.count) c.requires.widths c.if-at-w.true in
    c.kept.ensures.value r c.args.w c.requires.each (subst (λ (p : Packing). IsTrue (is_width p.width)) c.requires.widths c.requires.width) (subst (λ n. n ≤ c.args.w * per_word r) (sym (count_of_group r groups.destination)) late) c.group_word-old.ensures

pub returns-then-at-w-clause-sat : goal.returns-then-at-w-clause-sat
returns-then-at-w-clause-sat g c =
    let r = reading c.args.form (view_of c.args.at.now) c.args.regs.now (g.S.WordFile.words c.args.file.now) in
    let groups = groups_of r c.args.form.first (operands_of c.args.form.family) c.requires.groups in
    let late = subst (λ (p : Packing). c.args.at.now.vl ≤ c.args.w * p.count) c.requires.widths c.if-at-w.true in
    c.kept.ensures.sat r c.args.w c.requires.each (subst (λ n. n ≤ c.args.w * per_word r) (sym (count_of_group r groups.destination)) late)

pub mask_word-mask-requires-clause-some : goal.mask_word-mask-requires-clause-some
mask_word-mask-requires-clause-some g c =
    let width = subst (λ (p : Packing). IsTrue (is_width p.width)) c.requires.widths c.requires.width in
    subst (λ (p : Packing). 0 < p.count) (sym c.requires.widths) (count_some (destination_width (reading c.args.form (view_of c.args.at.now) c.args.regs.now (g.S.WordFile.words c.args.file.now))) width)

pub mask_word-mask-requires-clause-divides : goal.mask_word-mask-requires-clause-divides
mask_word-mask-requires-clause-divides g c =
    let width = subst (λ (p : Packing). IsTrue (is_width p.width)) c.requires.widths c.requires.width in
    subst (λ (p : Packing). 64 / p.count * p.count ≡ 64) (sym c.requires.widths) (count_divides (destination_width (reading c.args.form (view_of c.args.at.now) c.args.regs.now (g.S.WordFile.words c.args.file.now))) width)

pub part-requires-clause-within : goal.part-requires-clause-within
part-requires-clause-within g c =
    let r = reading c.args.form (view_of c.args.at.now) c.args.regs.now (g.S.WordFile.words c.args.file.now) in
    let groups = groups_of r c.args.form.first (operands_of c.args.form.family) c.requires.groups in
    let placed = placed_part r c.requires.sound.setting (operands_of c.args.form.family).vs2 c.args.regs.now.vs2 (c.args.w * c.args.widths.count) groups.vs2 c.requires.sound.vs2 c.if-at-w.false in
    subst (λ n. place_of c.args.at.now.vlen c.args.regs.now.vs2 (element_word n (c.args.w * c.args.widths.count)) < words_of_all c.args.at.now.vlen) (sym (ap (λ (p : Packing). p.a) c.requires.widths)) placed

pub second_part-requires-clause-sew : goal.second_part-requires-clause-sew
second_part-requires-clause-sew g c = ap (λ (p : Packing). p.b) c.requires.widths

pub second_part-requires-clause-equal : goal.second_part-requires-clause-equal
second_part-requires-clause-equal g c e =
    let r = reading c.args.form (view_of c.args.at.now) c.args.regs.now (g.S.WordFile.words c.args.file.now) in
    let groups = groups_of r c.args.form.first (operands_of c.args.form.family) c.requires.groups in
    ap (λ (o : Operand). width_of o (sew_of r)) (groups.vs1 e) ∙ sym (ap (λ (p : Packing). p.b) c.requires.widths)

pub second_part-requires-clause-within : goal.second_part-requires-clause-within
second_part-requires-clause-within g c e =
    let r = reading c.args.form (view_of c.args.at.now) c.args.regs.now (g.S.WordFile.words c.args.file.now) in
    let groups = groups_of r c.args.form.first (operands_of c.args.form.family) c.requires.groups in
    let placed = subst (λ (o : Operand). IsPlaced r o c.args.regs.now.vs1) (vs1_is r e ∙ groups.vs1 e) c.requires.sound.vs1 in
    let there = placed_part r c.requires.sound.setting Single c.args.regs.now.vs1 (c.args.w * c.args.widths.count) (record { whole = refl; elements = refl; there = refl }) placed c.if-at-w.false in
    subst (λ n. place_of c.args.at.now.vlen c.args.regs.now.vs1 (element_word n (c.args.w * c.args.widths.count)) < words_of_all c.args.at.now.vlen) (sym (ap (λ (p : Packing). p.b) c.requires.widths)) there

pub merged_word-requires-clause-begins : goal.merged_word-requires-clause-begins
merged_word-requires-clause-begins g c =
    let same = ap (λ (p : Packing). p.count) c.requires.widths ∙ sym (ap (λ (p : Packing). 64 / p.width) c.requires.widths) in
    subst (λ n. c.args.w * n < c.args.at.now.vl) same c.if-at-w.false

pub returns-clause-value : goal.returns-clause-value
returns-clause-value g c =
    let r = reading c.args.form (view_of c.args.at.now) c.args.regs.now (g.S.WordFile.words c.args.file.now) in
    let e = c.requires.widths in
    let groups = groups_of r c.args.form.first (operands_of c.args.form.family) c.requires.groups in
    let width = subst (λ (p : Packing). IsTrue (is_width p.width)) e c.requires.width in
    let from : Sources = record { a = c.part.result; b = c.second_part.result; d = c.group_word-old.result; m = c.mask_word-mask.result } in
    let a = subst (λ (p : Packing). AreLanes p.a from.a p.count (λ k. element r.at.vlen r.words r.places.vs2 p.a (c.args.w * p.count + k))) e c.part.ensures in
    let b = subst (λ (p : Packing). AreLanes p.b from.b p.count (λ k. second_operand r (c.args.w * p.count + k))) e c.second_part.ensures in
    let bits = λ (u : r.places.vm ≡ false). subst (λ (p : Packing). AreLanes 1 from.m p.count (λ k. element r.at.vlen r.words 0 1 (c.args.w * p.count + k))) e (c.mask_word-mask.ensures.bits u) in
    let sources = sources_wide r c.args.w from width a b c.group_word-old.ensures bits c.mask_word-mask.ensures.none in
    let new = subst (λ (p : Packing). c.f.result ≡ made p from (λ l. answer c.args.form.family (numbers_of p.b c.args.at.now.vxrm l))) e (c.requires.makes from c.f.result c.f.ensures) in
    c.merged_word.ensures.value (g.S.WordFile.words c.args.file.now) c.requires.each (ap (λ (p : Packing). p.width) e) (sym (count_of_group r groups.destination)) (λ u. mask_are r c.args.w (per_word r) c.mask_word-mask.result refl (bits (masked r u))) c.group_word-old.ensures (made_are c.joined_by_elements.ensures.element r c.args.w (packing_of r) from c.f.result refl refl sources new)

pub returns-clause-sat : goal.returns-clause-sat
returns-clause-sat g c =
    let r = reading c.args.form (view_of c.args.at.now) c.args.regs.now (g.S.WordFile.words c.args.file.now) in
    let e = c.requires.widths in
    let groups = groups_of r c.args.form.first (operands_of c.args.form.family) c.requires.groups in
    let width = subst (λ (p : Packing). IsTrue (is_width p.width)) e c.requires.width in
    let from : Sources = record { a = c.part.result; b = c.second_part.result; d = c.group_word-old.result; m = c.mask_word-mask.result } in
    let a = subst (λ (p : Packing). AreLanes p.a from.a p.count (λ k. element r.at.vlen r.words r.places.vs2 p.a (c.args.w * p.count + k))) e c.part.ensures in
    let b = subst (λ (p : Packing). AreLanes p.b from.b p.count (λ k. second_operand r (c.args.w * p.count + k))) e c.second_part.ensures in
    let bits = λ (u : r.places.vm ≡ false). subst (λ (p : Packing). AreLanes 1 from.m p.count (λ k. element r.at.vlen r.words 0 1 (c.args.w * p.count + k))) e (c.mask_word-mask.ensures.bits u) in
    let sources = sources_wide r c.args.w from width a b c.group_word-old.ensures bits c.mask_word-mask.ensures.none in
    let new = subst (λ (p : Packing). c.f.result ≡ made p from (λ l. answer c.args.form.family (numbers_of p.b c.args.at.now.vxrm l))) e (c.requires.makes from c.f.result c.f.ensures) in
    c.merged_word.ensures.sat (g.S.WordFile.words c.args.file.now) c.requires.each (ap (λ (p : Packing). p.width) e) (sym (count_of_group r groups.destination)) (λ u. mask_are r c.args.w (per_word r) c.mask_word-mask.result refl (bits (masked r u))) (made_are c.joined_by_elements.ensures.element r c.args.w (packing_of r) from c.f.result refl refl sources new)
