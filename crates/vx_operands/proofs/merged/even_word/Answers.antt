-- All operands have as many elements a word.
use Rattle.vx_vstate.specs.Views.{view_of}
use Rattle.std.proofs.Common.{◌*◌, ◌/◌, ◌<◌, ◌≤◌, ◌∙◌, sym, ap, IsTrue, subst, not, arith}
use Rattle.vx_bits.specs.Width.{is_width}
use Rattle.vx_packed.specs.declared.elements.Sources.{Sources}
use Rattle.vx_rows.specs.Families.{operands_of}
use Rattle.vx_rows.specs.declared.family.Operand.{Operand}
use Rattle.vx_operands.specs.Forms.{reading}
use Rattle.vx_operands.specs.Lanes.{AreSources, answer, numbers_of}
use Rattle.vx_packed.specs.Made.{even_packing, made}
use Rattle.vx_vector.specs.Laws.{IsPlaced, is_absent, per_word}
use Rattle.vx_operands.proofs.Places.{word_small, registers_small, per_word-le}
use Rattle.vx_operands.proofs.Merging.{made_are}
use Rattle.vx_operands.proofs.Even.{even_of, destination_even, count_even, placed_word, destination_place, vs1_is, masked, mask_are, sources_are}
use Rattle.vx_operands.proofs.merged.even_word.Goals as goal

pub returns-then-at-w-clause-value : goal.returns-then-at-w-clause-value
returns-then-at-w-clause-value g c =
    let r = reading c.args.form (view_of c.args.at.now) c.args.regs.now (g.S.WordFile.words c.args.file.now) in
    let even = even_of c.args.form.first (operands_of c.args.form.family) c.requires.even in
    let d = destination_even r even in
    let width = subst (λ n. IsTrue (is_width n)) (c.requires.sew ∙ sym d) c.requires.width in
    let late = subst (λ n. c.args.at.now.vl ≤ c.args.w * (64 / n)) (c.requires.sew ∙ sym d) c.if-at-w.true in
    c.kept.ensures.value r c.args.w c.requires.each width (subst (λ n. n ≤ c.args.w * per_word r) (sym (count_even r even)) late) c.group_word-old.ensures

pub returns-then-at-w-clause-sat : goal.returns-then-at-w-clause-sat
returns-then-at-w-clause-sat g c =
    let r = reading c.args.form (view_of c.args.at.now) c.args.regs.now (g.S.WordFile.words c.args.file.now) in
    let even = even_of c.args.form.first (operands_of c.args.form.family) c.requires.even in
    let d = destination_even r even in
    let late = subst (λ n. c.args.at.now.vl ≤ c.args.w * (64 / n)) (c.requires.sew ∙ sym d) c.if-at-w.true in
    c.kept.ensures.sat r c.args.w c.requires.each (subst (λ n. n ≤ c.args.w * per_word r) (sym (count_even r even)) late)

pub overflow_mul-w : goal.overflow_mul-w
overflow_mul-w g c =
    let r = reading c.args.form (view_of c.args.at.now) c.args.regs.now (g.S.WordFile.words c.args.file.now) in
    let even = even_of c.args.form.first (operands_of c.args.form.family) c.requires.even in
    let place = destination_place r c.args.w (ap (λ (o : Operand). not (is_absent o)) even.destination) c.requires.sound.destination c.requires.within in
    let small = word_small c.args.w (c.args.regs.now.vd * (c.args.at.now.vlen / 64)) (c.args.at.now.vlen / 64) (64 / c.args.sew) place (registers_small c.args.at.now.vlen c.args.at.now.vlen_in_range) (per_word-le c.args.sew c.requires.width) in
    omega arith

pub group_word-old-requires-clause-within : goal.group_word-old-requires-clause-within
group_word-old-requires-clause-within g c =
    let r = reading c.args.form (view_of c.args.at.now) c.args.regs.now (g.S.WordFile.words c.args.file.now) in
    let even = even_of c.args.form.first (operands_of c.args.form.family) c.requires.even in
    destination_place r c.args.w (ap (λ (o : Operand). not (is_absent o)) even.destination) c.requires.sound.destination c.requires.within

pub group_word-requires-clause-within : goal.group_word-requires-clause-within
group_word-requires-clause-within g c =
    let r = reading c.args.form (view_of c.args.at.now) c.args.regs.now (g.S.WordFile.words c.args.file.now) in
    let even = even_of c.args.form.first (operands_of c.args.form.family) c.requires.even in
    let width = subst (λ n. IsTrue (is_width n)) c.requires.sew c.requires.width in
    let early = subst (λ n. c.args.w * (64 / n) < c.args.at.now.vl) c.requires.sew c.if-at-w.false in
    placed_word r c.requires.sound.setting (operands_of c.args.form.family).vs2 c.args.regs.now.vs2 c.args.w even.vs2 c.requires.sound.vs2 width early

pub second_word-requires-clause-within : goal.second_word-requires-clause-within
second_word-requires-clause-within g c e =
    let r = reading c.args.form (view_of c.args.at.now) c.args.regs.now (g.S.WordFile.words c.args.file.now) in
    let even = even_of c.args.form.first (operands_of c.args.form.family) c.requires.even in
    let width = subst (λ n. IsTrue (is_width n)) c.requires.sew c.requires.width in
    let early = subst (λ n. c.args.w * (64 / n) < c.args.at.now.vl) c.requires.sew c.if-at-w.false in
    let placed = subst (λ (o : Operand). IsPlaced r o c.args.regs.now.vs1) (vs1_is r e) c.requires.sound.vs1 in
    placed_word r c.requires.sound.setting (operands_of c.args.form.family).vs1 c.args.regs.now.vs1 c.args.w (even.vs1 e) placed width early

pub returns-clause-value : goal.returns-clause-value
returns-clause-value g c =
    let r = reading c.args.form (view_of c.args.at.now) c.args.regs.now (g.S.WordFile.words c.args.file.now) in
    let even = even_of c.args.form.first (operands_of c.args.form.family) c.requires.even in
    let width = subst (λ n. IsTrue (is_width n)) c.requires.sew c.requires.width in
    let d = c.requires.sew ∙ sym (destination_even r even) in
    let from : Sources = record { a = c.group_word.result; b = c.second_word.result; d = c.group_word-old.result; m = c.mask_word-mask.result } in
    let sources = sources_are r c.args.w c.args.sew from even width c.requires.sew c.group_word.ensures c.second_word.ensures c.group_word-old.ensures c.mask_word-mask.ensures.bits c.mask_word-mask.ensures.none in
    let moved = subst (λ s. AreSources r c.args.w (even_packing s) from) (sym c.requires.sew) sources in
    c.merged_word.ensures.value (g.S.WordFile.words c.args.file.now) c.requires.each d (sym (count_even r even)) (λ u. mask_are r c.args.w (64 / c.args.sew) c.mask_word-mask.result (ap (λ n. 64 / n) d) (c.mask_word-mask.ensures.bits (masked r u))) c.group_word-old.ensures (made_are c.joined_by_elements.ensures.element r c.args.w (even_packing c.args.sew) from c.f.result d (ap (λ n. 64 / n) d) moved (c.requires.makes from c.f.result c.f.ensures ∙ ap (λ s. made (even_packing c.args.sew) from (λ l. answer c.args.form.family (numbers_of s c.args.at.now.vxrm l))) c.requires.sew))

pub returns-clause-sat : goal.returns-clause-sat
returns-clause-sat g c =
    let r = reading c.args.form (view_of c.args.at.now) c.args.regs.now (g.S.WordFile.words c.args.file.now) in
    let even = even_of c.args.form.first (operands_of c.args.form.family) c.requires.even in
    let width = subst (λ n. IsTrue (is_width n)) c.requires.sew c.requires.width in
    let d = c.requires.sew ∙ sym (destination_even r even) in
    let from : Sources = record { a = c.group_word.result; b = c.second_word.result; d = c.group_word-old.result; m = c.mask_word-mask.result } in
    let sources = sources_are r c.args.w c.args.sew from even width c.requires.sew c.group_word.ensures c.second_word.ensures c.group_word-old.ensures c.mask_word-mask.ensures.bits c.mask_word-mask.ensures.none in
    let moved = subst (λ s. AreSources r c.args.w (even_packing s) from) (sym c.requires.sew) sources in
    c.merged_word.ensures.sat (g.S.WordFile.words c.args.file.now) c.requires.each d (sym (count_even r even)) (λ u. mask_are r c.args.w (64 / c.args.sew) c.mask_word-mask.result (ap (λ n. 64 / n) d) (c.mask_word-mask.ensures.bits (masked r u))) (made_are c.joined_by_elements.ensures.element r c.args.w (even_packing c.args.sew) from c.f.result d (ap (λ n. 64 / n) d) moved (c.requires.makes from c.f.result c.f.ensures ∙ ap (λ s. made (even_packing c.args.sew) from (λ l. answer c.args.form.family (numbers_of s c.args.at.now.vxrm l))) c.requires.sew))
