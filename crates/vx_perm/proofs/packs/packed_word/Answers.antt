-- All lanes.
use Rattle.vx_vstate.specs.Views.{view_of}
use Rattle.std.proofs.Common.{◌*◌, ◌/◌, ◌∙◌, not, sym, ap, arith}
use Rattle.vx_decode.specs.Groups.{width_of}
use Rattle.vx_rows.specs.Families.{operands_of}
use Rattle.vx_rows.specs.declared.family.Family.{Family}
use Rattle.vx_operands.specs.Forms.{reading}
use Rattle.vx_operands.proofs.Places.{filled, word_small, registers_small, per_word-le}
use Rattle.vx_operands.proofs.Even.{destination_place}
use Rattle.vx_operands.proofs.ByIndex.{element_width}
use Rattle.vx_vector.specs.Laws.{is_absent}
use Rattle.vx_vector.specs.Reading.{sew_of}
use Rattle.vx_perm.proofs.Facts.{packed_value, pack_quiet}
use Rattle.vx_perm.proofs.packs.packed_word.Goals as goal

pub group_word-old-requires-clause-within : goal.group_word-old-requires-clause-within
group_word-old-requires-clause-within g c =
    let r = reading c.args.form (view_of c.args.at.now) c.args.regs.now (g.S.WordFile.words c.args.file.now) in
    destination_place r c.args.w (ap (λ (f : Family). not (is_absent (operands_of f).destination)) c.requires.family) c.requires.sound.destination c.requires.within

pub overflow_mul-w : goal.overflow_mul-w
overflow_mul-w g c =
    let r = reading c.args.form (view_of c.args.at.now) c.args.regs.now (g.S.WordFile.words c.args.file.now) in
    let place = destination_place r c.args.w (ap (λ (f : Family). not (is_absent (operands_of f).destination)) c.requires.family) c.requires.sound.destination c.requires.within in
    let small = word_small c.args.w (c.args.regs.now.vd * (c.args.at.now.vlen / 64)) (c.args.at.now.vlen / 64) (64 / c.args.sew) place (registers_small c.args.at.now.vlen c.args.at.now.vlen_in_range) (per_word-le c.args.sew c.requires.width) in
    omega arith

pub packed_lanes-value-requires-clause-begins : goal.packed_lanes-value-requires-clause-begins
packed_lanes-value-requires-clause-begins g c =
    let r = reading c.args.form (view_of c.args.at.now) c.args.regs.now (g.S.WordFile.words c.args.file.now) in
    let place = destination_place r c.args.w (ap (λ (f : Family). not (is_absent (operands_of f).destination)) c.requires.family) c.requires.sound.destination c.requires.within in
    let small = word_small c.args.w (c.args.regs.now.vd * (c.args.at.now.vlen / 64)) (c.args.at.now.vlen / 64) (64 / c.args.sew) place (registers_small c.args.at.now.vlen c.args.at.now.vlen_in_range) (per_word-le c.args.sew c.requires.width) in
    omega arith

pub packed_lanes-value-requires-clause-fits : goal.packed_lanes-value-requires-clause-fits
packed_lanes-value-requires-clause-fits g c = let full = filled c.args.sew c.requires.width in omega (arith, full)

pub returns-clause-value : goal.returns-clause-value
returns-clause-value g c =
    let r = reading c.args.form (view_of c.args.at.now) c.args.regs.now (g.S.WordFile.words c.args.file.now) in
    c.packed_lanes-value.ensures
    ∙ packed_value c.joined_by_elements.ensures.same c.elements_are_lanes.ensures.lane r c.args.w c.args.sew c.group_word-old.result (c.requires.sew ∙ sym (ap (λ (f : Family). width_of (operands_of f).destination (sew_of r)) c.requires.family)) (element_width c.args.sew c.requires.width) c.group_word-old.ensures

pub returns-clause-sat : goal.returns-clause-sat
returns-clause-sat g c =
    let r = reading c.args.form (view_of c.args.at.now) c.args.regs.now (g.S.WordFile.words c.args.file.now) in
    sym (pack_quiet r c.args.w c.requires.family)
