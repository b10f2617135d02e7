-- The first word with a bit.
use Rattle.vx_vstate.specs.Views.{view_of}
use Rattle.std.proofs.Common.{◌≡◌, ℕ, ◌+◌, ◌*◌, ◌<◌, ◌≤◌, ◌∙◌, ◌&&◌, nat_eq, subst, arith}
use Rattle.std.proofs.lemmas.Bool.{and_parts}
use Rattle.vx_operands.specs.Forms.{reading}
use Rattle.vx_operands.specs.Rising.{mark}
use Rattle.vx_operands.proofs.ByIndex.{active_below, count_is}
use Rattle.vx_vector.specs.Reading.{element_of, is_active}
use Rattle.vx_mask.proofs.Marked.{first_found, first_past, first_end}
use Rattle.vx_mask.proofs.marks.first_mark.Goals as goal

pub loop-v-init : goal.loop-v-init
loop-v-init g c i l = absurd (omega (arith, l))

pub loop-v-preserved : goal.loop-v-preserved
loop-v-preserved g c =
    let r = reading c.args.form (view_of c.args.at.now) c.args.regs.now (g.S.WordFile.words c.args.file.now) in
    let zero_word : c.marks_word-marks.result ≡ 0 = omega arith in
    first_past (mark r) c.loop-v.v c.marks_word-marks.result c.marks_word-marks.ensures c.loop-v.invariant zero_word

pub returns-then-marks-ne0 : goal.returns-then-marks-ne0
returns-then-marks-ne0 g c =
    let r = reading c.args.form (view_of c.args.at.now) c.args.regs.now (g.S.WordFile.words c.args.file.now) in
    let count = count_is r c.requires.elements in
    first_found (mark r) c.args.at.now.vl c.loop-v.v c.marks_word-marks.result c.lowest.result c.marks_word-marks.ensures c.loop-v.invariant
    (λ i t. let low = active_below r i (and_parts (nat_eq (element_of r c.args.regs.now.vs2 1 i) 1) (is_active r i) t).1 in omega (arith, low, count))
    c.lowest.ensures.inside c.lowest.ensures.there c.lowest.ensures.before

pub returns : goal.returns
returns g c =
    let r = reading c.args.form (view_of c.args.at.now) c.args.regs.now (g.S.WordFile.words c.args.file.now) in
    first_end (mark r) c.args.at.now.vl (c.loop-v.v * 64) (omega arith) c.loop-v.invariant
