-- One lane more.
use Rattle.vx_vstate.specs.Views.{view_of}
use Rattle.std.proofs.Common.{◌≡◌, ◌+◌, ◌∙◌, ap, subst, arith}
use Rattle.vx_operands.specs.Forms.{reading}
use Rattle.vx_vector.specs.Arithmetic.{becomes}
use Rattle.vx_vector.specs.Laws.{value_after}
use Rattle.vx_perm.proofs.Facts.{ArePacked, packed_none, packed_more}
use Rattle.vx_perm.proofs.packs.packed_lanes.Goals as goal

pub loop-k-init : goal.loop-k-init
loop-k-init g c =
    let r = reading c.args.form (view_of c.args.at.now) c.args.regs.now (g.S.WordFile.words c.args.file.now) in
    packed_none r c.args.sew c.args.first c.args.old c.pass_words-passed.result c.pass_words-passed.ensures

pub loop-k-preserved : goal.loop-k-preserved
loop-k-preserved g c =
    let r = reading c.args.form (view_of c.args.at.now) c.args.regs.now (g.S.WordFile.words c.args.file.now) in
    packed_more r c.args.sew c.args.first c.args.old c.loop-k.k c.seek-passed.result c.loop-k.value c.packed_element-next.result c.low.result c.beside-value.result c.loop-k.invariant.is c.seek-passed.ensures.passed
    (c.packed_element-next.ensures ∙ ap (λ n. value_after (becomes r (c.args.first + c.loop-k.k)) n) c.lane_at-before.ensures)
    c.low.ensures.value c.beside-value.ensures.value c.beside-value.ensures.below

pub returns : goal.returns
returns g c =
    let r = reading c.args.form (view_of c.args.at.now) c.args.regs.now (g.S.WordFile.words c.args.file.now) in
    let end : c.loop-k.k ≡ c.args.count = omega arith in
    let all = subst (λ n. ArePacked r c.args.sew c.args.first c.args.old n c.loop-k.passed c.loop-k.value) end c.loop-k.invariant in
    all.is
