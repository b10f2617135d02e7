-- One lane more.
use Rattle.vx_vstate.specs.Views.{view_of}
use Rattle.std.proofs.Common.{◌≡◌, ℕ, ◌/◌, ap, ◌∙◌, arith}
use Rattle.vx_operands.specs.Forms.{reading}
use Rattle.vx_packed.specs.Joined.{joined, lane}
use Rattle.vx_vector.specs.Lists.{element_or_zero}
use Rattle.vx_vector.specs.Reading.{lists_of}
use Rattle.vx_perm.proofs.Joining.{first_more, first_none}
use Rattle.vx_perm.proofs.gathers.even_lanes.Goals as goal

pub loop-k-init : goal.loop-k-init
loop-k-init c =
    let s = lists_of (reading c.args.form (view_of c.args.at.now) c.args.regs.now c.args.words.now) in
    first_none c.args.sew (λ k. element_or_zero s (lane c.args.sew c.args.indices k))

pub loop-k-preserved : goal.loop-k-preserved
loop-k-preserved c =
    let s = lists_of (reading c.args.form (view_of c.args.at.now) c.args.regs.now c.args.words.now) in
    let f : ℕ → ℕ = λ k. element_or_zero s (lane c.args.sew c.args.indices k) in
    first_more c.args.sew c.loop-k.k c.loop-k.value c.source_in-next.result c.low.result c.beside-value.result f c.loop-k.invariant
    (c.source_in-next.ensures ∙ ap (λ n. element_or_zero s n) c.lane_at-index.ensures)
    c.low.ensures.value
    c.beside-value.ensures.value
    c.beside-value.ensures.below

pub returns : goal.returns
returns c =
    let s = lists_of (reading c.args.form (view_of c.args.at.now) c.args.regs.now c.args.words.now) in
    let end : c.loop-k.k ≡ 64 / c.args.sew = omega arith in
    c.loop-k.invariant.is ∙ ap (λ n. joined c.args.sew n (λ k. element_or_zero s (lane c.args.sew c.args.indices k))) end
