-- One lane more.
use Rattle.std.proofs.Common.{◌≡◌, ◌/◌, true, sym, ap, ◌∙◌, arith}
use Rattle.vx_packed.specs.Joined.{lane}
use Rattle.vx_operands.specs.Rising.{joined_below}
use Rattle.vx_operands.proofs.Counts.{joined_none, joined_more}
use Rattle.vx_mask.proofs.reduced.folded_word.Goals as goal

pub loop-k-init : goal.loop-k-init
loop-k-init g c h e = sym (joined_none h c.args.start (λ k. true) (λ k. lane c.args.width c.args.word k))

pub loop-k-preserved : goal.loop-k-preserved
loop-k-preserved g c h e =
    e (record { sum = c.loop-k.sum; x = c.lane_at-x.result }) c.f-sum.result c.f-sum.ensures
    ∙ (λ i. h (c.loop-k.invariant h e i) (c.lane_at-x.ensures i))
    ∙ sym (joined_more h c.args.start (λ k. true) (λ k. lane c.args.width c.args.word k) c.loop-k.k)

pub returns : goal.returns
returns g c h e =
    let end : c.loop-k.k ≡ 64 / c.args.width = omega arith in
    c.loop-k.invariant h e
    ∙ ap (λ n. joined_below h c.args.start (λ k. true) (λ k. lane c.args.width c.args.word k) n) end
