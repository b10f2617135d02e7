-- One lane more.
use Rattle.std.proofs.Common.{◌≡◌, ◌+◌, arith, subst}
use Rattle.vx_operands.proofs.ByIndex.{AreAfterBelow, after_none, after_more}
use Rattle.vx_operands.proofs.moved_by.lanes_after.Goals as goal

pub loop-k-init : goal.loop-k-init
loop-k-init g c = after_none _ c.args.width c.args.active c.args.old

pub loop-k-preserved : goal.loop-k-preserved
loop-k-preserved g c = after_more _ c.args.width c.args.active c.args.old c.loop-k.k c.loop-k.word c.lane_after-next.result c.low.result c.beside-word.result c.loop-k.invariant c.lane_after-next.ensures c.low.ensures.value c.beside-word.ensures.value c.beside-word.ensures.below

pub returns : goal.returns
returns g c f h =
    let end : c.loop-k.k ≡ c.args.count = omega arith in
    let all = subst (λ n. AreAfterBelow (λ k o. goal.F-post g c.args.f (c.args.first + k) o) c.args.width c.args.active c.args.old n c.loop-k.word) end c.loop-k.invariant in
    all.value f h
