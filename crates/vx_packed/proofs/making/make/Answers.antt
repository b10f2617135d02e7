-- One lane more, and at the end all of them.
use Rattle.std.proofs.Common.{arith, subst, ◌≡◌, ◌*◌, ◌^◌, ◌<◌}
use Rattle.vx_packed.proofs.OneByOne.{IsMadeBelow, made_none, made_more, made_all}
use Rattle.vx_packed.proofs.making.make.Goals as goal

pub loop-k-init : goal.loop-k-init
loop-k-init g c = made_none _ c.args.at c.args.from

pub loop-k-preserved : goal.loop-k-preserved
loop-k-preserved g c =
    made_more _ c.args.at c.args.from c.loop-k.k c.loop-k.so_far c.with_answer-so_far.result c.lane_at.result c.f.result c.loop-k.invariant c.lane_at.ensures.value c.lane_at.ensures.below c.f.ensures c.with_answer-so_far.ensures.value c.with_answer-so_far.ensures.sats

pub returns-clause-value : goal.returns-clause-value
returns-clause-value g c f a =
    let end : c.loop-k.k ≡ c.args.at.count = omega arith in
    made_all _ c.args.at c.args.from c.loop-k.so_far (subst (λ n. IsMadeBelow (goal.F-post g c.args.f) c.args.at c.args.from n c.loop-k.so_far) end c.loop-k.invariant) f a

pub returns-clause-below : goal.returns-clause-below
returns-clause-below g c =
    let end : c.loop-k.k ≡ c.args.at.count = omega arith in
    subst (λ n. c.loop-k.so_far.value < 2 ^ (n * c.args.at.width)) end c.loop-k.invariant.below

pub returns-clause-sats_below : goal.returns-clause-sats_below
returns-clause-sats_below g c =
    let end : c.loop-k.k * 1 ≡ c.args.at.count = omega arith in
    subst (λ n. c.loop-k.so_far.sats < 2 ^ n) end c.loop-k.invariant.sats_below
