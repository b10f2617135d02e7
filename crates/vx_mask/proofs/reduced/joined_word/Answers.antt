-- One lane more.
use Rattle.std.proofs.Common.{◌≡◌, ◌/◌, nat_eq, if◌then◌else◌, sym, ap, ◌∙◌, arith}
use Rattle.vx_packed.specs.Joined.{lane}
use Rattle.vx_operands.specs.Rising.{joined_below}
use Rattle.vx_operands.proofs.Counts.{joined_none, joined_more}
use Rattle.vx_mask.proofs.reduced.joined_word.Goals as goal

pub loop-k-init : goal.loop-k-init
loop-k-init g c h e = sym (joined_none h c.args.start (λ k. nat_eq (lane 1 c.args.active k) 1) (λ k. lane c.args.width c.args.word k))

pub loop-k-preserved : goal.loop-k-preserved
loop-k-preserved g c h e =
    c.joined-sum.ensures h e
    ∙ ap (λ p. if nat_eq (lane 1 c.args.active c.loop-k.k) 1 then h p (lane c.args.width c.args.word c.loop-k.k) else p) (c.loop-k.invariant h e)
    ∙ sym (joined_more h c.args.start (λ k. nat_eq (lane 1 c.args.active k) 1) (λ k. lane c.args.width c.args.word k) c.loop-k.k)

pub returns : goal.returns
returns g c h e =
    let end : c.loop-k.k ≡ 64 / c.args.width = omega arith in
    c.loop-k.invariant h e
    ∙ ap (λ n. joined_below h c.args.start (λ k. nat_eq (lane 1 c.args.active k) 1) (λ k. lane c.args.width c.args.word k) n) end
