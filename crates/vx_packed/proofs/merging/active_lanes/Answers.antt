-- A bit is kept that isn't among the first ones that come too early and is among those that don't come too late.
use Rattle.std.proofs.Common.{ℕ, ◌-◌, ◌^◌, min, ap, ◌∙◌, bit_and, arith}
use Rattle.vx_packed.specs.Joined.{lane}
use Rattle.vx_packed.proofs.Lanes.{active_bit, active_all}
use Rattle.vx_packed.proofs.merging.active_lanes.Goals as goal

pub returns-then-count-below : goal.returns-then-count-below
returns-then-count-below c k l = active_all c.args.count c.args.first c.args.from c.args.to c.args.bits k (omega arith) (omega arith) l

pub returns : goal.returns
returns c k l =
    let below = c.first_ones.ensures ∙ ap (λ (n : ℕ). 2 ^ min n 64 - 1) c.saturating_sub-below.ensures in
    let above = c.first_ones-2.ensures ∙ ap (λ (n : ℕ). 2 ^ min n 64 - 1) c.saturating_sub.ensures in
    ap (λ n. lane 1 n k) (λ i. bit_and (bit_and c.args.bits (below i)) (2 ^ 64 - 1 - above i))
    ∙ active_bit c.args.first c.args.from c.args.to c.args.bits k (omega arith)
