-- The bits of the elements before one.
use Rattle.std.proofs.Common.{◌≡◌, ℕ, ◌+◌, ◌≤◌, ◌∙◌, ◌&&◌, nat_eq, leb, ltb, sym, ap, arith}
use Rattle.vx_packed.specs.Joined.{lane}
use Rattle.vx_operands.proofs.Counts.{count_alike}
use Rattle.vx_mask.proofs.Bitwise.{set, set_of}
use Rattle.vx_mask.proofs.Marked.{le_true}
use Rattle.vx_mask.proofs.marks.ones_before.Goals as goal

pub returns-clause-value : goal.returns-clause-value
returns-clause-value c =
    c.ones.ensures.value
    ∙ count_alike (λ k. nat_eq (lane 1 c.active_lanes.result k) 1) (λ k. ltb (c.args.first + k) c.args.to && nat_eq (lane 1 c.args.marks k) 1) 64
    (λ k l. set_of c.active_lanes.result k ((leb 0 (c.args.first + k) && ltb (c.args.first + k) c.args.to) && set c.args.marks k) (c.active_lanes.ensures k l) ∙ ap (λ b. (b && ltb (c.args.first + k) c.args.to) && set c.args.marks k) (le_true 0 (c.args.first + k) (omega arith)))
