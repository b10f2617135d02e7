-- The pages rise, so the half that is left out is below the region, or isn't.
use Rattle.std.proofs.Common.{ℕ, ◌+◌, ◌-◌, ◌/◌, ◌≤◌, arith}
use Rattle.vx_walk.proofs.Ordered.{regions_rise}
use Rattle.vx_walk.proofs.building.first_from.Goals as goal

pub loop-low-preserved : goal.loop-low-preserved
loop-low-preserved c =
    let middle : ℕ = c.loop-low.low + (c.loop-low.high - c.loop-low.low) / 2 in
    record {
      ordered = omega arith;
      within = omega arith;
      before = c.loop-low.invariant.before;
      behind = λ k d more lt. omega (arith, c.region_at.ensures d, c.if-region_at-region.false, regions_rise c.args.pages.now c.args.size middle k d c.len-high.ensures.kept c.requires more lt);
    }

pub loop-low-preserved-then-region_at-region : goal.loop-low-preserved-then-region_at-region
loop-low-preserved-then-region_at-region c =
    let middle : ℕ = c.loop-low.low + (c.loop-low.high - c.loop-low.low) / 2 in
    let inside : middle + 1 ≤ c.loop-low.high = omega arith in
    record {
      ordered = inside;
      within = c.loop-low.invariant.within;
      before = λ k d less. omega (arith, c.region_at.ensures d, c.if-region_at-region.true, regions_rise c.args.pages.now c.args.size k middle d c.len-high.ensures.kept c.requires (omega (arith, less)) (omega (arith, inside, c.loop-low.invariant.within)));
      behind = c.loop-low.invariant.behind;
    }
