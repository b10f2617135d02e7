-- The pages of one segment more, and all of them in order.
use Rattle.std.proofs.Common.{ℕ, List, ap, ◌∙◌, arith}
use Rattle.std.proofs.lemmas.List.{take_all}
use Rattle.vx_elf.specs.declared.segment.Segment.{Segment}
use Rattle.vx_image.specs.Building.{is_among, is_met}
use Rattle.vx_image.proofs.Collected.{met_more, in_order}
use Rattle.vx_image.proofs.met.met_pages.Goals as goal

pub loop-segment-init : goal.loop-segment-init
loop-segment-init c n = ap (λ (ps : List ℕ). is_among ps n) c.new-pages.ensures.items

pub loop-segment-preserved : goal.loop-segment-preserved
loop-segment-preserved c n =
    met_more c.push_span.new.pages.items c.loop-segment.pages.items c.args.segments.now c.loop-segment.segment-index c.segment-item.result n c.loop-segment-test.true c.segment-item.is (c.loop-segment.invariant n) (c.in_ok-push_span.ensures n)

pub returns : goal.returns
returns c =
    in_order c.loop-segment.pages.items c.sort_unstable.new.self.items c.args.segments.now c.requires
    (λ n. c.loop-segment.invariant n ∙ ap (λ (ss : List Segment). is_met ss n) (take_all c.loop-segment.segment-index c.args.segments.now (omega arith)))
    c.sort_unstable.ensures.permutation
    c.sort_unstable.ensures.sorted
