-- The permissions of one segment more.
use Rattle.std.proofs.Common.{◌≡◌, ℕ, List, [], map, take, length, vec_len, ap, sym, subst, ◌∙◌, arith}
use Rattle.std.proofs.lemmas.List.{take_all, with_items_is}
use Rattle.vx_elf.specs.declared.segment.Segment.{Segment}
use Rattle.vx_image.specs.Building.{is_among, is_met, numbers_below, granted, entry_of_segments}
use Rattle.vx_image.specs.Kept.{IsRising}
use Rattle.vx_image.specs.Mapping.{stack_page}
use Rattle.vx_image.proofs.Granting.{entries_more}
use Rattle.vx_image.proofs.Numbers.{same_numbers, entries_of_rise}
use Rattle.vx_image.proofs.build.segment_entries.Goals as goal

pub loop-segment-init : goal.loop-segment-init
loop-segment-init c =
    c.in_ok-entries.ensures
    ∙ ap (map (entry_of_segments [])) (same_numbers _ (is_met c.args.segments.now) (λ n. ap (λ (ps : List ℕ). is_among ps n) c.deref.ensures.value ∙ c.in_ok-pages.ensures.met n) stack_page)

pub grant-requires-clause-rising : goal.grant-requires-clause-rising
grant-requires-clause-rising c =
    subst IsRising (sym (c.as_mut_slice.ensures.value ∙ c.loop-segment.invariant)) (entries_of_rise (take c.loop-segment.segment-index c.args.segments.now) (is_met c.args.segments.now) stack_page)

pub loop-segment-preserved : goal.loop-segment-preserved
loop-segment-preserved c =
    let segments = c.args.segments.now in
    let i = c.loop-segment.segment-index in
    let kept : length c.grant.new.entries ≡ vec_len c.loop-segment.entries = omega (arith, c.grant.auto.entries, c.as_mut_slice.ensures.len) in
    with_items_is c.loop-segment.entries c.grant.new.entries kept
    ∙ c.grant.ensures
    ∙ ap (map (granted c.segment-item.result)) (c.as_mut_slice.ensures.value ∙ c.loop-segment.invariant)
    ∙ entries_more segments i c.segment-item.result c.loop-segment-test.true c.segment-item.is (numbers_below (is_met segments) stack_page)

pub returns : goal.returns
returns c =
    c.loop-segment.invariant
    ∙ ap (λ (ss : List Segment). map (entry_of_segments ss) (numbers_below (is_met c.args.segments.now) stack_page)) (take_all c.loop-segment.segment-index c.args.segments.now (omega arith))
