-- The bytes of one segment more, and all of them.
use Rattle.std.proofs.Common.{◌≡◌, ℕ, ◌-◌, ◌*◌, List, [], ◌++◌, take, replicate, length, vec_len, ap, ◌∙◌, arith}
use Rattle.std.proofs.lemmas.List.{take_all, with_items_is}
use Rattle.vx_image.specs.Building.{IsLaidOn}
use Rattle.vx_image.proofs.Regions.{few_entries}
use Rattle.vx_image.proofs.Filling.{filled_none, filled_more, filled_all}
use Rattle.vx_image.proofs.build.page_bytes.Goals as goal

pub overflow_mul-entries : goal.overflow_mul-entries
overflow_mul-entries c = omega (arith, few_entries c.args.entries.now c.requires.entries)

pub loop-segment-init : goal.loop-segment-init
loop-segment-init c =
    let n = 4096 * length c.args.entries.now in
    let made : c.resize.new.self.items ≡ take n [] ++ replicate (n - vec_len c.new-bytes.result) 0 = rw c.new-bytes.ensures.items at c.in_ok-resize.ensures.items in
    let none : take n [] ≡ [] = take_all n [] (omega arith) in
    let all : n - vec_len c.new-bytes.result ≡ n = omega (arith, c.new-bytes.ensures.len) in
    filled_none c.resize.new.self.items c.args.entries.now c.args.segments.now
    (made
    ∙ ap (λ (xs : List ℕ). xs ++ replicate (n - vec_len c.new-bytes.result) 0) none
    ∙ ap (λ (m : ℕ). replicate m 0) all)

pub loop-segment-preserved : goal.loop-segment-preserved
loop-segment-preserved c =
    let kept : length c.lay_pages.new.bytes ≡ vec_len c.loop-segment.bytes = omega (arith, c.lay_pages.auto.bytes, c.as_mut_slice.ensures.len) in
    let laid : IsLaidOn c.args.entries.now c.loop-segment.bytes.items c.lay_pages.new.bytes c.segment-item.result = rw c.as_mut_slice.ensures.value at c.lay_pages.ensures in
    rw (with_items_is c.loop-segment.bytes c.lay_pages.new.bytes kept)
    (filled_more c.loop-segment.bytes.items c.lay_pages.new.bytes c.args.entries.now c.args.segments.now c.loop-segment.segment-index c.segment-item.result c.requires.segments c.loop-segment-test.true c.segment-item.is c.loop-segment.invariant laid)

pub returns : goal.returns
returns c =
    filled_all c.loop-segment.bytes.items c.args.entries.now c.args.segments.now c.loop-segment.segment-index (omega arith) c.loop-segment.invariant
