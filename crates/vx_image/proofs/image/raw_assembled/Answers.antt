-- The segments are the one of the bytes.
use Rattle.std.proofs.Common.{◌≡◌, [], ◌∷◌, ◌++◌, ap, ◌∙◌, List}
use Rattle.std.proofs.lemmas.Result.{IfOk-weaker}
use Rattle.vx_elf.specs.declared.segment.Segment.{Segment}
use Rattle.vx_image.specs.Building.{entries_below}
use Rattle.vx_image.specs.Images.{raw_segment, raw_image}
use Rattle.vx_image.specs.Mapping.{all_pages}
use Rattle.vx_image.proofs.Assembled.{with_pages}
use Rattle.vx_image.proofs.Raw.{raw_list, raw_listed, raw_is}
use Rattle.vx_image.proofs.image.raw_assembled.Goals as goal

pub page_entries-requires : goal.page_entries-requires
page_entries-requires c =
    let one : c.push.new.self.items ≡ raw_segment c.args.bytes.now ∷ [] =
    c.in_ok-push.ensures.items
    ∙ ap (λ (segments : List Segment). segments ++ c.in_ok-raw_segment.field-0 ∷ []) c.new-segments.ensures.items
    ∙ ap (λ (segment : Segment). segment ∷ []) c.in_ok-raw_segment.ensures in
    rw (c.as_slice.ensures.value, one) (raw_list c.args.bytes.now c.requires)

pub assembled-requires-clause-segments : goal.assembled-requires-clause-segments
assembled-requires-clause-segments c =
    let one : c.push.new.self.items ≡ raw_segment c.args.bytes.now ∷ [] =
    c.in_ok-push.ensures.items
    ∙ ap (λ (segments : List Segment). segments ++ c.in_ok-raw_segment.field-0 ∷ []) c.new-segments.ensures.items
    ∙ ap (λ (segment : Segment). segment ∷ []) c.in_ok-raw_segment.ensures in
    rw (c.as_slice-2.ensures.value, one) (raw_list c.args.bytes.now c.requires)

pub assembled-requires-clause-listed : goal.assembled-requires-clause-listed
assembled-requires-clause-listed c =
    let one : c.push.new.self.items ≡ raw_segment c.args.bytes.now ∷ [] =
    c.in_ok-push.ensures.items
    ∙ ap (λ (segments : List Segment). segments ++ c.in_ok-raw_segment.field-0 ∷ []) c.new-segments.ensures.items
    ∙ ap (λ (segment : Segment). segment ∷ []) c.in_ok-raw_segment.ensures in
    raw_listed c.args.bytes.now c.in_ok-entries.entries.items c.requires (c.in_ok-entries.ensures ∙ ap (λ (segments : List Segment). entries_below segments 0x4000000) (c.as_slice.ensures.value ∙ one))

pub returns : goal.returns
returns c =
    let bytes = c.args.bytes.now in
    let one : c.push.new.self.items ≡ raw_segment bytes ∷ [] =
    c.in_ok-push.ensures.items
    ∙ ap (λ (segments : List Segment). segments ++ c.in_ok-raw_segment.field-0 ∷ []) c.new-segments.ensures.items
    ∙ ap (λ (segment : Segment). segment ∷ []) c.in_ok-raw_segment.ensures in
    IfOk-weaker c.assembled.result (λ image. image ≡ with_pages 0x10000 (all_pages c.as_slice-2.result.now)) (λ image. image ≡ raw_image bytes)
    (λ image made. raw_is bytes image (made ∙ ap (λ (segments : List Segment). with_pages 0x10000 (all_pages segments)) (c.as_slice-2.ensures.value ∙ one)))
    c.assembled.ensures
