-- The entries are those of the segments' image, and the first fault is its fault.
use Rattle.std.proofs.Common.{ap, ◌∙◌, List}
use Rattle.vx_elf.specs.declared.segment.Segment.{Segment}
use Rattle.vx_image.specs.Building.{entries_below, bytes_of_entries}
use Rattle.vx_image.specs.Kept.{IsRising}
use Rattle.vx_image.specs.Mapping.{all_pages}
use Rattle.vx_image.proofs.Assembled.{with_pages, rises, listed, entry_aligned, refused, accepted}
use Rattle.vx_image.proofs.image.image_of.Goals as goal

pub pages_fault-requires : goal.pages_fault-requires
pages_fault-requires c =
    let same = c.in_ok-entries.ensures ∙ ap (λ (segments : List Segment). entries_below segments 0x4000000) c.slice-list.ensures.items in
    let rising : IsRising c.in_ok-entries.entries.items = rises c.args.segments.now.list c.in_ok-entries.entries.items c.slice-list.ensures.kept same in
    rw c.deref.ensures.value rising

pub returns-in-Some : goal.returns-in-Some
returns-in-Some c =
    let same = c.in_ok-entries.ensures ∙ ap (λ (segments : List Segment). entries_below segments 0x4000000) c.slice-list.ensures.items in
    let found = rw c.deref.ensures.value at c.in-Some.ensures in
    refused c.args.segments.now c.slice-list.ensures.kept c.in_ok-entries.entries.items same c.in-Some.fault (found (bytes_of_entries c.args.segments.now.list c.in_ok-entries.entries.items))

pub assembled-requires : goal.assembled-requires
assembled-requires c =
    let segments = c.args.segments.now in
    let entries = c.in_ok-entries.entries.items in
    let bytes = bytes_of_entries segments.list entries in
    let same = c.in_ok-entries.ensures ∙ ap (λ (segments : List Segment). entries_below segments 0x4000000) c.slice-list.ensures.items in
    let none = (rw c.deref.ensures.value at c.in_default.ensures) bytes in
    record {
      segments = rw c.slice-list.ensures.items c.slice-list.ensures.kept;
      entries = c.in_ok-entries.ensures;
      listed = listed segments.list entries c.slice-list.ensures.kept same segments.entry none;
      aligned = entry_aligned segments.entry entries bytes none;
    }

pub returns : goal.returns
returns c =
    let segments = c.args.segments.now in
    let entries = c.in_ok-entries.entries.items in
    let bytes = bytes_of_entries segments.list entries in
    let same = c.in_ok-entries.ensures ∙ ap (λ (segments : List Segment). entries_below segments 0x4000000) c.slice-list.ensures.items in
    let none = (rw c.deref.ensures.value at c.in_default.ensures) bytes in
    let made = c.in_ok-assembled.ensures ∙ ap (λ (segments : List Segment). with_pages c.args.segments.now.entry (all_pages segments)) c.slice-list.ensures.items in
    accepted segments c.slice-list.ensures.kept entries same c.in_ok-assembled.field-0 none made
