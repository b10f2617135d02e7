-- An image put together of the entries and bytes of its pages.
use Rattle.std.proofs.Common.{◌≡◌, ℕ, ◌%◌, List, length, Some, None, Ok, Err, sym, ap, ◌∙◌}
use Rattle.vx_base.specs.Pages.{IsPageList}
use Rattle.vx_base.specs.declared.perm.PageEntry.{PageEntry}
use Rattle.vx_elf.specs.Segments.{IsSegmentList}
use Rattle.vx_elf.specs.declared.segment.Segment.{Segment}
use Rattle.vx_elf.specs.declared.segments.Segments.{Segments}
use Rattle.vx_image.specs.Building.{entries_below, bytes_of_entries}
use Rattle.vx_image.specs.Images.{pages_fault, image_fault, image_in, Makes}
use Rattle.vx_image.specs.Kept.{pages_of, IsRising, IsImage}
use Rattle.vx_image.specs.Mapping.{all_pages}
use Rattle.vx_image.specs.Pages.{Image, Memory}
use Rattle.vx_image.specs.declared.fault.ImageFault.{ImageFault}
use Rattle.vx_image.specs.declared.fault.ImageFault.TheVariants.{NoMemory}
use Rattle.vx_image.proofs.Allowed.{AreEntries, are_entries, entries_rise, are_listed, faultless}
use Rattle.vx_image.proofs.Made.{all_are, length_bytes}

module _ (segments : List Segment) (entries : List PageEntry) (list : IsSegmentList segments) (same : entries ≡ entries_below segments 0x4000000) where
  pub there : AreEntries entries 0x4000000
  there = rw same (are_entries segments 0x4000000 list)

  pub rises : IsRising entries
  rises = entries_rise entries 0x4000000 there

  -- pages without a fault are those of a list
  pub listed : (entry : ℕ) → None ≡ pages_fault entry (pages_of entries (bytes_of_entries segments entries)) → IsPageList entries
  listed entry none = are_listed entries there (faultless entry entries (bytes_of_entries segments entries) (sym none)).0

-- bytes and entries are kept as they must be
pub kept : (segments : List Segment) (entry : ℕ) (entries : List PageEntry) (bytes : List ℕ) → bytes ≡ bytes_of_entries segments entries → IsPageList entries → entry % 4 ≡ 0 → IsImage entry entries bytes
kept segments entry entries bytes made is aligned = record {
  aligned = aligned;
  listed = is;
  whole = ap length made ∙ length_bytes segments entries;
}

-- an entry without a fault is a multiple of 4
pub entry_aligned : (entry : ℕ) (entries : List PageEntry) (bytes : List ℕ) → None ≡ pages_fault entry (pages_of entries bytes) → entry % 4 ≡ 0
entry_aligned entry entries bytes none = (faultless entry entries bytes (sym none)).1

-- the first fault is what the making answers
answers : (segments : Segments) (fault : ImageFault) → image_fault segments ≡ Some fault → Makes segments (Err fault)
answers segments NoMemory found = tt
answers segments fault found = found

-- an image of these parts
abbrev pub with_pages : ℕ → Memory → Image
with_pages entry pages = record { entry = entry; pages = pages }

-- the pages that are kept are all pages of the segments
pub the_pages : (segments : List Segment) (entry : ℕ) (entries : List PageEntry) (bytes : List ℕ) → IsSegmentList segments → entries ≡ entries_below segments 0x4000000 → bytes ≡ bytes_of_entries segments entries → with_pages entry (pages_of entries bytes) ≡ with_pages entry (all_pages segments)
the_pages segments entry entries bytes list same made =
    ap (with_pages entry) (ap (pages_of entries) made ∙ all_are segments entries list same)

module _ (segments : Segments) (list : IsSegmentList segments.list) (entries : List PageEntry) (same : entries ≡ entries_below segments.list 0x4000000) where
  pub refused : (fault : ImageFault) → Some fault ≡ pages_fault segments.entry (pages_of entries (bytes_of_entries segments.list entries)) → Makes segments (Err fault)
  unfolding image_fault
  refused fault found =
      answers segments fault (ap (pages_fault segments.entry) (sym (all_are segments.list entries list same)) ∙ sym found)

  pub accepted : (image : Image) → None ≡ pages_fault segments.entry (pages_of entries (bytes_of_entries segments.list entries)) → image ≡ with_pages segments.entry (all_pages segments.list) → Makes segments (Ok image)
  unfolding image_fault image_in
  accepted image none made = (ap (pages_fault segments.entry) (sym (all_are segments.list entries list same)) ∙ sym none, made)
