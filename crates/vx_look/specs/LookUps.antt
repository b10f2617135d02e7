-- What the look-ups and walks of a batch leave. This project's own.
use Rattle.std.specs.Prelude.{◌≡◌, ℕ, ◌==◌, ◌&&◌, List, [], ◌++◌, map, Option, None, if◌then◌else◌}
use Rattle.vx_base.specs.declared.machine.Want.{Want}
use Rattle.vx_cells.specs.Cells.{CellsState}
use Rattle.vx_episode.specs.Batches.{Fate as Meant, is_unknown, fate_walked, fate_of, walks_end, walks_of}
use Rattle.vx_episode.specs.Footprint.{Access}
use Rattle.vx_episode.specs.History.{History, Walk, BatchTimes, fetch_walks, walks_of_batches, fills_of, after_walks}
use Rattle.vx_episode.specs.Organisation.{Start}
use Rattle.vx_image.specs.Pages.{page_of}
use Rattle.vx_serve.specs.Fates.{told}
use Rattle.vx_look.specs.Filled.{AreFilledBelow}
use Rattle.vx_serve.specs.declared.fate.Fate.{Fate}
use Rattle.vx_tables.specs.Residency.{pages_of}
use Rattle.vx_tables.specs.Tables.{AreHeld, SameBut, table_count}
use Rattle.vx_tables.specs.declared.walked.Walked.{Walked}
use Rattle.vx_tlb.specs.Kept.{StandsFor}
use Rattle.vx_tlb.specs.declared.tlb.Kept.{Kept}
use Rattle.vx_vaddr.specs.declared.item.Item.{Item}

-- the end of the look-ups and walks of a batch, what is known of its accesses, the cache, and the tables, where these are its walks
pub record AreLookedUpBy (start : Start) (history : History) (earlier : List BatchTimes) (want : Want) (started : ℕ) (accesses : List Access) (walks : List Walk) (root : ℕ) (places : List (Option Kept)) (before after : CellsState) (known : List Fate) (last : ℕ) : Type 0 where
  pub ended : last ≡ walks_end started walks
  pub fates : map told known ≡ map (fate_of start history earlier want started walks) accesses
  pub kept : StandsFor places (fills_of (walks ++ walks_of_batches earlier))
  pub held : AreHeld after root (after_walks start.residency (fetch_walks history ++ walks ++ walks_of_batches earlier))
  -- where the pages that were kept before lie in the memory's frames, those that are kept now do
  pub below : AreFilledBelow before.frames (fills_of (walks_of_batches earlier)) → AreFilledBelow before.frames (fills_of (walks ++ walks_of_batches earlier))
  pub frames : after.frames ≡ before.frames
  pub cycle : after.cycle ≡ before.cycle
  pub others : SameBut root (table_count (pages_of start.residency)) before.contents after.contents

abbrev pub AreLookedUp : (start : Start) (history : History) (earlier : List BatchTimes) (want : Want) (started : ℕ) (accesses : List Access) (root : ℕ) (places : List (Option Kept)) (before after : CellsState) (known : List Fate) (last : ℕ) → Type 0
AreLookedUp start history earlier want started accesses root places before after known last =
    AreLookedUpBy start history earlier want started accesses (walks_of start history earlier want started [] accesses) root places before after known last

-- the cache and the tables as the walks of the earlier batches and of the fetches have left them
pub record AreReady (start : Start) (history : History) (earlier : List BatchTimes) (root : ℕ) (places : List (Option Kept)) (cells : CellsState) : Type 0 where
  pub kept : StandsFor places (fills_of (walks_of_batches earlier))
  pub held : AreHeld cells root (after_walks start.residency (fetch_walks history ++ walks_of_batches earlier))

-- ---- a batch of several accesses

-- accesses of these addresses and widths, in this order
pub record AreOf (items : List Item) (accesses : List Access) : Type 0 where
  pub addresses : map (λ (a : Access). a.address) accesses ≡ map (λ (i : Item). i.address) items
  pub widths : map (λ (a : Access). a.width) accesses ≡ map (λ (i : Item). i.width) items

-- the fate of an access once a page is walked
abbrev pub updated : (page ended : ℕ) → Walked → Access → Meant → Meant
updated page ended answered a fate = if is_unknown fate && page_of a.address == page then fate_walked a ended answered else fate

-- the cache and the tables once these walks of a batch were made
pub record IsWalked (start : Start) (history : History) (earlier : List BatchTimes) (root : ℕ) (walks : List Walk) (places : List (Option Kept)) (before after : CellsState) : Type 0 where
  pub kept : StandsFor places (fills_of (walks ++ walks_of_batches earlier))
  pub held : AreHeld after root (after_walks start.residency (walks ++ fetch_walks history ++ walks_of_batches earlier))
  -- where the pages that were kept before lie in the memory's frames, those that are kept now do
  pub below : AreFilledBelow before.frames (fills_of (walks_of_batches earlier)) → AreFilledBelow before.frames (fills_of (walks ++ walks_of_batches earlier))
  pub frames : after.frames ≡ before.frames
  pub cycle : after.cycle ≡ before.cycle
  pub others : SameBut root (table_count (pages_of start.residency)) before.contents after.contents

-- the same with the end of the last walk, and what is known of the batch's accesses by then
pub record AreGoing (start : Start) (history : History) (earlier : List BatchTimes) (want : Want) (started : ℕ) (accesses : List Access) (root : ℕ) (walks : List Walk) (places : List (Option Kept)) (before after : CellsState) (known : List Fate) (last : ℕ) : Type 0 where
  pub walked : IsWalked start history earlier root walks places before after
  pub ended : last ≡ walks_end started walks
  pub fates : map told known ≡ map (fate_of start history earlier want started walks) accesses

-- the access behind the last of a list
abbrev pub no_access : Access
no_access = record { element = 0; address = 0; width = 0; stored = None; loaded = None }
