-- A walk of the page tables on its way, an access at a time. This project's own.
use Rattle.std.specs.Prelude.{◌≡◌, ℕ, zero, suc, ◌+◌, ◌*◌, ◌<◌, ◌≤◌, ◌^◌, true, nat_lt, List, [], ◌∷◌, ◌++◌, map, slice_index, Option, Some, None, IfSome, option_map, if◌then◌else◌}
use Rattle.std.specs.Option.{option_to_list}
use Rattle.vx_base.specs.Numbers.{field}
use Rattle.vx_base.specs.Permissions.{grants}
use Rattle.vx_base.specs.declared.machine.Want.{Want}
use Rattle.vx_base.specs.declared.perm.PageEntry.{PageEntry}
use Rattle.vx_cells.specs.Cells.{CellsState, Makes, read_at}
use Rattle.vx_cells.specs.declared.access.Port.{Port}
use Rattle.vx_tables.specs.Entries.{frame_in, is_pointer, leaf_answer, leaf_written}
use Rattle.vx_image.specs.Pages.{page_of, is_canonical}
use Rattle.vx_tables.specs.Residency.{Place, PlacedPage, Residency, pages_of, placed, page_map, after_walk}
use Rattle.vx_tables.specs.Residency.Place.{Away, Present}
use Rattle.vx_tables.specs.Tables.{gib, mib2, has_region, second_frame, leaf_frame, table_count, table_word, AreHeld, SameBut}
use Rattle.vx_tables.specs.Walks.{Walk, entry_word, refused, walk_from, table_walk, walk_port, read_entry, written_entry, walk_accesses}
use Rattle.vx_tables.specs.declared.stage.Stage.{Stage}
use Rattle.vx_tables.specs.declared.stage.Stage.TheVariants.{Reads, Ends, Over}
use Rattle.vx_tables.specs.declared.stage.TableEntry.{TableEntry}
use Rattle.vx_tables.specs.declared.walked.Walked.{Walked}
use Rattle.vx_tables.specs.declared.walked.Walked.TheVariants as walked

pub record Walking : Type 0 where
  pub address : ℕ
  pub want : Want
  pub port : Port
  pub stage : Stage

-- the stage in which a walk begins
abbrev pub first_stage : (root address : ℕ) → Stage
first_stage root address = if is_canonical address then Reads 2 root else Ends walked.Denied None

-- the stage after the entry of that value was read in a table. A frame beyond 32 bits is none of the memory's, and its access
-- is denied
abbrev pub stage_behind : Want → (address level frame value : ℕ) → Stage
stage_behind want address zero frame value =
    Ends (leaf_answer want value) (option_map (λ (written : ℕ). record { word = entry_word frame address 0; value = written }) (leaf_written want value))
stage_behind want address (suc level) frame value = if is_pointer value then Reads level (frame_in value) else Ends walked.Denied None

abbrev pub stage_after : Want → (address level frame value : ℕ) → Stage
stage_after want address level frame value =
    if nat_lt (frame_in value) (2 ^ 32) then stage_behind want address level frame value else Ends walked.Denied None

-- the rest of a walk through a memory that stays
abbrev pub rest_of : (memory : ℕ → ℕ) → Want → (address : ℕ) → Stage → Walk
rest_of memory want address (Reads level frame) = walk_from memory want address level frame
rest_of memory want address (Ends answer write) = record { reads = []; answer = answer; write = write }
rest_of memory want address Over = refused

-- a walk that reads these entries first
abbrev pub reading_first : List TableEntry → Walk → Walk
reading_first done rest = record rest { reads = done ++ rest.reads }

-- how many reads are to come at the most, and the end
abbrev pub steps_left : Stage → ℕ
steps_left (Reads level frame) = level + 2
steps_left (Ends answer write) = 1
steps_left Over = 0

-- a table in which a walk for an address reads at a level
abbrev pub IsTable : List PageEntry → (root address level frame : ℕ) → Type 0
IsTable pages root address zero frame =
    (has_region mib2 (512 * field address 30 9 + field address 21 9) pages ≡ true) × (frame ≡ leaf_frame root pages (512 * field address 30 9 + field address 21 9))
IsTable pages root address (suc zero) frame = (has_region gib (field address 30 9) pages ≡ true) × (frame ≡ second_frame root pages (field address 30 9))
IsTable pages root address (suc (suc zero)) frame = frame ≡ root
IsTable pages root address (suc (suc (suc level))) frame = ⊥

-- a stage of a walk through the tables of these pages that isn't over
abbrev pub IsStage : List PageEntry → (root address : ℕ) → Stage → Type 0
IsStage pages root address (Reads level frame) = (is_canonical address ≡ true) × IsTable pages root address level frame
IsStage pages root address (Ends answer write) = IfSome write (λ (e : TableEntry). (512 * root ≤ e.word) × (e.word < 512 * (root + table_count pages)))
IsStage pages root address Over = ⊥

-- a walk through the tables of a residency has read these entries so far, and what is left of it is the rest
pub record IsWalk (residency : Residency) (root : ℕ) (walking : Walking) (done : List TableEntry) : Type 0 where
  pub stage : IsStage (pages_of residency) root walking.address walking.stage
  pub whole : table_walk residency root walking.address walking.want ≡ reading_first done (rest_of (table_word residency root) walking.want walking.address walking.stage)

-- the place of a page with these permissions as a walk has seen it, and as it is now: the frame is the same, A is set where it
-- was, and D is what it was where the page grants what the walk wants
abbrev pub PlacesAgree : (permissions : ℕ) → Want → (seen now : Place) → Type 0
PlacesAgree permissions want Away Away = Unit {0}
PlacesAgree permissions want Away (Present frame accessed dirty) = ⊥
PlacesAgree permissions want (Present frame accessed dirty) Away = ⊥
PlacesAgree permissions want (Present frame accessed dirty) (Present frame_now accessed_now dirty_now) =
    (frame_now ≡ frame) × ((accessed ≡ true → accessed_now ≡ true) × (grants permissions want ≡ true → dirty_now ≡ dirty))

abbrev pub PagesAgree : Want → (seen now : Option PlacedPage) → Type 0
PagesAgree want None None = Unit {0}
PagesAgree want None (Some q) = ⊥
PagesAgree want (Some p) None = ⊥
PagesAgree want (Some p) (Some q) = (q.entry ≡ p.entry) × PlacesAgree p.entry.perm.bits want p.place q.place

-- what a walk has seen of a residency agrees with one that other walks have left since: the pages are the same, and that of its
-- address has kept its place but for the bits that these have set
pub record Agree (address : ℕ) (want : Want) (seen now : Residency) : Type 0 where
  pub pages : pages_of now ≡ pages_of seen
  pub page : PagesAgree want (placed (page_of address) seen) (placed (page_of address) now)

-- one tick of a walk: it reads the next entry, or ends and writes the leaf
pub record TickReads (before after : CellsState) (walking next : Walking) (level frame : ℕ) (answer : Option Walked) : Type 0 where
  pub goes_on : answer ≡ None
  pub makes : Makes before after (read_at before walking.port (entry_word frame walking.address level) ∷ [])
  pub becomes : next ≡ record walking { stage = stage_after walking.want walking.address level frame (slice_index before.contents (entry_word frame walking.address level)) }

pub record TickEnds (before after : CellsState) (walking next : Walking) (last : Walked) (write : Option TableEntry) (answer : Option Walked) : Type 0 where
  pub ends : answer ≡ Some last
  pub makes : Makes before after (map (written_entry before.cycle walking.port) (option_to_list write))
  pub becomes : next ≡ record walking { stage = Over }

abbrev pub Ticks : (before after : CellsState) (walking next : Walking) → Stage → (answer : Option Walked) → Type 0
Ticks before after walking next (Reads level frame) answer = TickReads before after walking next level frame answer
Ticks before after walking next (Ends last write) answer = TickEnds before after walking next last write answer
Ticks before after walking next Over answer = ⊥

-- a tick of a walk that has read these entries, over tables that stand for a residency now: it reads one more entry of them; or
-- it has read all, as they were, answers the page map, and the tables then stand for the residency with A and D set where they
-- are to be
pub record WalkGoesOn (before after : CellsState) (now : Residency) (root : ℕ) (walking next : Walking) (done : List TableEntry) : Type 0 where
  pub entry : TableEntry
  pub makes : Makes before after (read_entry before.cycle walking.port entry ∷ [])
  pub held : AreHeld after root now
  pub walk : IsWalk now root next (done ++ entry ∷ [])

pub record WalkEnds (before after : CellsState) (seen now : Residency) (root : ℕ) (walking : Walking) (done : List TableEntry) (answered : Walked) : Type 0 where
  pub reads : (table_walk seen root walking.address walking.want).reads ≡ done
  pub answer : answered ≡ page_map now walking.address walking.want
  pub makes : Makes before after (map (written_entry before.cycle walking.port) (option_to_list (table_walk seen root walking.address walking.want).write))
  pub held : AreHeld after root (after_walk now walking.address walking.want)
  pub others : SameBut root (table_count (pages_of now)) before.contents after.contents

abbrev pub WalkTicks : (before after : CellsState) (seen now : Residency) (root : ℕ) (walking next : Walking) → List TableEntry → Option Walked → Type 0
WalkTicks before after seen now root walking next done None = WalkGoesOn before after now root walking next done
WalkTicks before after seen now root walking next done (Some answer) = WalkEnds before after seen now root walking done answer

-- an entry that is to be written, if one is, is within the frames of the cells
abbrev pub CanWrite : CellsState → Option TableEntry → Type 0
CanWrite cells write = IfSome write (λ (e : TableEntry). e.word < 512 * cells.frames)

-- a walk isn't over, and the frame in which it reads, or the word that it writes, is one of the cells
abbrev pub CanTick : CellsState → Stage → Type 0
CanTick cells (Reads level frame) = frame < cells.frames
CanTick cells (Ends answer write) = CanWrite cells write
CanTick cells Over = ⊥

-- a read is at one of the three levels
abbrev pub IsOfLevels : Stage → Type 0
IsOfLevels (Reads level frame) = level < 3
IsOfLevels (Ends answer write) = Unit {0}
IsOfLevels Over = Unit {0}

-- the cells hold tables with that root
pub record HaveTables (cells : CellsState) (root : ℕ) : Type 0 where
  pub residency : Residency
  pub held : AreHeld cells root residency

-- a whole walk at one cycle through the tables of a residency: its accesses, the page map as its answer, and A and D set where
-- they are to be
pub record Walks (before after : CellsState) (residency : Residency) (root address : ℕ) (want : Want) (answered : Walked) : Type 0 where
  pub makes : Makes before after (walk_accesses before.cycle (walk_port want) (table_walk residency root address want))
  pub answer : answered ≡ page_map residency address want
  pub held : AreHeld after root (after_walk residency address want)
  pub others : SameBut root (table_count (pages_of residency)) before.contents after.contents
