-- The walk of the page tables: RISC-V Privileged 1.12, section 4.3.2, with the three levels of Sv39 (section 4.4). An entry
-- above the leaves is followed or refused; a leaf may be away, which is this project's own.
use Rattle.std.specs.Prelude.{ℕ, zero, suc, ◌+◌, ◌-◌, ◌*◌, ◌/◌, ◌^◌, Bool, true, false, ◌||◌, ◌==◌, List, [], ◌∷◌, ◌++◌, map, slice_set, Option, Some, None, option_map, if◌then◌else◌}
use Rattle.std.specs.Option.{option_to_list}
use Rattle.vx_base.specs.Numbers.{field}
use Rattle.vx_base.specs.declared.machine.Want.{Want}
use Rattle.vx_base.specs.declared.machine.Want.TheVariants.{Fetch, Load, Store}
use Rattle.vx_cells.specs.declared.access.Access.{Access}
use Rattle.vx_cells.specs.declared.access.Port.{Port}
use Rattle.vx_cells.specs.declared.access.Port.TheVariants as port
use Rattle.vx_image.specs.Pages.{is_canonical}
use Rattle.vx_tables.specs.Entries.{frame_in, is_pointer, leaf_answer, leaf_written}
use Rattle.vx_tables.specs.Residency.{Residency}
use Rattle.vx_tables.specs.Tables.{table_word}
use Rattle.vx_tables.specs.declared.stage.TableEntry.{TableEntry}
use Rattle.vx_tables.specs.declared.walked.Walked.{Walked}
use Rattle.vx_tables.specs.declared.walked.Walked.TheVariants as walked

-- the entries that a walk reads, in order, its answer, and the entry that it writes at its end
pub record Walk : Type 0 where
  pub reads : List TableEntry
  pub answer : Walked
  pub write : Option TableEntry

-- the word of the entry for an address in the table in a frame, at level 2 for the root, 1 and 0 for the leaves
abbrev pub entry_word : (frame address level : ℕ) → ℕ
entry_word frame address level = 512 * frame + field address (12 + 9 * level) 9

-- nothing more is read, and the access is denied
abbrev pub refused : Walk
refused = record { reads = []; answer = walked.Denied; write = None }

-- one more entry is read first
abbrev pub reading : (word value : ℕ) → Walk → Walk
reading word value rest = record rest { reads = record { word = word; value = value } ∷ rest.reads }

abbrev pub leaf_walk : Want → (word value : ℕ) → Walk
leaf_walk want word value = reading word value (record {
  reads = [];
  answer = leaf_answer want value;
  write = option_map (λ (written : ℕ). record { word = word; value = written }) (leaf_written want value);
})

-- the walk of an address from the table in a frame on, through a memory that gives each word its value
abbrev pub walk_from : (memory : ℕ → ℕ) → Want → (address level frame : ℕ) → Walk
walk_from memory want address zero frame =
    leaf_walk want (entry_word frame address 0) (memory (entry_word frame address 0))
walk_from memory want address (suc level) frame =
    reading (entry_word frame address (suc level)) (memory (entry_word frame address (suc level)))
    (if is_pointer (memory (entry_word frame address (suc level)))
    then walk_from memory want address level (frame_in (memory (entry_word frame address (suc level))))
    else refused)

-- the walk from a root
unfoldable pub walk : (memory : ℕ → ℕ) → (root address : ℕ) → Want → Walk
walk memory root address want = if is_canonical address then walk_from memory want address 2 root else refused

-- the walk through the tables of a residency
unfoldable pub table_walk : Residency → (root address : ℕ) → Want → Walk
table_walk residency root address want = walk (table_word residency root) root address want

-- the port of a walk
abbrev pub walk_port : Want → Port
walk_port Fetch = port.FetchWalk
walk_port Load = port.Walk
walk_port Store = port.Walk

-- the accesses of a walk that is made at one cycle: a written entry is written whole
abbrev pub read_entry : (cycle : ℕ) → Port → TableEntry → Access
read_entry cycle port entry =
    record { cycle = cycle; port = port; word = entry.word; written = false; bytes = 255; value = entry.value }

abbrev pub written_entry : (cycle : ℕ) → Port → TableEntry → Access
written_entry cycle port entry =
    record { cycle = cycle; port = port; word = entry.word; written = true; bytes = 255; value = entry.value }

abbrev pub walk_accesses : (cycle : ℕ) → Port → Walk → List Access
walk_accesses cycle port walk = map (read_entry cycle port) walk.reads ++ map (written_entry cycle port) (option_to_list walk.write)

-- physical memory once the entry of a walk is written
abbrev pub with_entry : Option TableEntry → List ℕ → List ℕ
with_entry None contents = contents
with_entry (Some entry) contents = slice_set contents entry.word entry.value
