-- The accesses of an episode to physical memory, in the order of the log: by cycle, then by port, then by bank. This project's own.
use Rattle.std.specs.Prelude.{ℕ, ◌+◌, ◌-◌, ◌*◌, ◌%◌, ◌^◌, Bool, true, false, ◌==◌, ◌&&◌, ◌||◌, nat_le, nat_lt, List, [], ◌∷◌, ◌++◌, map, flat_map, filter, Option, Some, None}
use Rattle.std.specs.Option.{option_to_list}
use Rattle.vx_cells.specs.Merging.{merged}
use Rattle.vx_cells.specs.declared.access.Access as cells
use Rattle.vx_cells.specs.declared.access.Port.{Port}
use Rattle.vx_cells.specs.declared.access.Port.TheVariants as port
use Rattle.vx_flat.specs.Memory.{number_at}
use Rattle.vx_image.specs.Pages.{Memory}
use Rattle.vx_tables.specs.Residency.{Residency, page_map}
use Rattle.vx_tables.specs.Walks as tables
use Rattle.vx_tables.specs.Walks.{table_walk, walk_port, read_entry, written_entry}
use Rattle.vx_tables.specs.declared.stage.TableEntry.{TableEntry}
use Rattle.vx_tables.specs.declared.walked.Walked.{Walked}
use Rattle.vx_tables.specs.declared.walked.Walked.TheVariants as walked
use Rattle.vx_base.specs.declared.machine.Want.TheVariants.{Fetch}
use Rattle.vx_episode.specs.Batches.{word_in}
use Rattle.vx_episode.specs.Cycles.{cycles_of}
use Rattle.vx_episode.specs.Footprint.{Access}
use Rattle.vx_episode.specs.History.{History, Entry, Walk, AccessTimes, fetch_walks, data_walks, accesses_of, queued_by, after_walks}
use Rattle.vx_episode.specs.Organisation.{Start}
use Rattle.vx_episode.specs.Ordered.{ordered}

-- the aligned word of 8 bytes around an address
abbrev pub word_around : Memory → (address : ℕ) → ℕ
word_around memory address = number_at memory (address - address % 8) 8

-- ---- fetches: the word with the instruction is read where its page is found

abbrev pub fetch_read : Entry → (cycle : ℕ) → Walked → List cells.Access
fetch_read e cycle (walked.Leaf frame perm dirty) =
    record { cycle = cycle; port = port.Fetch; word = word_in frame e.state.pc; written = false; bytes = 255; value = word_around e.state.memory e.state.pc } ∷ []
fetch_read e cycle walked.Away = []
fetch_read e cycle walked.Denied = []

abbrev pub fetch_reads : Residency → Entry → List cells.Access
fetch_reads residency e = flat_map (λ cycle. fetch_read e cycle (page_map residency e.state.pc Fetch)) (cycles_of e.fetch.ended)

-- ---- walks

-- the ports in the order in which a log has their accesses of one cycle
abbrev pub port_number : Port → ℕ
port_number port.Data = 0
port_number port.Walk = 1
port_number port.FetchWalk = 2
port_number port.Fetch = 3
port_number port.Kernel = 4

-- a walk has written its leaf before another one reads its own, which is three bank times behind that one's begin
abbrev pub has_written_before : (bank_time : ℕ) → (reader writer : Walk) → Bool
has_written_before bank_time reader writer =
    let read = reader.begun + 3 * bank_time in
    nat_lt writer.ended read || (writer.ended == read && nat_lt (port_number (walk_port writer.want)) (port_number (walk_port reader.want)))

-- the walk through the tables as the walks that have written before have left them
abbrev pub walk_made : Start → (walks : List Walk) → Walk → tables.Walk
walk_made start walks w =
    table_walk (after_walks start.residency (filter (has_written_before start.machine.bank_time w) walks)) start.root w.address w.want

-- the entry of level after level is read at the end of a bank time each, and the leaf is written at the walk's end
abbrev pub reads_from : (bank_time cycle : ℕ) → Port → List TableEntry → List cells.Access
reads_from bank_time cycle port [] = []
reads_from bank_time cycle port (entry ∷ entries) =
    read_entry (cycle + bank_time) port entry ∷ reads_from bank_time (cycle + bank_time) port entries

abbrev pub accesses_of_walk : (bank_time : ℕ) → Walk → tables.Walk → List cells.Access
accesses_of_walk bank_time w made =
    reads_from bank_time w.begun (walk_port w.want) made.reads
    ++ map (written_entry w.ended (walk_port w.want)) (option_to_list made.write)

abbrev pub walk_accesses : Start → List Walk → List cells.Access
walk_accesses start walks = flat_map (λ (w : Walk). accesses_of_walk start.machine.bank_time w (walk_made start walks w)) walks

-- ---- data

-- the bytes of an access in its word, as a mask
abbrev pub byte_mask : Access → ℕ
byte_mask a = (2 ^ a.width - 1) * 2 ^ (a.address % 8)

-- a load reads the word; a store writes its bytes, moved to their place
abbrev pub data_access : Memory → AccessTimes → Option ℕ → cells.Access
data_access memory a None =
    record { cycle = a.served; port = port.Data; word = a.word; written = false; bytes = 255; value = word_around memory a.access.address }
data_access memory a (Some value) =
    record { cycle = a.served; port = port.Data; word = a.word; written = true; bytes = byte_mask a.access; value = merged (byte_mask a.access) 0 (value * 2 ^ (8 * (a.access.address % 8))) }

-- those that were queued by a cycle
abbrev pub data_accesses : (last : ℕ) → Entry → List cells.Access
data_accesses last e =
    map (λ (a : AccessTimes). data_access e.state.memory a a.access.stored) (queued_by last (accesses_of e.batches))

-- ---- the log

-- fetches and walks come by the episode's last cycle
abbrev pub comes_by : (last : ℕ) → List cells.Access → List cells.Access
comes_by last accesses = filter (λ (a : cells.Access). nat_le a.cycle last) accesses

-- the place of an access in the log: by cycle, by port, by bank. Of one port, data alone have two accesses at one cycle, on two banks
abbrev pub place_in_log : (banks : ℕ) → cells.Access → ℕ
place_in_log banks a = (5 * a.cycle + port_number a.port) * banks + a.word % banks

-- the accesses of the instructions that were fetched, of an episode whose last cycle is this
abbrev pub log_up_to : Start → (last : ℕ) → History → List cells.Access
log_up_to start last fetched = ordered (place_in_log start.machine.banks) (
    flat_map (data_accesses last) fetched
    ++ comes_by last (walk_accesses start (fetch_walks fetched ++ data_walks fetched))
    ++ comes_by last (flat_map (fetch_reads start.residency) fetched))
