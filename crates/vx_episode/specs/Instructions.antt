-- The timing equations of an instruction: its fetch, its issue, its beats, its completion and its retire, over what the
-- instructions before it did. This project's own.
use Rattle.std.specs.Prelude.{ℕ, ◌+◌, ◌*◌, ◌==◌, Bool, false, List, [], ◌∷◌, ◌++◌, map, flat_map, filter, Option, Some, None, if◌then◌else◌}
use Rattle.std.specs.Option.{option_map_or, option_to_list}
use Rattle.vx_base.specs.declared.machine.Want.TheVariants.{Fetch}
use Rattle.vx_image.specs.Pages.{is_canonical, page_of}
use Rattle.vx_rows.specs.declared.family.Unit.{Unit}
use Rattle.vx_tables.specs.Caches.{look_up}
use Rattle.vx_tables.specs.Residency.{Residency, page_map}
use Rattle.vx_tables.specs.declared.look.Look.{Look}
use Rattle.vx_tables.specs.declared.look.Look.TheVariants.{Hit, Denied, Miss}
use Rattle.vx_episode.specs.Cycles.{Cycle, later, behind, latest}
use Rattle.vx_episode.specs.Cycles.Cycle.{At, Never}
use Rattle.vx_episode.specs.Footprint.{Access, Footprint, Group}
use Rattle.vx_episode.specs.History.{History, Walk, FetchTimes, BeatTimes, BatchTimes, AccessTimes, Ready, last_issue, last_retire, retire_before, trimming_before, register_ready, word_ready, latency_of, beats_of, free_unit, done_cycles, batch_done, passed, fetch_walks, data_walks, fills_of, after_walks}
use Rattle.vx_episode.specs.Organisation.{Organisation, Start, fetch_entries}
use Rattle.vx_episode.specs.declared.ended.Ended.{Ended}

-- the cycles of a walk: a bank time for each of the three levels, and one for the leaf's write
abbrev pub walk_time : Organisation → ℕ
walk_time machine = 4 * machine.bank_time

module _ (start : Start) where
  -- ---- fetch

  -- a fetch begins one cycle behind the issue before it, two behind that of a branch or a jump
  abbrev pub fetch_begin : History → Cycle
  fetch_begin [] = At (start.cycle + 1)
  fetch_begin (e ∷ history) = later (if e.footprint.jumps then 2 else 1) e.issued

  -- the residency as the walks so far leave it
  abbrev pub residency_now : History → Residency
  residency_now history = after_walks start.residency (fetch_walks history ++ data_walks history)

  -- the walk of a fetch
  abbrev pub fetch_walk : History → (pc begun : ℕ) → Walk
  fetch_walk history pc begun = record {
    address = pc;
    want = Fetch;
    begun = begun;
    ended = begun + walk_time start.machine;
    answer = page_map (residency_now history) pc Fetch;
  }

  -- a fetch ends where it began, or with its walk
  abbrev pub fetch_at : (begun : ℕ) → FetchTimes
  fetch_at begun = record { begun = At begun; ended = At begun; walk = None }

  abbrev pub fetch_walked : Walk → FetchTimes
  fetch_walked w = record { begun = At w.begun; ended = At w.ended; walk = Some w }

  abbrev pub fetch_by : History → (pc begun : ℕ) → Look → FetchTimes
  fetch_by history pc begun (Hit frame) = fetch_at begun
  fetch_by history pc begun Denied = fetch_at begun
  fetch_by history pc begun Miss = fetch_walked (fetch_walk history pc begun)

  -- a walk is made where the address is canonical and the cache misses
  abbrev pub fetch_times : History → (pc : ℕ) → Cycle → FetchTimes
  fetch_times history pc (At begun) =
      if is_canonical pc then fetch_by history pc begun (look_up fetch_entries (fills_of (fetch_walks history)) (page_of pc) Fetch) else fetch_at begun
  fetch_times history pc Never = record { begun = Never; ended = Never; walk = None }

  -- ---- issue

  -- in order, once the instruction is fetched, its x registers can be read, an instruction of the window has retired, and vl is
  -- known; a serial one behind the retire before it
  abbrev pub issue_cycle : History → (fetched : Cycle) → Footprint → Cycle
  issue_cycle history fetched f = latest (
      fetched
      ∷ behind (last_issue start.cycle history)
      ∷ map (register_ready start.cycle history) f.reads
      ++ map behind (retire_before start.machine.window history)
      ++ map behind (trimming_before history)
      ++ (if f.is_serial then behind (last_retire start.cycle history) ∷ [] else []))

  -- ---- beats

  -- a beat of a group: behind the issue, a step behind the last beat on the unit, whether of this instruction or of one before,
  -- and once its source words can be read
  abbrev pub beat_cycle : History → (issued : Cycle) → Unit → (beats : List BeatTimes) → Group → Cycle
  beat_cycle history issued u beats g = latest (
      behind issued
      ∷ free_unit u (beats ++ beats_of history)
      ++ map (word_ready start.cycle history) g.sources)

  -- the beats of an instruction, one behind another, the newest first
  abbrev pub beat_times : History → (issued : Cycle) → Unit → (beats : List BeatTimes) → List Group → List BeatTimes
  beat_times history issued u beats [] = beats
  beat_times history issued u beats (g ∷ groups) =
      beat_times history issued u (record { unit = u; cycle = beat_cycle history issued u beats g; made = g.made } ∷ beats) groups

  -- ---- words

  -- the words that a beat makes can be read after its unit's latency
  abbrev pub beat_ready : BeatTimes → Cycle
  beat_ready b = later (latency_of b.unit) b.cycle

  abbrev pub words_made : BeatTimes → List Ready
  words_made b = map (λ place. record { place = place; cycle = beat_ready b }) b.made

  -- an access is loaded into a word
  abbrev pub is_into : (place : ℕ) → Access → Bool
  is_into place a = option_map_or (λ loaded. loaded == place) a.loaded false

  -- a word can be read once the accesses that are loaded into it are done, and what it held before could be read
  abbrev pub loaded_cycle : History → List AccessTimes → (missing : List Access) → (place : ℕ) → Cycle
  loaded_cycle history accesses missing place = latest (
      word_ready start.cycle history place
      ∷ done_cycles (filter (λ (a : AccessTimes). is_into place a.access) accesses) (filter (is_into place) missing))

  -- the words into which accesses are loaded
  abbrev pub places_loaded : List AccessTimes → (missing : List Access) → List ℕ
  places_loaded accesses missing =
      flat_map (λ (a : AccessTimes). option_to_list a.access.loaded) accesses ++ flat_map (λ (a : Access). option_to_list a.loaded) missing

  abbrev pub words_loaded : History → List AccessTimes → (missing : List Access) → List Ready
  words_loaded history accesses missing =
      map (λ place. record { place = place; cycle = loaded_cycle history accesses missing place }) (places_loaded accesses missing)

  -- ---- completion and retire

  -- the accesses are all generated once the look-ups of the last batch have ended; of an instruction without one, behind its issue
  abbrev pub generation_cycle : (issued : Cycle) → List BatchTimes → Cycle
  generation_cycle issued [] = behind issued
  generation_cycle issued (last ∷ batches) = passed last

  -- an instruction completes its latency behind its issue, once what its beats make can be read, and once its accesses are
  -- generated and done; one that stops never does
  abbrev pub complete_by : Option Ended → (issued generated : Cycle) → Footprint → List BeatTimes → List BatchTimes → Cycle
  complete_by (Some why) issued generated f beats batches = Never
  complete_by None issued generated f beats batches =
      latest (later f.latency issued ∷ generated ∷ map beat_ready beats ++ batch_done batches)

  abbrev pub complete_cycle : (issued generated : Cycle) → Footprint → List BeatTimes → List BatchTimes → Cycle
  complete_cycle issued generated f beats batches = complete_by f.stop issued generated f beats batches

  -- in order, behind the completion
  abbrev pub retire_cycle : History → (completed : Cycle) → Cycle
  retire_cycle history completed = latest (behind (last_retire start.cycle history) ∷ behind completed ∷ [])
