-- What each instruction of an episode comes to: its times, and its commits and its stop. This project's own.
use Rattle.std.specs.Prelude.{ℕ, Bool, true, false, ◌||◌, nat_le, nat_lt, List, [], ◌∷◌, ◌++◌, map, flat_map, filter, reverse, Option, Some, None, if◌then◌else◌}
use Rattle.vx_flat.specs.State.{Flat}
use Rattle.vx_flat.specs.Step.{step}
use Rattle.vx_episode.specs.Batches.{all_batches, retired_batches}
use Rattle.vx_episode.specs.Cycles.{Cycle, behind, latest, cycles_of}
use Rattle.vx_episode.specs.Cycles.Cycle.{At}
use Rattle.vx_episode.specs.Footprint.{Footprint, footprint, ended_by}
use Rattle.vx_episode.specs.History.{History, Entry, FetchTimes, BeatTimes, BatchTimes, AccessTimes, Failure, last_retire, stops, accesses_of, missing_of}
use Rattle.vx_episode.specs.Organisation.{Start}
use Rattle.vx_episode.specs.Instructions.{fetch_begin, fetch_times, issue_cycle, beat_times, words_made, words_loaded, generation_cycle, complete_cycle, retire_cycle}
use Rattle.vx_episode.specs.declared.ended.Ended.{Ended}
use Rattle.vx_episode.specs.declared.ended.Ended.TheVariants.{Away}

-- ---- the times of an instruction

module _ (start : Start) (history : History) where
  -- what an instruction does, from what is known of it so far: up to its completion, its generation, its issue, or its fetch
  abbrev pub entry_completed : Flat → Footprint → FetchTimes → (issued : Cycle) → List BeatTimes → List BatchTimes → (generated completed : Cycle) → Entry
  entry_completed s f fetch issued beats batches generated completed =
      let retired = retire_cycle start history completed in
      record {
        state = s;
        footprint = f;
        fetch = fetch;
        issued = issued;
        beats = beats;
        batches = retired_batches retired batches;
        generated = generated;
        completed = completed;
        retired = retired;
        ready = flat_map (words_made start) beats ++ words_loaded start history (accesses_of batches) (missing_of batches);
      }

  abbrev pub entry_generated : Flat → Footprint → FetchTimes → (issued : Cycle) → List BeatTimes → List BatchTimes → (generated : Cycle) → Entry
  entry_generated s f fetch issued beats batches generated =
      entry_completed s f fetch issued beats batches generated (complete_cycle start issued generated f beats batches)

  abbrev pub entry_issued : Flat → Footprint → FetchTimes → (issued : Cycle) → Entry
  entry_issued s f fetch issued =
      let batches = all_batches start history [] issued f f.batches in
      entry_generated s f fetch issued (beat_times start history issued f.unit [] f.groups) batches (generation_cycle start issued batches)

  abbrev pub entry_fetched : Flat → Footprint → FetchTimes → Entry
  entry_fetched s f fetch = entry_issued s f fetch (issue_cycle start history fetch.ended f)

  -- an instruction with its footprint, of a state
  abbrev pub timed : Flat → Footprint → Entry
  timed s f = entry_fetched s f (fetch_times start history s.pc (fetch_begin start history))

-- the next instruction, behind those of a history
abbrev pub entry_of : Start → History → Flat → Entry
entry_of start history s = timed start history s (footprint start.machine start.has_vectors start.residency s)

-- ---- commits and stops

-- an instruction completes; a vector load or store reaches an element, with those below it done; or an instruction stops at an element,
-- with those below it done, of which those below `from` were before
pub data What : Type 0 where
  Completes : What
  Reaches : (element : ℕ) → What
  Stops : (why : Ended) (from element : ℕ) → What

-- what of it comes, at which cycle, and which instruction it is of
pub record Happening : Type 0 where
  pub cycle : ℕ
  pub what : What
  pub entry : Entry

abbrev pub happening : Entry → What → (cycle : ℕ) → Happening
happening e what cycle = record { cycle = cycle; what = what; entry = e }

-- the commit of a batch that isn't the last
abbrev pub batch_commit : Entry → BatchTimes → List Happening
batch_commit e b = map (happening e (Reaches b.after)) (cycles_of b.committed)

abbrev pub not_last : List BatchTimes → List BatchTimes
not_last [] = []
not_last (last ∷ batches) = batches

-- the commits of an instruction in turn: those of its batches but the last, and its retire
abbrev pub commits_of : Entry → List Happening
commits_of e = flat_map (batch_commit e) (reverse (not_last e.batches)) ++ map (happening e Completes) (cycles_of e.retired)

-- the stop of one that stops without an access comes at its issue
abbrev pub serial_stop : Entry → Option Ended → List Happening
serial_stop e None = []
serial_stop e (Some why) = map (happening e (Stops why e.state.v.vstart e.state.v.vstart)) (cycles_of e.issued)

-- why it stops at an access that fails: its page is away, or else it faults
abbrev pub why_stopped : Entry → Failure → Ended
why_stopped e f = if f.is_away then Away f.address e.footprint.want else ended_by (step e.state)

-- the stop of a batch comes behind its look-ups, behind the retire before the instruction, and once the instruction's accesses for
-- the elements below the failing one are done
abbrev pub batch_stop_cycle : (retired_before : Cycle) → Entry → BatchTimes → (element : ℕ) → Cycle
batch_stop_cycle retired_before e b element = latest (
    b.looked_up
    ∷ behind retired_before
    ∷ map (λ (a : AccessTimes). At a.done) (filter (λ (a : AccessTimes). nat_lt a.access.element element) (accesses_of e.batches)))

abbrev pub batch_stop_by : (retired_before : Cycle) → Entry → BatchTimes → Option Failure → List Happening
batch_stop_by retired_before e b None = []
batch_stop_by retired_before e b (Some f) =
    map (happening e (Stops (why_stopped e f) b.from f.element)) (cycles_of (batch_stop_cycle retired_before e b f.element))

-- the batch that stops, where there is one: none starts behind it
abbrev pub batch_stop : (retired_before : Cycle) → Entry → List Happening
batch_stop retired_before e = flat_map (λ (b : BatchTimes). batch_stop_by retired_before e b b.failure) (filter stops e.batches)

-- the commits of an instruction, and its stop behind them
abbrev pub happenings_of : (retired_before : Cycle) → Entry → List Happening
happenings_of retired_before e = commits_of e ++ serial_stop e e.footprint.stop ++ batch_stop retired_before e

-- those of all instructions in turn, the first of them first
abbrev pub happenings : (start : ℕ) → History → List Happening
happenings start [] = []
happenings start (e ∷ history) = happenings start history ++ happenings_of (last_retire start history) e

abbrev pub is_stop : What → Bool
is_stop Completes = false
is_stop (Reaches element) = false
is_stop (Stops why from element) = true

-- a stop ends the episode, and so does a commit at or after the end of the slice
abbrev pub ends : (until : ℕ) → Happening → Bool
ends until h = is_stop h.what || nat_le until h.cycle
