-- The timing equations of batches of accesses: when one starts, its look-ups and walks, and when its accesses are queued, served
-- and done. This project's own. Within a batch the accesses stand in the order of elements and fields, which is that of their
-- numbers.
use Rattle.std.specs.Prelude.{ℕ, ◌+◌, ◌*◌, ◌/◌, ◌%◌, Bool, true, false, not, ◌==◌, ◌&&◌, ◌||◌, nat_le, max, List, [], ◌∷◌, ◌++◌, map, flat_map, filter, find, reverse, Option, Some, None, option_map, if◌then◌else◌}
use Rattle.std.specs.List.{list_any}
use Rattle.std.specs.Option.{option_map_or}
use Rattle.vx_base.specs.declared.machine.Want.{Want}
use Rattle.vx_image.specs.Pages.{is_canonical, page_of}
use Rattle.vx_flat.specs.Memory.{offset_of}
use Rattle.vx_tables.specs.Caches.{look_up}
use Rattle.vx_tables.specs.Residency.{page_map, is_store}
use Rattle.vx_tables.specs.declared.look.Look.{Look}
use Rattle.vx_tables.specs.declared.look.Look.TheVariants.{Hit, Denied, Miss}
use Rattle.vx_tables.specs.declared.walked.Walked.{Walked}
use Rattle.vx_tables.specs.declared.walked.Walked.TheVariants as walked
use Rattle.vx_episode.specs.Cycles.{Cycle, behind, latest}
use Rattle.vx_episode.specs.Cycles.Cycle.{At, Never}
use Rattle.vx_episode.specs.Footprint.{Access, Batch, Footprint}
use Rattle.vx_episode.specs.History.{History, Walk, BatchTimes, AccessTimes, Failure, last_retire, word_ready, batches_of, last_passed, commit_before_last, accesses_of, bank_of, last_serve, batch_done, walks_of_batches, fetch_walks, fills_of, after_walks}
use Rattle.vx_episode.specs.Instructions.{walk_time}
use Rattle.vx_episode.specs.Ordered.{ordered}
use Rattle.vx_episode.specs.Organisation.{Organisation, Start, data_entries}

-- ---- look-ups and walks

-- what is known of an access: its word of physical memory, or that it fails, from a cycle on; or nothing, since its page is never
-- walked
pub data Fate : Type 0 where
  Good : (cycle word : ℕ) → Fate
  Fails : (cycle : ℕ) (is_away : Bool) → Fate
  Unknown : Fate

-- the word of physical memory at an address whose page is in a frame
abbrev pub word_in : (frame address : ℕ) → ℕ
word_in frame address = 512 * frame + offset_of address / 8

-- an access that fails whatever its page is: it is misaligned, or its address isn't canonical
abbrev pub is_refused : Access → Bool
is_refused a = not (a.address % a.width == 0) || not (is_canonical a.address)

-- by the walk of its page
abbrev pub fate_walked : Access → (ended : ℕ) → Walked → Fate
fate_walked a ended (walked.Leaf frame perm dirty) = Good ended (word_in frame a.address)
fate_walked a ended walked.Away = Fails ended true
fate_walked a ended walked.Denied = Fails ended false

abbrev pub fate_by_walk : Access → Option Walk → Fate
fate_by_walk a None = Unknown
fate_by_walk a (Some w) = fate_walked a w.ended w.answer

abbrev pub is_of_page : (page : ℕ) → Walk → Bool
is_of_page page w = page_of w.address == page

-- by the look-up at the batch's start, and the walks of the batch
abbrev pub fate_looked : (started : ℕ) → List Walk → Access → Look → Fate
fate_looked started walks a (Hit frame) = Good started (word_in frame a.address)
fate_looked started walks a Denied = Fails started false
fate_looked started walks a Miss = fate_by_walk a (find (is_of_page (page_of a.address)) walks)

abbrev pub is_failing : Fate → Bool
is_failing (Good cycle word) = false
is_failing (Fails cycle is_away) = true
is_failing Unknown = false

abbrev pub is_unknown : Fate → Bool
is_unknown (Good cycle word) = false
is_unknown (Fails cycle is_away) = false
is_unknown Unknown = true

-- it is known by that cycle that the access fails
abbrev pub fails_by : (cycle : ℕ) → Fate → Bool
fails_by cycle (Good known word) = false
fails_by cycle (Fails known is_away) = nat_le known cycle
fails_by cycle Unknown = false

-- the end of the last walk of a batch, or its start
abbrev pub walks_end : (started : ℕ) → List Walk → ℕ
walks_end started [] = started
walks_end started (w ∷ walks) = w.ended

module _ (start : Start) (history : History) (before : List BatchTimes) (want : Want) (started : ℕ) where
  -- a look-up at the batch's start
  abbrev pub look_of : Access → Look
  look_of a = look_up data_entries (fills_of (walks_of_batches before)) (page_of a.address) want

  abbrev pub fate_of : List Walk → Access → Fate
  fate_of walks a = if is_refused a then Fails started false else fate_looked started walks a (look_of a)

  -- the walk of an access's page, behind those of the batch so far
  abbrev pub walk_behind : List Walk → Access → Walk
  walk_behind walks a = record {
    address = a.address;
    want = want;
    begun = walks_end started walks;
    ended = walks_end started walks + walk_time start.machine;
    answer = page_map (after_walks start.residency (walks ++ fetch_walks history ++ walks_of_batches before)) a.address want;
  }

  -- the walks once an access is judged: its page is walked where it missed and wasn't walked for a lower access
  abbrev pub walks_with : List Walk → Access → List Walk
  walks_with walks a = if is_unknown (fate_of walks a) then walk_behind walks a ∷ walks else walks

  -- the walks of a batch, the newest first: none begins where a lower access is known to fail. Each lower access is known by
  -- then, since pages are walked in the order of their first accesses
  abbrev pub walks_of : List Walk → List Access → List Walk
  walks_of walks [] = walks
  walks_of walks (a ∷ accesses) =
      elim (is_failing (fate_of (walks_with walks a) a)) [
        | true ↦ walks_with walks a
        | false ↦ walks_of (walks_with walks a) accesses
      ]

-- ---- the queue

-- an access with what is known of it, and the cycle at which it is queued
pub record Judged : Type 0 where
  pub access : Access
  pub fate : Fate
  pub queued : Cycle

-- the queue cycles of lower accesses to a word of physical memory
abbrev pub is_to : (word : ℕ) → Fate → Bool
is_to word (Good cycle other) = other == word
is_to word (Fails cycle is_away) = false
is_to word Unknown = false

abbrev pub queued_to : (word : ℕ) → (lower : List Judged) → List Cycle
queued_to word lower = map (λ (j : Judged). j.queued) (filter (λ (j : Judged). is_to word j.fate) lower)

-- an access is queued at a cycle unless a lower one is known to fail by then
abbrev pub unless_failed : (lower : List Judged) → Cycle → Cycle
unless_failed lower (At cycle) = if list_any (λ (j : Judged). fails_by cycle j.fate) lower then Never else At cycle
unless_failed lower Never = Never

-- once its word is known, and no earlier than a lower access to that word
abbrev pub queue_cycle : (lower : List Judged) → Fate → Cycle
queue_cycle lower (Good cycle word) = unless_failed lower (latest (At cycle ∷ queued_to word lower))
queue_cycle lower (Fails cycle is_away) = Never
queue_cycle lower Unknown = Never

-- the accesses of a batch in turn, the last first
abbrev pub judged : (Access → Fate) → (lower : List Judged) → List Access → List Judged
judged fate lower [] = lower
judged fate lower (a ∷ accesses) = judged fate (record { access = a; fate = fate a; queued = queue_cycle lower (fate a) } ∷ lower) accesses

-- ---- serves

-- an access that was queued, before it is served
pub record Waiting : Type 0 where
  pub access : Access
  pub word : ℕ
  pub queued : ℕ

abbrev pub waiting_as : Access → Fate → Cycle → List Waiting
waiting_as a (Good known word) (At cycle) = record { access = a; word = word; queued = cycle } ∷ []
waiting_as a fate cycle = []

abbrev pub waiting_of : Judged → List Waiting
waiting_of j = waiting_as j.access j.fate j.queued

-- the accesses of a batch that are queued, in the order of their queue cycles, and of their numbers where these are equal
abbrev pub queue_of : List Judged → List Waiting
queue_of judged = ordered (λ (w : Waiting). w.queued) (flat_map waiting_of (reverse judged))

-- behind the queue, and the bank time behind the serve before on the bank
abbrev pub serve_cycle : Organisation → (earlier : List AccessTimes) → (word queued : ℕ) → ℕ
serve_cycle machine earlier word queued =
    max (queued + 1) (option_map_or (λ served. served + machine.bank_time) (last_serve machine (bank_of machine word) earlier) 0)

-- done: the bank time behind the serve
abbrev pub done_cycle : Organisation → (served : ℕ) → ℕ
done_cycle machine served = served + machine.bank_time

abbrev pub served_at : Organisation → (served : ℕ) → Waiting → AccessTimes
served_at machine served w =
    record { access = w.access; word = w.word; queued = w.queued; served = served; done = done_cycle machine served }

-- the accesses of a queue in turn, behind those that were served before; the last first
abbrev pub served_in_turn : Organisation → (earlier now : List AccessTimes) → (queue : List Waiting) → List AccessTimes
served_in_turn machine earlier now [] = now
served_in_turn machine earlier now (w ∷ queue) =
    served_in_turn machine earlier (served_at machine (serve_cycle machine (now ++ earlier) w.word w.queued) w ∷ now) queue

-- ---- a batch

abbrev pub is_queued : Cycle → Bool
is_queued (At cycle) = true
is_queued Never = false

abbrev pub fails_away : Fate → Bool
fails_away (Good cycle word) = false
fails_away (Fails cycle is_away) = is_away
fails_away Unknown = false

abbrev pub failure_of : Judged → Failure
failure_of j = record { element = j.access.element; address = j.access.address; is_away = fails_away j.fate }

-- the lowest access that fails
abbrev pub lowest_failure : List Judged → Option Failure
lowest_failure judged = option_map failure_of (find (λ (j : Judged). is_failing j.fate) (reverse judged))

-- a fault-only-first load is cut off: its lowest access that fails isn't away, and belongs to an element above 0
abbrev pub trims : (is_fault_only_first : Bool) → Option Failure → Bool
trims is_fault_only_first failure = is_fault_only_first && option_map_or (λ (f : Failure). not f.is_away && not (f.element == 0)) failure false

-- the accesses that are never queued. Nothing waits for those of a batch that is cut off
abbrev pub never_queued : (is_trimmed : Bool) → List Judged → List Access
never_queued is_trimmed judged =
    if is_trimmed then [] else map (λ (j : Judged). j.access) (filter (λ (j : Judged). not (is_queued j.queued)) judged)

module _ (start : Start) (history : History) where
  -- a batch starts behind the issue, the look-ups of the batch before, and the commit of the one before that, and once the words
  -- that it needs can be read; that of a store behind the retire before it. `before` are the batches of the episode so far
  abbrev pub start_cycle : (before : List BatchTimes) → (issued : Cycle) → Want → Batch → Cycle
  start_cycle before issued want b = latest (
      behind issued
      ∷ map behind (last_passed before)
      ++ map behind (commit_before_last before)
      ++ map (word_ready start.cycle history) b.sources
      ++ (if is_store want then behind (last_retire start.cycle history) ∷ [] else []))

  -- a batch that isn't the last commits behind the retire before, once the look-ups of the instruction's batches up to it have
  -- ended and their accesses are done
  abbrev pub commit_cycle : (looked_up : List Cycle) → (done : List Cycle) → Cycle
  commit_cycle looked_up done = latest (behind (last_retire start.cycle history) ∷ looked_up ++ done)

  -- the batch and those of the instruction before it, of its times but for its commit
  abbrev pub with_commit : List BatchTimes → BatchTimes → List BatchTimes
  with_commit own b =
      record b { committed = commit_cycle (map (λ (o : BatchTimes). o.looked_up) (b ∷ own)) (batch_done (b ∷ own)) } ∷ own

  -- a batch that never starts
  abbrev pub not_started : Batch → BatchTimes
  not_started b = record {
    from = b.from;
    after = b.after;
    started = Never;
    looked_up = Never;
    committed = Never;
    walks = [];
    accesses = [];
    missing = b.accesses;
    failure = None;
    is_trimmed = false;
  }

  -- one whose walks and judged accesses are these
  abbrev pub batch_judged : (before : List BatchTimes) → (started : ℕ) → Footprint → Batch → List Walk → List Judged → BatchTimes
  batch_judged before started f b walks js =
      let failure = lowest_failure js in
      let is_trimmed = trims f.is_fault_only_first failure in
      record {
        from = b.from;
        after = b.after;
        started = At started;
        looked_up = At (walks_end started walks);
        committed = Never;
        walks = walks;
        accesses = served_in_turn start.machine (accesses_of before) [] (queue_of js);
        missing = never_queued is_trimmed js;
        failure = failure;
        is_trimmed = is_trimmed;
      }

  -- one that starts at a cycle
  abbrev pub batch_started : (before : List BatchTimes) → Footprint → Batch → Cycle → BatchTimes
  batch_started before f b Never = not_started b
  batch_started before f b (At started) =
      let walks = walks_of start history before f.want started [] b.accesses in
      batch_judged before started f b walks (judged (fate_of start history before f.want started walks) [] b.accesses)

  abbrev pub batch_times : (before : List BatchTimes) → (issued : Cycle) → Footprint → Batch → BatchTimes
  batch_times before issued f b = batch_started before f b (start_cycle before issued f.want b)

  -- the batches of an instruction in turn, the last first: none is behind one that is cut off
  abbrev pub all_batches : (own : List BatchTimes) → (issued : Cycle) → Footprint → List Batch → List BatchTimes
  all_batches own issued f [] = own
  all_batches own issued f (b ∷ batches) =
      let times = batch_times (own ++ batches_of history) issued f b in
      elim (times.is_trimmed) [
        | true ↦ with_commit own times
        | false ↦ all_batches (with_commit own times) issued f batches
      ]

-- the batches of an instruction that retires at a cycle: the last commits with it
abbrev pub retired_batches : (retired : Cycle) → List BatchTimes → List BatchTimes
retired_batches retired [] = []
retired_batches retired (last ∷ batches) = record last { committed = retired } ∷ batches
