-- What changes the vector state, of the happenings of one instruction.
use Rattle.std.proofs.Common.{◌≡◌, ℕ, Bool, true, false, ◌&&◌, ◌||◌, List, [], ◌∷◌, ◌++◌, map, filter, flat_map, reverse, refl, ap, ap₂, ◌∙◌, subst}
use Rattle.std.specs.Prelude.{Option, Some, None}
use Rattle.std.specs.List.{list_any}
use Rattle.std.proofs.lemmas.List.Folds.{list_any-append}
use Rattle.std.proofs.lemmas.Bool.{or_right}
use Rattle.vx_flat.specs.State.{Flat}
use Rattle.vx_episode.specs.Commits.{What, Happening, entry_of, happening, batch_commit, not_last, commits_of, serial_stop, why_stopped, batch_stop_cycle, batch_stop_by, batch_stop, happenings_of}
use Rattle.vx_episode.specs.Commits.What.{Completes, Reaches, Stops}
use Rattle.vx_episode.specs.Cycles.{Cycle, cycles_of}
use Rattle.vx_episode.specs.Cycles.Cycle.{At}
use Rattle.vx_episode.specs.Episode.{commits_by}
use Rattle.vx_episode.specs.History.{Entry, History, BatchTimes, Failure, stops}
use Rattle.vx_episode.specs.Organisation.{Start}
use Rattle.vx_episode.specs.declared.ended.Ended.{Ended}
use Rattle.vx_ending.specs.Counts.{changes_in}
use Rattle.vx_ending.proofs.Counting.{commits-before}
use Rattle.vx_ending.proofs.Retiring.{retires-commits}

module _ (e : Entry) where
  -- all are of the instruction
  abbrev AreOf : List Happening → Type 0
  AreOf [] = Unit {0}
  AreOf (h ∷ happened) = (h.entry ≡ e) × AreOf happened

  of-mapped : (w : What) (cycles : List ℕ) → AreOf (map (happening e w) cycles)
  of-mapped w [] = tt
  of-mapped w (c ∷ cycles) = (refl, of-mapped w cycles)

  of-joined : (some others : List Happening) → AreOf some → AreOf others → AreOf (some ++ others)
  of-joined [] others p q = q
  of-joined (h ∷ some) others p q = (p.0, of-joined some others p.1 q)

  of-first : (some others : List Happening) → AreOf (some ++ others) → AreOf some
  of-first [] others p = tt
  of-first (h ∷ some) others p = (p.0, of-first some others p.1)

  of-batches : (batches : List BatchTimes) → AreOf (flat_map (batch_commit e) batches)
  of-batches [] = tt
  of-batches (b ∷ batches) = of-joined (batch_commit e b) (flat_map (batch_commit e) batches) (of-mapped (Reaches b.after) (cycles_of b.committed)) (of-batches batches)

  of-serial : (stop : Option Ended) → AreOf (serial_stop e stop)
  of-serial None = tt
  of-serial (Some why) = of-mapped (Stops why e.state.v.vstart e.state.v.vstart) (cycles_of e.issued)

  of-failed : (before : Cycle) (b : BatchTimes) (failure : Option Failure) → AreOf (batch_stop_by before e b failure)
  of-failed before b None = tt
  of-failed before b (Some f) = of-mapped (Stops (why_stopped e f) b.from f.element) (cycles_of (batch_stop_cycle before e b f.element))

  of-stopped : (before : Cycle) (batches : List BatchTimes) → AreOf (flat_map (λ (b : BatchTimes). batch_stop_by before e b b.failure) batches)
  of-stopped before [] = tt
  of-stopped before (b ∷ batches) =
      of-joined (batch_stop_by before e b b.failure) (flat_map (λ (b : BatchTimes). batch_stop_by before e b b.failure) batches) (of-failed before b b.failure) (of-stopped before batches)

  of-commits : AreOf (commits_of e)
  of-commits = of-joined (commits-before e) (map (happening e Completes) (cycles_of e.retired)) (of-batches (reverse (not_last e.batches))) (of-mapped Completes (cycles_of e.retired))

  of-all : (before : Cycle) → AreOf (happenings_of before e)
  of-all before =
      of-joined (commits_of e ++ serial_stop e e.footprint.stop) (batch_stop before e)
      (of-joined (commits_of e) (serial_stop e e.footprint.stop) of-commits (of-serial e.footprint.stop))
      (of-stopped before (filter stops e.batches))

  distributes : (a b c : Bool) → ((a && c) || (b && c)) ≡ ((a || b) && c)
  distributes true true true = refl
  distributes true true false = refl
  distributes true false true = refl
  distributes true false false = refl
  distributes false true true = refl
  distributes false true false = refl
  distributes false false true = refl
  distributes false false false = refl

  abbrev commit : Happening → Bool
  commit h = commits_by h.what

  changes-of : (happened : List Happening) → AreOf happened → changes_in happened ≡ (list_any commit happened && e.footprint.changes_vectors)
  changes-of [] of = refl
  changes-of (h ∷ happened) of =
      ap₂ (λ (x : Entry) (b : Bool). (commits_by h.what && x.footprint.changes_vectors) || b) of.0 (changes-of happened of.1)
      ∙ distributes (commits_by h.what) (list_any commit happened) e.footprint.changes_vectors

  pub changes-some : (before : Cycle) (some others : List Happening) → happenings_of before e ≡ some ++ others → changes_in some ≡ (list_any commit some && e.footprint.changes_vectors)
  changes-some before some others parts = changes-of some (of-first some others (subst AreOf parts (of-all before)))

  commits-at : (retired : ℕ) → e.retired ≡ At retired → list_any commit (commits_of e) ≡ true
  commits-at retired retires =
      list_any-append commit (commits-before e) (map (happening e Completes) (cycles_of e.retired))
      ∙ or_right (list_any commit (commits-before e)) (list_any commit (map (happening e Completes) (cycles_of e.retired))) (ap (λ (c : Cycle). list_any commit (map (happening e Completes) (cycles_of c))) retires)

-- an instruction that retires changes the vector state if it is one that does
pub changes-retired : (start : Start) (history : History) (s : Flat) (e : Entry) (before : Cycle) (retired : ℕ) → e ≡ entry_of start history s → e.retired ≡ At retired → changes_in (happenings_of before e) ≡ e.footprint.changes_vectors
changes-retired start history s e before retired is retires =
    ap changes_in (retires-commits start history s e before retired is retires)
    ∙ changes-of e (commits_of e) (of-commits e)
    ∙ ap (λ (b : Bool). b && e.footprint.changes_vectors) (commits-at e retired retires)

-- where it has no more than one batch, it completes and that is all
pub completes-alone : (start : Start) (history : History) (s : Flat) (e : Entry) (before : Cycle) (retired : ℕ) → e ≡ entry_of start history s → e.retired ≡ At retired → not_last e.batches ≡ [] → happenings_of before e ≡ happening e Completes retired ∷ []
completes-alone start history s e before retired is retires alone =
    retires-commits start history s e before retired is retires
    ∙ ap₂ (λ (batches : List BatchTimes) (c : Cycle). flat_map (batch_commit e) (reverse batches) ++ map (happening e Completes) (cycles_of c)) alone retires
