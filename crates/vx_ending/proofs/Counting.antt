-- What is counted of happenings is counted of one part after the other; and what is counted of an instruction's.
use Rattle.std.proofs.Common.{◌≡◌, ℕ, suc, ◌+◌, Bool, false, ◌&&◌, ◌||◌, List, [], ◌∷◌, ◌++◌, length, map, filter, flat_map, reverse, ◌<◌, refl, sym, ap, ap₂, ◌∙◌, arith, length-append}
use Rattle.std.proofs.lemmas.Bool.{or_parts, or_from, leb-false}
use Rattle.std.specs.List.{list_any}
use Rattle.std.proofs.lemmas.List.Elements.{filter-append}
use Rattle.std.proofs.lemmas.List.Folds.{list_any-append}
use Rattle.std.specs.Prelude.{Option, Some, None, nat_le}
use Rattle.vx_episode.specs.Commits.{Happening, happening, batch_commit, not_last, commits_of, serial_stop, why_stopped, batch_stop_cycle, batch_stop_by, batch_stop, happenings_of, ends}
use Rattle.vx_episode.specs.Commits.What.{Completes, Reaches, Stops}
use Rattle.vx_episode.specs.Cycles.{Cycle, cycles_of}
use Rattle.vx_episode.specs.Cycles.Cycle.{At}
use Rattle.vx_episode.specs.History.{Entry, BatchTimes, Failure, stops}
use Rattle.vx_episode.specs.declared.ended.Ended.{Ended}
use Rattle.vx_episode.specs.Episode.{commits_by, completes}
use Rattle.vx_ending.specs.Counts.{commits_in, completed_in, changes_in}

counted : (p : Happening → Bool) (some others : List Happening) → length (filter p (some ++ others)) ≡ length (filter p some) + length (filter p others)
counted p some others = ap length (filter-append p some others) ∙ length-append (filter p some) (filter p others)

pub commits-append : (some others : List Happening) → commits_in (some ++ others) ≡ commits_in some + commits_in others
commits-append some others = counted (λ (h : Happening). commits_by h.what) some others

pub completed-append : (some others : List Happening) → completed_in (some ++ others) ≡ completed_in some + completed_in others
completed-append some others = counted (λ (h : Happening). completes h.what) some others

pub changes-append : (some others : List Happening) → changes_in (some ++ others) ≡ (changes_in some || changes_in others)
changes-append some others = list_any-append (λ (h : Happening). commits_by h.what && h.entry.footprint.changes_vectors) some others

-- none of two parts ends the episode
pub none-parts : (until : ℕ) (some others : List Happening) → list_any (ends until) (some ++ others) ≡ false → (list_any (ends until) some ≡ false) × (list_any (ends until) others ≡ false)
none-parts until some others none =
    or_parts (list_any (ends until) some) (list_any (ends until) others) (sym (list_any-append (ends until) some others) ∙ none)

pub none-both : (until : ℕ) (some others : List Happening) → list_any (ends until) some ≡ false → list_any (ends until) others ≡ false → list_any (ends until) (some ++ others) ≡ false
none-both until some others none no_other =
    list_any-append (ends until) some others ∙ or_from (list_any (ends until) some) (list_any (ends until) others) none no_other

-- ---- an instruction completes once, where it retires

module _ (e : Entry) where
  reached-none : (element : ℕ) (cycles : List ℕ) → completed_in (map (happening e (Reaches element)) cycles) ≡ 0
  reached-none element [] = refl
  reached-none element (c ∷ cycles) = reached-none element cycles

  stopped-none : (why : Ended) (from element : ℕ) (cycles : List ℕ) → completed_in (map (happening e (Stops why from element)) cycles) ≡ 0
  stopped-none why from element [] = refl
  stopped-none why from element (c ∷ cycles) = stopped-none why from element cycles

  completed-each : (cycles : List ℕ) → completed_in (map (happening e Completes) cycles) ≡ length cycles
  completed-each [] = refl
  completed-each (c ∷ cycles) = ap suc (completed-each cycles)

  batches-none : (batches : List BatchTimes) → completed_in (flat_map (batch_commit e) batches) ≡ 0
  batches-none [] = refl
  batches-none (b ∷ batches) =
      completed-append (batch_commit e b) (flat_map (batch_commit e) batches)
      ∙ ap₂ (λ (m n : ℕ). m + n) (reached-none b.after (cycles_of b.committed)) (batches-none batches)

  serial-none : (stop : Option Ended) → completed_in (serial_stop e stop) ≡ 0
  serial-none None = refl
  serial-none (Some why) = stopped-none why e.state.v.vstart e.state.v.vstart (cycles_of e.issued)

  batch-none : (before : Cycle) (b : BatchTimes) (failure : Option Failure) → completed_in (batch_stop_by before e b failure) ≡ 0
  batch-none before b None = refl
  batch-none before b (Some f) = stopped-none (why_stopped e f) b.from f.element (cycles_of (batch_stop_cycle before e b f.element))

  stops-none : (before : Cycle) (batches : List BatchTimes) → completed_in (flat_map (λ (b : BatchTimes). batch_stop_by before e b b.failure) batches) ≡ 0
  stops-none before [] = refl
  stops-none before (b ∷ batches) =
      completed-append (batch_stop_by before e b b.failure) (flat_map (λ (b : BatchTimes). batch_stop_by before e b b.failure) batches)
      ∙ ap₂ (λ (m n : ℕ). m + n) (batch-none before b b.failure) (stops-none before batches)

  abbrev pub commits-before : List Happening
  commits-before = flat_map (batch_commit e) (reverse (not_last e.batches))

  pub completed-once : (before : Cycle) → completed_in (happenings_of before e) ≡ length (cycles_of e.retired)
  completed-once before =
      let retires = map (happening e Completes) (cycles_of e.retired) in
      let whole = completed-append (commits_of e ++ serial_stop e e.footprint.stop) (batch_stop before e) in
      let middle = completed-append (commits_of e) (serial_stop e e.footprint.stop) in
      let first = completed-append commits-before retires in
      omega (arith, whole, middle, first, batches-none (reverse (not_last e.batches)), completed-each (cycles_of e.retired), serial-none e.footprint.stop, stops-none before (filter stops e.batches))

  -- where nothing ends the episode, it retires before the end of the slice
  pub retires-early : (until retired : ℕ) (before : Cycle) → list_any (ends until) (happenings_of before e) ≡ false → e.retired ≡ At retired → retired < until
  retires-early until retired before none is =
      let whole = none-parts until (commits_of e ++ serial_stop e e.footprint.stop) (batch_stop before e) none in
      let middle = none-parts until (commits_of e) (serial_stop e e.footprint.stop) whole.0 in
      let first = none-parts until commits-before (map (happening e Completes) (cycles_of e.retired)) middle.0 in
      let at : list_any (ends until) (map (happening e Completes) (cycles_of (At retired))) ≡ false =
      ap (λ (c : Cycle). list_any (ends until) (map (happening e Completes) (cycles_of c))) (sym is) ∙ first.1 in
      leb-false until retired (or_parts (nat_le until retired) false at).0
