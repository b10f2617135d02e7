-- What happens of an instruction, by its batches.
use Rattle.std.proofs.Common.{◌≡◌, ℕ, ◌+◌, Bool, true, false, List, [], ◌∷◌, ◌++◌, refl, sym, ap, ◌∙◌}
use Rattle.std.specs.Prelude.{nat_lt, map, filter, flat_map, reverse, Option, Some, None, if◌then◌else◌}
use Rattle.std.specs.List.{list_all}
use Rattle.std.proofs.lemmas.Bool.{and_parts}
use Rattle.std.proofs.lemmas.Grind.{flat_map-append}
use Rattle.std.proofs.lemmas.List.{append-nil, append_assoc, reverse-append}
use Rattle.vx_episode.specs.Batches.{retired_batches}
use Rattle.vx_episode.specs.Commits.{Happening, happening, happenings_of, batch_commit, not_last, serial_stop, batch_stop, batch_stop_by, batch_stop_cycle, why_stopped}
use Rattle.vx_episode.specs.Commits.What.{Completes, Reaches, Stops}
use Rattle.vx_episode.specs.Cycles.{Cycle, later_of, latest, cycles_of}
use Rattle.vx_episode.specs.Cycles.Cycle.{At, Never}
use Rattle.vx_episode.specs.History.{Entry, BatchTimes, AccessTimes, Failure, stops, accesses_of}
use Rattle.vx_batching.specs.Batching.{reached, stopped_behind}
use Rattle.vx_batching.proofs.Lists.{reverse-more}
use Rattle.vx_batching.proofs.Stuck.{is_never, never-is}
use Rattle.vx_batching.proofs.Times.{latest-done}

-- ---- commits of batches

module _ (e : Entry) where
  pub reached-one : (b : BatchTimes) (own : List BatchTimes) → reached e (b ∷ own) ≡ reached e own ++ batch_commit e b
  reached-one b own =
      ap (flat_map (batch_commit e)) (reverse-more b own)
      ∙ flat_map-append (batch_commit e) (reverse own) (b ∷ [])
      ∙ ap (λ (xs : List Happening). reached e own ++ xs) (append-nil (batch_commit e b))

  pub reached-more : (b : BatchTimes) (own : List BatchTimes) (committed : ℕ) → b.committed ≡ At committed → reached e (b ∷ own) ≡ reached e own ++ happening e (Reaches b.after) committed ∷ []
  reached-more b own committed is = reached-one b own ∙ ap (λ (c : Cycle). reached e own ++ map (happening e (Reaches b.after)) (cycles_of c)) is

  reached-append : (later own : List BatchTimes) → reached e (later ++ own) ≡ reached e own ++ reached e later
  reached-append later own = ap (flat_map (batch_commit e)) (reverse-append later own) ∙ flat_map-append (batch_commit e) (reverse own) (reverse later)

  -- those that never commit
  reached-never : (own : List BatchTimes) → list_all (λ (b : BatchTimes). is_never b.committed) own ≡ true → reached e own ≡ []
  reached-never [] h = refl
  reached-never (b ∷ own) h =
      let parts = and_parts (is_never b.committed) (list_all (λ (b : BatchTimes). is_never b.committed) own) h in
      reached-one b own ∙ (λ i. reached-never own parts.1 i ++ map (happening e (Reaches b.after)) (cycles_of (never-is b.committed parts.0 i)))

  -- the last batch of some is no commit of its own
  not-last : (later own : List BatchTimes) (x : BatchTimes) (c : Cycle) → not_last (retired_batches c (later ++ x ∷ own)) ≡ not_last (later ++ x ∷ []) ++ own
  not-last [] own x c = refl
  not-last (y ∷ later) own x c = sym (append_assoc later (x ∷ []) own)

  pub commits-behind : (later own : List BatchTimes) (x : BatchTimes) (c : Cycle) → e.batches ≡ retired_batches c (later ++ x ∷ own) → flat_map (batch_commit e) (reverse (not_last e.batches)) ≡ reached e own ++ reached e (not_last (later ++ x ∷ []))
  commits-behind later own x c is = ap (reached e) (ap not_last is ∙ not-last later own x c) ∙ reached-append (not_last (later ++ x ∷ [])) own

  -- ---- stops

  stop-if : (before : Cycle) (b : Bool) (x : BatchTimes) (xs : List BatchTimes) (c : Cycle)
      → flat_map (λ (b : BatchTimes). batch_stop_by before e b b.failure) (if b then record x { committed = c } ∷ xs else xs) ≡ flat_map (λ (b : BatchTimes). batch_stop_by before e b b.failure) (if b then x ∷ xs else xs)
  stop-if before true x xs c = ap (λ (h : List Happening). h ++ flat_map (λ (b : BatchTimes). batch_stop_by before e b b.failure) xs) (same x.failure)
    where
      same : (failure : Option Failure) → batch_stop_by before e (record x { committed = c }) failure ≡ batch_stop_by before e x failure
      same None = refl
      same (Some f) = refl
  stop-if before false x xs c = refl

  stops-retired : (before c : Cycle) (own : List BatchTimes) → flat_map (λ (b : BatchTimes). batch_stop_by before e b b.failure) (filter stops (retired_batches c own)) ≡ flat_map (λ (b : BatchTimes). batch_stop_by before e b b.failure) (filter stops own)
  stops-retired before c [] = refl
  stops-retired before c (x ∷ own) = stop-if before (stops x) x (filter stops own) c

  pub batch-stop-is : (before c : Cycle) (own stopping : List BatchTimes) → e.batches ≡ retired_batches c own → filter stops own ≡ stopping → batch_stop before e ≡ flat_map (λ (b : BatchTimes). batch_stop_by before e b b.failure) stopping
  batch-stop-is before c own stopping is only =
      ap (λ (bs : List BatchTimes). flat_map (λ (b : BatchTimes). batch_stop_by before e b b.failure) (filter stops bs)) is
      ∙ stops-retired before c own
      ∙ ap (flat_map (λ (b : BatchTimes). batch_stop_by before e b b.failure)) only

  -- ---- an instruction whose batches were all gone through

  pub completes-behind : (before : Cycle) (l : BatchTimes) (own : List BatchTimes) (c : Cycle) (k : ℕ) → e.footprint.stop ≡ None → e.batches ≡ retired_batches c (l ∷ own) → filter stops (l ∷ own) ≡ [] → e.retired ≡ At k
      → happenings_of before e ≡ reached e own ++ happening e Completes k ∷ []
  completes-behind before l own c k stop is none retired =
      (λ i. reached e (not_last (is i)) ++ map (happening e Completes) (cycles_of (retired i)) ++ serial_stop e (stop i) ++ batch-stop-is before c (l ∷ own) [] is none i)
      ∙ append-nil (reached e own ++ happening e Completes k ∷ [] ++ [])
      ∙ append-nil (reached e own ++ happening e Completes k ∷ [])

  -- ---- one that goes on

  pub reaches-behind : (before c : Cycle) (later own : List BatchTimes) (x : BatchTimes) → e.batches ≡ retired_batches c (later ++ x ∷ own) → (follows : List Happening) × (happenings_of before e ≡ reached e own ++ follows)
  reaches-behind before c later own x is =
      let mine : List Happening = reached e own in
      let more : List Happening = reached e (not_last (later ++ x ∷ [])) in
      let last : List Happening = map (happening e Completes) (cycles_of e.retired) in
      let serial : List Happening = serial_stop e e.footprint.stop in
      let stop : List Happening = batch_stop before e in (
        more ++ last ++ serial ++ stop,
        ap (λ (commits : List Happening). commits ++ last ++ serial ++ stop) (commits-behind later own x c is)
            ∙ ap (λ (xs : List Happening). xs ++ serial ++ stop) (append_assoc mine more last)
            ∙ ap (λ (xs : List Happening). xs ++ stop) (append_assoc mine (more ++ last) serial)
            ∙ append_assoc mine (more ++ last ++ serial) stop,
      )

  -- ---- one that stops

  stop-cycle : (r : ℕ) (b : BatchTimes) (looked element : ℕ) (accesses : List AccessTimes) → b.looked_up ≡ At looked → accesses_of e.batches ≡ accesses → batch_stop_cycle (At r) e b element ≡ At (stopped_behind r looked element accesses)
  stop-cycle r b looked element accesses is are =
      (λ i. later_of (is i) (later_of (At (r + 1)) (latest (map (λ (a : AccessTimes). At a.done) (filter (λ (a : AccessTimes). nat_lt a.access.element element) (are i))))))
      ∙ ap (λ (c : Cycle). later_of (At looked) (later_of (At (r + 1)) c)) (latest-done (filter (λ (a : AccessTimes). nat_lt a.access.element element) accesses))

  never-newest : (xs : List BatchTimes) → list_all (λ (b : BatchTimes). is_never b.committed) xs ≡ true → list_all (λ (b : BatchTimes). is_never b.committed) (not_last xs) ≡ true
  never-newest [] h = refl
  never-newest (x ∷ xs) h = (and_parts (is_never x.committed) (list_all (λ (b : BatchTimes). is_never b.committed) xs) h).1

  pub stops-behind : (before c : Cycle) (r from looked : ℕ) (later own : List BatchTimes) (x : BatchTimes) (failing : Failure) (accesses : List AccessTimes) → before ≡ At r → e.footprint.stop ≡ None → e.batches ≡ retired_batches c (later ++ x ∷ own) → e.retired ≡ Never
      → list_all (λ (b : BatchTimes). is_never b.committed) (later ++ x ∷ []) ≡ true → filter stops (later ++ x ∷ own) ≡ x ∷ [] → x.failure ≡ Some failing → x.from ≡ from → x.looked_up ≡ At looked → accesses_of e.batches ≡ accesses
      → happenings_of before e ≡ reached e own ++ happening e (Stops (why_stopped e failing) from failing.element) (stopped_behind r looked failing.element accesses) ∷ []
  stops-behind before c r from looked later own x failing accesses last stop is retired never only fails first ends-at are =
      let mine : List Happening = reached e own in
      let commits : flat_map (batch_commit e) (reverse (not_last e.batches)) ≡ mine =
      commits-behind later own x c is ∙ ap (λ (xs : List Happening). mine ++ xs) (reached-never (not_last (later ++ x ∷ [])) (never-newest (later ++ x ∷ []) never)) ∙ append-nil mine in
      let at : batch_stop_cycle before e x failing.element ≡ At (stopped_behind r looked failing.element accesses) = ap (λ (b : Cycle). batch_stop_cycle b e x failing.element) last ∙ stop-cycle r x looked failing.element accesses ends-at are in
      let stopping : batch_stop before e ≡ happening e (Stops (why_stopped e failing) from failing.element) (stopped_behind r looked failing.element accesses) ∷ [] =
      batch-stop-is before c (later ++ x ∷ own) (x ∷ []) is only
      ∙ ap (λ (failure : Option Failure). batch_stop_by before e x failure ++ []) fails
      ∙ (λ i. map (happening e (Stops (why_stopped e failing) (first i) failing.element)) (cycles_of (at i)) ++ []) in
      (λ i. commits i ++ map (happening e Completes) (cycles_of (retired i)) ++ serial_stop e (stop i) ++ stopping i)
      ∙ ap (λ (xs : List Happening). xs ++ happening e (Stops (why_stopped e failing) from failing.element) (stopped_behind r looked failing.element accesses) ∷ []) (append-nil (mine ++ []) ∙ append-nil mine)
