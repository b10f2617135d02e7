-- The instruction at which an episode ends is one of those in flight then.
use Rattle.std.proofs.Common.{◌≡◌, ℕ, zero, suc, ◌+◌, ◌-◌, ◌≤◌, ◌<◌, Bool, true, false, [], ◌∷◌, ◌++◌, map, if◌then◌else◌, refl, sym, ap, ◌∙◌, arith, add-one, append_assoc}
use Rattle.std.proofs.lemmas.Bool.{le-leb, leb-true, false≢true}
use Rattle.vx_base.specs.declared.machine.Want.TheVariants.{Fetch}
use Rattle.vx_flat.specs.Continued.{continued_by}
use Rattle.vx_flat.specs.State.{Flat}
use Rattle.vx_tables.specs.Caches.{look_up}
use Rattle.vx_tables.specs.declared.look.Look.{Look}
use Rattle.vx_tables.specs.declared.look.Look.TheVariants.{Hit, Denied, Miss}
use Rattle.vx_image.specs.Pages.{is_canonical, page_of}
use Rattle.vx_episode.specs.Commits.{entry_of}
use Rattle.vx_episode.specs.Cycles.{Cycle, later, behind, latest, is_by}
use Rattle.vx_episode.specs.Cycles.Cycle.{At, Never}
use Rattle.vx_episode.specs.Episode.{fetched_by}
use Rattle.vx_episode.specs.Footprint.{Footprint, footprint}
use Rattle.vx_episode.specs.History.{History, last_issue, last_retire, retire_before, trimming_before, register_ready, fills_of, fetch_walks}
use Rattle.vx_episode.specs.Instructions.{fetch_begin, fetch_times, fetch_by, fetch_at, issue_cycle, walk_time}
use Rattle.vx_episode.specs.Organisation.{Start, fetch_entries}
use Rattle.vx_ending.specs.UnderWay.{first_instructions}
use Rattle.vx_dirty.proofs.Times.{by-first}

-- what the crate below says of the instructions in flight
abbrev pub FlightLaw : Type 0
FlightLaw = (start : Start) (s : Flat) (last m : ℕ) → is_by last (fetch_begin start (first_instructions start m s)) ≡ true
    → is_by last (fetch_begin start (first_instructions start (m + 1) s)) ≡ false → fetched_by start last s ≡ first_instructions start (m + 1) s

-- ---- a fetch begins by the issue of its instruction, and behind that of the one before

module _ (start : Start) (history : History) (last : ℕ) where
  by-look : (pc begun : ℕ) (look : Look) → is_by last (fetch_by start history pc begun look).ended ≡ true → is_by last (At begun) ≡ true
  by-look pc begun (Hit frame) h = h
  by-look pc begun Denied h = h
  by-look pc begun Miss h = let le : begun + walk_time start.machine ≤ last = leb-true (begun + walk_time start.machine) last h in le-leb begun last (omega arith)

  by-canonical : (canonical : Bool) (pc begun : ℕ) (look : Look) → is_by last (if canonical then fetch_by start history pc begun look else fetch_at start begun).ended ≡ true → is_by last (At begun) ≡ true
  by-canonical true pc begun look h = by-look pc begun look h
  by-canonical false pc begun look h = h

  by-fetch : (pc : ℕ) (begun : Cycle) → is_by last (fetch_times start history pc begun).ended ≡ true → is_by last begun ≡ true
  by-fetch pc (At begun) h = by-canonical (is_canonical pc) pc begun (look_up fetch_entries (fills_of (fetch_walks history)) (page_of pc) Fetch) h
  by-fetch pc Never h = absurd (false≢true h)

  by-issue : (fetched : Cycle) (f : Footprint) → is_by last (issue_cycle start history fetched f) ≡ true → is_by last fetched ≡ true
  by-issue fetched f h =
      by-first last fetched (latest (
      behind (last_issue start.cycle history)
      ∷ map (register_ready start.cycle history) f.reads
      ++ map behind (retire_before start.machine.window history)
      ++ map behind (trimming_before history)
      ++ (if f.is_serial then behind (last_retire start.cycle history) ∷ [] else []))) h

  pub by-entry : (s : Flat) → is_by last (entry_of start history s).issued ≡ true → is_by last (fetch_begin start history) ≡ true
  by-entry s h =
      by-fetch s.pc (fetch_begin start history)
      (by-issue (fetch_times start history s.pc (fetch_begin start history)).ended (footprint start.machine start.has_vectors start.residency s) h)

by-jump : (last : ℕ) (jumps : Bool) (issued : Cycle) → is_by last (later (if jumps then 2 else 1) issued) ≡ true → (1 ≤ last) × (is_by (last - 1) issued ≡ true)
by-jump last true (At a) h = let le : a + 2 ≤ last = leb-true (a + 2) last h in (omega arith, le-leb a (last - 1) (omega arith))
by-jump last false (At a) h = let le : a + 1 ≤ last = leb-true (a + 1) last h in (omega arith, le-leb a (last - 1) (omega arith))
by-jump last true Never h = absurd (false≢true h)
by-jump last false Never h = absurd (false≢true h)

module _ (start : Start) (s : Flat) where
  -- so the fetch of instruction m doesn't begin before so many cycles
  late : (m last : ℕ) → is_by last (fetch_begin start (first_instructions start m s)) ≡ true → start.cycle + 1 + m ≤ last
  unfolding first_instructions
  late zero last h = let le : start.cycle + 1 ≤ last = leb-true (start.cycle + 1) last h in omega arith
  late (suc m) last h =
      let history = first_instructions start m s in
      let e = entry_of start history (continued_by m s) in
      let parts = by-jump last e.footprint.jumps e.issued h in
      let low = late m (last - 1) (by-entry start history (last - 1) (continued_by m s) parts.1) in
      omega (arith, parts.0, low)

  -- one instruction is among those in flight
  pub record IsFetched (last m : ℕ) : Type 0 where
    pub newer : History
    pub is : fetched_by start last s ≡ newer ++ first_instructions start (suc m) s

  one-less : (last m : ℕ) → IsFetched last (suc m) → IsFetched last m
  unfolding first_instructions
  one-less last m h =
      let e = entry_of start (first_instructions start (suc m) s) (continued_by (suc m) s) in
      record { newer = h.newer ++ e ∷ []; is = h.is ∙ sym (append_assoc h.newer (e ∷ []) (first_instructions start (suc m) s)) }

  module _ (F : FlightLaw) (last : ℕ) where
    here : (m : ℕ) → is_by last (fetch_begin start (first_instructions start m s)) ≡ true → is_by last (fetch_begin start (first_instructions start (suc m) s)) ≡ false → IsFetched last m
    here m h stops =
        let same = add-one m in
        record { newer = []; is = F start s last m h (ap (λ k. is_by last (fetch_begin start (first_instructions start k s))) same ∙ stops) ∙ ap (λ k. first_instructions start k s) same }

    search-from : (k m : ℕ) → last < start.cycle + 2 + m + k → is_by last (fetch_begin start (first_instructions start m s)) ≡ true → IsFetched last m
    search-from zero m few h = by_test (is_by last (fetch_begin start (first_instructions start (suc m) s))) refl
      where
        by_test : (b : Bool) → is_by last (fetch_begin start (first_instructions start (suc m) s)) ≡ b → IsFetched last m
        by_test true e = let low = late (suc m) last e in absurd (omega (arith, few, low))
        by_test false e = here m h e
    search-from (suc k) m few h = by_test (is_by last (fetch_begin start (first_instructions start (suc m) s))) refl (λ e. search-from k (suc m) (omega (arith, few)) e)
      where
        by_test : (b : Bool) → is_by last (fetch_begin start (first_instructions start (suc m) s)) ≡ b → (is_by last (fetch_begin start (first_instructions start (suc m) s)) ≡ true → IsFetched last (suc m)) → IsFetched last m
        by_test true e later = one-less last m (later e)
        by_test false e later = here m h e

    pub fetched : (m : ℕ) → is_by last (fetch_begin start (first_instructions start m s)) ≡ true → IsFetched last m
    fetched m h = search-from last m (omega arith) h
