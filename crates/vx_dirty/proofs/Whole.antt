-- An episode: what happens at its end, what went before, and what that leaves of the pages that haven't D then.
use Rattle.std.proofs.Common.{◌≡◌, ℕ, zero, suc, ◌+◌, ◌-◌, Bool, true, false, ◌||◌, List, [], ◌∷◌, ◌++◌, map, filter, leb, if◌then◌else◌, refl, sym, ap, ap₂, ◌∙◌, subst, add-one, append_assoc}
use Rattle.std.specs.List.{list_any}
use Rattle.std.specs.Option.{option_or}
use Rattle.std.specs.Prelude.{Option, Some, None, find}
use Rattle.std.proofs.lemmas.Bool.{false≢true, or_parts, or_from}
use Rattle.std.proofs.lemmas.Grind.{flat_map-append}
use Rattle.std.proofs.lemmas.List.Elements.{filter-append}
use Rattle.std.proofs.lemmas.List.Folds.{find-append, list_any-append}
use Rattle.std.proofs.lemmas.Option.{none-some, same_Some}
use Rattle.vx_image.specs.Images.{entry_of_page}
use Rattle.vx_image.specs.Pages.{page_numbered}
use Rattle.vx_tables.specs.Residency.{Residency, IsOf}
use Rattle.vx_flat.specs.Continued.{continued, continued_by}
use Rattle.vx_flat.specs.Outcome.Outcome.{Next}
use Rattle.vx_flat.specs.Process.{Process, stepped}
use Rattle.vx_flat.specs.Splits.{IsWellFormed}
use Rattle.vx_flat.specs.State.{Flat}
use Rattle.vx_flat.specs.Step.{step}
use Rattle.vx_episode.specs.Commits.{Happening, entry_of, happenings_of, happenings, ends}
use Rattle.vx_episode.specs.Cycles.{Cycle, is_by}
use Rattle.vx_episode.specs.Cycles.Cycle.{At, Never}
use Rattle.vx_episode.specs.Episode.{EpisodeEnd, has_end, run_on, instructions, up_to_end, residency_by, end_by, episode_of, episode, fetched_by}
use Rattle.vx_episode.specs.History.{History, Entry, BatchTimes, Walk, last_retire, batches_of, walks_of_batches, fetch_walks, data_walks, after_walks}
use Rattle.vx_episode.specs.Organisation.{Start}
use Rattle.vx_ending.specs.Ends.{process_behind}
use Rattle.vx_ending.specs.UnderWay.{IsUnderWay, first_instructions}
use Rattle.vx_dirty.specs.Dirty.{is_dirty}
use Rattle.vx_dirty.proofs.Entries.{its_batches, facts}
use Rattle.vx_dirty.proofs.Fates.{more-before}
use Rattle.vx_dirty.proofs.Fetches.{FlightLaw, by-entry, IsFetched, fetched}
use Rattle.vx_dirty.proofs.Happens.{IsAfter, all-after, IsKept, all-kept}
use Rattle.vx_dirty.proofs.Instructions.{Laws}
use Rattle.vx_dirty.proofs.Ranges.{BatchLaws}
use Rattle.vx_dirty.proofs.Times.{has-retired, IsTold, told-none, told-next, walks-retired}
use Rattle.vx_dirty.proofs.Lists.{Each, each-second}

-- what the crates below say of runs and of episodes under way
pub record EpisodeLaws : Type 0 where
  pub step_formed : (s t : Flat) → IsWellFormed s → step s ≡ Next t → IsWellFormed t
  pub continued_formed : (s : Flat) → IsWellFormed s → IsWellFormed (continued s)
  pub begins : (start : Start) (until : ℕ) (from : Process) → from.over ≡ None → IsUnderWay start until from 0 [] from
  pub next : (start : Start) (until : ℕ) (from : Process) (n : ℕ) (history : History) (now : Process) (e : Entry) (t : Flat) (retired : ℕ) → IsUnderWay start until from n history now
      → e ≡ entry_of start history now.state → step now.state ≡ Next t → e.retired ≡ At retired
      → list_any (ends until) (happenings_of (last_retire start.cycle history) e) ≡ false
      → IsUnderWay start until from (n + 1) (e ∷ history) (stepped now)
  pub state : (start : Start) (until : ℕ) (from : Process) (n : ℕ) (history : History) (now : Process) (t : Flat) → IsUnderWay start until from n history now
      → step now.state ≡ Next t → (stepped now).state ≡ t
  pub end : (start : Start) (until : ℕ) (from : Process) (n : ℕ) (history : History) (now : Process) (e : Entry) (before after : List Happening) (last : Happening) → IsUnderWay start until from n history now
      → e ≡ entry_of start history now.state
      → happenings_of (last_retire start.cycle history) e ≡ before ++ last ∷ after → list_any (ends until) before ≡ false → ends until last ≡ true
      → episode start until from ≡ Some (end_by start from (happenings start.cycle history ++ before ++ last ∷ []) last (fetched_by start last.cycle from.state))
  pub process : (start : Start) (until : ℕ) (from : Process) (n : ℕ) (history : History) (now : Process) (e : Entry) (before after : List Happening) (last : Happening) (fetched : History) → IsUnderWay start until from n history now
      → e ≡ entry_of start history now.state → happenings_of (last_retire start.cycle history) e ≡ before ++ last ∷ after
      → (end_by start from (happenings start.cycle history ++ before ++ last ∷ []) last fetched).process ≡ process_behind last.what now
  pub flight : FlightLaw

-- ---- the first that ends the episode

record IsFound {X : Type 0} (q : X → Bool) (xs : List X) (x : X) : Type 0 where
  pub before : List X
  pub after : List X
  pub parts : xs ≡ before ++ x ∷ after
  pub none : list_any q before ≡ false
  pub is : q x ≡ true

found-parts : {X : Type 0} (q : X → Bool) (xs : List X) (x : X) → find q xs ≡ Some x → IsFound q xs x
found-parts q [] x h = absurd (none-some x h)
found-parts q (y ∷ xs) x h = by_test (q y) refl h (found-parts q xs x)
  where
    by_test : (b : Bool) → q y ≡ b → (if b then Some y else find q xs) ≡ Some x → (find q xs ≡ Some x → IsFound q xs x) → IsFound q (y ∷ xs) x
    by_test true e h later =
        let same = same_Some y x h in
        record { before = []; after = xs; parts = ap (λ z. z ∷ xs) same; none = refl; is = ap q (sym same) ∙ e }
    by_test false e h later =
        let k = later h in
        record { before = y ∷ k.before; after = k.after; parts = ap (λ l. y ∷ l) k.parts; none = or_from (q y) (list_any q k.before) e k.none; is = k.is }

none-found : {X : Type 0} (q : X → Bool) (xs : List X) → find q xs ≡ None → list_any q xs ≡ false
none-found q [] h = refl
none-found q (y ∷ xs) h = by_test (q y) refl h (none-found q xs)
  where
    by_test : (b : Bool) → q y ≡ b → (if b then Some y else find q xs) ≡ None → (find q xs ≡ None → list_any q xs ≡ false) → (q y || list_any q xs) ≡ false
    by_test true e h later = absurd (none-some y (sym h))
    by_test false e h later = or_from (q y) (list_any q xs) e (later h)

module _ (start : Start) (until : ℕ) (s : Flat) where
  abbrev first : ℕ → History
  first n = first_instructions start n s

  abbrev entry : ℕ → Entry
  entry n = entry_of start (first n) (continued_by n s)

  -- the instruction at which the episode ends, and what happens of it
  record IsEnding (last : Happening) : Type 0 where
    pub n : ℕ
    pub none : list_any (ends until) (happenings start.cycle (first n)) ≡ false
    pub here : IsFound (ends until) (happenings_of (last_retire start.cycle (first n)) (entry n)) last

  ending-of : (m : ℕ) (last : Happening) → find (ends until) (happenings start.cycle (first m)) ≡ Some last → IsEnding last
  unfolding first_instructions
  ending-of zero last h = absurd (none-some last h)
  ending-of (suc m) last h =
      let others = happenings start.cycle (first m) in
      let own = happenings_of (last_retire start.cycle (first m)) (entry m) in
      by_first (find (ends until) others) refl (sym (find-append (ends until) others own) ∙ h) (ending-of m last)
    where
      by_first : (o : Option Happening) → find (ends until) (happenings start.cycle (first m)) ≡ o → option_or o (find (ends until) (happenings_of (last_retire start.cycle (first m)) (entry m))) ≡ Some last
          → (find (ends until) (happenings start.cycle (first m)) ≡ Some last → IsEnding last) → IsEnding last
      by_first (Some x) e h earlier = earlier (e ∙ h)
      by_first None e h earlier = record { n = m; none = none-found (ends until) (happenings start.cycle (first m)) e; here = found-parts (ends until) (happenings_of (last_retire start.cycle (first m)) (entry m)) last h }

  -- the instructions of an episode are the first ones
  run-first : (bound n : ℕ) → (m : ℕ) × (run_on start until bound (first n) (continued_by n s) ≡ first m)
  unfolding run_on first_instructions
  run-first zero n = (n, refl)
  run-first (suc bound) n = by_test (has_end start.cycle until (first n)) (run-first bound (suc n))
    where
      by_test : (b : Bool) → ((m : ℕ) × (run_on start until bound (first (suc n)) (continued_by (suc n) s) ≡ first m))
          → (m : ℕ) × (elim b as (λ _. History) [ true ↦ first n | false ↦ run_on start until bound (first (suc n)) (continued_by (suc n) s) ] ≡ first m)
      by_test true later = (n, refl)
      by_test false later = later

  first-none : [] ≡ first 0
  unfolding first_instructions
  first-none = refl

  are-first : (m : ℕ) × (instructions start until s ≡ first m)
  are-first =
      let k = run-first (until - start.cycle + 2) 0 in
      (k.0, ap (λ (h : History). run_on start until (until - start.cycle + 2) h s) first-none ∙ k.1)

ended-of : (start : Start) (until : ℕ) (p : Process) (e : EpisodeEnd) → episode start until p ≡ Some e → (last : Happening) × IsEnding start until p.state last
unfolding episode
ended-of start until p e h =
    let are = are-first start until p.state in
    let found = sym (ap (λ (l : History). episode_of start until p (happenings start.cycle l)) are.1) ∙ h in
    by_find (happenings start.cycle (first_instructions start are.0 p.state)) (find (ends until) (happenings start.cycle (first_instructions start are.0 p.state))) refl found
    (ending-of start until p.state are.0)
  where
    by_find : (all : List Happening) (o : Option Happening) → find (ends until) all ≡ o
        → (elim o as (λ _. Option EpisodeEnd) [ Some last ↦ Some (end_by start p (up_to_end until all) last (fetched_by start last.cycle p.state)) | None ↦ None ]) ≡ Some e
        → ((last : Happening) → find (ends until) all ≡ Some last → IsEnding start until p.state last) → (last : Happening) × IsEnding start until p.state last
    by_find all (Some last) is h k = (last, k last is)
    by_find all None is h k = absurd (none-some e h)

-- ---- walks and pages without D

clean-tail : (residency : Residency) (first walks : List Walk) (n : ℕ) → is_dirty n (after_walks residency (first ++ walks)) ≡ false → is_dirty n (after_walks residency walks) ≡ false
clean-tail residency first walks n h = by_test (is_dirty n (after_walks residency walks)) refl
  where
    by_test : (b : Bool) → is_dirty n (after_walks residency walks) ≡ b → b ≡ false
    by_test true e = absurd (false≢true (sym h ∙ more-before residency first walks n e))
    by_test false e = refl

filter-all : (q : Walk → Bool) (walks : List Walk) → Each (λ w. q w ≡ true) walks → filter q walks ≡ walks
filter-all q [] h = refl
filter-all q (w ∷ walks) h = ap (λ b. if b then w ∷ filter q walks else filter q walks) h.0 ∙ ap (λ (l : List Walk). w ∷ l) (filter-all q walks h.1)

-- walks that were all picked
clean-picked : (residency : Residency) (q : Walk → Bool) (first walks : List Walk) (n : ℕ) → Each (λ w. q w ≡ true) walks → is_dirty n (after_walks residency (filter q (first ++ walks))) ≡ false → is_dirty n (after_walks residency walks) ≡ false
clean-picked residency q first walks n picked h =
    clean-tail residency (filter q first) walks n
    (ap (λ l. is_dirty n (after_walks residency (filter q first ++ l))) (sym (filter-all q walks picked))
    ∙ ap (λ l. is_dirty n (after_walks residency l)) (sym (filter-append q first walks))
    ∙ h)

-- the walks for data of a history that goes on
data-parts : (newer history : History) → data_walks (newer ++ history) ≡ data_walks newer ++ data_walks history
data-parts newer history =
    ap walks_of_batches (flat_map-append (λ (e : Entry). e.batches) newer history)
    ∙ flat_map-append (λ (b : BatchTimes). b.walks) (batches_of newer) (batches_of history)

come-at : (last : ℕ) (c : Cycle) → is_by last c ≡ true → (cycle : ℕ) × (c ≡ At cycle)
come-at last (At cycle) h = (cycle, refl)
come-at last Never h = absurd (false≢true h)

module _ (L : Laws) (B : BatchLaws) (E : EpisodeLaws) (start : Start) (until : ℕ) (p : Process) (well : IsWellFormed p.state) (running : p.over ≡ None) (mapped : IsOf start.residency p.state.memory) where
  -- ---- the instructions before the last

  record IsGoing (n : ℕ) : Type 0 where
    pub history : History
    pub now : Process
    pub way : IsUnderWay start until p n history now
    pub told : IsTold start history
    pub of : IsOf start.residency now.state.memory
    pub formed : IsWellFormed now.state
    pub keeps : (k : ℕ) → is_dirty k (after_walks start.residency (data_walks history)) ≡ false → page_numbered k now.state.memory ≡ page_numbered k p.state.memory

  one-more : (n c : ℕ) (g : IsGoing n) → is_by c (entry_of start g.history g.now.state).retired ≡ true → list_any (ends until) (happenings_of (last_retire start.cycle g.history) (entry_of start g.history g.now.state)) ≡ false → IsGoing (suc n)
  one-more n c g by none =
      let e = entry_of start g.history g.now.state in
      let own = its_batches start g.history g.now.state in
      let done = (facts L B start g.history g.now.state g.formed g.of g.told).completes c by in
      let at = come-at c e.retired by in
      let state = E.state start until p n g.history g.now done.next g.way done.goes in
      let whole : data_walks (e ∷ g.history) ≡ walks_of_batches own ++ data_walks g.history =
      walks-retired e.retired own (batches_of g.history) ∙ flat_map-append (λ (b : BatchTimes). b.walks) own (batches_of g.history) in
      record {
        history = e ∷ g.history;
        now = stepped g.now;
        way = subst (λ k. IsUnderWay start until p k (e ∷ g.history) (stepped g.now)) (add-one n) (E.next start until p n g.history g.now e done.next at.0 g.way refl done.goes at.1 none);
        told = told-next start g.history g.now.state g.told;
        of = g.of ∙ sym done.entries ∙ ap (λ (s : Flat). map entry_of_page s.memory) (sym state);
        formed = subst IsWellFormed (sym state) (E.step_formed g.now.state done.next g.formed done.goes);
        keeps = λ k clean.
            ap (λ (s : Flat). page_numbered k s.memory) state
            ∙ done.keeps k (ap (λ l. is_dirty k (after_walks start.residency l)) (sym (walks-retired e.retired own (batches_of g.history))) ∙ clean)
            ∙ g.keeps k (clean-tail start.residency (walks_of_batches own) (data_walks g.history) k (ap (λ l. is_dirty k (after_walks start.residency l)) (sym whole) ∙ clean));
      }

  -- where the last of them has retired, all have
  going : (n c : ℕ) → is_by c (last_retire start.cycle (first_instructions start n p.state)) ≡ true → list_any (ends until) (happenings start.cycle (first_instructions start n p.state)) ≡ false → IsGoing n
  unfolding first_instructions
  going zero c by none = record { history = []; now = p; way = E.begins start until p running; told = told-none start; of = mapped; formed = well; keeps = λ k clean. refl }
  going (suc n) c by none =
      let history = first_instructions start n p.state in
      let own = happenings_of (last_retire start.cycle history) (entry_of start history (continued_by n p.state)) in
      let parts = or_parts (list_any (ends until) (happenings start.cycle history)) (list_any (ends until) own) (sym (list_any-append (ends until) (happenings start.cycle history) own) ∙ none) in
      let g = going n c (has-retired start history c (continued_by n p.state) by).before parts.0 in
      let same : entry_of start g.history g.now.state ≡ entry_of start history (continued_by n p.state) = ap₂ (λ (h : History) (s : Flat). entry_of start h s) g.way.instructions g.way.state in
      one-more n c g
      (ap (λ (e : Entry). is_by c e.retired) same ∙ by)
      (ap₂ (λ (h : History) (e : Entry). list_any (ends until) (happenings_of (last_retire start.cycle h) e)) g.way.instructions same ∙ parts.1)

  formed-at : (n : ℕ) → IsWellFormed (continued_by n p.state)
  formed-at zero = well
  formed-at (suc n) = E.continued_formed (continued_by n p.state) (formed-at n)

  -- ---- the end

  module _ (last : Happening) (ending : IsEnding start until p.state last) where
    abbrev n : ℕ
    n = ending.n

    abbrev history : History
    history = first_instructions start n p.state

    is-after : IsAfter start history (continued_by n p.state) last
    is-after =
        let P = IsAfter start history (continued_by n p.state) in
        (each-second P ending.here.before (last ∷ ending.here.after) (subst (Each P) ending.here.parts (all-after L start history (continued_by n p.state) (formed-at n)))).0

    gone : IsGoing n
    gone = going n last.cycle is-after.retired ending.none

    same-entry : entry_of start gone.history gone.now.state ≡ entry_of start history (continued_by n p.state)
    same-entry = ap₂ (λ (h : History) (s : Flat). entry_of start h s) gone.way.instructions gone.way.state

    parts : happenings_of (last_retire start.cycle gone.history) (entry_of start gone.history gone.now.state) ≡ ending.here.before ++ last ∷ ending.here.after
    parts = ap₂ (λ (h : History) (e : Entry). happenings_of (last_retire start.cycle h) e) gone.way.instructions same-entry ∙ ending.here.parts

    kept : IsKept start gone.history gone.now last
    kept =
        let P = IsKept start gone.history gone.now in
        (each-second P ending.here.before (last ∷ ending.here.after) (subst (Each P) parts (all-kept L B start gone.history gone.now gone.way.is_not_over gone.formed gone.of gone.told))).0

    -- the walks that have ended by then are among those that the end tells
    flying : IsFetched start p.state last.cycle n
    flying = fetched start p.state E.flight last.cycle n (by-entry start history last.cycle (continued_by n p.state) is-after.issued)

    more-first : first_instructions start (suc n) p.state ≡ entry_of start gone.history gone.now.state ∷ gone.history
    unfolding first_instructions
    more-first = ap₂ (λ (e : Entry) (h : History). e ∷ h) (sym same-entry) (sym gone.way.instructions)

    abbrev flown : History
    flown = fetched_by start last.cycle p.state

    abbrev other_walks : List Walk
    other_walks = fetch_walks flown ++ (data_walks flying.newer ++ kept.newer)

    all-walks : fetch_walks flown ++ data_walks flown ≡ other_walks ++ kept.walks
    all-walks =
        let e = entry_of start gone.history gone.now.state in
        ap (λ l. fetch_walks flown ++ l)
        (ap data_walks (flying.is ∙ ap (λ (h : History). flying.newer ++ h) more-first)
        ∙ data-parts flying.newer (e ∷ gone.history)
        ∙ ap (λ l. data_walks flying.newer ++ l) (walks-retired e.retired (its_batches start gone.history gone.now.state) (batches_of gone.history) ∙ kept.parts)
        ∙ sym (append_assoc (data_walks flying.newer) kept.newer kept.walks))
        ∙ sym (append_assoc (fetch_walks flown) (data_walks flying.newer ++ kept.newer) kept.walks)

    clean-then : (k : ℕ) → is_dirty k (residency_by start last.cycle flown) ≡ false → is_dirty k (after_walks start.residency kept.walks) ≡ false
    clean-then k h =
        let q = λ (w : Walk). leb w.ended last.cycle in
        clean-picked start.residency q other_walks kept.walks k kept.ended
        (ap (λ l. is_dirty k (after_walks start.residency (filter q l))) (sym all-walks) ∙ h)

    page-then : (k : ℕ) → is_dirty k (residency_by start last.cycle flown) ≡ false → page_numbered k (process_behind last.what gone.now).state.memory ≡ page_numbered k p.state.memory
    page-then k h =
        let clean = clean-then k h in
        kept.keeps k clean
        ∙ gone.keeps k (clean-tail start.residency kept.some (data_walks gone.history) k (ap (λ l. is_dirty k (after_walks start.residency l)) (sym kept.whole) ∙ clean))

    whole-so : (number : ℕ) (e : EpisodeEnd) → episode start until p ≡ Some e → is_dirty number e.residency ≡ false → page_numbered number e.process.state.memory ≡ page_numbered number p.state.memory
    whole-so number e h clean =
        let entry = entry_of start gone.history gone.now.state in
        let end = end_by start p (happenings start.cycle gone.history ++ ending.here.before ++ last ∷ []) last flown in
        let is = same_Some e end (sym h ∙ E.end start until p n gone.history gone.now entry ending.here.before ending.here.after last gone.way refl parts ending.here.none ending.here.is) in
        let process = E.process start until p n gone.history gone.now entry ending.here.before ending.here.after last flown gone.way refl parts in
        ap (λ (x : EpisodeEnd). page_numbered number x.process.state.memory) is
        ∙ ap (λ (x : Process). page_numbered number x.state.memory) process
        ∙ page-then number (ap (λ (x : EpisodeEnd). is_dirty number x.residency) (sym is) ∙ clean)

  pub whole : (number : ℕ) (e : EpisodeEnd) → episode start until p ≡ Some e → is_dirty number e.residency ≡ false → page_numbered number e.process.state.memory ≡ page_numbered number p.state.memory
  whole number e h clean =
      let ended = ended-of start until p e h in
      whole-so ended.0 ended.1 number e h clean
