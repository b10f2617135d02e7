-- What an instruction leaves of the pages of memory that haven't D behind its walks: where it completes, reaches an element, or
-- stops.
use Rattle.std.proofs.Common.{◌≡◌, ℕ, zero, suc, Bool, true, false, not, ◌&&◌, nat_eq, ltb, List, [], ◌∷◌, ◌++◌, map, refl, sym, ap, ◌∙◌, subst, inl, inr, ⊎_elim, arith}
use Rattle.std.specs.Option.{option_map_or}
use Rattle.std.specs.Prelude.{◌⊎◌, Option, Some, None, is_some}
use Rattle.std.proofs.lemmas.Bool.{false≢true, true≢false, lt-ltb}
use Rattle.vx_image.specs.Images.{entry_of_page}
use Rattle.vx_image.specs.Pages.{Memory, page_numbered}
use Rattle.vx_tables.specs.Residency.{IsOf}
use Rattle.vx_vector.specs.Accesses as vector
use Rattle.vx_vector.specs.Accesses.{Movement, movement_count, accesses_between, access_list}
use Rattle.vx_vector.specs.Batches.{batches}
use Rattle.vx_flat.specs.Checks.{cause_of, checked}
use Rattle.vx_flat.specs.Outcome.Outcome.{Next}
use Rattle.vx_flat.specs.Splits.{IsWellFormed}
use Rattle.vx_flat.specs.State.{Flat}
use Rattle.vx_flat.specs.Step.{step}
use Rattle.vx_flat.specs.Transfers.{Transfer, want_of, below_done}
use Rattle.vx_episode.specs.Batches.{trims, all_batches}
use Rattle.vx_episode.specs.Commits.{entry_of, not_last}
use Rattle.vx_episode.specs.Cycles.{Cycle, is_by}
use Rattle.vx_episode.specs.Footprint.{Access, Batch, Footprint, footprint, ended_by, one_batch, moved_access, moved_batch}
use Rattle.vx_episode.specs.History.{History, Walk, BatchTimes, Failure, batches_of, walks_of_batches, after_walks}
use Rattle.vx_episode.specs.Instructions.{generation_cycle}
use Rattle.vx_episode.specs.Organisation.{Start}
use Rattle.vx_episode.specs.declared.ended.Ended.{Ended}
use Rattle.vx_dirty.specs.Dirty.{is_dirty}
use Rattle.vx_dirty.proofs.Chains.{IsChain, last_after, Passes, HasFailed, IsOver, IsDone, AreDone, HasCommitted, AreCommitted, AreReady, newest_trimmed, IsChained, chained}
use Rattle.vx_dirty.proofs.Fates.{IsGood}
use Rattle.vx_dirty.proofs.Instructions.{Laws, memory_in, is_faulted, IsStopping, IsPlain, IsScalar, IsTransfer, IsWriting, kind}
use Rattle.vx_dirty.proofs.Moves.{IsApart, Clear, FailsAt, done-page, below-entries, none-fails, first-fails, passes-all, trims-at, memory-fails, memory_within, within-by}
use Rattle.vx_dirty.proofs.Pages.{number-elsewhere, number-entries, good-apart, good-passes, fails-cause}
use Rattle.vx_dirty.proofs.Ranges.{BatchLaws, below, all, chain, all-through, none-below-first}
use Rattle.vx_dirty.proofs.Times.{by-passed, has-retired, IsTold}
use Rattle.vx_dirty.proofs.Lists.{Each, each-more, each-first, each-at, each-of-map, head_or, rest_of, is_empty}

module _ (start : Start) (history : History) (s : Flat) where
  abbrev pub its_footprint : Footprint
  its_footprint = footprint start.machine start.has_vectors start.residency s

  abbrev pub its_issue : Cycle
  its_issue = (entry_of start history s).issued

  -- its batches, and the walks of some of them and of those before
  abbrev pub its_batches : List BatchTimes
  its_batches = all_batches start history [] its_issue its_footprint its_footprint.batches

  abbrev pub walks_with : List BatchTimes → List Walk
  walks_with own = walks_of_batches (own ++ batches_of history)

  -- pages that haven't D behind walks are in a memory as in the state before
  abbrev pub Keeps : List Walk → Memory → Type 0
  Keeps walks memory = (n : ℕ) → is_dirty n (after_walks start.residency walks) ≡ false → page_numbered n memory ≡ page_numbered n s.memory

  -- it completes
  pub record HasStepped : Type 0 where
    pub next : Flat
    pub goes : step s ≡ Next next
    pub entries : map entry_of_page next.memory ≡ map entry_of_page s.memory
    pub keeps : Keeps (walks_with its_batches) next.memory

  -- it stops in a batch
  pub record HasStopped (own : List BatchTimes) (failure : Failure) : Type 0 where
    pub within : Keeps (walks_with own) (memory_within failure.element s)
    pub faults : failure.is_away ≡ false → is_faulted (ended_by (step s)) ≡ true → Keeps (walks_with own) (memory_in s (step s))

  pub record Facts : Type 0 where
    pub completes : (last : ℕ) → is_by last (entry_of start history s).retired ≡ true → HasStepped
    pub reaches : (newer older : List BatchTimes) (b : BatchTimes) (last : ℕ) → not_last its_batches ≡ newer ++ b ∷ older → is_by last b.committed ≡ true → Keeps (walks_with (b ∷ older)) (memory_within b.after s)
    pub stops : (newer older : List BatchTimes) (b : BatchTimes) (last : ℕ) (failure : Failure) → its_batches ≡ newer ++ b ∷ older → b.failure ≡ Some failure → is_by last b.looked_up ≡ true → HasStopped (b ∷ older) failure
    pub halts : (why : Ended) → its_footprint.stop ≡ Some why → is_faulted why ≡ true → memory_in s (step s) ≡ s.memory

-- ---- parts of a list of batches

module _ (f : Footprint) (below_of : ℕ → List Access) (whole : List Access) (start : Start) (history : History) where
  done-at : (newer older : List BatchTimes) (b : BatchTimes) → AreDone f below_of whole start history (newer ++ b ∷ older) → (last : ℕ) → is_by last b.looked_up ≡ true → IsDone f below_of whole start history (b ∷ older) b
  done-at [] older b h = h.0
  done-at (x ∷ newer) older b h = done-at newer older b h.1

  committed-at : (newer older : List BatchTimes) (b : BatchTimes) → AreCommitted f below_of whole start history (newer ++ b ∷ older) → (last : ℕ) → is_by last b.committed ≡ true → HasCommitted f below_of whole start history last b
  committed-at [] older b h = h.0
  committed-at (x ∷ newer) older b h = committed-at newer older b h.1

-- of a list but for its newest, a part of the list
record IsPart (own newer older : List BatchTimes) (b : BatchTimes) : Type 0 where
  pub newest : BatchTimes
  pub is : own ≡ (newest ∷ newer) ++ b ∷ older

part-of : (own newer older : List BatchTimes) (b : BatchTimes) → not_last own ≡ newer ++ b ∷ older → IsPart own newer older b
part-of [] [] older b h = absurd (true≢false (ap is_empty h))
part-of [] (x ∷ newer) older b h = absurd (true≢false (ap is_empty h))
part-of (x ∷ own) newer older b h = record { newest = x; is = ap (λ (l : List BatchTimes). x ∷ l) h }

never-both : (newer older : List BatchTimes) (b : BatchTimes) → ([] ≡ newer ++ b ∷ older) → ⊥
never-both [] older b h = true≢false (ap is_empty h)
never-both (x ∷ newer) older b h = true≢false (ap is_empty h)

none-of : (lower : List Access) (first : Access) (others : List Access) → [] ≡ lower ++ first ∷ others → ⊥
none-of [] first others e = true≢false (ap is_empty e)
none-of (y ∷ lower) first others e = true≢false (ap is_empty e)

module _ (L : Laws) (B : BatchLaws) (start : Start) (history : History) (s : Flat) (w : IsWellFormed s) (of : IsOf start.residency s.memory) (told : IsTold start history) where
  abbrev f : Footprint
  f = its_footprint start history s

  abbrev own : List BatchTimes
  own = its_batches start history s

  abbrev gone : List BatchTimes → List Walk
  gone = walks_with start history s

  none-runs : (why : Ended) → f.stop ≡ Some why → f.stop ≡ None → ⊥
  none-runs why is none = false≢true (sym (ap is_some none) ∙ ap is_some is)

  no-batches : f.batches ≡ [] → own ≡ []
  no-batches h = ap (all_batches start history [] (its_issue start history s) f) h

  -- ---- one that stops without an access

  when-stopping : IsStopping start.machine f s → Facts start history s
  when-stopping k = record {
    completes = λ last h. absurd (none-runs k.why k.stops (has-retired start history last s h).goes_on);
    reaches = λ newer older b last is h. absurd (never-both newer older b (sym (ap not_last (no-batches k.none)) ∙ is));
    stops = λ newer older b last failure is fails h. absurd (never-both newer older b (sym (no-batches k.none) ∙ is));
    halts = λ why is faults. k.keeps (ap (λ o. option_map_or is_faulted o false) (sym k.stops ∙ is) ∙ faults);
  }

  no-halt : f.stop ≡ None → (why : Ended) → f.stop ≡ Some why → is_faulted why ≡ true → memory_in s (step s) ≡ s.memory
  no-halt runs why is faults = absurd (none-runs why is runs)

  -- ---- one that touches no memory

  when-plain : IsPlain start.machine f s → Facts start history s
  when-plain k = record {
    completes = λ last h. record { next = k.next; goes = k.goes; entries = ap (map entry_of_page) k.keeps; keeps = λ n clean. ap (page_numbered n) k.keeps };
    reaches = λ newer older b last is h. absurd (never-both newer older b (sym (ap not_last (no-batches k.none)) ∙ is));
    stops = λ newer older b last failure is fails h. absurd (never-both newer older b (sym (no-batches k.none) ∙ is));
    halts = no-halt k.runs;
  }

  -- ---- the accesses that have passed, where it retires

  module _ (below_of : ℕ → List Access) (whole : List Access) (after : ℕ) (chains : IsChained f below_of whole start history own after) where
    -- all below the last element, or those below one that cut it off
    record IsTrimmed : Type 0 where
      pub newest : BatchTimes
      pub others : List BatchTimes
      pub is : own ≡ newest ∷ others
      pub done : IsDone f below_of whole start history own newest
      pub trimmed : newest.is_trimmed ≡ true

    ends-so : (batches : List BatchTimes) → own ≡ batches → AreDone f below_of whole start history batches → (newest_trimmed f below_of whole start history batches ≡ true) ⊎ AreReady f below_of whole start history batches after → (last : ℕ) → is_by last (generation_cycle start (its_issue start history s) batches) ≡ true
        → IsTrimmed ⊎ Each (Passes f below_of whole start history own) (below_of after)
    ends-so [] is done (inl trimmed) last h = absurd (false≢true trimmed)
    ends-so [] is done (inr ready) last h = inr (subst (λ l. Each (Passes f below_of whole start history l) (below_of after)) (sym is) ready)
    ends-so (b ∷ batches) is done (inl trimmed) last h = inl (record {
      newest = b;
      others = batches;
      is = is;
      done = subst (λ l. IsDone f below_of whole start history l b) (sym is) (done.0 last (by-passed last b h).1);
      trimmed = trimmed;
    })
    ends-so (b ∷ batches) is done (inr ready) last h = inr (subst (λ l. Each (Passes f below_of whole start history l) (below_of after)) (sym is) (ready last h))

    ends : (last : ℕ) → is_by last (entry_of start history s).retired ≡ true → IsTrimmed ⊎ Each (Passes f below_of whole start history own) (below_of after)
    ends last h = ends-so own refl chains.done chains.ends last (has-retired start history last s h).generated

  -- ---- a scalar load or store

  module _ (k : IsScalar start.machine f s) where
    abbrev one_below : ℕ → List Access
    one_below zero = []
    one_below (suc n) = k.access ∷ []

    one-link : (lower : List Access) (first : Access) (others : List Access) → k.access ∷ [] ≡ lower ++ first ∷ others → (rest : List Access) × ([] ++ lower ≡ one_below first.element ++ rest)
    one-link [] first others parts =
        let at : first.element ≡ 0 = sym (ap (λ l. (head_or first l).element) parts) ∙ k.first in
        ([], sym (ap (λ n. one_below n ++ []) at))
    one-link (x ∷ lower) first others parts = absurd (none-of lower first others (ap rest_of parts))

    one-chain : IsChain f one_below (k.access ∷ []) 0 (one_batch k.access)
    one-chain = (record { begins = refl; after = refl; tail = []; whole = refl; cut = one-link }, tt)

    one-chained : IsChained f one_below (k.access ∷ []) start history own 1
    one-chained =
        subst (λ bs. IsChained f one_below (k.access ∷ []) start history (all_batches start history [] (its_issue start history s) f bs) 1) (sym k.one)
        (chained f one_below (k.access ∷ []) start history (its_issue start history s) told.fetched 0 (one_batch k.access) one-chain told.batches refl)

    one-passes : (last : ℕ) → is_by last (entry_of start history s).retired ≡ true → IsGood start.residency (gone own) f.want k.access
    one-passes last h =
        ⊎_elim
        (λ t. absurd (true≢false (sym t.trimmed ∙ t.done.trimmed ∙ ap (λ b. trims b t.newest.failure) k.untrimmed)))
        (λ each. each.0)
        (ends one_below (k.access ∷ []) 1 one-chained last h)

    one-entries : (k.done.memory ≡ s.memory) ⊎ IsWriting start.machine f s k.access k.done → map entry_of_page k.done.memory ≡ map entry_of_page s.memory
    one-entries (inl same) = ap (map entry_of_page) same
    one-entries (inr h) = ap (map entry_of_page) h.writes ∙ number-entries s.memory k.access.address k.access.width h.value

    one-keeps : IsGood start.residency (gone own) f.want k.access → (k.done.memory ≡ s.memory) ⊎ IsWriting start.machine f s k.access k.done → Keeps start history s (gone own) k.done.memory
    one-keeps good (inl same) n clean = ap (page_numbered n) same
    one-keeps good (inr h) n clean =
        let apart = good-apart start.residency (gone own) n k.access (subst (λ want. IsGood start.residency (gone own) want k.access) h.want good) clean in
        ap (page_numbered n) h.writes ∙ number-elsewhere n k.access h.wide good.accepted apart s.memory h.value

    one-faults : (c : Option ℕ) → step s ≡ checked c s k.access.address k.done → is_faulted (ended_by (step s)) ≡ true → memory_in s (step s) ≡ s.memory
    one-faults None is h = absurd (false≢true (sym (ap (λ o. is_faulted (ended_by o)) is) ∙ h))
    one-faults (Some cause) is h = ap (memory_in s) is

    one-within : (element : ℕ) → memory_within element s ≡ s.memory
    one-within element = within-by (λ m. m ≡ s.memory) element s None k.no_transfer refl tt

    when-scalar : Facts start history s
    when-scalar = record {
      completes = λ last h.
          let good = one-passes last h in
          record {
            next = k.done;
            goes = k.goes ∙ ap (λ c. checked c s k.access.address k.done) (good-passes start.residency (gone own) s.memory f.want k.access of good);
            entries = one-entries k.keeps;
            keeps = one-keeps good k.keeps;
          };
      reaches = λ newer older b last is h n clean. ap (page_numbered n) (one-within b.after);
      stops = λ newer older b last failure is fails h. record {
        within = λ n clean. ap (page_numbered n) (one-within failure.element);
        faults = λ here faulted n clean. ap (page_numbered n) (one-faults (cause_of s.memory f.want k.access.address k.access.width) k.goes faulted);
      };
      halts = no-halt k.runs;
    }

  -- ---- a vector load or store

  module _ (k : IsTransfer start.machine f s) where
    abbrev t : Transfer
    t = k.transfer

    abbrev m : Movement
    m = t.movement

    abbrev lanes : ℕ
    lanes = start.machine.lanes

    abbrev most : ℕ
    most = start.machine.batch_limit

    abbrev lower_of : ℕ → List Access
    lower_of = below B f t lanes most

    abbrev whole_of : List Access
    whole_of = all B f t lanes most

    abbrev its_list : List Batch
    its_list = map (moved_batch t) (batches m lanes most)

    abbrev end_of : ℕ
    end_of = last_after f lower_of whole_of m.at.vstart its_list

    abbrev Good : List BatchTimes → Access → Type 0
    Good l = IsGood start.residency (gone l) f.want

    transfer-chained : IsChained f lower_of whole_of start history own end_of
    transfer-chained =
        subst (λ bs. IsChained f lower_of whole_of start history (all_batches start history [] (its_issue start history s) f bs) end_of) (sym k.all)
        (chained f lower_of whole_of start history (its_issue start history s) told.fetched m.at.vstart its_list (chain B f t lanes most) told.batches (none-below-first B f t lanes most))

    -- what has passed below an element leaves the pages without D
    below-keeps : (l : List BatchTimes) (element : ℕ) → Each (Good l) (lower_of element) → Keeps start history s (gone l) (below_done t element s).memory
    below-keeps l element good n clean =
        done-page t.direction m n k.wide 0 element s
        (λ stores.
        let want = k.want ∙ ap want_of stores in
        each-more (λ (x : vector.Access). Good l (moved_access t.direction m x)) (λ x. IsApart n (moved_access t.direction m x))
        (λ x h. record {
          accepted = h.accepted;
          apart = good-apart start.residency (gone l) n (moved_access t.direction m x) (subst (λ want. IsGood start.residency (gone l) want (moved_access t.direction m x)) want h) clean;
        })
        (accesses_between m 0 element)
        (each-of-map (Good l) (moved_access t.direction m) (accesses_between m 0 element) good))

    clear : (l : List BatchTimes) (accesses : List Access) → Each (Good l) accesses → Each (Clear t.direction m s.memory) accesses
    clear l accesses good =
        each-more (Good l) (Clear t.direction m s.memory)
        (λ x h. subst (λ want. cause_of s.memory want x.address x.width ≡ None) k.want (good-passes start.residency (gone l) s.memory f.want x of h))
        accesses good

    -- the first access that fails, where a batch failed at a page that isn't away
    failed-at : (l : List BatchTimes) (failure : Failure) → HasFailed f lower_of whole_of start history l failure → failure.is_away ≡ false → FailsAt t.direction m s.memory (access_list m) failure.element
    failed-at l failure h here =
        subst (FailsAt t.direction m s.memory (access_list m)) (sym h.element)
        (first-fails t.direction m s.memory (access_list m) h.lower h.first h.others h.parts (clear l h.lower h.good)
        (subst (λ want. is_some (cause_of s.memory want h.first.address h.first.width) ≡ true) k.want (fails-cause start.residency s.memory f.want h.first of (h.fails here))))

    failed-below : (l : List BatchTimes) (failure : Failure) → HasFailed f lower_of whole_of start history l failure → Each (Good l) (lower_of failure.element)
    failed-below l failure h = each-first (Good l) (lower_of failure.element) h.rest (subst (Each (Good l)) h.begins h.good)

    -- ---- it completes

    when-all : Each (Good own) (lower_of end_of) → HasStepped start history s
    when-all good =
        let every = all-through B f t lanes most (Good own) good in
        let next = passes-all t s (none-fails t.direction m s.memory (access_list m) (clear own whole_of every)) in
        record {
          next = _;
          goes = k.goes ∙ next;
          entries = below-entries t (movement_count m) s;
          keeps = below-keeps own (movement_count m) every;
        }

    not-first : (element : ℕ) → not (nat_eq element 0) ≡ true → ltb 0 element ≡ true
    not-first zero h = absurd (false≢true h)
    not-first (suc n) h = lt-ltb 0 (suc n) (omega arith)

    when-trimmed : (newest : BatchTimes) → IsDone f lower_of whole_of start history own newest → newest.is_trimmed ≡ true → HasStepped start history s
    when-trimmed newest done trimmed = by_failure newest.failure (subst (IsOver f lower_of whole_of start history own newest.after) refl done.over) (sym done.trimmed ∙ trimmed)
      where
        by_parts : (failure : Failure) → HasFailed f lower_of whole_of start history own failure → (first away zero_element : Bool) → f.is_fault_only_first ≡ first → failure.is_away ≡ away → nat_eq failure.element 0 ≡ zero_element → (first && (not away && not zero_element)) ≡ true → HasStepped start history s
        by_parts failure h true false false first here late is = record {
          next = _;
          goes = k.goes ∙ trims-at t s failure.element (failed-at own failure h here) (sym k.trims ∙ first) (not-first failure.element (ap not late));
          entries = below-entries t failure.element s;
          keeps = below-keeps own failure.element (failed-below own failure h);
        }
        by_parts failure h true false true first here late is = absurd (false≢true is)
        by_parts failure h true true false first here late is = absurd (false≢true is)
        by_parts failure h true true true first here late is = absurd (false≢true is)
        by_parts failure h false false false first here late is = absurd (false≢true is)
        by_parts failure h false false true first here late is = absurd (false≢true is)
        by_parts failure h false true false first here late is = absurd (false≢true is)
        by_parts failure h false true true first here late is = absurd (false≢true is)

        never-trims : (b : Bool) → (b && false) ≡ true → ⊥
        never-trims true h = false≢true h
        never-trims false h = false≢true h

        by_failure : (o : Option Failure) → IsOver f lower_of whole_of start history own newest.after o → trims f.is_fault_only_first o ≡ true → HasStepped start history s
        by_failure None h is = absurd (never-trims f.is_fault_only_first is)
        by_failure (Some failure) h is = by_parts failure h f.is_fault_only_first failure.is_away (nat_eq failure.element 0) refl refl refl is

    transfer-completes : (last : ℕ) → is_by last (entry_of start history s).retired ≡ true → HasStepped start history s
    transfer-completes last h =
        ⊎_elim (λ x. when-trimmed x.newest x.done x.trimmed) when-all (ends lower_of whole_of end_of transfer-chained last h)

    -- ---- it reaches an element, or stops at one

    within-keeps : (l : List BatchTimes) (element : ℕ) → Keeps start history s (gone l) (below_done t element s).memory → Keeps start history s (gone l) (memory_within element s)
    within-keeps l element h n clean = within-by (λ m. page_numbered n m ≡ page_numbered n s.memory) element s (Some t) k.comes refl (h n clean)

    done-of : (newer older : List BatchTimes) (b : BatchTimes) → own ≡ newer ++ b ∷ older → (last : ℕ) → is_by last b.looked_up ≡ true → IsDone f lower_of whole_of start history (b ∷ older) b
    done-of newer older b is = done-at f lower_of whole_of start history newer older b (subst (AreDone f lower_of whole_of start history) is transfer-chained.done)

    transfer-reaches : (newer older : List BatchTimes) (b : BatchTimes) (last : ℕ) → not_last own ≡ newer ++ b ∷ older → is_by last b.committed ≡ true → Keeps start history s (gone (b ∷ older)) (memory_within b.after s)
    transfer-reaches newer older b last is h =
        let part = part-of own newer older b is in
        let untrimmed = each-at (λ (b : BatchTimes). b.is_trimmed ≡ false) newer older b (subst (Each (λ (b : BatchTimes). b.is_trimmed ≡ false)) is transfer-chained.untrimmed) in
        let committed = committed-at f lower_of whole_of start history (part.newest ∷ newer) older b (subst (AreCommitted f lower_of whole_of start history) part.is transfer-chained.committed) last h in
        let done = done-of (part.newest ∷ newer) older b part.is last committed.looked_up in
        within-keeps (b ∷ older) b.after
        (below-keeps (b ∷ older) b.after (subst (IsOver f lower_of whole_of start history (b ∷ older) b.after) (committed.passes untrimmed) done.over))

    transfer-stops : (newer older : List BatchTimes) (b : BatchTimes) (last : ℕ) (failure : Failure) → own ≡ newer ++ b ∷ older → b.failure ≡ Some failure → is_by last b.looked_up ≡ true → HasStopped start history s (b ∷ older) failure
    transfer-stops newer older b last failure is fails h =
        let failed = subst (IsOver f lower_of whole_of start history (b ∷ older) b.after) fails (done-of newer older b is last h).over in
        let keeps = below-keeps (b ∷ older) failure.element (failed-below (b ∷ older) failure failed) in
        record {
          within = within-keeps (b ∷ older) failure.element keeps;
          faults = λ here faulted n clean. ap (page_numbered n) (ap (memory_in s) k.goes ∙ memory-fails t s failure.element (failed-at (b ∷ older) failure failed here)) ∙ keeps n clean;
        }

    when-transfer : Facts start history s
    when-transfer = record { completes = transfer-completes; reaches = transfer-reaches; stops = transfer-stops; halts = no-halt k.runs }

  pub facts : Facts start history s
  facts = ⊎_elim when-stopping (⊎_elim when-plain (⊎_elim when-scalar when-transfer)) (kind L start.machine s w start.has_vectors start.residency)
