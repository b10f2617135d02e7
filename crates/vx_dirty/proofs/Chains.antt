-- What an instruction's batches come to, one behind another: those behind which it goes on have passed all their accesses, and one
-- that fails has passed those below the first that fails.
use Rattle.std.proofs.Common.{◌≡◌, ℕ, Bool, true, false, not, List, [], ◌∷◌, ◌++◌, map, filter, reverse, if◌then◌else◌, refl, sym, ap, ◌∙◌, subst, inl, inr, append_assoc, arith}
use Rattle.std.specs.Prelude.{◌⊎◌, Option, Some, None, is_some, option_map, find}
use Rattle.std.proofs.lemmas.Bool.{false≢true, true≢false, le-leb}
use Rattle.vx_episode.specs.Batches.{Fate, Judged, is_failing, walks_of, fate_of, queue_cycle, judged, is_queued, failure_of, lowest_failure, trims, never_queued, start_cycle, commit_cycle, batch_started, batch_times, all_batches}
use Rattle.vx_episode.specs.Batches.Fate.{Good, Fails, Unknown}
use Rattle.vx_episode.specs.Commits.{not_last}
use Rattle.vx_episode.specs.Cycles.{Cycle, behind, is_by}
use Rattle.vx_episode.specs.Cycles.Cycle.{At, Never}
use Rattle.vx_episode.specs.Footprint.{Access, Batch, Footprint}
use Rattle.vx_episode.specs.History.{History, Walk, BatchTimes, AccessTimes, Failure, last_retire, stops, passed, batches_of, accesses_of, missing_of, batch_done, walks_of_batches, fetch_walks}
use Rattle.vx_episode.specs.Organisation.{Start}
use Rattle.vx_dirty.proofs.Fates.{IsFetch, IsGood, IsLookedUp, Fails_on, more-before, good-more, looks}
use Rattle.vx_dirty.proofs.Times.{by-each, by-passed, AreTold, started-behind, told-more}
use Rattle.vx_dirty.proofs.Lists.{Each, each-more, each-append, each-second, each-reverse}

-- ---- a batch that commits has queued all its accesses

find-none : {X : Type 0} (q : X → Bool) (xs : List X) → Each (λ x. q x ≡ false) xs → find q xs ≡ None
find-none q [] h = refl
find-none q (x ∷ xs) h = ap (λ b. if b then Some x else find q xs) h.0 ∙ find-none q xs h.1

-- an access that fails isn't queued
abbrev IsUnqueued : Judged → Type 0
IsUnqueued j = is_failing j.fate ≡ true → is_queued j.queued ≡ false

failing-unqueued : (lower : List Judged) (fate : Fate) → is_failing fate ≡ true → is_queued (queue_cycle lower fate) ≡ false
failing-unqueued lower (Good cycle word) h = absurd (false≢true h)
failing-unqueued lower (Fails cycle is_away) h = refl
failing-unqueued lower Unknown h = refl

judged-unqueued : (fate : Access → Fate) (accesses : List Access) (lower : List Judged) → Each IsUnqueued lower → Each IsUnqueued (judged fate lower accesses)
judged-unqueued fate [] lower h = h
judged-unqueued fate (a ∷ accesses) lower h =
    judged-unqueued fate accesses (record { access = a; fate = fate a; queued = queue_cycle lower (fate a) } ∷ lower) (failing-unqueued lower (fate a), h)

all-queued : (js : List Judged) → map (λ (j : Judged). j.access) (filter (λ (j : Judged). not (is_queued j.queued)) js) ≡ [] → Each (λ j. is_queued j.queued ≡ true) js
all-queued [] h = tt
all-queued (j ∷ js) h = by_test (is_queued j.queued) refl h (all-queued js)
  where
    is_empty : List Access → Bool
    is_empty [] = true
    is_empty (a ∷ accesses) = false

    by_test : (b : Bool) → is_queued j.queued ≡ b → map (λ (j : Judged). j.access) (if not b then j ∷ filter (λ (j : Judged). not (is_queued j.queued)) js else filter (λ (j : Judged). not (is_queued j.queued)) js) ≡ []
        → (map (λ (j : Judged). j.access) (filter (λ (j : Judged). not (is_queued j.queued)) js) ≡ [] → Each (λ j. is_queued j.queued ≡ true) js) → (is_queued j.queued ≡ true) × Each (λ j. is_queued j.queued ≡ true) js
    by_test true e h later = (e, later h)
    by_test false e h later = absurd (false≢true (ap is_empty h))

none-fails : (js : List Judged) → Each IsUnqueued js → Each (λ j. is_queued j.queued ≡ true) js → Each (λ j. is_failing j.fate ≡ false) js
none-fails [] h k = tt
none-fails (j ∷ js) h k = (by_test (is_failing j.fate) refl, none-fails js h.1 k.1)
  where
    by_test : (b : Bool) → is_failing j.fate ≡ b → b ≡ false
    by_test true e = absurd (true≢false (sym k.0 ∙ h.0 e))
    by_test false e = refl

queued-passes : (js : List Judged) (is_trimmed : Bool) → is_trimmed ≡ false → Each IsUnqueued js → never_queued is_trimmed js ≡ [] → lowest_failure js ≡ None
queued-passes js true is h none = absurd (true≢false is)
queued-passes js false is h none =
    ap (option_map failure_of) (find-none (λ (j : Judged). is_failing j.fate) (reverse js) (each-reverse (λ j. is_failing j.fate ≡ false) js (none-fails js h (all-queued js none))))

none-missing : (last : ℕ) (missing others : List Access) → Each (λ c. is_by last c ≡ true) (map (λ (a : Access). Never) (missing ++ others)) → missing ≡ []
none-missing last [] others h = refl
none-missing last (a ∷ missing) others h = absurd (false≢true h.0)

-- ---- the accesses of an instruction, and those below each element

module _ (f : Footprint) (below : ℕ → List Access) (all : List Access) where
  -- a batch goes on from an element: its accesses are those up to its last, and those below an element come first
  pub record IsLink (from : ℕ) (b : Batch) : Type 0 where
    pub begins : b.from ≡ from
    pub after : below b.after ≡ below b.from ++ b.accesses
    pub tail : List Access
    pub whole : all ≡ below b.after ++ tail
    pub cut : (lower : List Access) (first : Access) (others : List Access) → b.accesses ≡ lower ++ first ∷ others → (rest : List Access) × (below b.from ++ lower ≡ below first.element ++ rest)

  abbrev pub IsChain : (from : ℕ) → List Batch → Type 0
  IsChain from [] = Unit {0}
  IsChain from (b ∷ batches) = IsLink from b × IsChain b.after batches

  abbrev pub last_after : (from : ℕ) → List Batch → ℕ
  last_after from [] = from
  last_after from (b ∷ batches) = last_after b.after batches

  module _ (start : Start) (history : History) where
    abbrev gone : List BatchTimes → List Walk
    gone own = walks_of_batches (own ++ batches_of history)

    -- an access passes, behind these batches
    abbrev pub Passes : (own : List BatchTimes) → Access → Type 0
    Passes own a = IsGood start.residency (gone own) f.want a

    -- a batch failed: all accesses before the first that fails pass
    pub record HasFailed (own : List BatchTimes) (failure : Failure) : Type 0 where
      pub lower : List Access
      pub first : Access
      pub others : List Access
      pub parts : all ≡ lower ++ first ∷ others
      pub good : Each (Passes own) lower
      pub element : failure.element ≡ first.element
      pub rest : List Access
      pub begins : lower ≡ below failure.element ++ rest
      pub fails : failure.is_away ≡ false → Fails_on start.residency f.want first

    abbrev pub IsOver : (own : List BatchTimes) → (after : ℕ) → Option Failure → Type 0
    IsOver own after None = Each (Passes own) (below after)
    IsOver own after (Some failure) = HasFailed own failure

    -- a batch has looked up, behind the batches before it
    pub record IsDone (own : List BatchTimes) (b : BatchTimes) : Type 0 where
      pub over : IsOver own b.after b.failure
      pub trimmed : b.is_trimmed ≡ trims f.is_fault_only_first b.failure

    abbrev pub AreDone : List BatchTimes → Type 0
    AreDone [] = Unit {0}
    AreDone (b ∷ own) = ((last : ℕ) → is_by last b.looked_up ≡ true → IsDone (b ∷ own) b) × AreDone own

    -- a batch has committed
    pub record HasCommitted (last : ℕ) (b : BatchTimes) : Type 0 where
      pub looked_up : is_by last b.looked_up ≡ true
      pub passes : b.is_trimmed ≡ false → b.failure ≡ None

    abbrev pub AreCommitted : List BatchTimes → Type 0
    AreCommitted [] = Unit {0}
    AreCommitted (b ∷ own) = ((last : ℕ) → is_by last b.committed ≡ true → HasCommitted last b) × AreCommitted own

    -- where the last batch has passed, all accesses below an element pass
    abbrev pub AreReady : List BatchTimes → (from : ℕ) → Type 0
    AreReady [] from = Each (Passes []) (below from)
    AreReady (b ∷ own) from = (last : ℕ) → is_by last (passed b) ≡ true → Each (Passes (b ∷ own)) (below from)

    abbrev pub newest_trimmed : List BatchTimes → Bool
    newest_trimmed [] = false
    newest_trimmed (b ∷ own) = b.is_trimmed

    pub record IsChained (own : List BatchTimes) (after : ℕ) : Type 0 where
      pub done : AreDone own
      pub committed : AreCommitted own
      pub untrimmed : Each (λ (b : BatchTimes). b.is_trimmed ≡ false) (not_last own)
      pub ends : (newest_trimmed own ≡ true) ⊎ AreReady own after

    module _ (issued : Cycle) (fetched : Each IsFetch (fetch_walks history)) where
      -- ---- one batch

      module _ (own : List BatchTimes) (from : ℕ) (b : Batch) (link : IsLink from b) (told : AreTold start (own ++ batches_of history)) (ready : AreReady own from) where
        abbrev before : List BatchTimes
        before = own ++ batches_of history

        lower-passes : (last : ℕ) (own : List BatchTimes) → AreReady own from → is_by last (start_cycle start history (own ++ batches_of history) issued f.want b) ≡ true → Each (Passes own) (below b.from)
        lower-passes last [] ready h = subst (λ n. Each (Passes []) (below n)) (sym link.begins) ready
        lower-passes last (o ∷ own) ready h = subst (λ n. Each (Passes (o ∷ own)) (below n)) (sym link.begins) (ready last (started-behind start history issued f last o (own ++ batches_of history) b h))

        module _ (started : ℕ) (is : start_cycle start history before issued f.want b ≡ At started) where
          abbrev walks : List Walk
          walks = walks_of start history before f.want started [] b.accesses

          abbrev now : List Walk
          now = walks ++ walks_of_batches before

          abbrev js : List Judged
          js = judged (fate_of start history before f.want started walks) [] b.accesses

          lower : Each (IsGood start.residency now f.want) (below b.from)
          lower =
              each-more (Passes own) (IsGood start.residency now f.want)
              (λ a. good-more start.residency (walks_of_batches before) now (more-before start.residency walks (walks_of_batches before)) f.want a)
              (below b.from) (lower-passes started own ready (ap (is_by started) is ∙ le-leb started started (omega arith)))

          over-by : (times : BatchTimes) → times.walks ≡ walks → (o : Option Failure) → IsLookedUp start.residency now f.want b.accesses o → IsOver (times ∷ own) b.after o
          over-by times are None h =
              subst (λ ws. Each (IsGood start.residency (ws ++ walks_of_batches before) f.want) (below b.after)) (sym are)
              (subst (Each (IsGood start.residency now f.want)) (sym link.after) (each-append (IsGood start.residency now f.want) (below b.from) b.accesses lower h))
          over-by times are (Some failure) h =
              let cut = link.cut h.lower h.first h.others h.parts in
              record {
                lower = below b.from ++ h.lower;
                first = h.first;
                others = h.others ++ link.tail;
                parts =
                    link.whole
                    ∙ ap (λ l. l ++ link.tail) (link.after ∙ ap (λ l. below b.from ++ l) h.parts ∙ sym (append_assoc (below b.from) h.lower (h.first ∷ h.others)))
                    ∙ append_assoc (below b.from ++ h.lower) (h.first ∷ h.others) link.tail;
                good = subst (λ ws. Each (IsGood start.residency (ws ++ walks_of_batches before) f.want) (below b.from ++ h.lower)) (sym are) (each-append (IsGood start.residency now f.want) (below b.from) h.lower lower h.good);
                element = h.element;
                rest = cut.0;
                begins = cut.1 ∙ ap (λ n. below n ++ cut.0) (sym h.element);
                fails = h.fails;
              }

        started-done : (c : Cycle) → start_cycle start history before issued f.want b ≡ c → (committed : Cycle) → (last : ℕ) → is_by last (batch_started start history before f b c).looked_up ≡ true
            → IsDone (record (batch_started start history before f b c) { committed = committed } ∷ own) (record (batch_started start history before f b c) { committed = committed })
        started-done (At started) is committed last h =
            record {
              over = over-by started is (record (batch_started start history before f b (At started)) { committed = committed }) refl (lowest_failure (js started is)) (looks start history before f.want started fetched told.sound b.accesses);
              trimmed = refl;
            }
        started-done Never is committed last h = absurd (false≢true h)

        started-passes : (c : Cycle) (last : ℕ) → is_by last (batch_started start history before f b c).looked_up ≡ true → (batch_started start history before f b c).missing ≡ [] → (batch_started start history before f b c).is_trimmed ≡ false → (batch_started start history before f b c).failure ≡ None
        started-passes (At started) last h none untrimmed =
            let walks = walks_of start history before f.want started [] b.accesses in
            let fate = fate_of start history before f.want started walks in
            let js = judged fate [] b.accesses in
            queued-passes js (trims f.is_fault_only_first (lowest_failure js)) untrimmed (judged-unqueued fate b.accesses [] tt) none
        started-passes Never last h none untrimmed = absurd (false≢true h)

        abbrev times : BatchTimes
        times = batch_times start history before issued f b

        abbrev commit : Cycle
        commit = commit_cycle start history (map (λ (o : BatchTimes). o.looked_up) (times ∷ own)) (batch_done (times ∷ own))

        abbrev one : BatchTimes
        one = record times { committed = commit }

        one-done : (last : ℕ) → is_by last one.looked_up ≡ true → IsDone (one ∷ own) one
        one-done = started-done (start_cycle start history before issued f.want b) refl commit

        one-committed : (last : ℕ) → is_by last one.committed ≡ true → HasCommitted last one
        one-committed last h =
            let looked = map (λ (o : BatchTimes). o.looked_up) own in
            let each = by-each last (behind (last_retire start.cycle history) ∷ (times.looked_up ∷ looked) ++ batch_done (times ∷ own)) h in
            let done = each-second (λ c. is_by last c ≡ true) looked (batch_done (times ∷ own)) each.1.1 in
            let missing = each-second (λ c. is_by last c ≡ true) (map (λ (a : AccessTimes). At a.done) (accesses_of (times ∷ own))) (map (λ (a : Access). Never) (missing_of (times ∷ own))) done in
            record {
              looked_up = each.1.0;
              passes = started-passes (start_cycle start history before issued f.want b) last each.1.0 (none-missing last times.missing (missing_of own) missing);
            }

        after-is : (c : Cycle) → (batch_started start history before f b c).after ≡ b.after
        after-is (At started) = refl
        after-is Never = refl

        one-ready : one.is_trimmed ≡ false → AreReady (one ∷ own) b.after
        one-ready untrimmed last h =
            let looked = by-passed last one h in
            subst (λ n. Each (Passes (one ∷ own)) (below n)) (after-is (start_cycle start history before issued f.want b)) (by_failure one.failure refl (one-done last looked.1).over looked.0)
          where
            is_some_of : Option Failure → Bool
            is_some_of None = false
            is_some_of (Some failure) = true

            by_failure : (o : Option Failure) → one.failure ≡ o → IsOver (one ∷ own) one.after one.failure → stops one ≡ false → Each (Passes (one ∷ own)) (below one.after)
            by_failure None is h k = subst (IsOver (one ∷ own) one.after) is h
            by_failure (Some failure) is h k = absurd (true≢false (sym (stops-so one.is_trimmed one.failure untrimmed is) ∙ k))
              where
                stops-so : (t : Bool) (o : Option Failure) → t ≡ false → o ≡ Some failure → (if t then false else is_some o) ≡ true
                stops-so true o h k = absurd (true≢false h)
                stops-so false o h k = ap is_some k

      -- ---- all batches

      chained-all : (own : List BatchTimes) (from : ℕ) (batches : List Batch) → IsChain from batches → AreTold start (own ++ batches_of history) → AreDone own → AreCommitted own → Each (λ (b : BatchTimes). b.is_trimmed ≡ false) own → AreReady own from
          → IsChained (all_batches start history own issued f batches) (last_after from batches)
      chained-all own from [] chain told done committed untrimmed ready = record { done = done; committed = committed; untrimmed = others own untrimmed; ends = inr ready }
        where
          others : (own : List BatchTimes) → Each (λ (b : BatchTimes). b.is_trimmed ≡ false) own → Each (λ (b : BatchTimes). b.is_trimmed ≡ false) (not_last own)
          others [] h = tt
          others (b ∷ own) h = h.1
      chained-all own from (b ∷ batches) chain told done committed untrimmed ready =
          let link = chain.0 in
          let more = told-more start history issued f fetched own b told in
          let now = one own from b link told ready ∷ own in
          let all_done : AreDone now = (one-done own from b link told ready, done) in
          let all_committed : AreCommitted now = (one-committed own from b link told ready, committed) in
          by_test now (one own from b link told ready).is_trimmed
          (λ h. record { done = all_done; committed = all_committed; untrimmed = untrimmed; ends = inl h })
          (λ h. chained-all now b.after batches chain.1 more all_done all_committed (h, untrimmed) (one-ready own from b link told ready h))
        where
          by_test : (some : List BatchTimes) (t : Bool) → (t ≡ true → IsChained some (last_after b.after batches)) → (t ≡ false → IsChained (all_batches start history some issued f batches) (last_after b.after batches))
              → IsChained (elim t as (λ _. List BatchTimes) [ true ↦ some | false ↦ all_batches start history some issued f batches ]) (last_after b.after batches)
          by_test some true h k = h refl
          by_test some false h k = k refl

      pub chained : (from : ℕ) (batches : List Batch) → IsChain from batches → AreTold start (batches_of history) → below from ≡ [] → IsChained (all_batches start history [] issued f batches) (last_after from batches)
      chained from batches chain told none = chained-all [] from batches chain told tt tt tt (subst (Each (Passes [])) (sym none) tt)
