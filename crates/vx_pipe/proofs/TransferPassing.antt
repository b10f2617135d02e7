-- A vector load or store, an element further.
use Rattle.std.proofs.Common.{◌≡◌, ℕ, zero, suc, ◌+◌, ◌<◌, max, Bool, true, false, List, [], ◌∷◌, ◌++◌, length, map, refl, sym, ap, subst, ◌∙◌, inl, inr, arith}
use Rattle.std.specs.Prelude.{Option, Some, None, is_some, ◌&&◌, ◌||◌, not, nat_eq, nat_lt}
use Rattle.std.specs.List.{list_all}
use Rattle.std.proofs.lemmas.Bool.{and_parts, cases_Bool, eqb-true, ltb-true, ltb-false}
use Rattle.std.proofs.lemmas.Grind.{flat_map-append}
use Rattle.std.proofs.lemmas.List.Folds.{list_all-append}
use Rattle.std.proofs.lemmas.List.Sums.{list_all-from_AllPass}
use Rattle.std.proofs.lemmas.List.Elements.{All-append, All-same}
use Rattle.vx_base.specs.declared.machine.Want.{Want}
use Rattle.vx_cells.specs.Cells.{CellsState}
use Rattle.vx_flat.specs.Transfers.{Transfer, first_failure, is_fault_only_first, want_of}
use Rattle.vx_image.specs.Pages.{Memory}
use Rattle.vx_tables.specs.Residency.{IsOf}
use Rattle.vx_tlb.specs.declared.tlb.Kept.{Kept}
use Rattle.vx_vector.specs.Accesses.{Movement, accesses_between, accesses_of_element, movement_count}
use Rattle.vx_vector.specs.Accesses as vector
use Rattle.vx_episode.specs.Batches.{Fate, batch_started, trims, with_commit}
use Rattle.vx_episode.specs.Commits.{Happening, happening}
use Rattle.vx_episode.specs.Commits.What.{Reaches}
use Rattle.vx_episode.specs.Cycles.Cycle.{At}
use Rattle.vx_episode.specs.Footprint.{Access, Batch, Footprint, moved_access}
use Rattle.vx_episode.specs.History.{History, Entry, Walk, BatchTimes, AccessTimes, Failure, accesses_of, batches_of, data_walks, walks_of_batches}
use Rattle.vx_episode.specs.Organisation.{Start}
use Rattle.vx_batching.specs.Batching.{IsReached, next_times, reached}
use Rattle.vx_ending.specs.Counts.{changes_in, commits_in}
use Rattle.vx_serve.specs.InTurn.{failure_at, is_good}
use Rattle.vx_serve.specs.Serving.{failing_from}
use Rattle.vx_serve.specs.Stamps.{BankStamps}
use Rattle.vx_serve.specs.declared.served.Failing.{Failing}
use Rattle.vx_pipe.specs.Passing.{AreBelow, AreCounted, AreFrom, AreTrue, IsPassing, IsSet, IsStopped, IsThrough}
use Rattle.vx_pipe.specs.Transfers.{HasGone, element_batch, own_fate, own_walks}
use Rattle.vx_pipe.specs.declared.passing.Passing.{Passing}
use Rattle.vx_pipe.specs.declared.transfers.Gone.{Gone}
use Rattle.vx_pipe.proofs.AccessFates.{StayThere, fate-agrees}
use Rattle.vx_pipe.proofs.AccessFates as fates
use Rattle.vx_pipe.proofs.AccessTruths.{IsAnswered, PagesStay, walks-answered}
use Rattle.vx_pipe.proofs.TransferElements.{accesses-are}
use Rattle.vx_pipe.proofs.TransferFates.{all-good}
use Rattle.vx_pipe.proofs.TransferServed.{AreInTurn, served-pass}
use Rattle.vx_pipe.proofs.TransferSteps.{BatchIsCutOff, BatchPasses, BatchStarts, cut-off, gone-next, passes}
use Rattle.vx_pipe.proofs.TransferValues.{AreTold, IsFound, all-element, between-next, cut-next, failing-at, found, free-append, free-good, stop-faults}

-- what the laws below say
pub record PassLaws : Type 0 where
  pub starts : BatchStarts
  pub goes : BatchPasses
  pub cut : BatchIsCutOff
  pub more : (start : Start) (history : History) (retired issued : ℕ) (f : Footprint) (last : BatchTimes) (own : List BatchTimes) (rest : List Batch) (looked committed before done : ℕ) (e : Entry)
      → IsReached start history retired issued f (last ∷ own) rest looked committed before done
      → reached e (last ∷ own) ≡ reached e own ++ happening e (Reaches last.after) committed ∷ []
  pub commits : (some others : List Happening) → commits_in (some ++ others) ≡ commits_in some + commits_in others
  pub changes : (some others : List Happening) → changes_in (some ++ others) ≡ (changes_in some || changes_in others)
  pub pages : PagesStay
  pub stay : StayThere
  pub turns : AreInTurn

is-none : {A : Type 0} (o : Option A) → is_some o ≡ false → o ≡ None
is-none None h = refl
is-none (Some x) h = absurd (cc)

pub there-is : {A : Type 0} (o : Option A) → is_some o ≡ true → (x : A) × (o ≡ Some x)
there-is None h = absurd (cc)
there-is (Some x) h = (x, refl)

lt-pos : (n : ℕ) → nat_lt 0 (suc n) ≡ true
lt-pos n =
    elim (cases_Bool (nat_lt 0 (suc n))) [
      | inl holds ↦ holds
      | inr fails ↦ absurd (omega (arith, ltb-false 0 (suc n) fails))
    ]

not-zero : (n : ℕ) → nat_eq (suc n) 0 ≡ false
not-zero n =
    elim (cases_Bool (nat_eq (suc n) 0)) [
      | inl holds ↦ absurd (omega (arith, eqb-true (suc n) 0 holds))
      | inr fails ↦ fails
    ]

lt-more : (n i : ℕ) → nat_lt n i ≡ true → nat_lt n (i + 1) ≡ true
lt-more n i h =
    elim (cases_Bool (nat_lt n (i + 1))) [
      | inl holds ↦ holds
      | inr fails ↦ absurd (omega (arith, ltb-true n i h, ltb-false n (i + 1) fails))
    ]

lt-self : (i : ℕ) → nat_lt i i ≡ false
lt-self i =
    elim (cases_Bool (nat_lt i i)) [
      | inl holds ↦ absurd (omega (arith, ltb-true i i holds))
      | inr fails ↦ fails
    ]

lt-next : (i : ℕ) → nat_lt i (i + 1) ≡ true
lt-next i =
    elim (cases_Bool (nat_lt i (i + 1))) [
      | inl holds ↦ holds
      | inr fails ↦ absurd (omega (arith, ltb-false i (i + 1) fails))
    ]

below-more : (i : ℕ) (accesses : List AccessTimes) → AreBelow i accesses → AreBelow (i + 1) accesses
below-more i [] h = refl
below-more i (a ∷ accesses) h =
    let parts = and_parts (nat_lt a.access.element i) (list_all (λ (a : AccessTimes). nat_lt a.access.element i) accesses) h in
    let one : nat_lt a.access.element (i + 1) ≡ true = lt-more a.access.element i parts.0 in
    (λ j. one j && below-more i accesses parts.1 j)

-- a fault-only-first load is cut off at an element above 0
cuts-at : (fof : Bool) (i : ℕ) → (fof && (true && not (nat_eq i 0))) ≡ (fof && nat_lt 0 i)
cuts-at fof zero = refl
cuts-at fof (suc i) = (λ j. fof && (true && not (not-zero i j))) ∙ sym (λ j. fof && lt-pos i j)

pub counted-none : AreCounted []
counted-none = record { commits = λ e. refl; changes = λ e h. refl }

changes-or : (b c : Bool) → c ≡ true → (b || (true && c || false)) ≡ true
changes-or true c h = refl
changes-or false c h = ap (λ (x : Bool). true && x || false) h

pub counted-more : PassLaws → (start : Start) (history : History) (retired issued : ℕ) (f : Footprint) (last : BatchTimes) (own : List BatchTimes) (rest : List Batch) (looked committed before done : ℕ)
    → IsReached start history retired issued f (last ∷ own) rest looked committed before done → AreCounted own → AreCounted (last ∷ own)
counted-more laws start history retired issued f last own rest looked committed before done so counted = record {
  commits = λ e. let more : length own + 1 ≡ suc (length own) = omega arith in
      ap commits_in (laws.more start history retired issued f last own rest looked committed before done e so)
      ∙ laws.commits (reached e own) (happening e (Reaches last.after) committed ∷ [])
      ∙ ap (λ (n : ℕ). n + 1) (counted.commits e) ∙ more;
  changes = λ e h. ap changes_in (laws.more start history retired issued f last own rest looked committed before done e so)
      ∙ laws.changes (reached e own) (happening e (Reaches last.after) committed ∷ [])
      ∙ changes-or (changes_in (reached e own)) e.footprint.changes_vectors h ∙ sym (lt-pos (length own));
}

module _ (laws : PassLaws) (start : Start) (history : History) (e : Entry) (retired issued : ℕ) (f : Footprint) (t : Transfer) (i : ℕ) (rest : List Batch) (n : Passing) (root : ℕ) (places now : List (Option Kept)) (stamps banked : BankStamps) (first cells after : CellsState) (bank_time : ℕ) (want : Want) (m : Movement)
    (s : IsSet start history e f t bank_time want m) (at : IsPassing start history e retired issued f t i (element_batch t i ∷ rest) n root places stamps first cells) (gone : Gone) (begun : ℕ) (begun-is : begun ≡ max n.looked n.before + 1)
    (has : HasGone start history e (at.own ++ batches_of history) f begun (element_batch t i) (batch_started start history (at.own ++ batches_of history) f (element_batch t i) (At begun)) root now banked cells after gone) where
  abbrev b : Batch
  b = element_batch t i

  abbrev earlier : List BatchTimes
  earlier = at.own ++ batches_of history

  abbrev started : ℕ
  started = max n.looked n.before + 1

  abbrev times : BatchTimes
  times = next_times start history issued f at.own b

  its : HasGone start history e earlier f started b times root now banked cells after gone
  its = gone-next start history e retired issued f at.own b rest n.looked n.committed n.before n.done root places now stamps banked first cells after at.transferring laws.starts gone
      (subst (λ (k : ℕ). HasGone start history e (at.own ++ batches_of history) f k (element_batch t i) (batch_started start history (at.own ++ batches_of history) f (element_batch t i) (At k)) root now banked cells after gone) begun-is has)

  abbrev fate : Access → Fate
  fate = own_fate start history earlier f.want started b.accesses

  earlier-true : AreTrue start.residency (walks_of_batches earlier)
  earlier-true =
      All-same (IsAnswered start.residency) (walks_of_batches earlier) (walks_of_batches at.own ++ data_walks history) (flat_map-append (λ (b : BatchTimes). b.walks) at.own (batches_of history))
      (All-append (IsAnswered start.residency) (walks_of_batches at.own) (data_walks history) at.answered s.answered)

  own-true : AreTrue start.residency times.walks
  own-true =
      subst (λ (ws : List Walk). AreTrue start.residency ws) (sym its.walks_are) (walks-answered start history earlier f.want started [] b.accesses (λ k d less. absurd (omega arith)))

  told : (memory : Memory) → IsOf start.residency memory → AreTold (want_of t.direction) memory fate
  told memory of =
      subst (λ (w : Want). AreTold w memory fate) (s.wants ∙ sym s.wanted)
      (λ a. fate-agrees laws.pages laws.stay start history earlier f.want started (own_walks start history earlier f.want started b.accesses) a memory s.present of earlier-true
      (fates.own-walks start history earlier f.want started b.accesses))

  abbrev mine : List vector.Access
  mine = accesses_of_element t.movement i

  abbrev timed : List Access
  timed = map (moved_access t.direction t.movement) mine

  accesses-is : b.accesses ≡ timed
  accesses-is = ap (map (moved_access t.direction t.movement)) (accesses-are t.movement i)

  served-all : (q : ℕ → Bool) → q i ≡ true → list_all (λ (a : AccessTimes). q a.access.element) times.accesses ≡ true
  served-all q h =
      ap (list_all (λ (a : AccessTimes). q a.access.element)) its.accesses_are
      ∙ served-pass laws.turns start.machine (accesses_of earlier) fate b.accesses (λ (a : Access). q a.element)
      (ap (list_all (λ (a : Access). q a.element)) accesses-is ∙ all-element t.direction t.movement i q h)

  own-below : AreBelow (i + 1) times.accesses
  own-below = served-all (λ (k : ℕ). nat_lt k (i + 1)) (lt-next i)

  own-above : AreFrom i times.accesses
  own-above = served-all (λ (k : ℕ). not (nat_lt k i)) (ap not (lt-self i))

  all-below : AreBelow (i + 1) (times.accesses ++ accesses_of at.own)
  all-below =
      list_all-append (λ (a : AccessTimes). nat_lt a.access.element (i + 1)) times.accesses (accesses_of at.own)
      ∙ (λ j. own-below j && below-more i (accesses_of at.own) at.below j)

  counts-more : t.movement.at.vstart + suc (length at.own) ≡ i + 1
  counts-more = omega (arith, at.count)

  -- ---- none fails

  pub goes : is_some gone.failing ≡ false
      → IsPassing start history e retired issued f t (i + 1) rest (record { looked = gone.looked; committed = max n.committed (max gone.looked gone.done); before = n.committed; done = max n.done gone.done }) root now banked first after
  goes fine =
      let none : gone.failing ≡ None = is-none gone.failing fine in
      let so = passes start history e retired issued f at.own b rest n.looked n.committed n.before n.done root places now stamps banked first cells after at.transferring laws.goes gone its none in
      let good : list_all (λ (a : Access). is_good (fate a)) timed ≡ true =
      ap (list_all (λ (a : Access). is_good (fate a))) (sym accesses-is)
      ∙ list_all-from_AllPass (λ (a : Access). is_good (fate a)) b.accesses (all-good start history earlier f.want started [] b.accesses 0 (sym its.fates ∙ none)) in
      record {
        own = with_commit start history at.own times;
        transferring = so;
        count = counts-more;
        ends = its.after_is;
        counted = counted-more laws start history retired issued f _ at.own rest gone.looked (max n.committed (max gone.looked gone.done)) n.committed (max n.done gone.done) so.reached at.counted;
        answered = All-append (IsAnswered start.residency) times.walks (walks_of_batches at.own) own-true at.answered;
        below = all-below;
        free = λ memory of. ap (first_failure t.direction memory) (between-next t.movement i)
            ∙ free-append t.direction memory (accesses_between t.movement 0 i) mine (at.free memory of)
            ∙ free-good t.direction memory t.movement fate mine (told memory of) good;
      }

  -- ---- one fails

  module _ (within : i < movement_count t.movement) (fl : Failing) (some : gone.failing ≡ Some fl) where
    finds : (memory : Memory) → IsOf start.residency memory → IsFound t.direction memory mine timed 0 fl
    finds memory of =
        found t.direction memory t.movement fate mine 0 fl (told memory of)
        (ap (λ (xs : List Access). failing_from 0 (map fate xs)) (sym accesses-is) ∙ sym its.fates ∙ some)

    module _ (memory : Memory) (of : IsOf start.residency memory) where
      abbrev place : (x : Failure) × (failure_at timed (Some fl) ≡ Some x) × ((x.element ≡ i) × (x.is_away ≡ false))
      place = failing-at t.movement t.direction i memory mine fl (finds memory of)

      failure-is : times.failure ≡ Some place.0
      failure-is = its.failure ∙ ap (failure_at b.accesses) some ∙ ap (λ (xs : List Access). failure_at xs (Some fl)) accesses-is ∙ place.1

      trimmed-by : (x : Failure) → times.failure ≡ Some x → x.element ≡ i → x.is_away ≡ false → times.is_trimmed ≡ (is_fault_only_first m.addressing && nat_lt 0 i)
      trimmed-by x is element there =
          its.is_trimmed
          ∙ (λ j. trims (s.trims j) (is j))
          ∙ (λ j. is_fault_only_first m.addressing && (not (there j) && not (nat_eq (element j) 0)))
          ∙ cuts-at (is_fault_only_first m.addressing) i

      trimmed-is : times.is_trimmed ≡ (is_fault_only_first m.addressing && nat_lt 0 i)
      trimmed-is = trimmed-by place.0 failure-is place.2.0 place.2.1

    same-addressing : (is_fault_only_first t.movement.addressing && nat_lt 0 i) ≡ (is_fault_only_first m.addressing && nat_lt 0 i)
    same-addressing = ap (λ (x : Movement). is_fault_only_first x.addressing && nat_lt 0 i) s.moved

    pub completes : (is_fault_only_first m.addressing && nat_lt 0 i) ≡ true
        → IsThrough start history e retired issued f t i (record { looked = gone.looked; committed = max n.committed (max gone.looked gone.done); before = n.committed; done = max n.done gone.done }) root now banked first after
    completes cuts = record {
      own = at.own;
      last = _;
      transferring = cut-off start history e retired issued f at.own b rest n.looked n.committed n.before n.done root places now stamps banked first cells after at.transferring laws.cut gone its (trimmed-is s.memory s.of ∙ cuts);
      count = at.count;
      commits = at.counted.commits;
      completes = λ u isof. cut-next t u i (finds u.memory isof).failure within (at.free u.memory isof) (finds u.memory isof).fails (same-addressing ∙ cuts);
    }

    pub stops : (is_fault_only_first m.addressing && nat_lt 0 i) ≡ false
        → IsStopped start history e retired issued f t i (record { looked = gone.looked; committed = n.committed; before = n.before; done = max n.done gone.done }) root now first after
    stops cuts-not = record {
      own = at.own;
      b = b;
      rest = rest;
      looked = n.looked;
      done = n.done;
      failing = (place s.memory s.of).0;
      reached = at.transferring.reached;
      fails = failure-is s.memory s.of;
      trims_not = trimmed-is s.memory s.of ∙ cuts-not;
      looked_up = its.looked_up;
      all_done = ap (λ (d : ℕ). max n.done d) its.done;
      from = refl;
      element = (place s.memory s.of).2.0;
      there = (place s.memory s.of).2.1;
      below = at.below;
      above = own-above;
      count = at.count;
      counted = at.counted;
      ready = record { kept = its.ready.kept; held = its.ready.held };
      frames = its.frames ∙ at.transferring.frames;
      cycle = its.cycle ∙ at.transferring.cycle;
      others = λ word out. its.others word out ∙ at.transferring.others word out;
      faults = λ u isof. stop-faults t u i (finds u.memory isof).failure within (at.free u.memory isof) (finds u.memory isof).fails (same-addressing ∙ cuts-not);
    }
