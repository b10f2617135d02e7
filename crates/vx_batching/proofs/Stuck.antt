-- Behind a batch that stops none starts.
use Rattle.std.proofs.Common.{◌≡◌, ℕ, ◌+◌, Bool, true, false, List, [], ◌∷◌, ◌++◌, refl, ap, ◌∙◌}
use Rattle.std.specs.Prelude.{◌&&◌, not, nat_le, map, filter, if◌then◌else◌}
use Rattle.std.specs.List.{list_all}
use Rattle.std.proofs.lemmas.Bool.{and_parts, false≢true}
use Rattle.vx_tables.specs.Residency.{is_store}
use Rattle.vx_episode.specs.Batches.{start_cycle, with_commit, not_started, batch_started, all_batches}
use Rattle.vx_episode.specs.Cycles.{Cycle, behind, later_of, latest}
use Rattle.vx_episode.specs.Cycles.Cycle.{At, Never}
use Rattle.vx_episode.specs.Footprint.{Access, Batch, Footprint}
use Rattle.vx_episode.specs.History.{History, Walk, BatchTimes, AccessTimes, last_retire, word_ready, stops, passed, commit_before_last, batches_of, accesses_of, missing_of, batch_done, walks_of_batches}
use Rattle.vx_episode.specs.Organisation.{Start}
use Rattle.vx_batching.proofs.Later.{IsMore, no-more, one-more, commit_of, with_its_commit, is_late}
use Rattle.vx_batching.proofs.Lists.{all-more}
use Rattle.vx_batching.proofs.Passing.{ends_of}
use Rattle.vx_batching.proofs.Times.{latest-append, latest-missing, later_of-never}

abbrev pub is_empty : {A : Type 0} → List A → Bool
is_empty [] = true
is_empty (x ∷ xs) = false

pub empty-is : {A : Type 0} (xs : List A) → is_empty xs ≡ true → xs ≡ []
empty-is [] h = refl
empty-is (x ∷ xs) h = absurd (false≢true h)

abbrev pub is_never : Cycle → Bool
is_never (At c) = false
is_never Never = true

pub never-is : (c : Cycle) → is_never c ≡ true → c ≡ Never
never-is (At c) h = absurd (false≢true h)
never-is Never h = refl

-- a batch that never starts
abbrev pub is_idle : BatchTimes → Bool
is_idle b = is_empty b.accesses && (is_empty b.walks && (not (stops b) && (is_never (passed b) && is_never b.committed)))

pub record IsIdle (b : BatchTimes) : Type 0 where
  pub accesses : b.accesses ≡ []
  pub walks : b.walks ≡ []
  pub stopping : stops b ≡ false
  pub passing : passed b ≡ Never
  pub committing : b.committed ≡ Never

not-true : (b : Bool) → not b ≡ true → b ≡ false
not-true true h = absurd (false≢true h)
not-true false h = refl

pub idle-is : (b : BatchTimes) → is_idle b ≡ true → IsIdle b
idle-is b h =
    let one = and_parts (is_empty b.accesses) (is_empty b.walks && (not (stops b) && (is_never (passed b) && is_never b.committed))) h in
    let two = and_parts (is_empty b.walks) (not (stops b) && (is_never (passed b) && is_never b.committed)) one.1 in
    let three = and_parts (not (stops b)) (is_never (passed b) && is_never b.committed) two.1 in
    let four = and_parts (is_never (passed b)) (is_never b.committed) three.1 in
    record { accesses = empty-is b.accesses one.0; walks = empty-is b.walks two.0; stopping = not-true (stops b) three.0; passing = never-is (passed b) four.0; committing = never-is b.committed four.1 }

more-eq : (p : BatchTimes → Bool) (xs ys own : List BatchTimes) → xs ≡ ys → IsMore p ys own → IsMore p xs own
more-eq p xs ys own e more = record { later = more.later; are = e ∙ more.are; each = more.each }

module _ (start : Start) (history : History) where
  -- ---- commits that never come

  never-ends : (own : List BatchTimes) (b : BatchTimes) → b.looked_up ≡ Never → commit_of start history (b ∷ own) ≡ Never
  never-ends own b e =
      ap (λ (c : Cycle). later_of (behind (last_retire start.cycle history)) (later_of c (latest (ends_of own ++ batch_done (b ∷ own))))) e
      ∙ later_of-never (behind (last_retire start.cycle history))

  empty-first : {A : Type 0} (xs ys : List A) → xs ++ ys ≡ [] → xs ≡ []
  empty-first [] ys e = refl
  empty-first (x ∷ xs) ys e = absurd (cc)

  pub commit-missing : (own : List BatchTimes) (b : BatchTimes) → (b.missing ≡ [] → false ≡ true) → commit_of start history (b ∷ own) ≡ Never
  commit-missing own b some =
      let at : AccessTimes → Cycle = λ (a : AccessTimes). At a.done in
      let out : Access → Cycle = λ (a : Access). Never in
      let retire : Cycle = behind (last_retire start.cycle history) in
      let missing : List Access = missing_of (b ∷ own) in
      let dones : latest (batch_done (b ∷ own)) ≡ Never =
      latest-append (map at (accesses_of (b ∷ own))) (map out missing)
      ∙ ap (later_of (latest (map at (accesses_of (b ∷ own))))) (latest-missing missing (λ e. some (empty-first b.missing (missing_of own) e)))
      ∙ later_of-never (latest (map at (accesses_of (b ∷ own)))) in
      ap (λ (c : Cycle). later_of retire (later_of b.looked_up c)) (latest-append (ends_of own) (batch_done (b ∷ own)) ∙ ap (later_of (latest (ends_of own))) dones ∙ later_of-never (latest (ends_of own)))
      ∙ ap (later_of retire) (later_of-never b.looked_up)
      ∙ later_of-never retire

  -- ---- batches that never start

  stuck-start : (t : ℕ) (f : Footprint) (x : BatchTimes) (others : List BatchTimes) (b : Batch) → passed x ≡ Never → start_cycle start history (x ∷ others) (At t) f.want b ≡ Never
  stuck-start t f x others b e =
      ap (λ (c : Cycle). later_of (At (t + 1)) (later_of (behind c) (latest (map behind (commit_before_last (x ∷ others)) ++ map (word_ready start.cycle history) b.sources ++ (if is_store f.want then behind (last_retire start.cycle history) ∷ [] else []))))) e

  idle-now : (own : List BatchTimes) (b : Batch) → is_idle (with_its_commit start history own (not_started start history b)) ≡ true
  idle-now own b = ap is_never (never-ends own (not_started start history b) refl)

  pub all-idle : (t : ℕ) (f : Footprint) (bs : List Batch) (x : BatchTimes) (own : List BatchTimes) → passed x ≡ Never → IsMore is_idle (all_batches start history (x ∷ own) (At t) f bs) (x ∷ own)
  all-idle t f [] x own e = no-more is_idle (x ∷ own)
  all-idle t f (b ∷ bs) x own e =
      let acc : List BatchTimes = x ∷ own in
      let before : List BatchTimes = acc ++ batches_of history in
      let now : BatchTimes = with_its_commit start history acc (not_started start history b) in
      more-eq is_idle (all_batches start history acc (At t) f (b ∷ bs)) (all_batches start history (now ∷ acc) (At t) f bs) acc
      (ap (λ (c : Cycle). elim ((batch_started start history before f b c).is_trimmed) as (λ _. List BatchTimes) [
        | true ↦ with_commit start history acc (batch_started start history before f b c)
        | false ↦ all_batches start history (with_commit start history acc (batch_started start history before f b c)) (At t) f bs
      ]) (stuck-start t f x (own ++ batches_of history) b e))
      (one-more is_idle (all_batches start history (now ∷ acc) (At t) f bs) acc now (idle-now acc b) (all-idle t f bs now acc refl))

  -- ---- what they come to

  pub idle-accesses : (later : List BatchTimes) → list_all is_idle later ≡ true → accesses_of later ≡ []
  idle-accesses [] h = refl
  idle-accesses (b ∷ later) h =
      let parts = and_parts (is_idle b) (list_all is_idle later) h in
      let here = idle-is b parts.0 in
      (λ i. here.accesses i ++ idle-accesses later parts.1 i)

  pub idle-walks : (later : List BatchTimes) → list_all is_idle later ≡ true → walks_of_batches later ≡ []
  idle-walks [] h = refl
  idle-walks (b ∷ later) h =
      let parts = and_parts (is_idle b) (list_all is_idle later) h in
      let here = idle-is b parts.0 in
      (λ i. here.walks i ++ idle-walks later parts.1 i)

  pub idle-stops : (later : List BatchTimes) → list_all is_idle later ≡ true → filter stops later ≡ []
  idle-stops [] h = refl
  idle-stops (b ∷ later) h =
      let parts = and_parts (is_idle b) (list_all is_idle later) h in
      let here = idle-is b parts.0 in
      ap (λ (s : Bool). if s then b ∷ filter stops later else filter stops later) here.stopping ∙ idle-stops later parts.1

  late-one : (last : ℕ) (b : BatchTimes) → is_idle b ≡ true → is_late start history last b ≡ true
  late-one last b h =
      let here = idle-is b h in
      (λ i. list_all (λ (a : AccessTimes). nat_le (last + 1) a.queued) (here.accesses i) && list_all (λ (w : Walk). nat_le (last + 1) w.begun && nat_le (last + 1) w.ended) (here.walks i))

  pub idle-late : (last : ℕ) (later : List BatchTimes) → list_all is_idle later ≡ true → list_all (is_late start history last) later ≡ true
  idle-late last later h = all-more is_idle (is_late start history last) (late-one last) later h
