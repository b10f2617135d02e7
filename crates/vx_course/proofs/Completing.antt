-- An instruction retires no earlier than anything that happens of it: behind a quiet history it retires at a cycle, and nothing of it
-- comes later, or it never does.
use Rattle.std.proofs.Common.{◌≡◌, ℕ, ◌+◌, Bool, true, false, List, [], ◌∷◌, ◌++◌, refl, sym, ap, ◌∙◌, arith, append-nil}
use Rattle.std.specs.Prelude.{nat_le, map, filter, flat_map, reverse, Option, Some, None, if◌then◌else◌}
use Rattle.std.specs.List.{list_all}
use Rattle.std.proofs.lemmas.Bool.{and_parts, and_from, false≢true, le-leb}
use Rattle.vx_flat.specs.State.{Flat}
use Rattle.vx_episode.specs.Commits.{What, Happening, happening, timed, batch_commit, not_last, serial_stop, batch_stop_by, happenings_of}
use Rattle.vx_episode.specs.Commits.What.{Completes, Reaches}
use Rattle.vx_episode.specs.Cycles.{Cycle, behind, later_of, is_by, cycles_of}
use Rattle.vx_episode.specs.Cycles.Cycle.{At, Never}
use Rattle.vx_episode.specs.Footprint.{Footprint}
use Rattle.vx_episode.specs.History.{History, Entry, BatchTimes, last_retire, stops, passed, batches_of}
use Rattle.vx_episode.specs.Instructions.{retire_cycle}
use Rattle.vx_episode.specs.Organisation.{Start}
use Rattle.vx_episode.specs.declared.ended.Ended.{Ended}
use Rattle.vx_quiet.specs.Quiet.{IsQuiet}
use Rattle.vx_course.proofs.From.{is_from}
use Rattle.vx_course.proofs.Late.{all-not_last}
use Rattle.vx_course.proofs.Lists.{all-both, all-parts, all-more, all-flat_map, all-reverse, filter-none}

-- ---- one that retires at a cycle

pub record RetiresAt (e : Entry) (k : ℕ) : Type 0 where
  pub retired : e.retired ≡ At k
  pub stop : e.footprint.stop ≡ None
  pub passed : list_all (λ (b : BatchTimes). is_by k (passed b)) e.batches ≡ true
  pub committed : list_all (λ (b : BatchTimes). is_by k b.committed) e.batches ≡ true

not-stopped : (k : ℕ) (b : Bool) (c : Cycle) → is_by k (if b then Never else c) ≡ true → b ≡ false
not-stopped k true c h = absurd (false≢true h)
not-stopped k false c h = refl

happen-by : (k : ℕ) (e : Entry) (what : What) (c : Cycle) → is_by k c ≡ true → list_all (λ (h : Happening). nat_le h.cycle k) (map (happening e what) (cycles_of c)) ≡ true
happen-by k e what (At c) h = and_from (nat_le c k) true h refl
happen-by k e what Never h = refl

module _ (e : Entry) (k : ℕ) (is : RetiresAt e k) (before : Cycle) where
  abbrev pub reached : List Happening
  reached = flat_map (batch_commit e) (reverse (not_last e.batches))

  none-stops : filter stops e.batches ≡ []
  none-stops = filter-none (λ (b : BatchTimes). is_by k (passed b)) stops (λ b h. not-stopped k (stops b) b.looked_up h) e.batches is.passed

  pub happenings-are : happenings_of before e ≡ reached ++ happening e Completes k ∷ []
  happenings-are =
      (λ i. reached ++ map (happening e Completes) (cycles_of (is.retired i)) ++ serial_stop e (is.stop i) ++ flat_map (λ (b : BatchTimes). batch_stop_by before e b b.failure) (none-stops i))
      ∙ append-nil ((reached ++ happening e Completes k ∷ []) ++ []) ∙ append-nil (reached ++ happening e Completes k ∷ [])

  pub happenings-by : list_all (λ (h : Happening). nat_le h.cycle k) (happenings_of before e) ≡ true
  happenings-by =
      ap (list_all (λ (h : Happening). nat_le h.cycle k)) happenings-are
      ∙ all-both (λ (h : Happening). nat_le h.cycle k) reached (happening e Completes k ∷ [])
      (all-flat_map (λ (h : Happening). nat_le h.cycle k) (batch_commit e) (reverse (not_last e.batches))
      (all-more (λ (b : BatchTimes). is_by k b.committed) (λ (b : BatchTimes). list_all (λ (h : Happening). nat_le h.cycle k) (batch_commit e b)) (λ b one. happen-by k e (Reaches b.after) b.committed one) (reverse (not_last e.batches))
      (all-reverse (λ (b : BatchTimes). is_by k b.committed) (not_last e.batches)
      (all-not_last (λ (b : BatchTimes). is_by k b.committed) e.batches is.committed))))
      (and_from (nat_le k k) true (le-leb k k (omega arith)) refl)

-- ---- any

-- an instruction retires at a cycle, or never
pub data Retires (e : Entry) : Type 0 where
  retires : (k : ℕ) → RetiresAt e k → Retires e
  never : e.retired ≡ Never → Retires e

-- it retires no earlier than anything that happens of it
pub retires-from : (e : Entry) (retired : Cycle) (before after : List Happening) (h : Happening) → Retires e → happenings_of retired e ≡ before ++ h ∷ after → is_from h.cycle e.retired ≡ true
retires-from e retired before after h (retires k is) parts =
    ap (is_from h.cycle) is.retired
    ∙ (and_parts (nat_le h.cycle k) (list_all (λ (h : Happening). nat_le h.cycle k) after) (all-parts (λ (h : Happening). nat_le h.cycle k) before (h ∷ after) (sym (ap (list_all (λ (h : Happening). nat_le h.cycle k)) parts) ∙ happenings-by e k is retired)).1).0
retires-from e retired before after h (never is) parts = ap (is_from h.cycle) is

-- ---- an instruction behind a quiet history

later_of-never : (c : Cycle) → later_of c Never ≡ Never
later_of-never (At c) = refl
later_of-never Never = refl

-- what is known of an instruction that completes, from the laws of quiet histories
pub record Completion (start : Start) (history : History) (s : Flat) (f : Footprint) : Type 0 where
  pub quiet : (completed : ℕ) → (timed start history s f).completed ≡ At completed → IsQuiet start (timed start history s f ∷ history) (completed + 1)
  pub never : (why : Ended) → f.stop ≡ Some why → (timed start history s f).completed ≡ Never

module _ (start : Start) (history : History) (s : Flat) (f : Footprint) (known : Completion start history s f) where
  no-stop : (completed : ℕ) (stop : Option Ended) → (timed start history s f).completed ≡ At completed → f.stop ≡ stop → f.stop ≡ None
  no-stop completed None is e = e
  no-stop completed (Some why) is e = let both : At completed ≡ Never = sym is ∙ known.never why e in absurd (cc)

  pub completes-at : (completed : ℕ) → (timed start history s f).completed ≡ At completed → RetiresAt (timed start history s f) (completed + 1)
  completes-at completed is =
      let q : IsQuiet start (timed start history s f ∷ history) (completed + 1) = known.quiet completed is in
      let own : List BatchTimes = (timed start history s f).batches in
      record {
        retired = q.last;
        stop = no-stop completed f.stop is refl;
        passed = (all-parts (λ (b : BatchTimes). is_by (completed + 1) (passed b)) own (batches_of history) q.looked_up).0;
        committed = (all-parts (λ (b : BatchTimes). is_by (completed + 1) b.committed) own (batches_of history) q.committed).0;
      }

  retires-by : (completed : Cycle) → (timed start history s f).completed ≡ completed → Retires (timed start history s f)
  retires-by (At completed) is = retires (completed + 1) (completes-at completed is)
  retires-by Never is = never (ap (retire_cycle start history) is ∙ later_of-never (behind (last_retire start.cycle history)))

  pub retires-somehow : Retires (timed start history s f)
  retires-somehow = retires-by (timed start history s f).completed refl
