-- An episode under way: where it begins, and how it goes on with an instruction.
use Rattle.std.proofs.Common.{◌≡◌, ℕ, zero, suc, ◌+◌, ◌-◌, ◌≤◌, ◌<◌, true, false, List, [], ◌∷◌, ◌++◌, length, refl, sym, ap, ap₂, ◌∙◌, subst, arith, add-one}
use Rattle.std.specs.Prelude.{Option, Some, None}
use Rattle.std.specs.List.{list_any}
use Rattle.std.proofs.lemmas.Bool.{le-leb, leb-true}
use Rattle.vx_flat.specs.Continued.{behind, continued}
use Rattle.vx_flat.specs.Outcome.Outcome.{Next}
use Rattle.vx_flat.specs.Process.{Process, after, stepped}
use Rattle.vx_flat.specs.State.{Flat}
use Rattle.vx_flat.specs.Step.{step}
use Rattle.vx_flat.specs.declared.end.End.{End}
use Rattle.vx_episode.specs.Commits.{Happening, entry_of, happenings_of, happenings, ends}
use Rattle.vx_episode.specs.Cycles.{Cycle, is_by, latest, cycles_of}
use Rattle.vx_episode.specs.Cycles as cycles
use Rattle.vx_episode.specs.Cycles.Cycle.{At}
use Rattle.vx_episode.specs.Episode.{end_by, episode, fetched_by}
use Rattle.vx_episode.specs.History.{Entry, History, last_retire}
use Rattle.vx_episode.specs.Organisation.{Start}
use Rattle.vx_ending.specs.Counts.{completed_in}
use Rattle.vx_ending.specs.UnderWay.{IsUnderWay, first_instructions}
use Rattle.vx_ending.proofs.Counting.{none-both, completed-append, completed-once, retires-early}
use Rattle.vx_ending.proofs.Fetches.{by-first, by-later, first-none, more-of}
use Rattle.vx_ending.proofs.Running.{episode-ends}

pub begins : (start : Start) (until : ℕ) (from : Process) → from.over ≡ None → IsUnderWay start until from 0 [] from
begins start until from running = record {
  instructions = sym (first-none start from.state);
  process = refl;
  state = refl;
  is_not_over = running;
  none_ends = refl;
  completed = refl;
  retired = record { cycle = start.cycle; is = refl; late = omega arith; early = λ h. absurd (omega arith) };
}

-- an instruction retires behind the one before
retires-late : (start : Start) (history : History) (s : Flat) (before retired : ℕ) → last_retire start.cycle history ≡ At before → (entry_of start history s).retired ≡ At retired → before + 1 ≤ retired
retires-late start history s before retired was is =
    let by : is_by retired (entry_of start history s).retired ≡ true = ap (is_by retired) is ∙ le-leb retired retired (omega arith) in
    let waits = by-later retired 1 (last_retire start.cycle history)
    (by-first retired (cycles.behind (last_retire start.cycle history)) (latest (cycles.behind (entry_of start history s).completed ∷ [])) by) in
    let low : before ≤ retired - 1 = leb-true before (retired - 1) (ap (is_by (retired - 1)) (sym was) ∙ waits.1) in
    omega (arith, waits.0)

-- the process goes on
stepped-next : (p : Process) (t : Flat) → p.over ≡ None → step p.state ≡ Next t → stepped p ≡ after p (Next t)
stepped-next p t running goes =
    ap (λ (o : Option End). elim o as (λ _. Process) [ None ↦ after p (step p.state) | Some e ↦ p ]) running ∙ ap (after p) goes

pub stepped-state : (p : Process) (t : Flat) → p.over ≡ None → step p.state ≡ Next t → (stepped p).state ≡ t
stepped-state p t running goes = ap (λ (q : Process). q.state) (stepped-next p t running goes)

stepped-runs : (p : Process) (t : Flat) → p.over ≡ None → step p.state ≡ Next t → (stepped p).over ≡ None
stepped-runs p t running goes = ap (λ (q : Process). q.over) (stepped-next p t running goes) ∙ running

-- so few instructions retire before the end of the slice
within : (start until n cycle : ℕ) → start + n ≤ cycle → (0 < n → cycle < until) → n ≤ until - start + 1
within start until zero cycle late early = omega arith
within start until (suc n) cycle late early = let before : cycle < until = early (omega arith) in omega arith

module _ (start : Start) (until : ℕ) (from : Process) (n : ℕ) (history : History) (now : Process) (e : Entry) (way : IsUnderWay start until from n history now) (is : e ≡ entry_of start history now.state) where
  pub more : e ∷ history ≡ first_instructions start (suc n) from.state
  more = more-of start n from.state now.state history e way.instructions way.state is

  goes-on : (t : Flat) (retired : ℕ) → step now.state ≡ Next t → e.retired ≡ At retired → list_any (ends until) (happenings_of (last_retire start.cycle history) e) ≡ false → IsUnderWay start until from (suc n) (e ∷ history) (stepped now)
  goes-on t retired goes retires none =
      let later = retires-late start history now.state way.retired.cycle retired way.retired.is (ap (λ (x : Entry). x.retired) (sym is) ∙ retires) in
      let once : completed_in (happenings_of (last_retire start.cycle history) e) ≡ 1 = completed-once e (last_retire start.cycle history) ∙ ap (λ (c : Cycle). length (cycles_of c)) retires in
      let early = retires-early e until retired (last_retire start.cycle history) none retires in
      record {
        instructions = more;
        process = ap stepped way.process;
        state = stepped-state now t way.is_not_over goes ∙ sym (ap (behind now.state) goes) ∙ ap continued way.state;
        is_not_over = stepped-runs now t way.is_not_over goes;
        none_ends = none-both until (happenings start.cycle history) (happenings_of (last_retire start.cycle history) e) way.none_ends none;
        completed = completed-append (happenings start.cycle history) (happenings_of (last_retire start.cycle history) e) ∙ ap₂ (λ (a b : ℕ). a + b) way.completed once ∙ add-one n;
        retired = record { cycle = retired; is = retires; late = omega (arith, way.retired.late); early = λ h. early };
      }

  pub goes-on-to : (t : Flat) (retired : ℕ) → step now.state ≡ Next t → e.retired ≡ At retired → list_any (ends until) (happenings_of (last_retire start.cycle history) e) ≡ false → IsUnderWay start until from (n + 1) (e ∷ history) (stepped now)
  goes-on-to t retired goes retires none =
      subst (λ (m : ℕ). IsUnderWay start until from m (e ∷ history) (stepped now)) (sym (add-one n)) (goes-on t retired goes retires none)

  pub ends-with : (before others : List Happening) (last : Happening) → happenings_of (last_retire start.cycle history) e ≡ before ++ last ∷ others → list_any (ends until) before ≡ false → ends until last ≡ true → episode start until from ≡ Some (end_by start from (happenings start.cycle history ++ before ++ last ∷ []) last (fetched_by start last.cycle from.state))
  ends-with before others last parts none ended =
      let le = within start.cycle until n way.retired.cycle way.retired.late way.retired.early in
      episode-ends start until from n history e before others last le way.instructions more way.none_ends parts none ended
