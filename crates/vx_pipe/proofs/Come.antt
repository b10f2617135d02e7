-- The process that an episode comes to: whether it is over, and how many instructions it has completed.
use Rattle.std.proofs.Common.{◌≡◌, ℕ, zero, suc, ◌+◌, ◌^◌, ◌<◌, true, Some, None, refl, sym, ap, subst, ◌∙◌, arith}
use Rattle.std.specs.Prelude.{Option}
use Rattle.vx_base.specs.Faults.{one_more}
use Rattle.vx_base.specs.declared.machine.Fault.{Fault}
use Rattle.vx_flat.specs.Outcome.{Outcome}
use Rattle.vx_flat.specs.Outcome.Outcome.{Next, Exited, Faulted}
use Rattle.vx_flat.specs.Process.{Process, after, stepped, stepped_on}
use Rattle.vx_flat.specs.Splits.{IsWellFormed}
use Rattle.vx_flat.specs.State.{Flat}
use Rattle.vx_flat.specs.Step.{step, upcoming}
use Rattle.vx_flat.specs.declared.end.End.{End}
use Rattle.vx_flat.specs.declared.end.End.TheVariants as end
use Rattle.vx_hart.specs.Asking.{is_service}
use Rattle.vx_episode.specs.Episode.{stopped_at, within}
use Rattle.vx_episode.specs.History.{History}
use Rattle.vx_episode.specs.Organisation.{Start}
use Rattle.vx_episode.specs.declared.ended.Ended.TheVariants as ended
use Rattle.vx_ending.specs.UnderWay.{IsUnderWay}
use Rattle.vx_pipe.specs.Left.{HasCome}

-- ---- the count

after-count : (p : Process) (o : Outcome) → (after p o).over ≡ None → (after p o).count ≡ one_more p.count
after-count p (Next s) is = refl
after-count p (Exited code) is = let never : Some (end.Exited code) ≡ None = is in cc
after-count p (Faulted fault s) is = let never : Some (end.Faulted fault) ≡ None = is in cc

abbrev by : Process → Option End → Process
by p None = after p (step p.state)
by p (Some e) = p

step-by : (p : Process) (o : Option End) → p.over ≡ o → stepped p ≡ by p o
step-by p None is = ap (λ (o : Option End). elim o as (λ _. Process) [ None ↦ after p (step p.state) | Some e ↦ p ]) is
step-by p (Some e) is = ap (λ (o : Option End). elim o as (λ _. Process) [ None ↦ after p (step p.state) | Some e ↦ p ]) is

count-by : (p : Process) (o : Option End) → p.over ≡ o → (by p o).over ≡ None → (by p o).count ≡ one_more p.count
count-by p None is none = after-count p (step p.state) none
count-by p (Some e) is none = let never : Some e ≡ None = sym is ∙ none in cc

over-by : (p : Process) (o : Option End) → p.over ≡ o → (by p o).over ≡ None → p.over ≡ None
over-by p None is none = is
over-by p (Some e) is none = none

one-count : (p : Process) → (stepped p).over ≡ None → (stepped p).count ≡ one_more p.count
one-count p none =
    let same : stepped p ≡ by p p.over = step-by p p.over refl in
    ap (λ (q : Process). q.count) same ∙ count-by p p.over refl (ap (λ (q : Process). q.over) (sym same) ∙ none)

still : (p : Process) → (stepped p).over ≡ None → p.over ≡ None
still p none =
    let same : stepped p ≡ by p p.over = step-by p p.over refl in
    over-by p p.over refl (ap (λ (q : Process). q.over) (sym same) ∙ none)

more : (count n : ℕ) → count + suc n < 2 ^ 64 → one_more (count + n) ≡ count + suc n
more count n few = omega (arith, few)

one-more : (count n : ℕ) → count + (n + 1) < 2 ^ 64 → one_more (count + n) ≡ count + (n + 1)
one-more count n few = omega (arith, few)

counted-on : (n : ℕ) (p : Process) → (stepped_on n p).over ≡ None → p.count + n < 2 ^ 64 → (stepped_on n p).count ≡ p.count + n
counted-on zero p none few = omega arith
counted-on (suc n) p none few =
    let before : (stepped_on n p).count ≡ p.count + n = counted-on n p (still (stepped_on n p) none) (omega (arith, few)) in
    one-count (stepped_on n p) none ∙ ap one_more before ∙ more p.count n few

-- ---- what an episode comes to

module _ (start : Start) (until : ℕ) (from : Process) (n : ℕ) (history : History) (now : Process) (way : IsUnderWay start until from n history now) where
  count-now : from.count + n < 2 ^ 64 → now.count ≡ from.count + n
  count-now few =
      ap (λ (p : Process). p.count) way.process ∙ counted-on n from (ap (λ (p : Process). p.over) (sym way.process) ∙ way.is_not_over) few

  step-now : stepped now ≡ after now (step now.state)
  step-now = step-by now None way.is_not_over

  -- behind an instruction that completes
  pub come-completes : (t : Flat) → step now.state ≡ Next t → IsWellFormed t → HasCome from (stepped now) ended.Slice (n + 1)
  come-completes t steps formed =
      let there : stepped now ≡ after now (Next t) = step-now ∙ ap (after now) steps in
      let over : (stepped now).over ≡ None = ap (λ (p : Process). p.over) there ∙ way.is_not_over in
      record {
        over = over;
        counted = λ few. one-count now over ∙ ap one_more (count-now (omega (arith, few))) ∙ one-more from.count n few;
        formed = λ none. subst (λ (s : Flat). IsWellFormed s) (sym (ap (λ (p : Process). p.state) there)) formed;
        asks = λ never. absurd (let no_service : ended.Slice ≡ ended.Service = never in cc);
      }

  -- where a service is asked for
  pub come-service : (within now.state.v.vstart now).state ≡ now.state → IsWellFormed now.state → is_service (upcoming now.state) ≡ true → HasCome from (stopped_at ended.Service now.state.v.vstart now) ended.Service n
  come-service waits formed asks = record {
    over = way.is_not_over;
    counted = count-now;
    formed = λ none. subst (λ (s : Flat). IsWellFormed s) (sym waits) formed;
    asks = λ service. ap (λ (s : Flat). is_service (upcoming s)) waits ∙ asks;
  }

  -- at a fault
  pub come-faulted : (fault : Fault) (t : Flat) (k : ℕ) → step now.state ≡ Faulted fault t → HasCome from (stopped_at (ended.Faulted fault) k now) (ended.Faulted fault) n
  come-faulted fault t k steps =
      let there : stepped now ≡ after now (Faulted fault t) = step-now ∙ ap (after now) steps in
      let over : (stepped now).over ≡ Some (end.Faulted fault) = ap (λ (p : Process). p.over) there in
      record {
        over = over;
        counted = λ few. ap (λ (p : Process). p.count) there ∙ count-now few;
        formed = λ none. absurd (let never : Some (end.Faulted fault) ≡ None = sym over ∙ none in cc);
        asks = λ never. absurd (let no_service : ended.Faulted fault ≡ ended.Service = never in cc);
      }

  -- at an element of an instruction
  pub come-within : (k : ℕ) → IsWellFormed (within k now).state → HasCome from (within k now) ended.Slice n
  come-within k formed = record {
    over = way.is_not_over;
    counted = count-now;
    formed = λ none. formed;
    asks = λ never. absurd (let no_service : ended.Slice ≡ ended.Service = never in cc);
  }
