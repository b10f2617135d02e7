-- How a process that takes steps stands to the run of its image alone.
use Rattle.std.proofs.Common.{◌≡◌, ℕ, zero, suc, ◌+◌, ◌-◌, ◌^◌, ◌<◌, ◌≤◌, refl, sym, ap, ◌∙◌, arith, subst}
use Rattle.std.proofs.lemmas.Bool.{eq-eqb}
use Rattle.std.specs.Prelude.{Bool, true, ◌==◌, List, Option, Some, None, option_and_then, unwrap_or, if◌then◌else◌}
use Rattle.std.proofs.lemmas.Option.{none-some}
use Rattle.vx_image.specs.Pages.{Image}
use Rattle.vx_episode.specs.Episode.{within}
use Rattle.vx_flat.specs.Boot.{booted}
use Rattle.vx_flat.specs.Prefix.{flat_within, prefix_at, prefix_of, transfer_next}
use Rattle.vx_flat.specs.Process.{Process, begun, after, stepped, stepped_on}
use Rattle.vx_flat.specs.Run.{flat, state_after, Exits, Faults, IsPrefixOf}
use Rattle.vx_flat.specs.Splits.{IsRunnable}
use Rattle.vx_flat.specs.State.{Flat}
use Rattle.vx_flat.specs.Step.{step, upcoming}
use Rattle.vx_flat.specs.Transfers.{Transfer}
use Rattle.vx_flat.specs.Outcome.{Outcome}
use Rattle.vx_flat.specs.Outcome.Outcome.{Next, Exited, Faulted}
use Rattle.vx_flat.specs.declared.end.End.{End}
use Rattle.vx_flat.specs.declared.end.End.TheVariants as end
use Rattle.vx_flat.specs.declared.hart.Hart.{Hart}
use Rattle.vx_machine.specs.Accounts.{account_with, standing_of, IsAt, IsOfRun, IsTrueOf, StandsAlone}
use Rattle.vx_machine.specs.declared.account.Costs.{Costs}

-- ---- laws of the flat machine

abbrev pub Grows : Type 0
Grows = (hart : Hart) (image : Image) (n m : ℕ) (early late : Flat) → n ≤ m → flat hart image n ≡ Some early → flat hart image m ≡ Some late → IsPrefixOf early.output late.output

pub record Laws : Type 0 where
  -- what has been written stays
  pub grows : Grows
  -- a state within an instruction is reached in one go, and has its element, and pc and output of the state before
  pub joined : (hart : Hart) (image : Image) (n j k : ℕ) (t u : Flat) → IsRunnable hart image → flat_within hart image n j ≡ Some t → prefix_at k t ≡ Some u → flat_within hart image n k ≡ Some u
  pub element : (s t : Flat) (k : ℕ) → prefix_at k s ≡ Some t → t.v.vstart ≡ k
  pub pc : (s t : Flat) (k : ℕ) → prefix_at k s ≡ Some t → t.pc ≡ s.pc
  pub output : (s t : Flat) (k : ℕ) → prefix_at k s ≡ Some t → t.output ≡ s.output
  -- and steps as that does
  pub splits : (hart : Hart) (image : Image) (n k : ℕ) (s t : Flat) → IsRunnable hart image → flat hart image n ≡ Some s → flat_within hart image n k ≡ Some t → step t ≡ step s

-- ---- one state of the run

-- a process with these parts
abbrev pub process : Flat → ℕ → Option End → Process
process s count over = record { state = s; count = count; over = over }

-- the run before its first step, and one step more of it
flat-none : (hart : Hart) (image : Image) → flat hart image zero ≡ Some (booted hart image)
unfolding flat
flat-none hart image = refl

flat-more : (hart : Hart) (image : Image) (n : ℕ) (s : Flat) → flat hart image n ≡ Some s → flat hart image (suc n) ≡ state_after (step s)
unfolding flat
flat-more hart image n s e = ap (λ (o : Option Flat). option_and_then (λ (t : Flat). state_after (step t)) o) e

-- a state stands at its own element
same-number : (k : ℕ) → (k == k) ≡ true
same-number k = eq-eqb k k refl

prefix-self : (s : Flat) → prefix_at s.v.vstart s ≡ Some s
prefix-self s =
    let k = s.v.vstart in
    ap (λ (b : Bool). if b then Some s else option_and_then (λ (t : Transfer). prefix_of t k s) (transfer_next s (upcoming s))) (same-number k)

-- so does one of the run
at-flat : (hart : Hart) (image : Image) (n : ℕ) (s : Flat) → flat hart image n ≡ Some s → flat_within hart image n s.v.vstart ≡ Some s
at-flat hart image n s e = ap (λ (o : Option Flat). option_and_then (prefix_at s.v.vstart) o) e ∙ prefix-self s

-- a state within an instruction, and the state of the run before it
record IsWithin (hart : Hart) (image : Image) (n k : ℕ) (t : Flat) : Type 0 where
  base : Flat
  reached : flat hart image n ≡ Some base
  prefix : prefix_at k base ≡ Some t

split : (o : Option Flat) (k : ℕ) (t : Flat) → option_and_then (prefix_at k) o ≡ Some t → (s : Flat) × (o ≡ Some s) × (prefix_at k s ≡ Some t)
split None k t h = absurd (none-some t h)
split (Some s) k t h = (s, refl, h)

base-of : (hart : Hart) (image : Image) (n k : ℕ) (t : Flat) → flat_within hart image n k ≡ Some t → IsWithin hart image n k t
base-of hart image n k t h = let parts = split (flat hart image n) k t h in record { base = parts.0; reached = parts.1; prefix = parts.2 }

-- ---- at boot, behind a step, and within an instruction

pub of-boot : (hart : Hart) (image : Image) → IsOfRun hart image (begun hart image)
of-boot hart image = at-flat hart image 0 (booted hart image) (flat-none hart image)

of-after : Laws → (hart : Hart) (image : Image) (count : ℕ) (t : Flat) → IsRunnable hart image → count < 2 ^ 64 - 1 → (w : IsWithin hart image count t.v.vstart t) → (o : Outcome) → step w.base ≡ o → IsOfRun hart image (after (process t count None) o)
of-after L hart image count t r small w (Next u) is =
    let counted : suc count ≡ (process t count None).count + 1 = omega arith in
    let reached : flat hart image (suc count) ≡ Some u = flat-more hart image count w.base w.reached ∙ ap state_after is in
    let At : ℕ → Type 0 = λ n. flat_within hart image n u.v.vstart ≡ Some u in
    let one : suc count ≡ (after (process t count None) (Next u)).count = omega arith in
    subst At one (at-flat hart image (suc count) u reached)
of-after L hart image count t r small w (Exited code) is =
    record { last = w.base; exits = record { before = count; counted = omega arith; reached = w.reached; ends = is }; wrote = L.output w.base t t.v.vstart w.prefix }
of-after L hart image count t r small w (Faulted fault u) is =
    record { last = u; faults = record { before = w.base; reached = w.reached; ends = is }; at = refl; wrote = refl }

of-stepped : Laws → (hart : Hart) (image : Image) (s : Flat) (count : ℕ) (over : Option End) → IsRunnable hart image → count < 2 ^ 64 - 1 → IsAt hart image count s over → IsOfRun hart image (stepped (process s count over))
of-stepped L hart image s count (Some (end.Exited code)) r small h = h
of-stepped L hart image s count (Some (end.Faulted fault)) r small h = h
of-stepped L hart image s count None r small h =
    let w = base-of hart image count s.v.vstart s h in
    of-after L hart image count s r small w (step s) (sym (L.splits hart image count s.v.vstart w.base s r w.reached h))

pub of-step : Laws → (hart : Hart) (image : Image) (p : Process) → IsRunnable hart image → p.count < 2 ^ 64 - 1 → IsOfRun hart image p → IsOfRun hart image (stepped p)
of-step L hart image p r small h = of-stepped L hart image p.state p.count p.over r small h

of-reached : Laws → (hart : Hart) (image : Image) (count k : ℕ) (s u : Flat) (over : Option End) → IsRunnable hart image → prefix_at k s ≡ Some u → IsAt hart image count s over → IsAt hart image count u over
of-reached L hart image count k s u (Some (end.Exited code)) r is h = record { last = h.last; exits = h.exits; wrote = L.output s u k is ∙ h.wrote }
of-reached L hart image count k s u (Some (end.Faulted fault)) r is h = record { last = h.last; faults = h.faults; at = L.pc s u k is ∙ h.at; wrote = L.output s u k is ∙ h.wrote }
of-reached L hart image count k s u None r is h =
    let At : ℕ → Type 0 = λ n. flat_within hart image count n ≡ Some u in
    subst At (sym (L.element s u k is)) (L.joined hart image count s.v.vstart k s u r h is)

of-prefix : Laws → (hart : Hart) (image : Image) (count k : ℕ) (s : Flat) (over : Option End) → IsRunnable hart image → (o : Option Flat) → prefix_at k s ≡ o → IsAt hart image count s over → IsAt hart image count (unwrap_or o s) over
of-prefix L hart image count k s over r None is h = h
of-prefix L hart image count k s over r (Some u) is h = of-reached L hart image count k s u over r is h

pub of-within : Laws → (hart : Hart) (image : Image) (k : ℕ) (p : Process) → IsRunnable hart image → IsOfRun hart image p → IsOfRun hart image (within k p)
of-within L hart image k p r h = of-prefix L hart image p.count k p.state p.over r (prefix_at k p.state) refl h

-- ---- behind some steps

after-count : (s : Flat) (count : ℕ) (o : Outcome) → (after (process s count None) o).count ≤ count + 1
after-count s count (Next t) = omega arith
after-count s count (Exited code) = omega arith
after-count s count (Faulted fault t) = omega arith

stepped-count : (s : Flat) (count : ℕ) (over : Option End) → (stepped (process s count over)).count ≤ count + 1
stepped-count s count None = after-count s count (step s)
stepped-count s count (Some e) = omega arith

pub steps-count : (n : ℕ) (p : Process) → (stepped_on n p).count ≤ p.count + n
steps-count zero p = omega arith
steps-count (suc n) p =
    let q = stepped_on n p in
    let one : (stepped q).count ≤ q.count + 1 = stepped-count q.state q.count q.over in
    let before : q.count ≤ p.count + n = steps-count n p in omega arith

pub of-steps : Laws → (hart : Hart) (image : Image) (n : ℕ) (p : Process) → IsRunnable hart image → p.count + n < 2 ^ 64 → IsOfRun hart image p → IsOfRun hart image (stepped_on n p)
of-steps L hart image zero p r small h = h
of-steps L hart image (suc n) p r small h =
    let q = stepped_on n p in
    let few : q.count ≤ p.count + n = steps-count n p in
    let below : q.count < 2 ^ 64 - 1 = omega arith in
    of-step L hart image q r below (of-steps L hart image n p r (omega arith) h)

-- ---- what is told

told-of : Laws → (hart : Hart) (image : Image) (count : ℕ) (s : Flat) (over : Option End) → IsAt hart image count s over → StandsAlone hart image count s.output (standing_of s.pc s.v.vstart over)
told-of L hart image count s (Some (end.Exited code)) h = h
told-of L hart image count s (Some (end.Faulted fault)) h = h
told-of L hart image count s None h =
    let w = base-of hart image count s.v.vstart s h in
    let same : w.base.output ≡ s.output = sym (L.output w.base s s.v.vstart w.prefix) in
    record {
      now = s;
      reached = h;
      at = refl;
      element = refl;
      wrote = refl;
      prefix = λ m later after is.
          let Begins : List ℕ → Type 0 = λ o. IsPrefixOf o later.output in
          subst Begins same (L.grows hart image count m w.base later after w.reached is);
    }

pub told : Laws → (hart : Hart) (image : Image) (costs : Option Costs) (p : Process) → IsOfRun hart image p → IsTrueOf hart image (account_with costs p)
told L hart image costs p h = told-of L hart image p.count p.state p.over h

-- ---- steps from boot alone, on any hart and image

-- it has taken n steps and is where the run is, or ended as the run does
abbrev Stands : Hart → Image → ℕ → Flat → ℕ → Option End → Type 0
Stands hart image n s count None = (count ≡ n) × (flat hart image n ≡ Some s)
Stands hart image n s count (Some (end.Exited code)) = Exits hart image count code s
Stands hart image n s count (Some (end.Faulted fault)) = Faults hart image count fault s

abbrev IsStanding : Hart → Image → ℕ → Process → Type 0
IsStanding hart image n p = Stands hart image n p.state p.count p.over

IsStanding-after : (hart : Hart) (image : Image) (n count : ℕ) (s : Flat) → n < 2 ^ 64 - 1 → count ≡ n → flat hart image n ≡ Some s → (o : Outcome) → step s ≡ o → IsStanding hart image (suc n) (after (process s count None) o)
IsStanding-after hart image n count s small e at (Next t) is = (omega arith, flat-more hart image n s at ∙ ap state_after is)
IsStanding-after hart image n count s small e at (Exited code) is = record { before = n; counted = omega arith; reached = at; ends = is }
IsStanding-after hart image n count s small e at (Faulted fault t) is = record { before = s; reached = subst (λ (k : ℕ). flat hart image k ≡ Some s) (sym e) at; ends = is }

IsStanding-stepped : (hart : Hart) (image : Image) (n count : ℕ) (s : Flat) (over : Option End) → n < 2 ^ 64 - 1 → Stands hart image n s count over → IsStanding hart image (suc n) (stepped (process s count over))
IsStanding-stepped hart image n count s None small h = IsStanding-after hart image n count s small h.0 h.1 (step s) refl
IsStanding-stepped hart image n count s (Some (end.Exited code)) small h = h
IsStanding-stepped hart image n count s (Some (end.Faulted fault)) small h = h

IsStanding-machine : (hart : Hart) (image : Image) (n : ℕ) → n < 2 ^ 64 - 1 → IsStanding hart image n (stepped_on n (begun hart image))
IsStanding-machine hart image zero small = (refl, flat-none hart image)
IsStanding-machine hart image (suc n) small =
    let p = stepped_on n (begun hart image) in
    IsStanding-stepped hart image n p.count p.state p.over (omega arith) (IsStanding-machine hart image n (omega arith))

of-standing : (hart : Hart) (image : Image) (n count : ℕ) (s : Flat) (over : Option End) → Stands hart image n s count over → IsAt hart image count s over
of-standing hart image n count s None h = at-flat hart image count s (subst (λ (k : ℕ). flat hart image k ≡ Some s) (sym h.0) h.1)
of-standing hart image n count s (Some (end.Exited code)) h = record { last = s; exits = h; wrote = refl }
of-standing hart image n count s (Some (end.Faulted fault)) h = record { last = s; faults = h; at = refl; wrote = refl }

pub of-steps-alone : (hart : Hart) (image : Image) (n : ℕ) → n < 2 ^ 64 - 1 → IsOfRun hart image (stepped_on n (begun hart image))
of-steps-alone hart image n small =
    let p = stepped_on n (begun hart image) in of-standing hart image n p.count p.state p.over (IsStanding-machine hart image n small)
