-- What a run gives is its headline.
use Rattle.std.proofs.Common.{◌≡◌, ℕ, List, [], ◌∷◌, ◌<◌, ◌≤◌, ◌-◌, ◌^◌, ap, sym, ◌∙◌, subst, arith}
use Rattle.std.specs.Prelude.{Option, Some, None}
use Rattle.vx_base.specs.declared.options.Options.{Options}
use Rattle.vx_cells.specs.Cells.{CellsState}
use Rattle.vx_image.specs.Pages.{Image}
use Rattle.vx_flat.specs.Process.{Process, begun, stepped_on}
use Rattle.vx_flat.specs.declared.hart.Hart.{Hart}
use Rattle.vx_machine.specs.Accounts.{account_of, account_with, account_alone, IsOfRun, IsTrueOf}
use Rattle.vx_machine.specs.Claim.{Headline, HeadlineAlone}
use Rattle.vx_machine.specs.declared.account.Costs.{Costs}
use Rattle.vx_machine.specs.declared.account.Measure.TheVariants.{Cycles, Instructions}
use Rattle.vx_machine.specs.Machine.{Machine, Settings, booted_machine, machine, rounds, stop_of}
use Rattle.vx_machine.specs.Report.{report}
use Rattle.vx_machine.specs.declared.stop.Stop.{Stop}
use Rattle.vx_system.specs.Runs.{SystemState, Boots, IsSystem, Moves, Runs, StandsFor, settings_of}
use Rattle.vx_system.specs.Solo.{RunsAlone}

-- what the law of the accounts says
pub record AccountsAreTrue : Type 0 where
  pub told : (hart : Hart) (image : Image) (costs : Option Costs) (p : Process) → IsOfRun hart image p → IsTrueOf hart image (account_with costs p)
  pub boot : (hart : Hart) (image : Image) → IsOfRun hart image (begun hart image)
  pub alone : (hart : Hart) (image : Image) (n : ℕ) → n < 2 ^ 64 - 1 → IsOfRun hart image (stepped_on n (begun hart image))

-- a system that was booted stands for a machine
pub system-from : (options : Options) (image : Image) (b c : CellsState) (s : SystemState) → Boots options image b c s → IsSystem s c
system-from options image b c s boots = record { machine = booted_machine (settings_of options).hart image; stands = boots.stands }

-- a run from boot that stopped so, and its report
pub Headline-from : AccountsAreTrue → (options : Options) (image : Image) (b c d : CellsState) (s t : SystemState) (stop : Stop) (text : List ℕ) → Boots options image b c s
    → ((m : Machine) → StandsFor s c m → Runs s t d m stop)
    → ((m : Machine) (cells : CellsState) → StandsFor t cells m → text ≡ report (account_of m ∷ []) m.clock Cycles stop)
    → Headline (settings_of options) image stop d text
Headline-from law options image b c d s t stop text boots runs-on told =
    let settings : Settings = settings_of options in
    let first : Machine = booted_machine settings.hart image in
    let runs : Runs s t d first stop = runs-on first boots.stands in
    let last : Machine = machine settings image runs.count in
    let same : rounds s.settings runs.count first ≡ last = ap (λ (x : Settings). rounds x runs.count first) boots.settings in
    let To : Machine → Type 0 = λ m. Moves s t d first m in
    let moves : Moves s t d first last = subst To same runs.moves in
    let of : IsOfRun settings.hart image last.process = moves.of_run settings.hart image boots.runnable (law.boot settings.hart image) in
    record {
      count = runs.count;
      stops = sym (λ j. stop_of (boots.settings j) (same j)) ∙ runs.stops;
      leaves = record { registers = t.registers; shows = moves.stands.shows; cycle = moves.stands.cycle ∙ moves.stands.clock };
      tells = told last d moves.stands;
      values = law.told settings.hart image (account_of last).costs last.process of;
    }

-- a run alone that stopped so, and its report
pub HeadlineAlone-from : AccountsAreTrue → (settings : Settings) (image : Image) (after : Process) (stop : Stop) (text : List ℕ) → settings.budget ≤ 2 ^ 40
    → RunsAlone settings.budget (begun settings.hart image) after stop → text ≡ report (account_alone after ∷ []) after.count Instructions stop
    → HeadlineAlone settings image stop text
HeadlineAlone-from law settings image after stop text small runs told =
    let bounded = runs.bounded in
    let counted : runs.steps < 2 ^ 64 - 1 = omega arith in
    let hart = settings.hart in
    record {
      steps = runs.steps;
      stops = runs.stops;
      tells = subst (λ (p : Process). text ≡ report (account_alone p ∷ []) p.count Instructions stop) runs.reached told;
      values = law.told hart image None (stepped_on runs.steps (begun hart image)) (law.alone hart image runs.steps counted);
    }
