-- The process plays an episode.
use Rattle.std.proofs.Common.{◌≡◌, ℕ, ◌+◌, ◌-◌, ◌^◌, ◌<◌, ◌≤◌, sym, ap, ◌∙◌, subst, arith}
use Rattle.std.specs.Prelude.{true, List, Some, None}
use Rattle.vx_cells.specs.Cells.{CellsState, IsMemory}
use Rattle.vx_episode.specs.Episode.{EpisodeEnd, episode}
use Rattle.vx_episode.specs.Organisation.{Start}
use Rattle.vx_episode.specs.Show.{Shows}
use Rattle.vx_episode.specs.declared.ended.Ended.{Ended}
use Rattle.vx_flat.specs.Process.{Process}
use Rattle.vx_flat.specs.Splits.{IsRunnable}
use Rattle.vx_flat.specs.declared.hart.Hart.{Hart}
use Rattle.vx_image.specs.Pages.{Image}
use Rattle.vx_machine.specs.Accounts.{IsOfRun}
use Rattle.vx_machine.specs.Machine.{Machine, start_of}
use Rattle.vx_paged.specs.Framed.{IsPlacement, IsWithin}
use Rattle.vx_paged.specs.Left.{Fits}
use Rattle.vx_paged.specs.Placed.{IsPlacedAs}
use Rattle.vx_paged.specs.declared.placement.FramedPage.{FramedPage}
use Rattle.vx_pipe.specs.Left.{IsPlayable, IsShown, PlaysPlaced, end_of}
use Rattle.vx_pipe.specs.declared.counts.Counts.{Counts}
use Rattle.vx_system.specs.Runs.{SystemState, StandsFor, HasPlayed, IsSystem}
use Rattle.vx_tables.specs.Residency.{Residency}

-- what the accounts' law says of an episode
abbrev pub EpisodeLaw : Type 0
EpisodeLaw = (hart : Hart) (image : Image) (start : Start) (until : ℕ) (p : Process) (e : EpisodeEnd) → IsRunnable hart image → p.count + e.completed < 2 ^ 64 - 1 → episode start until p ≡ Some e → IsOfRun hart image p → IsOfRun hart image e.process

-- what the engine says, of a system before and after
abbrev pub start_at : SystemState → CellsState → Residency → Start
start_at s c residency = record { machine = s.settings.organisation; cycle = c.cycle; residency = residency; root = 0; has_vectors = true }

abbrev pub PlaysFrom : SystemState → SystemState → CellsState → CellsState → ℕ → Ended → Counts → Type 0
PlaysFrom s t c d until ended counts =
    (residency : Residency) (process : Process) → Shows s.registers c 0 residency process.state → IsPlacedAs s.placement residency → IsPlayable process
    → PlaysPlaced (start_at s c residency) until process c d t.registers ended counts t.placement

-- what the system kept of it
pub record IsBehind (s t : SystemState) (d : CellsState) (ended : Ended) (counts : Counts) : Type 0 where
  pub settings : t.settings ≡ s.settings
  pub placement : t.placement ≡ s.placement
  pub output : t.output ≡ s.output
  pub count : t.count ≡ s.count + counts.retired
  pub over : t.over ≡ end_of ended
  pub cycles : t.cycles ≡ s.cycles + (d.cycle - s.clock)
  pub clock : t.clock ≡ d.cycle
  pub slice_end : t.slice_end ≡ s.slice_end
  pub has_run : t.has_run ≡ s.has_run

-- the numbers are small
pub record AreSmall (s : SystemState) (c d : CellsState) (counts : Counts) : Type 0 where
  pub count : s.count ≤ s.clock
  pub later : c.cycle + counts.retired < d.cycle
  pub bounded : d.cycle ≤ 2 ^ 43

-- it is shown
pub playable : (s : SystemState) (c : CellsState) (m : Machine) → s.over ≡ None → StandsFor s c m → IsPlayable m.process
playable s c m running h = record { running = sym h.over ∙ running; formed = h.formed (sym h.over ∙ running); whole = h.whole }

pub shown : (s : SystemState) (c : CellsState) → s.over ≡ None → IsSystem s c → IsShown s.registers c 0 s.placement
shown s c running h =
    let m = h.machine in
    record { residency = m.residency; process = m.process; shows = h.stands.shows; placed = h.stands.placed; playable = playable s c m running h.stands }

fits-on : (s : SystemState) (c d : CellsState) (m : Machine) → StandsFor s c m → d.frames ≡ c.frames → IsMemory d → Fits s.placement d
fits-on s c d m h same memory =
    let Within : ℕ → Type 0 = λ n. IsWithin n s.placement in
    record { memory = memory; within = subst Within (sym same) h.fits.within }

pub HasPlayed-from : EpisodeLaw → (s t : SystemState) (c d : CellsState) (until : ℕ) (ended : Ended) (counts : Counts) (m : Machine) → s.over ≡ None → AreSmall s c d counts → PlaysFrom s t c d until ended counts → IsBehind s t d ended counts → StandsFor s c m → HasPlayed s t d until ended m
HasPlayed-from law s t c d until ended counts m running small plays behind h =
    let p = m.process in
    let here = plays m.residency p h.shows h.placed (playable s c m running h) in
    let e = here.plays.result in
    let left = here.left in
    let come = left.come in
    let cycle : c.cycle ≡ m.clock = h.cycle ∙ h.clock in
    let At : ℕ → Type 0 = λ n. episode (record { machine = s.settings.organisation; cycle = n; residency = m.residency; root = 0; has_vectors = true }) until p ≡ Some e in
    let is : episode (start_of s.settings m) until p ≡ Some e = subst At cycle here.plays.is in
    let clock : d.cycle ≡ e.clock = here.plays.cycle in
    let completed : counts.retired ≡ e.completed = here.plays.completed_are in
    let sclock : s.clock ≡ m.clock = h.clock in
    let scount : s.count ≡ p.count = h.count in
    let few : p.count + e.completed < 2 ^ 64 - 1 = omega (arith, small.count, small.later, small.bounded, h.cycle, completed, scount) in
    let little : p.count + counts.retired < 2 ^ 64 = omega (arith, few, completed) in
    let counted : e.process.count ≡ p.count + counts.retired = come.counted little in
    let Placed : List FramedPage → Type 0 = λ l. IsPlacedAs l e.residency in
    record {
      result = e;
      is = is;
      answer = here.plays.answer;
      asks = λ service. record { running = come.over ∙ ap end_of service; service = come.asks service };
      moves = record {
        settings = behind.settings;
        of_run = λ hart image runnable of. law hart image (start_of s.settings m) until p e runnable few is of;
        stands = record {
          shows = here.plays.shows;
          placed = here.placed;
          kept = subst (λ (l : List FramedPage). IsPlacement l) (sym behind.placement) h.kept;
          fits = subst (λ (l : List FramedPage). Fits l d) (sym behind.placement) (fits-on s c d m h here.plays.frames here.plays.shows.tables.memory);
          formed = come.formed;
          whole = left.whole;
          output = behind.output ∙ h.output ∙ sym left.output;
          count = behind.count ∙ ap (λ (n : ℕ). n + counts.retired) scount ∙ sym counted;
          over = behind.over ∙ sym come.over;
          cycles = behind.cycles ∙ (λ j. h.cycles j + (clock j - sclock j));
          clock = omega (arith, behind.clock, clock, sclock, h.cycle, small.later);
          cycle = sym behind.clock;
          slice_end = behind.slice_end ∙ h.slice_end;
          has_run = behind.has_run ∙ h.has_run;
        };
      };
    }
