-- What a system is seen as, which machine it stands for, and what its run does. This project's own.
use Rattle.std.specs.Prelude.{◌≡◌, ℕ, ◌+◌, ◌<◌, ◌≤◌, Bool, true, min, List, ◌++◌, length, Option, Some, None, if◌then◌else◌}
use Rattle.vx_base.specs.declared.options.Options.{Options}
use Rattle.vx_cells.specs.Cells.{CellsState, Makes}
use Rattle.vx_episode.specs.Episode.{EpisodeEnd, episode}
use Rattle.vx_episode.specs.Show.{Registers, Shows}
use Rattle.vx_episode.specs.declared.ended.Ended.{Ended}
use Rattle.vx_episode.specs.declared.ended.Ended.TheVariants.{Service}
use Rattle.vx_flat.specs.Process.{Process}
use Rattle.vx_flat.specs.Splits.{IsRunnable, IsWellFormed}
use Rattle.vx_flat.specs.Step.{upcoming}
use Rattle.vx_flat.specs.declared.end.End.{End}
use Rattle.vx_flat.specs.declared.hart.Hart.{Hart}
use Rattle.vx_hart.specs.Asking.{is_service}
use Rattle.vx_image.specs.Pages.{Image}
use Rattle.vx_image.specs.Tables.{table_frames}
use Rattle.vx_machine.specs.Accounts.{IsOfRun}
use Rattle.vx_machine.specs.Machine.{Machine, Settings, booted_machine, booted_residency, needed_frames, played, rounds, start_of, stop_of, switch_cycles}
use Rattle.vx_machine.specs.declared.stop.Stop.{Stop}
use Rattle.vx_paged.specs.Booting.{page_writes}
use Rattle.vx_paged.specs.Framed.{IsPlacement}
use Rattle.vx_paged.specs.Left.{Fits}
use Rattle.vx_paged.specs.Placed.{IsPlacedAs, IsWhole}
use Rattle.vx_paged.specs.declared.placement.FramedPage.{FramedPage}
use Rattle.vx_pipe.specs.Left.{organisation_of}
use Rattle.vx_system.specs.declared.boot.BootFault.{BootFault}
use Rattle.vx_system.specs.declared.boot.BootFault.TheVariants.{TooFewFrames, NoMemory}
use Rattle.vx_tables.specs.Building.{table_writes}

-- the system of one process: the settings, what it holds of the process, and where it is in its run
pub record SystemState : Type 0 where
  pub settings : Settings
  pub registers : Registers
  pub placement : List FramedPage
  pub output : List ℕ
  pub count : ℕ
  pub over : Option End
  pub cycles : ℕ
  pub clock : ℕ
  pub slice_end : Option ℕ
  pub has_run : Bool

-- the settings that the options of a run name
abbrev pub settings_of : Options → Settings
settings_of options = record {
  hart = record { vlen = options.vlen };
  organisation = organisation_of options;
  frames = options.frames;
  slice = options.slice;
  budget = options.budget;
}

-- the system and physical memory stand for the machine
pub record StandsFor (s : SystemState) (cells : CellsState) (m : Machine) : Type 0 where
  pub shows : Shows s.registers cells 0 m.residency m.process.state
  pub placed : IsPlacedAs s.placement m.residency
  pub kept : IsPlacement s.placement
  pub fits : Fits s.placement cells
  pub formed : m.process.over ≡ None → IsWellFormed m.process.state
  pub whole : IsWhole m.process.state.memory
  pub output : s.output ≡ m.process.state.output
  pub count : s.count ≡ m.process.count
  pub over : s.over ≡ m.process.over
  pub cycles : s.cycles ≡ m.cycles
  pub clock : s.clock ≡ m.clock
  pub cycle : cells.cycle ≡ s.clock
  pub slice_end : s.slice_end ≡ m.slice_end
  pub has_run : s.has_run ≡ m.has_run

-- they stand for some machine
pub record IsSystem (s : SystemState) (cells : CellsState) : Type 0 where
  pub machine : Machine
  pub stands : StandsFor s cells machine

-- the system went from one machine to another, whose process is of the run that the first one's was of
pub record Moves (before after : SystemState) (cells : CellsState) (m n : Machine) : Type 0 where
  pub settings : after.settings ≡ before.settings
  pub stands : StandsFor after cells n
  pub of_run : (hart : Hart) (image : Image) → IsRunnable hart image → IsOfRun hart image m.process → IsOfRun hart image n.process

-- it gave its process a slice
abbrev pub slice_given : SystemState → SystemState
slice_given s =
    let clock = s.clock + (if s.has_run then 0 else switch_cycles) in
    record s { clock = clock; slice_end = Some (clock + s.settings.slice); has_run = true }

-- the process asks for a service
pub record IsAsking (p : Process) : Type 0 where
  pub running : p.over ≡ None
  pub service : is_service (upcoming p.state) ≡ true

-- the process played an episode, which ended so
pub record HasPlayed (before after : SystemState) (cells : CellsState) (until : ℕ) (ended : Ended) (m : Machine) : Type 0 where
  pub result : EpisodeEnd
  pub is : episode (start_of before.settings m) until m.process ≡ Some result
  pub answer : ended ≡ result.ended
  pub moves : Moves before after cells m (played m result)
  pub asks : ended ≡ Service → IsAsking result.process

-- the machine did some rounds and stopped so
pub record Runs (before after : SystemState) (cells : CellsState) (m : Machine) (stop : Stop) : Type 0 where
  pub count : ℕ
  pub moves : Moves before after cells m (rounds before.settings count m)
  pub stops : stop_of before.settings (rounds before.settings count m) ≡ Some stop

-- the system of an image, booted in physical memory that has the frames for it; the image runs on its hart. Its tables were
-- written, and then each page's words in rising order, page after page, and nothing else
pub record Boots (options : Options) (image : Image) (before after : CellsState) (s : SystemState) : Type 0 where
  pub settings : s.settings ≡ settings_of options
  pub stands : StandsFor s after (booted_machine (settings_of options).hart image)
  pub runnable : IsRunnable (settings_of options).hart image
  pub room : needed_frames image ≤ min options.frames before.frames
  pub makes : Makes before after (table_writes before.cycle (booted_residency image) 0 (table_frames image.pages) ++ page_writes before.cycle s.placement image.pages (length image.pages))

-- why an image isn't booted; where there are too few frames, physical memory is as it was
abbrev pub RefusesBoot : Options → Image → (before after : CellsState) → BootFault → Type 0
RefusesBoot options image before after NoMemory = Unit {0}
RefusesBoot options image before after (TooFewFrames need have) =
    (have < need) × (need ≡ needed_frames image) × (have ≡ min options.frames before.frames) × (after ≡ before)
