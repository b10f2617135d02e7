-- What an engine is handed, and what it leaves of a process behind an episode. This project's own.
use Rattle.std.specs.Prelude.{◌≡◌, ℕ, ◌+◌, ◌<◌, ◌^◌, true, List, Option, Some, None}
use Rattle.vx_base.specs.declared.options.Options.{Options}
use Rattle.vx_cells.specs.Cells.{CellsState}
use Rattle.vx_episode.specs.Organisation.{Organisation, Start}
use Rattle.vx_episode.specs.Played.{Plays}
use Rattle.vx_episode.specs.Show.{Registers, Shows}
use Rattle.vx_episode.specs.declared.ended.Ended.{Ended}
use Rattle.vx_episode.specs.declared.ended.Ended.TheVariants as ended
use Rattle.vx_flat.specs.Process.{Process}
use Rattle.vx_flat.specs.Splits.{IsWellFormed}
use Rattle.vx_flat.specs.Step.{upcoming}
use Rattle.vx_flat.specs.declared.end.End.{End}
use Rattle.vx_flat.specs.declared.end.End.TheVariants as end
use Rattle.vx_hart.specs.Asking.{is_service}
use Rattle.vx_hart.specs.declared.arch.Arch.{Arch}
use Rattle.vx_paged.specs.Placed.{IsPlacedAs, IsWhole}
use Rattle.vx_paged.specs.declared.placement.FramedPage.{FramedPage}
use Rattle.vx_pipe.specs.declared.counts.Counts.{Counts}
use Rattle.vx_tables.specs.Residency.{Residency}

-- the registers of a hart
abbrev pub registers_of : Arch → Registers
registers_of arch = record { pc = arch.pc; x = arch.regs.x; v = arch.v }

-- the organisation that options name; a batch of accesses has one element
abbrev pub organisation_of : Options → Organisation
organisation_of options = record {
  lanes = options.lanes;
  banks = options.banks;
  bank_time = options.bank_time;
  window = options.window;
  batch_limit = 1;
}

-- how a process is over behind an episode that ended so
abbrev pub end_of : Ended → Option End
end_of ended.Slice = None
end_of (ended.Away address want) = None
end_of ended.Vector = None
end_of ended.Service = None
end_of (ended.Faulted fault) = Some (end.Faulted fault)

-- ---- before

-- a process can play an episode
pub record IsPlayable (p : Process) : Type 0 where
  pub running : p.over ≡ None
  pub formed : IsWellFormed p.state
  pub whole : IsWhole p.state.memory

-- registers and physical memory show a process that can play an episode, with its pages where the placement says
pub record IsShown (registers : Registers) (cells : CellsState) (first : ℕ) (placement : List FramedPage) : Type 0 where
  pub residency : Residency
  pub process : Process
  pub shows : Shows registers cells first residency process.state
  pub placed : IsPlacedAs placement residency
  pub playable : IsPlayable process

-- ---- behind it

-- a process has come to another in an episode that ended so, in which so many instructions completed
pub record HasCome (before after : Process) (why : Ended) (completed : ℕ) : Type 0 where
  pub over : after.over ≡ end_of why
  pub counted : before.count + completed < 2 ^ 64 → after.count ≡ before.count + completed
  pub formed : after.over ≡ None → IsWellFormed after.state
  pub asks : why ≡ ended.Service → is_service (upcoming after.state) ≡ true

-- the same, and nothing was written to the output
pub record IsLeft (before after : Process) (why : Ended) (completed : ℕ) : Type 0 where
  pub come : HasCome before after why completed
  pub output : after.state.output ≡ before.state.output
  pub whole : IsWhole after.state.memory

-- an episode was played, and the process's pages are where the placement says
pub record PlaysPlaced (start : Start) (until : ℕ) (process : Process) (before after : CellsState) (registers : Registers) (why : Ended) (counts : Counts) (placement : List FramedPage) : Type 0 where
  pub plays : Plays start until process before after registers why counts.commits counts.retired counts.dirtied
  pub placed : IsPlacedAs placement plays.result.residency
  pub left : IsLeft process plays.result.process why counts.retired
