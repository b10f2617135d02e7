-- The machine with one process, by its rounds: a boundary, an episode of the process, and the service that it asks for. This
-- project's own.
use Rattle.std.specs.Prelude.{ℕ, zero, suc, ◌+◌, ◌-◌, ◌/◌, Bool, false, true, ◌==◌, nat_le, List, length, map, Option, Some, None, if◌then◌else◌, unwrap_or}
use Rattle.vx_base.specs.declared.machine.Want.{Want}
use Rattle.vx_episode.specs.Episode.{EpisodeEnd, episode}
use Rattle.vx_episode.specs.Organisation.{Organisation, Start}
use Rattle.vx_episode.specs.declared.ended.Ended.{Ended}
use Rattle.vx_episode.specs.declared.ended.Ended.TheVariants.{Slice, Away, Vector, Service, Faulted}
use Rattle.vx_image.specs.Images.{entry_of_page}
use Rattle.vx_image.specs.Pages.{Image}
use Rattle.vx_image.specs.Tables.{table_frames}
use Rattle.vx_flat.specs.Process.{Process, begun, stepped}
use Rattle.vx_flat.specs.Service.{service}
use Rattle.vx_flat.specs.State.{Flat, register}
use Rattle.vx_flat.specs.declared.end.End.{End}
use Rattle.vx_flat.specs.declared.hart.Hart.{Hart}
use Rattle.vx_machine.specs.declared.stop.Stop.{Stop}
use Rattle.vx_machine.specs.declared.stop.Stop.TheVariants.{Done, Spent}
use Rattle.vx_tables.specs.Residency.{Residency, at_boot}
use Rattle.vx_words.specs.Words.{OptionName, Given, given_number}
use Rattle.vx_words.specs.Words.OptionName.{Vlen, Window, Lanes, Banks, BankTime, Frames, Budget}

-- the hart and the organisation that a run is told for, the most frames that it uses, the cycles of a slice, and the budget: the
-- cycles, or of an image alone the instructions, after which it ends. The cycles are tested at boundaries, so that they may be more
pub record Settings : Type 0 where
  pub hart : Hart
  pub organisation : Organisation
  pub frames : ℕ
  pub slice : ℕ
  pub budget : ℕ

-- the number that an option is given, or else its default
abbrev pub number_or : OptionName → (default : ℕ) → List Given → ℕ
number_or option default givens = unwrap_or (given_number option givens) default

-- the settings of a run under these options; a batch of accesses has one element
abbrev pub settings_for : List Given → Settings
settings_for givens = record {
  hart = record { vlen = number_or Vlen 256 givens };
  organisation = record {
    lanes = number_or Lanes 4 givens;
    banks = number_or Banks 8 givens;
    bank_time = number_or BankTime 4 givens;
    window = number_or Window 1 givens;
    batch_limit = 1;
  };
  frames = number_or Frames 4096 givens;
  slice = 10000;
  budget = number_or Budget 1000000000 givens;
}

-- the frames that an image needs: those of its tables, and one for each page
abbrev pub needed_frames : Image → ℕ
needed_frames image = table_frames image.pages + length image.pages

-- the pages of an image at boot: in successive frames behind those of the tables, which stand from frame 0 on
abbrev pub booted_residency : Image → Residency
booted_residency image = at_boot (Some (table_frames image.pages)) (map entry_of_page image.pages)

-- the cycles for taking another process than the one that ran last, and those of a service beside its words
abbrev pub switch_cycles : ℕ
switch_cycles = 100

abbrev pub service_cycles : ℕ
service_cycles = 50

pub record Machine : Type 0 where
  pub process : Process
  -- where its pages are
  pub residency : Residency
  -- the cycles that the process took
  pub cycles : ℕ
  pub clock : ℕ
  -- the cycle at which the process's slice ends, while it has one
  pub slice_end : Option ℕ
  -- the process has had a slice
  pub has_run : Bool

-- the machine at boot
abbrev pub booted_machine : Hart → Image → Machine
booted_machine hart image =
    record { process = begun hart image; residency = booted_residency image; cycles = 0; clock = 0; slice_end = None; has_run = false }

-- how a run that has used so much of its budget stops: with the process ended, or else with the budget reached
abbrev pub stop_at : (budget used : ℕ) → Option End → Option Stop
stop_at budget used (Some end) = Some Done
stop_at budget used None = if nat_le budget used then Some Spent else None

-- how the run stops at a boundary, by the clock
abbrev pub stop_of : Settings → Machine → Option Stop
stop_of settings m = stop_at settings.budget m.clock m.process.over

-- the process is given a slice from a cycle on
abbrev pub given_slice : Settings → Machine → ℕ → Machine
given_slice settings m clock = record m { clock = clock; slice_end = Some (clock + settings.slice); has_run = true }

-- the process goes on in its slice, or is given one; the first costs a switch
abbrev pub taken : Settings → Machine → Machine
taken settings m = elim (m.slice_end) [
  | Some end ↦ m
  | None ↦ given_slice settings m (m.clock + (if m.has_run then 0 else switch_cycles))
]

-- how many aligned words of 8 bytes hold so many bytes from an address on
abbrev pub words_held : (address count : ℕ) → ℕ
words_held address count = if count == 0 then 0 else (address + count - 1) / 8 - address / 8 + 1

-- how many words the service that a state asks for moves; an exit moves none
abbrev pub words_moved : Flat → ℕ
words_moved s = words_held (register s 11) (length (service s (register s 17)).written)

-- the process took some cycles
abbrev pub passed : Machine → Process → (cycles : ℕ) → Machine
passed m process cycles = record m { process = process; cycles = m.cycles + cycles; clock = m.clock + cycles }

-- the service is done
abbrev pub served : Machine → Machine
served m = passed m (stepped m.process) (words_moved m.process.state + service_cycles)

-- what an episode of the process begins with, which has its vectors
abbrev pub start_of : Settings → Machine → Start
start_of settings m = record { machine = settings.organisation; cycle = m.clock; residency = m.residency; root = 0; has_vectors = true }

-- the process has played an episode
abbrev pub played : Machine → EpisodeEnd → Machine
played m e = passed (record m { residency = e.residency }) e.process (e.clock - m.clock)

-- the machine once an episode ended so: the process's slice is over, or a service follows, or the process has ended. No page is
-- away, and the vectors are there
abbrev pub after_ended : Machine → Ended → Machine
after_ended m Slice = record m { slice_end = None }
after_ended m (Away address want) = m
after_ended m Vector = m
after_ended m Service = served m
after_ended m (Faulted fault) = m

-- an episode is over; there always is an end
abbrev pub after_episode : Machine → Option EpisodeEnd → Machine
after_episode m (Some e) = after_ended (played m e) e.ended
after_episode m None = m

-- a round
abbrev pub round : Settings → Machine → Machine
round settings m = let t = taken settings m in after_episode t (episode (start_of settings t) (unwrap_or t.slice_end 0) t.process)

-- the next round, where the run hasn't stopped
abbrev pub next_round : Settings → Machine → Machine
next_round settings m = elim (stop_of settings m) [ None ↦ round settings m | Some stop ↦ m ]

-- so many rounds
unfoldable pub rounds : Settings → ℕ → Machine → Machine
rounds settings zero m = m
rounds settings (suc n) m = next_round settings (rounds settings n m)

-- the machine after so many rounds from boot
abbrev pub machine : Settings → Image → ℕ → Machine
machine settings image n = rounds settings n (booted_machine settings.hart image)
