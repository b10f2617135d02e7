-- What is told of a process, and when it is so of the process alone. This project's own.
use Rattle.std.specs.Prelude.{◌≡◌, ℕ, ◌≤◌, ℤ, List, Option, Some, None}
use Rattle.vx_base.specs.declared.machine.Fault.{Fault}
use Rattle.vx_image.specs.Pages.{Image}
use Rattle.vx_flat.specs.Prefix.{flat_within}
use Rattle.vx_flat.specs.Process.{Process}
use Rattle.vx_flat.specs.Run.{flat, Exits, Faults, IsPrefixOf}
use Rattle.vx_flat.specs.State.{Flat}
use Rattle.vx_flat.specs.declared.end.End.{End}
use Rattle.vx_flat.specs.declared.hart.Hart.{Hart}
use Rattle.vx_machine.specs.Machine.{Machine}
use Rattle.vx_machine.specs.declared.account.Costs.{Costs}
use Rattle.vx_flat.specs.declared.end.End.TheVariants as end

-- how a process stands
pub data Standing : Type 0 where
  Exited : (code : ℤ) → Standing
  Faulted : (fault : Fault) (pc : ℕ) → Standing
  Stopped : (pc vstart : ℕ) → Standing

pub record Account : Type 0 where
  pub standing : Standing
  pub instructions : ℕ
  -- what the machine spent on it, where it ran on one
  pub costs : Option Costs
  pub output : List ℕ

abbrev pub standing_of : (pc vstart : ℕ) → Option End → Standing
standing_of pc vstart (Some (end.Exited code)) = Exited code
standing_of pc vstart (Some (end.Faulted fault)) = Faulted fault pc
standing_of pc vstart None = Stopped pc vstart

-- what is told of a process with these costs
abbrev pub account_with : Option Costs → Process → Account
account_with costs p = record {
  standing = standing_of p.state.pc p.state.v.vstart p.over;
  instructions = p.count;
  costs = costs;
  output = p.state.output;
}

-- what is told of the machine's process
abbrev pub account_of : Machine → Account
account_of m = account_with (Some (record { cycles = m.cycles; misses = 0 })) m.process

-- what is told of a process alone
abbrev pub account_alone : Process → Account
account_alone p = account_with None p

-- alone on the hart, the image exits so with its n-th instruction and has written this
pub record ExitsAlone (hart : Hart) (image : Image) (n : ℕ) (code : ℤ) (output : List ℕ) : Type 0 where
  pub last : Flat
  pub exits : Exits hart image n code last
  pub wrote : output ≡ last.output

-- alone on the hart, the image faults so after n instructions, at this pc, and has written this
pub record FaultsAlone (hart : Hart) (image : Image) (n : ℕ) (fault : Fault) (pc : ℕ) (output : List ℕ) : Type 0 where
  pub last : Flat
  pub faults : Faults hart image n fault last
  pub at : pc ≡ last.pc
  pub wrote : output ≡ last.output

-- alone on the hart, the image has this pc after n instructions and, where vstart rose within the next one, its elements below,
-- and has written this, which is a prefix of all that it goes on to write
pub record GoesOnAlone (hart : Hart) (image : Image) (n : ℕ) (pc vstart : ℕ) (output : List ℕ) : Type 0 where
  pub now : Flat
  pub reached : flat_within hart image n vstart ≡ Some now
  pub at : pc ≡ now.pc
  pub element : vstart ≡ now.v.vstart
  pub wrote : output ≡ now.output
  pub prefix : (m : ℕ) (later : Flat) → n ≤ m → flat hart image m ≡ Some later → IsPrefixOf output later.output

abbrev pub StandsAlone : Hart → Image → ℕ → List ℕ → Standing → Type 0
StandsAlone hart image n output (Exited code) = ExitsAlone hart image n code output
StandsAlone hart image n output (Faulted fault pc) = FaultsAlone hart image n fault pc output
StandsAlone hart image n output (Stopped pc vstart) = GoesOnAlone hart image n pc vstart output

-- what an account tells is so of the image alone on the hart
abbrev pub IsTrueOf : Hart → Image → Account → Type 0
IsTrueOf hart image a = StandsAlone hart image a.instructions a.output a.standing

-- where a process is in the run of its image alone on the hart: it exited or faulted so, or stands within its next instruction
abbrev pub IsAt : Hart → Image → (count : ℕ) → Flat → Option End → Type 0
IsAt hart image count s (Some (end.Exited code)) = ExitsAlone hart image count code s.output
IsAt hart image count s (Some (end.Faulted fault)) = FaultsAlone hart image count fault s.pc s.output
IsAt hart image count s None = flat_within hart image count s.v.vstart ≡ Some s

-- the process is one of that run
abbrev pub IsOfRun : Hart → Image → Process → Type 0
IsOfRun hart image p = IsAt hart image p.count p.state p.over
