-- What the assembling of a file gives. This project's own.
use Rattle.std.specs.Prelude.{◌≡◌, ℕ, ◌⊎◌, List, [], Option, Some, None}
use Rattle.vx_asm.specs.Assembling.{Tells}
use Rattle.vx_base.specs.Sink.{SinkState, IsWritten, IsCutOff}
use Rattle.vx_elf.specs.Writing.{written}
use Rattle.vx_language.specs.Assembly.{faults, assembled}
use Rattle.vx_language.specs.declared.fault.Fault.{Fault}
use Rattle.vx_machine.specs.Claim.{IsNoted}
use Rattle.vx_top.specs.Noted.{NotesWant, Answers}
use Rattle.vx_words.specs.Notes as notes
use Rattle.vx_words.specs.declared.status.Status.{Status}
use Rattle.vx_words.specs.declared.status.Status.TheVariants as status

-- the status that tells how the writing of a file went: what it says of the sink for the file and of the one for notes
abbrev pub TellsFile : SinkState → SinkState → SinkState → SinkState → List ℕ → Status → Type 0
TellsFile out out' note note' text status.Done = IsWritten out out' text × (note' ≡ note)
TellsFile out out' note note' text status.WriteFault = IsCutOff out out' text × IsNoted note note' notes.write_failed
TellsFile out out' note note' text other = ⊥

-- the status that tells of a source's fault, or of want of memory
abbrev pub TellsFault : SinkState → SinkState → List ℕ → List ℕ → Option Fault → Status → Type 0
TellsFault before after name source None answer = NotesWant before after answer
TellsFault before after name source (Some fault) answer = Answers before after status.BadSource (notes.bad_source name source fault) answer

-- a source has no fault, and its file was told
pub record HasFile (out out' note note' : SinkState) (source : List ℕ) (answer : Status) : Type 0 where
  pub faultless : faults source ≡ []
  pub told : TellsFile out out' note note' (written (assembled source)) answer

-- a source's first fault was told, or want of memory
pub record HasFault (out out' note note' : SinkState) (name source : List ℕ) (answer : Status) : Type 0 where
  pub fault : Option Fault
  pub first : Tells source fault
  pub same : out' ≡ out
  pub told : TellsFault note note' name source fault answer

abbrev pub TellsSource : SinkState → SinkState → SinkState → SinkState → List ℕ → List ℕ → Status → Type 0
TellsSource out out' note note' name source answer = HasFile out out' note note' source answer ⊎ HasFault out out' note note' name source answer
