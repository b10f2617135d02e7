-- The claim: what each answer of the program's call says. This project's own.
use Rattle.std.specs.Prelude.{◌≡◌, ℕ, ◌<◌, ◌≤◌, ◌⊎◌, min, List, [], ◌∷◌, Some, None}
use Rattle.vx_base.specs.Shelf.{ShelfState, AsksFor, Reads, FailsToRead, IsTooLong, IsUnasked}
use Rattle.vx_base.specs.Sink.{SinkState, IsWritten, IsBegun, IsCutOff}
use Rattle.vx_cells.specs.Cells.{CellsState}
use Rattle.vx_elf.specs.Writing.{written}
use Rattle.vx_episode.specs.Show.{Registers, Shows}
use Rattle.vx_image.specs.Pages.{Image}
use Rattle.vx_flat.specs.Process.{begun, stepped_on}
use Rattle.vx_language.specs.Assembly.{faults, first_fault, assembled}
use Rattle.vx_language.specs.declared.fault.Fault.{Fault}
use Rattle.vx_machine.specs.Accounts.{account_of, account_alone, IsTrueOf}
use Rattle.vx_machine.specs.Alone.{StopsAfter}
use Rattle.vx_machine.specs.ImageFiles.{file_fault, image_of_file}
use Rattle.vx_machine.specs.Machine.{Machine, Settings, settings_for, needed_frames, machine, stop_of}
use Rattle.vx_machine.specs.Report.{report}
use Rattle.vx_machine.specs.declared.account.Measure.TheVariants.{Cycles, Instructions}
use Rattle.vx_machine.specs.declared.stop.Stop.{Stop}
use Rattle.vx_machine.specs.declared.stop.Stop.TheVariants as stop
use Rattle.vx_source.specs.Listing.{listing}
use Rattle.vx_words.specs.Notes.{file_limit, bad_words, read_failed, bad_image, bad_source, write_failed, too_few_frames, no_memory}
use Rattle.vx_words.specs.declared.file_fault.FileFault.{FileFault}
use Rattle.vx_words.specs.declared.file_fault.FileFault.TheVariants.{TooLong}
use Rattle.vx_words.specs.Words.{Given, ImageFile, name_of, AskFor, AskForFile, AskToExecute, AreOutside, IsFirstBad}
use Rattle.vx_words.specs.Words.Command.{Execute, Dis, Asm}
use Rattle.vx_words.specs.declared.image_job.ImageJob.{ImageJob}
use Rattle.vx_words.specs.declared.image_job.ImageJob.TheVariants.{Run, Alone}
use Rattle.vx_words.specs.declared.status.Status.{Status}
use Rattle.vx_words.specs.declared.status.Status.TheVariants.{Done, Usage, ReadFault, BadImage, WriteFault, Spent, NoMemory, BadSource, TooFewFrames}

-- what the call is handed: the shelf, where the report goes, where the notes go, and physical memory
pub record Devices : Type 0 where
  pub shelf : ShelfState
  pub out : SinkState
  pub note : SinkState
  pub cells : CellsState

-- physical memory shows the machine's process, with its page tables from frame 0 on, at the machine's cycle
pub record Leaves (cells : CellsState) (m : Machine) : Type 0 where
  pub registers : Registers
  pub shows : Shows registers cells 0 m.residency m.process.state
  pub cycle : cells.cycle ≡ m.clock

-- the headline: after so many rounds the machine stops so, physical memory shows its process, the report tells its state,
-- and what it tells is so of the image alone on the hart of the run
pub record Headline (settings : Settings) (image : Image) (stop : Stop) (cells : CellsState) (text : List ℕ) : Type 0 where
  pub count : ℕ
  pub stops : stop_of settings (machine settings image count) ≡ Some stop
  pub leaves : Leaves cells (machine settings image count)
  pub tells : text ≡ report (account_of (machine settings image count) ∷ []) (machine settings image count).clock Cycles stop
  pub values : IsTrueOf settings.hart image (account_of (machine settings image count))

-- the image alone on the hart stops so after so many steps, the report tells its state, and what it tells is so
pub record HeadlineAlone (settings : Settings) (image : Image) (stop : Stop) (text : List ℕ) : Type 0 where
  pub steps : ℕ
  pub stops : StopsAfter settings.budget (begun settings.hart image) steps stop
  pub tells : text ≡ report (account_alone (stepped_on steps (begun settings.hart image)) ∷ []) (stepped_on steps (begun settings.hart image)).count Instructions stop
  pub values : IsTrueOf settings.hart image (account_alone (stepped_on steps (begun settings.hart image)))

-- what a job with an image tells, and what it leaves of physical memory; alone it leaves that as it was
abbrev pub HeadlineOf : ImageJob → Settings → Image → Stop → (before after : CellsState) → List ℕ → Type 0
HeadlineOf Run settings image stop before after text = Headline settings image stop after text
HeadlineOf Alone settings image stop before after text = HeadlineAlone settings image stop text × (after ≡ before)

-- the frames that a run may use: the lesser of those of its settings and those of physical memory
abbrev pub given_frames : Settings → CellsState → ℕ
given_frames settings cells = min settings.frames cells.frames

-- there are enough frames for the job with the image; alone it needs none
abbrev pub HasRoom : ImageJob → Settings → Image → CellsState → Type 0
HasRoom Run settings image cells = needed_frames image ≤ given_frames settings cells
HasRoom Alone settings image cells = Unit {0}

-- the status of a run that stopped so
abbrev pub status_of : Stop → Status
status_of stop.Done = Done
status_of stop.Spent = Spent

-- the note grew by this line, or by a prefix of it where the count of its faults rose
abbrev pub IsNoted : SinkState → SinkState → List ℕ → Type 0
IsNoted before after text = IsWritten before after text ⊎ IsCutOff before after text

-- the words ask for no command, and no file was asked for; the note tells the first bad word
pub record HasBadWords (words : List (List ℕ)) (before after : Devices) : Type 0 where
  pub outside : AreOutside words
  pub index : ℕ
  pub first_bad : IsFirstBad words index
  pub shelf : after.shelf ≡ before.shelf
  pub out : after.out ≡ before.out
  pub cells : after.cells ≡ before.cells
  pub note : IsNoted before.note after.note (bad_words index)

-- a fault of the shelf came in this call
pub record HasReadFault (words : List (List ℕ)) (before after : Devices) : Type 0 where
  pub name : List ℕ
  pub asks : AskForFile words name
  pub read : FailsToRead before.shelf after.shelf name
  pub out : after.out ≡ before.out
  pub cells : after.cells ≡ before.cells
  pub note : IsNoted before.note after.note (read_failed name)

-- the words ask for a job with the image in the file of this name, and its bytes have the fault
pub record HasBytesFault (words : List (List ℕ)) (before after : Devices) (name : List ℕ) (fault : FileFault) : Type 0 where
  pub file : ImageFile
  pub named : name ≡ name_of file
  pub asks : AskToExecute words file
  pub bytes : List ℕ
  pub read : Reads before.shelf after.shelf name file_limit bytes
  pub found : file_fault file bytes ≡ Some fault

-- the words ask for a command on the file of this name, and it has the fault
abbrev pub HasFault : List (List ℕ) → Devices → Devices → List ℕ → FileFault → Type 0
HasFault words before after name TooLong = AskForFile words name × IsTooLong before.shelf after.shelf name file_limit
HasFault words before after name fault = HasBytesFault words before after name fault

-- the file is refused for a fault
pub record HasBadImage (words : List (List ℕ)) (before after : Devices) : Type 0 where
  pub name : List ℕ
  pub fault : FileFault
  pub cause : HasFault words before after name fault
  pub out : after.out ≡ before.out
  pub cells : after.cells ≡ before.cells
  pub note : IsNoted before.note after.note (bad_image name fault)

-- the words ask for a job with an image; the file gives one, and it ran and stopped with this status and this report
pub record HasRun (words : List (List ℕ)) (before after : Devices) (status : Status) (text : List ℕ) : Type 0 where
  pub job : ImageJob
  pub givens : List Given
  pub file : ImageFile
  pub asks : AskFor words (Execute job givens file)
  pub bytes : List ℕ
  pub read : Reads before.shelf after.shelf (name_of file) file_limit bytes
  pub is_image : file_fault file bytes ≡ None
  pub room : HasRoom job (settings_for givens) (image_of_file file bytes) before.cells
  pub stop : Stop
  pub headline : HeadlineOf job (settings_for givens) (image_of_file file bytes) stop before.cells after.cells text
  pub answers : status ≡ status_of stop

-- the words ask to run an image, the file gives one, and there are too few frames for it
pub record HasTooFewFrames (words : List (List ℕ)) (before after : Devices) : Type 0 where
  pub givens : List Given
  pub file : ImageFile
  pub asks : AskFor words (Execute Run givens file)
  pub bytes : List ℕ
  pub read : Reads before.shelf after.shelf (name_of file) file_limit bytes
  pub is_image : file_fault file bytes ≡ None
  pub few : given_frames (settings_for givens) before.cells < needed_frames (image_of_file file bytes)
  pub out : after.out ≡ before.out
  pub cells : after.cells ≡ before.cells
  pub note : IsNoted before.note after.note (too_few_frames (needed_frames (image_of_file file bytes)) (given_frames (settings_for givens) before.cells))

-- the words ask for a file's listing, and this is it
pub record HasListed (words : List (List ℕ)) (before after : Devices) (status : Status) (text : List ℕ) : Type 0 where
  pub name : List ℕ
  pub asks : AskFor words (Dis name)
  pub bytes : List ℕ
  pub read : Reads before.shelf after.shelf name file_limit bytes
  pub lists : text ≡ listing bytes
  pub cells : after.cells ≡ before.cells
  pub answers : status ≡ Done

-- the words ask to assemble a file; it is a source without a fault, and this is the ELF file of its program
pub record HasAssembled (words : List (List ℕ)) (before after : Devices) (status : Status) (text : List ℕ) : Type 0 where
  pub name : List ℕ
  pub asks : AskFor words (Asm name)
  pub bytes : List ℕ
  pub read : Reads before.shelf after.shelf name file_limit bytes
  pub faultless : faults bytes ≡ []
  pub writes : text ≡ written (assembled bytes)
  pub cells : after.cells ≡ before.cells
  pub answers : status ≡ Done

-- the command's job is done with this status, and its text is this
abbrev pub HasText : List (List ℕ) → Devices → Devices → Status → List ℕ → Type 0
HasText words before after status text =
    HasRun words before after status text ⊎ HasListed words before after status text ⊎ HasAssembled words before after status text

-- the words ask to assemble a file, and it is a source with a fault, which is the first
pub record HasBadSource (words : List (List ℕ)) (before after : Devices) : Type 0 where
  pub name : List ℕ
  pub asks : AskFor words (Asm name)
  pub bytes : List ℕ
  pub read : Reads before.shelf after.shelf name file_limit bytes
  pub fault : Fault
  pub first : first_fault bytes ≡ Some fault
  pub out : after.out ≡ before.out
  pub cells : after.cells ≡ before.cells
  pub note : IsNoted before.note after.note (bad_source name bytes fault)

-- the text was written whole
pub record HasTold (words : List (List ℕ)) (before after : Devices) (status : Status) : Type 0 where
  pub text : List ℕ
  pub job : HasText words before after status text
  pub out : IsWritten before.out after.out text
  pub note : after.note ≡ before.note

-- a fault of `out` came in this call: a prefix of the text was written
pub record HasWriteFault (words : List (List ℕ)) (before after : Devices) : Type 0 where
  pub status : Status
  pub text : List ℕ
  pub job : HasText words before after status text
  pub out : IsCutOff before.out after.out text
  pub note : IsNoted before.note after.note write_failed

-- a prefix of the listing was written, without a fault
pub record HasBegun (words : List (List ℕ)) (before after : Devices) : Type 0 where
  pub text : List ℕ
  pub job : HasListed words before after Done text
  pub out : IsBegun before.out after.out text
  pub faults : after.out.faults ≡ before.out.faults

-- memory was wanting: at most the words' file was asked for, and nothing was put on `out`, or a prefix of a listing
pub record HasNoMemory (words : List (List ℕ)) (before after : Devices) : Type 0 where
  pub shelf : IsUnasked before.shelf after.shelf ⊎ ((name : List ℕ) × AskForFile words name × AsksFor before.shelf after.shelf name)
  pub out : (after.out ≡ before.out) ⊎ HasBegun words before after
  pub note : IsNoted before.note after.note no_memory

-- what each status says
abbrev pub Claims : List (List ℕ) → Devices → Devices → Status → Type 0
Claims words before after Done = HasTold words before after Done
Claims words before after Usage = HasBadWords words before after
Claims words before after ReadFault = HasReadFault words before after
Claims words before after BadImage = HasBadImage words before after
Claims words before after WriteFault = HasWriteFault words before after
Claims words before after Spent = HasTold words before after Spent
Claims words before after NoMemory = HasNoMemory words before after
Claims words before after BadSource = HasBadSource words before after
Claims words before after TooFewFrames = HasTooFewFrames words before after
