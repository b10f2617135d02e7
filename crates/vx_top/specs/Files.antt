-- What the reading and the running of an image's file give. This project's own.
use Rattle.std.specs.Prelude.{◌≡◌, ℕ, ◌<◌, ◌⊎◌, List, Some, None}
use Rattle.vx_base.specs.Shelf.{ShelfState, Reads, FailsToRead, IsTooLong, IsUnasked}
use Rattle.vx_base.specs.Sink.{SinkState, IsWritten, IsBegun, IsCutOff}
use Rattle.vx_cells.specs.Cells.{CellsState}
use Rattle.vx_elf.specs.declared.fault.ElfFault.{ElfFault}
use Rattle.vx_elf.specs.declared.fault.ElfFault.TheVariants as elf
use Rattle.vx_image.specs.Pages.{Image}
use Rattle.vx_image.specs.declared.fault.ImageFault.{ImageFault}
use Rattle.vx_image.specs.declared.fault.ImageFault.TheVariants as image
use Rattle.vx_machine.specs.Claim.{HasRoom, HeadlineOf, IsNoted, given_frames}
use Rattle.vx_machine.specs.ImageFiles.{file_fault, image_of_file}
use Rattle.vx_machine.specs.Machine.{Settings, needed_frames}
use Rattle.vx_machine.specs.declared.stop.Stop.TheVariants as stop
use Rattle.vx_system.specs.declared.boot.BootFault.{BootFault}
use Rattle.vx_system.specs.declared.boot.BootFault.TheVariants as boot
use Rattle.vx_top.specs.Noted.{NotesWant, Answers}
use Rattle.vx_top.specs.declared.refusal.Refusal.{Refusal}
use Rattle.vx_top.specs.declared.refusal.Refusal.TheVariants.{ReadFault, BadFile, TooFewFrames, NoMemory}
use Rattle.vx_top.specs.declared.run.Report.{Report}
use Rattle.vx_words.specs.Notes as notes
use Rattle.vx_words.specs.Words.{ImageFile, name_of}
use Rattle.vx_words.specs.declared.file_fault.FileFault.TheVariants.{TooLong, BadElf, NoImage}
use Rattle.vx_words.specs.declared.image_job.ImageJob.{ImageJob}
use Rattle.vx_words.specs.declared.image_job.ImageJob.TheVariants.{Run, Alone}
use Rattle.vx_words.specs.declared.status.Status.{Status}
use Rattle.vx_words.specs.declared.status.Status.TheVariants as status

-- why an ELF file that has a fault is refused, and an image
abbrev pub refusal_of_elf : ElfFault → Refusal
refusal_of_elf elf.NoMemory = NoMemory
refusal_of_elf fault = BadFile (BadElf fault)

abbrev pub refusal_of_image : ImageFault → Refusal
refusal_of_image image.NoMemory = NoMemory
refusal_of_image fault = BadFile (NoImage fault)

-- and a boot
abbrev pub refusal_of_boot : BootFault → Refusal
refusal_of_boot boot.NoMemory = NoMemory
refusal_of_boot (boot.TooFewFrames need have) = TooFewFrames need have

-- the bytes of a file give the image
abbrev pub IsImageIn : ImageFile → List ℕ → Image → Type 0
IsImageIn file bytes made = (file_fault file bytes ≡ None) × (made ≡ image_of_file file bytes)

-- the bytes of a file are refused for this
abbrev pub RefusesBytes : ImageFile → List ℕ → Refusal → Type 0
RefusesBytes file bytes ReadFault = ⊥
RefusesBytes file bytes (BadFile fault) = file_fault file bytes ≡ Some fault
RefusesBytes file bytes (TooFewFrames need have) = ⊥
RefusesBytes file bytes NoMemory = Unit {0}

-- the job was done with the image under the settings, in physical memory that has the frames for it, and stopped so, with this report
abbrev pub Ran : ImageJob → Settings → Image → (before after : CellsState) → Report → Type 0
Ran job settings made before after report = HasRoom job settings made before × HeadlineOf job settings made report.stop before after report.text

-- a run of the image is refused for this; where there are too few frames, physical memory is as it was
abbrev pub RefusesRun : Settings → Image → (before after : CellsState) → Refusal → Type 0
RefusesRun settings made before after ReadFault = ⊥
RefusesRun settings made before after (BadFile fault) = ⊥
RefusesRun settings made before after (TooFewFrames need have) =
    (have < need) × (need ≡ needed_frames made) × (have ≡ given_frames settings before) × (after ≡ before)
RefusesRun settings made before after NoMemory = Unit {0}

-- the job with the image is refused for this
abbrev pub RefusesJob : ImageJob → Settings → Image → (before after : CellsState) → Refusal → Type 0
RefusesJob Run settings made before after refusal = RefusesRun settings made before after refusal
RefusesJob Alone settings made before after refusal = refusal ≡ NoMemory

-- the image's file was read, it gives an image, and the job was done with it, with this report
pub record RanFile (job : ImageJob) (settings : Settings) (before after : ShelfState) (cells cells' : CellsState) (file : ImageFile) (report : Report) : Type 0 where
  pub bytes : List ℕ
  pub read : Reads before after (name_of file) notes.file_limit bytes
  pub is_image : file_fault file bytes ≡ None
  pub ran : Ran job settings (image_of_file file bytes) cells cells' report

-- the file of that name can't be read for this
abbrev pub RefusesFile : ShelfState → ShelfState → List ℕ → Refusal → Type 0
RefusesFile before after name ReadFault = FailsToRead before after name
RefusesFile before after name (BadFile TooLong) = IsTooLong before after name notes.file_limit
RefusesFile before after name (BadFile other) = ⊥
RefusesFile before after name (TooFewFrames need have) = ⊥
RefusesFile before after name NoMemory = IsUnasked before after

-- the image's file was read, and its bytes are refused for this
abbrev pub RefusesRead : ShelfState → ShelfState → ImageFile → Refusal → Type 0
RefusesRead before after file refusal = (bytes : List ℕ) × Reads before after (name_of file) notes.file_limit bytes × RefusesBytes file bytes refusal

-- the image's file was read, it gives an image, and the job with that is refused for this
pub record RefusesImage (job : ImageJob) (settings : Settings) (before after : ShelfState) (cells cells' : CellsState) (file : ImageFile) (refusal : Refusal) : Type 0 where
  pub bytes : List ℕ
  pub read : Reads before after (name_of file) notes.file_limit bytes
  pub is_image : file_fault file bytes ≡ None
  pub refused : RefusesJob job settings (image_of_file file bytes) cells cells' refusal

-- the job with the image of a file is refused for this; where the file is, physical memory is as it was
abbrev pub Refuses : ImageJob → Settings → ShelfState → ShelfState → (cells cells' : CellsState) → ImageFile → Refusal → Type 0
Refuses job settings before after cells cells' file refusal =
    (RefusesFile before after (name_of file) refusal × (cells' ≡ cells))
    ⊎ (RefusesRead before after file refusal × (cells' ≡ cells))
    ⊎ RefusesImage job settings before after cells cells' file refusal

-- the status that tells of the refusal, and its note
abbrev pub TellsRefusal : SinkState → SinkState → List ℕ → Refusal → Status → Type 0
TellsRefusal before after name ReadFault answer = Answers before after status.ReadFault (notes.read_failed name) answer
TellsRefusal before after name (BadFile fault) answer = Answers before after status.BadImage (notes.bad_image name fault) answer
TellsRefusal before after name (TooFewFrames need have) answer = Answers before after status.TooFewFrames (notes.too_few_frames need have) answer
TellsRefusal before after name NoMemory answer = NotesWant before after answer

-- the status that tells of the report: what it says of the sink for the report and of the one for notes
abbrev pub TellsReport : SinkState → SinkState → SinkState → SinkState → Report → Status → Type 0
TellsReport out out' note note' report status.Done = (report.stop ≡ stop.Done) × IsWritten out out' report.text × (note' ≡ note)
TellsReport out out' note note' report status.Spent = (report.stop ≡ stop.Spent) × IsWritten out out' report.text × (note' ≡ note)
TellsReport out out' note note' report status.WriteFault = IsCutOff out out' report.text × IsNoted note note' notes.write_failed
TellsReport out out' note note' report status.Usage = ⊥
TellsReport out out' note note' report status.ReadFault = ⊥
TellsReport out out' note note' report status.BadImage = ⊥
TellsReport out out' note note' report status.NoMemory = ⊥
TellsReport out out' note note' report status.BadSource = ⊥
TellsReport out out' note note' report status.TooFewFrames = ⊥

-- the status that tells how a listing went: what it says of the sink for the listing and of the one for notes
abbrev pub TellsListing : SinkState → SinkState → SinkState → SinkState → List ℕ → Status → Type 0
TellsListing out out' note note' text status.Done = IsWritten out out' text × (note' ≡ note)
TellsListing out out' note note' text status.WriteFault = IsCutOff out out' text × IsNoted note note' notes.write_failed
TellsListing out out' note note' text status.NoMemory = IsBegun out out' text × (out'.faults ≡ out.faults) × IsNoted note note' notes.no_memory
TellsListing out out' note note' text status.Spent = ⊥
TellsListing out out' note note' text status.Usage = ⊥
TellsListing out out' note note' text status.ReadFault = ⊥
TellsListing out out' note note' text status.BadImage = ⊥
TellsListing out out' note note' text status.BadSource = ⊥
TellsListing out out' note note' text status.TooFewFrames = ⊥
