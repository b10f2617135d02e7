-- What each way through the call claims.
use Rattle.std.proofs.Common.{◌≡◌, ℕ, List, refl, sym, ap, ◌∙◌, subst, inl, inr, ◌<◌, ◌≤◌, arith}
use Rattle.std.specs.Prelude.{Result, Ok, Err, Option, Some, None, option_map, IfOk, MatchResult}
use Rattle.std.specs.Option.{option_or}
use Rattle.vx_base.specs.Shelf.{ShelfState, AsksFor, Reads}
use Rattle.vx_base.specs.Sink.{SinkState}
use Rattle.vx_base.specs.declared.options.Options.{Options}
use Rattle.vx_cells.specs.Cells.{CellsState}
use Rattle.vx_elf.specs.Reading.{elf_fault, segments_in}
use Rattle.vx_elf.specs.declared.fault.ElfFault.{ElfFault}
use Rattle.vx_image.specs.Images.{raw_fault, image_fault}
use Rattle.vx_image.specs.Pages.{Image}
use Rattle.vx_image.specs.declared.fault.ImageFault.{ImageFault}
use Rattle.vx_machine.specs.Claim.{Devices, HeadlineOf, Claims, HasFault, HasRoom, HasRun, HasTooFewFrames, IsNoted, given_frames, status_of}
use Rattle.vx_machine.specs.ImageFiles.{file_fault, image_of_file}
use Rattle.vx_machine.specs.Machine.{Settings, needed_frames, settings_for}
use Rattle.vx_read.specs.Images.{image_of}
use Rattle.vx_read.specs.Read.{AreRead}
use Rattle.vx_read.specs.declared.run_words.RunWords.{RunWords}
use Rattle.vx_system.specs.Runs.{settings_of}
use Rattle.vx_top.proofs.Settled.{AreFor, settled}
use Rattle.vx_source.specs.Listing.{listing}
use Rattle.vx_top.specs.Files.{Ran, RanFile, RefusesFile, RefusesImage, RefusesJob, RefusesRead, RefusesRun, Refuses, TellsRefusal, TellsReport, TellsListing}
use Rattle.vx_top.specs.Noted.{NotesWant, Answers}
use Rattle.vx_top.specs.declared.refusal.Refusal.{Refusal}
use Rattle.vx_top.specs.declared.refusal.Refusal.TheVariants as refusal
use Rattle.vx_top.specs.declared.run.Report.{Report}
use Rattle.vx_words.specs.Notes.{file_limit, bad_words, too_few_frames}
use Rattle.vx_words.specs.Words.{ImageFile, name_of, AskFor, AskForFile, AskToExecute, AreOutside, IsFirstBad}
use Rattle.vx_words.specs.Words.Command.{Execute, Dis}
use Rattle.vx_words.specs.declared.image_job.ImageJob.{ImageJob}
use Rattle.vx_words.specs.declared.image_job.ImageJob.TheVariants.{Run, Alone}
use Rattle.vx_words.specs.Words.ImageFile.{Raw, Elf}
use Rattle.vx_words.specs.declared.file_fault.FileFault.{FileFault}
use Rattle.vx_words.specs.declared.file_fault.FileFault.TheVariants.{TooLong, BadElf, NoImage}
use Rattle.vx_words.specs.declared.status.Status.{Status}
use Rattle.vx_words.specs.declared.status.Status.TheVariants.{Done, Usage, ReadFault, BadImage, WriteFault, Spent, NoMemory, BadSource, TooFewFrames}

-- a status was answered with its note, where that is what its text is
pub Answers-from : {T E : Type 0} (bytes : T → List ℕ) (text : Result T E) (before after : SinkState) (status answer : Status) (note : List ℕ) → IfOk text (λ t. bytes t ≡ note) → MatchResult text (λ t. (answer ≡ status) × IsNoted before after (bytes t)) (λ _. NotesWant before after answer) → Answers before after status note answer
Answers-from bytes (Ok t) before after status answer note is told = inl (told.0, subst (λ (l : List ℕ). IsNoted before after l) is told.1)
Answers-from bytes (Err e) before after status answer note is told = inr told

-- the words ask for no command, and that was answered with its note
pub Claims-usage : (words : List (List ℕ)) (shelf : ShelfState) (out note note' : SinkState) (cells : CellsState) (index : ℕ) (answer : Status) → AreOutside words × IsFirstBad words index → Answers note note' Usage (bad_words index) answer → Claims words (record { shelf = shelf; out = out; note = note; cells = cells }) (record { shelf = shelf; out = out; note = note'; cells = cells }) answer
Claims-usage words shelf out note note' cells index answer bad (inl told) =
    rw told.0 (record { outside = bad.0; index = index; first_bad = bad.1; shelf = refl; out = refl; cells = refl; note = told.1 })
Claims-usage words shelf out note note' cells index answer bad (inr want) =
    let stays : shelf.faults ≤ shelf.faults = omega arith in
    rw want.0 (record { shelf = inl (record { files = refl; asked = refl; faults = stays }); out = inl refl; note = want.1 })

-- the words ask for the run that was made
pub HasRun-from : (job : ImageJob) (words : List (List ℕ)) (run : RunWords) (read : AreRead job words run) (options : Options) → AreFor options run → (before after : Devices) (report : Report) (status : Status) → status ≡ status_of report.stop → RanFile job (settings_of options) before.shelf after.shelf before.cells after.cells (image_of run.image) report → HasRun words before after status report.text
HasRun-from job words run read options for before after report status answers ran = record {
  job = job;
  givens = read.givens;
  file = image_of run.image;
  asks = read.asked;
  bytes = ran.bytes;
  read = ran.read;
  is_image = ran.is_image;
  room = subst (λ (s : Settings). HasRoom job s (image_of_file (image_of run.image) ran.bytes) before.cells) (settled job words run read options for) ran.ran.0;
  stop = report.stop;
  headline = subst (λ (s : Settings). HeadlineOf job s (image_of_file (image_of run.image) ran.bytes) report.stop before.cells after.cells report.text) (settled job words run read options for) ran.ran.1;
  answers = answers;
}

-- the run was made, and its report was told
pub Claims-report : (job : ImageJob) (words : List (List ℕ)) (run : RunWords) (read : AreRead job words run) (options : Options) (for : AreFor options run) (before after : Devices) (report : Report) (answer : Status) → RanFile job (settings_of options) before.shelf after.shelf before.cells after.cells (image_of run.image) report → TellsReport before.out after.out before.note after.note report answer → Claims words before after answer
Claims-report job words run read options for before after report Usage ran told = elim told [ ]
Claims-report job words run read options for before after report ReadFault ran told = elim told [ ]
Claims-report job words run read options for before after report BadSource ran told = elim told [ ]
Claims-report job words run read options for before after report BadImage ran told = elim told [ ]
Claims-report job words run read options for before after report NoMemory ran told = elim told [ ]
Claims-report job words run read options for before after report TooFewFrames ran told = elim told [ ]
Claims-report job words run read options for before after report Done ran told = record {
  text = report.text;
  job = inl (HasRun-from job words run read options for before after report Done (sym (ap status_of told.0)) ran);
  out = told.1;
  note = told.2;
}
Claims-report job words run read options for before after report Spent ran told = record {
  text = report.text;
  job = inl (HasRun-from job words run read options for before after report Spent (sym (ap status_of told.0)) ran);
  out = told.1;
  note = told.2;
}
Claims-report job words run read options for before after report WriteFault ran told = record {
  status = status_of report.stop;
  text = report.text;
  job = inl (HasRun-from job words run read options for before after report (status_of report.stop) refl ran);
  out = told.0;
  note = told.1;
}

-- memory was wanting for the note of a file that was asked for
pub HasNoMemory-asked : (words : List (List ℕ)) (name : List ℕ) → AskForFile words name → (before after : Devices) → AsksFor before.shelf after.shelf name → after.out ≡ before.out → (answer : Status) → NotesWant before.note after.note answer → Claims words before after answer
HasNoMemory-asked words name ask before after asks out answer want =
    rw want.0 (record { shelf = inr (name, ask, asks); out = inl out; note = want.1 })

-- a file can't be read, and that was told
pub Claims-unread : (words : List (List ℕ)) (name : List ℕ) → AskForFile words name → (before after : Devices) (refusal : Refusal) (answer : Status) → after.out ≡ before.out → after.cells ≡ before.cells → RefusesFile before.shelf after.shelf name refusal → TellsRefusal before.note after.note name refusal answer → Claims words before after answer
Claims-unread words name ask before after refusal.ReadFault answer out cells cause (inl told) =
    rw told.0 (record { name = name; asks = ask; read = cause; out = out; cells = cells; note = told.1 })
Claims-unread words name ask before after refusal.ReadFault answer out cells cause (inr want) =
    HasNoMemory-asked words name ask before after cause.asks out answer want
Claims-unread words name ask before after (refusal.BadFile TooLong) answer out cells cause (inl told) =
    rw told.0 (record { name = name; fault = TooLong; cause = (ask, cause); out = out; cells = cells; note = told.1 })
Claims-unread words name ask before after (refusal.BadFile TooLong) answer out cells cause (inr want) =
    HasNoMemory-asked words name ask before after cause.asks out answer want
Claims-unread words name ask before after (refusal.BadFile (BadElf fault)) answer out cells cause told = elim cause [ ]
Claims-unread words name ask before after (refusal.BadFile (NoImage fault)) answer out cells cause told = elim cause [ ]
Claims-unread words name ask before after (refusal.TooFewFrames need have) answer out cells cause told = elim cause [ ]
Claims-unread words name ask before after refusal.NoMemory answer out cells unasked told =
    rw told.0 (record { shelf = inl unasked; out = inl out; note = told.1 })

-- the words ask for a run of their file
run_asks : (job : ImageJob) (words : List (List ℕ)) (run : RunWords) (read : AreRead job words run) → AskForFile words (name_of (image_of run.image))
run_asks job words run read = (Execute job read.givens (image_of run.image), read.asked, refl)

-- a file's bytes are never too long
mapped_to_no_image : (found : Option ImageFault) → option_map NoImage found ≡ Some TooLong → ⊥
mapped_to_no_image None is = cc
mapped_to_no_image (Some fault) is = cc

mapped_to_either : (bad : Option ElfFault) (found : Option ImageFault) → option_or (option_map BadElf bad) (option_map NoImage found) ≡ Some TooLong → ⊥
mapped_to_either None found is = mapped_to_no_image found is
mapped_to_either (Some fault) found is = cc

never_too_long : (file : ImageFile) (bytes : List ℕ) → file_fault file bytes ≡ Some TooLong → ⊥
never_too_long (Raw name) bytes is = mapped_to_no_image (raw_fault bytes) is
never_too_long (Elf name) bytes is = mapped_to_either (elf_fault bytes) (image_fault (segments_in bytes)) is

-- the file was read, and its bytes have a fault
has_fault : (words : List (List ℕ)) (before after : Devices) (file : ImageFile) (bytes : List ℕ) (fault : FileFault) → AskToExecute words file → Reads before.shelf after.shelf (name_of file) file_limit bytes → file_fault file bytes ≡ Some fault → HasFault words before after (name_of file) fault
has_fault words before after file bytes TooLong asks read found = absurd (never_too_long file bytes found)
has_fault words before after file bytes (BadElf fault) asks read found =
    record { file = file; named = refl; asks = asks; bytes = bytes; read = read; found = found }
has_fault words before after file bytes (NoImage fault) asks read found =
    record { file = file; named = refl; asks = asks; bytes = bytes; read = read; found = found }

-- the file was read, its bytes are refused, and that was told
Claims-unloaded : (job : ImageJob) (words : List (List ℕ)) (run : RunWords) (read : AreRead job words run) (before after : Devices) (refusal : Refusal) (answer : Status) → after.out ≡ before.out → after.cells ≡ before.cells → RefusesRead before.shelf after.shelf (image_of run.image) refusal → TellsRefusal before.note after.note (name_of (image_of run.image)) refusal answer → Claims words before after answer
Claims-unloaded job words run read before after refusal.ReadFault answer out cells cause told = elim cause.2 [ ]
Claims-unloaded job words run read before after (refusal.BadFile fault) answer out cells cause (inl told) =
    rw told.0 (record {
      name = name_of (image_of run.image);
      fault = fault;
      cause = has_fault words before after (image_of run.image) cause.0 fault (job, read.givens, read.asked) cause.1 cause.2;
      out = out;
      cells = cells;
      note = told.1;
    })
Claims-unloaded job words run read before after (refusal.BadFile fault) answer out cells cause (inr want) =
    HasNoMemory-asked words (name_of (image_of run.image)) (run_asks job words run read) before after cause.1.asks out answer want
Claims-unloaded job words run read before after (refusal.TooFewFrames need have) answer out cells cause told = elim cause.2 [ ]
Claims-unloaded job words run read before after refusal.NoMemory answer out cells cause told =
    HasNoMemory-asked words (name_of (image_of run.image)) (run_asks job words run read) before after cause.1.asks out answer told

-- the file gives an image that there are too few frames for, and that was told
HasTooFewFrames-from : (words : List (List ℕ)) (run : RunWords) (read : AreRead Run words run) (options : Options) → AreFor options run → (before after : Devices) (need have : ℕ) (bytes : List ℕ) → after.out ≡ before.out
    → Reads before.shelf after.shelf (name_of (image_of run.image)) file_limit bytes → file_fault (image_of run.image) bytes ≡ None
    → RefusesRun (settings_of options) (image_of_file (image_of run.image) bytes) before.cells after.cells (refusal.TooFewFrames need have) → IsNoted before.note after.note (too_few_frames need have) → HasTooFewFrames words before after
HasTooFewFrames-from words run read options for before after need have bytes out reads good cause noted =
    let made : Image = image_of_file (image_of run.image) bytes in
    let given : have ≡ given_frames (settings_for read.givens) before.cells = cause.2 ∙ ap (λ (s : Settings). given_frames s before.cells) (settled Run words run read options for) in
    record {
      givens = read.givens;
      file = image_of run.image;
      asks = read.asked;
      bytes = bytes;
      read = reads;
      is_image = good;
      few = subst (λ (n : ℕ). n < needed_frames made) given (subst (λ (n : ℕ). have < n) cause.1 cause.0);
      out = out;
      cells = cause.3;
      note = subst (λ (l : List ℕ). IsNoted before.note after.note l) (λ j. too_few_frames (cause.1 j) (given j)) noted;
    }

-- the file gives an image, the job with it is refused, and that was told
Claims-unrun : (words : List (List ℕ)) (run : RunWords) (read : AreRead Run words run) (options : Options) → AreFor options run → (before after : Devices) (refusal : Refusal) (answer : Status) → after.out ≡ before.out → RefusesImage Run (settings_of options) before.shelf after.shelf before.cells after.cells (image_of run.image) refusal → TellsRefusal before.note after.note (name_of (image_of run.image)) refusal answer → Claims words before after answer
Claims-unrun words run read options for before after refusal.ReadFault answer out cause told = absurd cause.refused
Claims-unrun words run read options for before after (refusal.BadFile fault) answer out cause told = absurd cause.refused
Claims-unrun words run read options for before after (refusal.TooFewFrames need have) answer out cause (inl told) =
    rw told.0 (HasTooFewFrames-from words run read options for before after need have cause.bytes out cause.read cause.is_image cause.refused told.1)
Claims-unrun words run read options for before after (refusal.TooFewFrames need have) answer out cause (inr want) =
    HasNoMemory-asked words (name_of (image_of run.image)) (run_asks Run words run read) before after cause.read.asks out answer want
Claims-unrun words run read options for before after refusal.NoMemory answer out cause told =
    HasNoMemory-asked words (name_of (image_of run.image)) (run_asks Run words run read) before after cause.read.asks out answer told

Claims-undone : (job : ImageJob) (words : List (List ℕ)) (run : RunWords) (read : AreRead job words run) (options : Options) → AreFor options run → (before after : Devices) (refusal : Refusal) (answer : Status) → after.out ≡ before.out → RefusesImage job (settings_of options) before.shelf after.shelf before.cells after.cells (image_of run.image) refusal → TellsRefusal before.note after.note (name_of (image_of run.image)) refusal answer → Claims words before after answer
Claims-undone Run words run read options for before after refusal answer out cause told = Claims-unrun words run read options for before after refusal answer out cause told
Claims-undone Alone words run read options for before after refusal answer out cause told =
    HasNoMemory-asked words (name_of (image_of run.image)) (run_asks Alone words run read) before after cause.read.asks out answer
    (subst (λ (r : Refusal). TellsRefusal before.note after.note (name_of (image_of run.image)) r answer) cause.refused told)

-- the image gave no report, and that was told
pub Claims-refusal : (job : ImageJob) (words : List (List ℕ)) (run : RunWords) (read : AreRead job words run) (options : Options) → AreFor options run → (before after : Devices) (refusal : Refusal) (answer : Status) → after.out ≡ before.out → Refuses job (settings_of options) before.shelf after.shelf before.cells after.cells (image_of run.image) refusal → TellsRefusal before.note after.note (name_of (image_of run.image)) refusal answer → Claims words before after answer
Claims-refusal job words run read options for before after refusal answer out (inl cause) told =
    Claims-unread words (name_of (image_of run.image)) (run_asks job words run read) before after refusal answer out cause.1 cause.0 told
Claims-refusal job words run read options for before after refusal answer out (inr (inl cause)) told =
    Claims-unloaded job words run read before after refusal answer out cause.1 cause.0 told
Claims-refusal job words run read options for before after refusal answer out (inr (inr cause)) told =
    Claims-undone job words run read options for before after refusal answer out cause told

-- the file was read, and its listing was told
pub Claims-listing : (words : List (List ℕ)) (name : List ℕ) (asks : AskFor words (Dis name)) (before after : Devices) (bytes : List ℕ) (answer : Status) → after.cells ≡ before.cells → Reads before.shelf after.shelf name file_limit bytes → TellsListing before.out after.out before.note after.note (listing bytes) answer → Claims words before after answer
Claims-listing words name asks before after bytes Usage cells read told = elim told [ ]
Claims-listing words name asks before after bytes ReadFault cells read told = elim told [ ]
Claims-listing words name asks before after bytes BadSource cells read told = elim told [ ]
Claims-listing words name asks before after bytes BadImage cells read told = elim told [ ]
Claims-listing words name asks before after bytes Spent cells read told = elim told [ ]
Claims-listing words name asks before after bytes TooFewFrames cells read told = elim told [ ]
Claims-listing words name asks before after bytes Done cells read told = record {
  text = listing bytes;
  job = inr (inl (record { name = name; asks = asks; bytes = bytes; read = read; lists = refl; cells = cells; answers = refl }));
  out = told.0;
  note = told.1;
}
Claims-listing words name asks before after bytes WriteFault cells read told = record {
  status = Done;
  text = listing bytes;
  job = inr (inl (record { name = name; asks = asks; bytes = bytes; read = read; lists = refl; cells = cells; answers = refl }));
  out = told.0;
  note = told.1;
}
Claims-listing words name asks before after bytes NoMemory cells read told = record {
  shelf = inr (name, (Dis name, asks, refl), read.asks);
  out = inr (record {
    text = listing bytes;
    job = record { name = name; asks = asks; bytes = bytes; read = read; lists = refl; cells = cells; answers = refl };
    out = told.0;
    faults = told.1;
  });
  note = told.2;
}

-- the file to list can't be read, and that was told
pub Claims-unlisted : (words : List (List ℕ)) (name : List ℕ) (asks : AskFor words (Dis name)) (before after : Devices) (refusal : Refusal) (answer : Status) → after.out ≡ before.out → after.cells ≡ before.cells → RefusesFile before.shelf after.shelf name refusal → TellsRefusal before.note after.note name refusal answer → Claims words before after answer
Claims-unlisted words name asks before after refusal answer out cells cause told =
    Claims-unread words name (Dis name, asks, refl) before after refusal answer out cells cause told
