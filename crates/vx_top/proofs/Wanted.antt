-- How many frames words ask for.
use Rattle.std.proofs.Common.{◌≡◌, ℕ, List, ap, ◌∙◌, subst}
use Rattle.std.specs.Prelude.{unwrap_or, []}
use Rattle.vx_machine.specs.Machine.{settings_for}
use Rattle.vx_read.specs.Images.{image_of}
use Rattle.vx_read.specs.Read.{AreRead}
use Rattle.vx_read.specs.declared.run_words.RunWords.{RunWords}
use Rattle.vx_words.specs.Words.{AskFor, AreOutside, Command, Given, ImageFile, given_number}
use Rattle.vx_words.specs.Words.Command.{Asm, Dis, Execute}
use Rattle.vx_words.specs.Words.OptionName.{Frames}
use Rattle.vx_words.specs.declared.image_job.ImageJob.{ImageJob}
use Rattle.vx_words.specs.declared.image_job.ImageJob.TheVariants.{Alone, Run}

abbrev pub OneCommand : Type 0
OneCommand = (words : List (List ℕ)) (one other : Command) → AskFor words one → AskFor words other → one ≡ other

abbrev job_of : Command → ImageJob
job_of (Execute job givens image) = job
job_of (Dis name) = Alone
job_of (Asm name) = Alone

abbrev givens_of : Command → List Given
givens_of (Execute job givens image) = givens
givens_of (Dis name) = []
givens_of (Asm name) = []

-- the run that was read is the one that the words ask for
pub frames-read : OneCommand → (words : List (List ℕ)) (job : ImageJob) (run : RunWords) (read : AreRead job words run) (givens : List Given) (file : ImageFile) (n : ℕ) → (job ≡ Run → n ≡ unwrap_or run.frames 4096)
    → AskFor words (Execute Run givens file) → n ≡ (settings_for givens).frames
frames-read one words job run read givens file n is asks =
    let same = one words (Execute job read.givens (image_of run.image)) (Execute Run givens file) read.asked asks in
    is (ap job_of same) ∙ ap (λ o. unwrap_or o 4096) (read.frames ∙ ap (λ (l : List Given). given_number Frames l) (ap givens_of same))

-- the words ask for something else
pub no-dis : OneCommand → (words : List (List ℕ)) (name : List ℕ) (givens : List Given) (file : ImageFile) → AskFor words (Dis name) → AskFor words (Execute Run givens file) → ⊥
no-dis one words name givens file dis asks = let same = one words (Dis name) (Execute Run givens file) dis asks in cc

pub no-asm : OneCommand → (words : List (List ℕ)) (name : List ℕ) (givens : List Given) (file : ImageFile) → AskFor words (Asm name) → AskFor words (Execute Run givens file) → ⊥
no-asm one words name givens file asm asks = let same = one words (Asm name) (Execute Run givens file) asm asks in cc
