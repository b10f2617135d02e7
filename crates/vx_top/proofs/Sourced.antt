-- What each way through the assembling of a file claims.
use Rattle.std.proofs.Common.{◌≡◌, ℕ, ◌≤◌, List, [], length, take, refl, inl, inr, sym}
use Rattle.std.proofs.lemmas.List.{take_all}
use Rattle.std.specs.Prelude.{Option, Some, None}
use Rattle.vx_asm.specs.Assembling.{Tells}
use Rattle.vx_base.specs.Shelf.{Reads}
use Rattle.vx_elf.specs.Writing.{written}
use Rattle.vx_language.specs.Assembly.{faults, assembled}
use Rattle.vx_language.specs.declared.fault.Fault.{Fault}
use Rattle.vx_machine.specs.Claim.{Devices, Claims}
use Rattle.vx_top.proofs.Claimed.{Claims-unread, HasNoMemory-asked}
use Rattle.vx_top.specs.Files.{RefusesFile, TellsRefusal}
use Rattle.vx_top.specs.Sources.{TellsFile, TellsFault, TellsSource}
use Rattle.vx_top.specs.declared.refusal.Refusal.{Refusal}
use Rattle.vx_words.specs.Notes.{file_limit}
use Rattle.vx_words.specs.Words.{AskFor}
use Rattle.vx_words.specs.Words.Command.{Asm}
use Rattle.vx_words.specs.declared.status.Status.{Status}
use Rattle.vx_words.specs.declared.status.Status.TheVariants.{Done, Usage, ReadFault, BadImage, WriteFault, Spent, NoMemory, BadSource, TooFewFrames}

-- all bytes stand before an offset past them
pub take_past : (n : ℕ) (bytes : List ℕ) → length bytes ≤ n → bytes ≡ take n bytes
take_past n bytes past = sym (take_all n bytes past)

-- the file was told
Claims-file : (words : List (List ℕ)) (name : List ℕ) (asks : AskFor words (Asm name)) (before after : Devices) (bytes : List ℕ) (answer : Status) → after.cells ≡ before.cells → Reads before.shelf after.shelf name file_limit bytes → faults bytes ≡ [] → TellsFile before.out after.out before.note after.note (written (assembled bytes)) answer → Claims words before after answer
Claims-file words name asks before after bytes Done cells read none told = record {
  text = written (assembled bytes);
  job = inr (inr (record { name = name; asks = asks; bytes = bytes; read = read; faultless = none; writes = refl; cells = cells; answers = refl }));
  out = told.0;
  note = told.1;
}
Claims-file words name asks before after bytes WriteFault cells read none told = record {
  status = Done;
  text = written (assembled bytes);
  job = inr (inr (record { name = name; asks = asks; bytes = bytes; read = read; faultless = none; writes = refl; cells = cells; answers = refl }));
  out = told.0;
  note = told.1;
}
Claims-file words name asks before after bytes Usage cells read none told = absurd told
Claims-file words name asks before after bytes ReadFault cells read none told = absurd told
Claims-file words name asks before after bytes BadImage cells read none told = absurd told
Claims-file words name asks before after bytes Spent cells read none told = absurd told
Claims-file words name asks before after bytes NoMemory cells read none told = absurd told
Claims-file words name asks before after bytes BadSource cells read none told = absurd told
Claims-file words name asks before after bytes TooFewFrames cells read none told = absurd told

-- the fault was told, or want of memory
Claims-fault : (words : List (List ℕ)) (name : List ℕ) (asks : AskFor words (Asm name)) (before after : Devices) (bytes : List ℕ) (fault : Option Fault) (answer : Status) → after.cells ≡ before.cells → Reads before.shelf after.shelf name file_limit bytes → Tells bytes fault → after.out ≡ before.out → TellsFault before.note after.note name bytes fault answer → Claims words before after answer
Claims-fault words name asks before after bytes None answer cells read first out told =
    HasNoMemory-asked words name (Asm name, asks, refl) before after read.asks out answer told
Claims-fault words name asks before after bytes (Some fault) answer cells read first out (inl told) =
    rw told.0 (record { name = name; asks = asks; bytes = bytes; read = read; fault = fault; first = first; out = out; cells = cells; note = told.1 })
Claims-fault words name asks before after bytes (Some fault) answer cells read first out (inr want) =
    HasNoMemory-asked words name (Asm name, asks, refl) before after read.asks out answer want

-- the file was read, and what it gives was told
pub Claims-source : (words : List (List ℕ)) (name : List ℕ) (asks : AskFor words (Asm name)) (before after : Devices) (bytes : List ℕ) (answer : Status) → after.cells ≡ before.cells → Reads before.shelf after.shelf name file_limit bytes → TellsSource before.out after.out before.note after.note name bytes answer → Claims words before after answer
Claims-source words name asks before after bytes answer cells read (inl has) = Claims-file words name asks before after bytes answer cells read has.faultless has.told
Claims-source words name asks before after bytes answer cells read (inr has) = Claims-fault words name asks before after bytes has.fault answer cells read has.first has.same has.told

-- the file can't be read, and that was told
pub Claims-unassembled : (words : List (List ℕ)) (name : List ℕ) (asks : AskFor words (Asm name)) (before after : Devices) (refusal : Refusal) (answer : Status) → after.out ≡ before.out → after.cells ≡ before.cells → RefusesFile before.shelf after.shelf name refusal → TellsRefusal before.note after.note name refusal answer → Claims words before after answer
Claims-unassembled words name asks before after refusal answer out cells cause told =
    Claims-unread words name (Asm name, asks, refl) before after refusal answer out cells cause told
