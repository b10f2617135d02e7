-- What a status says with its note. This project's own.
use Rattle.std.specs.Prelude.{◌≡◌, ℕ, ◌⊎◌, List}
use Rattle.vx_base.specs.Sink.{SinkState}
use Rattle.vx_machine.specs.Claim.{IsNoted}
use Rattle.vx_words.specs.Notes.{no_memory}
use Rattle.vx_words.specs.declared.status.Status.{Status}
use Rattle.vx_words.specs.declared.status.Status.TheVariants.{NoMemory}

-- memory was wanting for the note of the status, and this is noted in its place
abbrev pub NotesWant : SinkState → SinkState → Status → Type 0
NotesWant before after answer = (answer ≡ NoMemory) × IsNoted before after no_memory

-- the status was answered with its note, or memory was wanting for that
abbrev pub Answers : SinkState → SinkState → Status → List ℕ → Status → Type 0
Answers before after status text answer = ((answer ≡ status) × IsNoted before after text) ⊎ NotesWant before after answer
