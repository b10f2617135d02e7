-- What a sink tells, and what a put does to it. This project's own.
use Rattle.std.specs.Prelude.{◌≡◌, ℕ, ◌<◌, ◌≤◌, List, ◌++◌, length, take, Option, Some, IfSome}
use Rattle.vx_base.specs.Faults.{Rises}
use Rattle.vx_base.specs.declared.sink.Put.{Put}
use Rattle.vx_base.specs.declared.sink.Put.TheVariants.{Took, Failed}

-- the bytes put so far, where the sink tells them, and how many faults it has had
pub record SinkState : Type 0 where
  pub bytes : Option (List ℕ)
  pub faults : ℕ

-- exactly these bytes were put behind those that were told before
abbrev pub Appends : SinkState → SinkState → List ℕ → Type 0
Appends before after more = IfSome before.bytes (λ told. after.bytes ≡ Some (told ++ more))

-- all of the text was put, without a fault
pub record IsWritten (before after : SinkState) (text : List ℕ) : Type 0 where
  pub appends : Appends before after text
  pub faults : after.faults ≡ before.faults

-- a prefix of the text was put
pub record IsBegun (before after : SinkState) (text : List ℕ) : Type 0 where
  pub count : ℕ
  pub within : count ≤ length text
  pub appends : Appends before after (take count text)
  pub faults : before.faults ≤ after.faults

-- a prefix of the text was put, and a fault came
pub record IsCutOff (before after : SinkState) (text : List ℕ) : Type 0 where
  pub begun : IsBegun before after text
  pub cause : Rises before.faults after.faults

-- the first n bytes of the piece were put, at least one, without a fault
pub record PutsFront (before after : SinkState) (piece : List ℕ) (n : ℕ) : Type 0 where
  pub some : 0 < n
  pub within : n ≤ length piece
  pub written : IsWritten before after (take n piece)

-- nothing was put, since a fault came
pub record PutsNothing (before after : SinkState) : Type 0 where
  pub bytes : after.bytes ≡ before.bytes
  pub faults : before.faults ≤ after.faults
  pub cause : Rises before.faults after.faults

-- what each answer to a put of the piece says
abbrev pub Puts : SinkState → SinkState → List ℕ → Put → Type 0
Puts before after piece (Took n) = PutsFront before after piece n
Puts before after piece Failed = PutsNothing before after
