-- A sink in memory: what it keeps, and what each put does. This project's own.
use Rattle.std.specs.Prelude.{◌≡◌, ℕ, ◌-◌, ◌||◌, Bool, min, nat_le, List, ◌++◌, length, take, Some, IsTrue, IsFalse}
use Rattle.vx_base.specs.Faults.{one_more, is_listed_next}
use Rattle.vx_base.specs.Sink.{SinkState}
use Rattle.vx_base.specs.declared.sink.Put.{Put}
use Rattle.vx_base.specs.declared.sink.Put.TheVariants.{Took, Failed}

pub record MemSinkView : Type 0 where
  -- the bytes put so far
  pub bytes : List ℕ
  -- how many bytes it holds at most, and a put takes at most
  pub room : ℕ
  pub per_put : ℕ
  -- the numbers of the puts that fail, counted from 1
  pub fails : List ℕ
  -- how many puts and how many faults there have been
  pub calls : ℕ
  pub faults : ℕ

-- what it tells: all of it
abbrev pub sink_told : MemSinkView → SinkState
sink_told sink = record { bytes = Some sink.bytes; faults = sink.faults }

-- the next put fails: its number is one of those, or no room is left
abbrev pub fails_next : MemSinkView → Bool
fails_next sink = is_listed_next sink.calls sink.fails || nat_le sink.room (length sink.bytes)

-- how many bytes of a piece a put takes that doesn't fail
abbrev pub put_length : MemSinkView → List ℕ → ℕ
put_length sink piece = min (min sink.per_put (sink.room - length sink.bytes)) (length piece)

-- the first n bytes of the piece were put
pub record TakesFront (before after : MemSinkView) (piece : List ℕ) (n : ℕ) : Type 0 where
  pub lets : IsFalse (fails_next before)
  pub count : n ≡ put_length before piece
  pub becomes : after ≡ record before { bytes = before.bytes ++ take n piece; calls = one_more before.calls }

-- nothing was put
pub record TakesNothing (before after : MemSinkView) : Type 0 where
  pub cause : IsTrue (fails_next before)
  pub becomes : after ≡ record before { calls = one_more before.calls; faults = one_more before.faults }

-- what each answer to a put of the piece says
abbrev pub PutsInMemory : MemSinkView → MemSinkView → List ℕ → Put → Type 0
PutsInMemory before after piece (Took n) = TakesFront before after piece n
PutsInMemory before after piece Failed = TakesNothing before after
