-- The faults of a source: which comes first. This project's own.
use Rattle.std.specs.Prelude.{◌≡◌, ℕ, Bool, ◌&&◌, ◌||◌, ◌==◌, nat_lt, List, [], ◌∷◌, ◌++◌, Option, Some, None, if◌then◌else◌}
use Rattle.vx_language.specs.Lexemes.{Piece, span_of}
use Rattle.vx_language.specs.declared.fault.Fault.{Fault}
use Rattle.vx_language.specs.declared.fault.FaultKind.{FaultKind}
use Rattle.vx_language.specs.declared.fault.FaultKind.TheVariants.{BadByte, BadToken, UnknownName, BadOperand, OutOfRange, Twice, Undefined, TooLarge}

-- a fault that names a piece
abbrev pub fault_at : FaultKind → Piece → Fault
fault_at kind piece = record { kind = kind; span = span_of piece }

-- the order of the kinds of those that start at one byte
abbrev pub rank : FaultKind → ℕ
rank BadByte = 0
rank BadToken = 1
rank UnknownName = 2
rank BadOperand = 3
rank OutOfRange = 4
rank Twice = 5
rank Undefined = 6
rank TooLarge = 7

-- one fault comes before another: it starts first, or it starts at the same byte and its kind comes first
unfoldable pub comes_before : Fault → Fault → Bool
comes_before one other =
    nat_lt one.span.start other.span.start || (one.span.start == other.span.start && nat_lt (rank one.kind) (rank other.kind))

-- the first of a fault and another, where there is another
unfoldable pub earlier : Fault → Option Fault → Fault
earlier one None = one
earlier one (Some other) = if comes_before other one then other else one

-- the first of two, where there are some
abbrev pub earliest : Option Fault → Option Fault → Option Fault
earliest None other = other
earliest (Some one) other = Some (earlier one other)

-- the first of faults
unfoldable pub first_of : List Fault → Option Fault
first_of [] = None
first_of (fault ∷ faults) = Some (earlier fault (first_of faults))

-- the first of all of them is the first of the firsts of parts, however they are parted
abbrev pub FirstsJoin : Type 0
FirstsJoin = (faults more : List Fault) → first_of (faults ++ more) ≡ earliest (first_of faults) (first_of more)
