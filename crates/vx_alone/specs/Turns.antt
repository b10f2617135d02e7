-- What the flat machine's steps answer. This project's own.
use Rattle.std.specs.Prelude.{Option, Some, None}
use Rattle.vx_flat.specs.declared.end.End.{End}
use Rattle.vx_flat.specs.declared.end.End.TheVariants as end
use Rattle.vx_alone.specs.declared.turn.Turn.{Turn}
use Rattle.vx_alone.specs.declared.turn.Turn.TheVariants as turn

-- what a machine that is over like this answers
abbrev pub turn_of : Option End → Turn
turn_of None = turn.Next
turn_of (Some (end.Exited code)) = turn.Exited code
turn_of (Some (end.Faulted fault)) = turn.Faulted fault
