use Rattle.std.proofs.Common.{◌≡◌, drop}
use Rattle.vx_language.specs.Tokens.{bad_bytes}
use Rattle.vx_lex.proofs.byte.first_bad_byte.Given as goal

-- no byte before this one is a bad one
abbrev pub invariant-loop-i : goal.invariant-loop-i
invariant-loop-i l = bad_bytes 0 l.source ≡ bad_bytes l.i (drop l.i l.source)
