use Rattle.std.proofs.Common.{◌≡◌, false, ◌+◌, drop}
use Rattle.vx_language.specs.Texts.{text_length}
use Rattle.vx_lex.proofs.quoted.text_length.Given as goal

-- the text goes on to this byte, and on from it
abbrev pub invariant-loop-i : goal.invariant-loop-i
invariant-loop-i l = text_length false l.bytes ≡ l.i + text_length l.escaped (drop l.i l.bytes)
