use Rattle.std.proofs.Common.{◌≡◌, false, drop}
use Rattle.vx_language.specs.Texts.{is_whole_text}
use Rattle.vx_lex.proofs.quoted.is_whole_text.Given as goal

-- the text is whole where it is from this byte on
abbrev pub invariant-loop-byte : goal.invariant-loop-byte
invariant-loop-byte l = is_whole_text false l.bytes ≡ is_whole_text l.escaped (drop l.byte-index l.bytes)
