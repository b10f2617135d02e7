use Rattle.std.proofs.Common.{◌≡◌, false, ◌++◌, drop}
use Rattle.vx_language.specs.Texts.{text_bytes}
use Rattle.vx_lex.proofs.quoted.push_text.Given as goal

-- what was appended and what the rest means are what the text means
abbrev pub invariant-loop-byte : goal.invariant-loop-byte
invariant-loop-byte l = l.out.items ++ text_bytes l.escaped (drop l.byte-index l.bytes) ≡ l.fn.out.items ++ text_bytes false l.bytes
