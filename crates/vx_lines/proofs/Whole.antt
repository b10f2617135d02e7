-- The law of lines, at one word.
use Rattle.std.proofs.Common.{◌≡◌, ℕ, ◌^◌, ◌<◌, Bool, ◌++◌, Option, Some, None, refl}
use Rattle.vx_decode.specs.Decoded.{decoded}
use Rattle.vx_decode.specs.Encoded.{IsValid, word_of}
use Rattle.vx_decode.specs.declared.instr.Instr.{Instr}
use Rattle.vx_source.specs.Lines.{line_as, line_of}
use Rattle.vx_language.specs.Assembly.{IsSourceOf}
use Rattle.vx_lines.proofs.Source.{ending}
use Rattle.vx_lines.proofs.Instrs.{instr-line}
use Rattle.vx_lines.proofs.Others.{word-line}

-- what is known of the words of instructions
abbrev pub IsItsInstr : ℕ → Type 0
IsItsInstr word = (i : Instr) → decoded word ≡ Some i → IsValid i × (word_of i ≡ word)

line-by : (word : ℕ) (b : Bool) (o : Option Instr) → decoded word ≡ o → word < 2 ^ 32 → IsItsInstr word → IsSourceOf (line_as word o ++ ending b) word
line-by word b (Some i) e small known = let k = known i e in instr-line word b i k.0 k.1
line-by word b None e small known = word-line word b small

pub line-is-source : (word : ℕ) (b : Bool) → word < 2 ^ 32 → IsItsInstr word → IsSourceOf (line_of word ++ ending b) word
unfolding line_of
line-is-source word b small known = line-by word b (decoded word) refl small known
