-- The canonical line of a word. This project's own.
use Rattle.std.specs.Prelude.{ℕ, List, [], ◌∷◌, ◌++◌, map, filter, codes, Option, Some, None}
use Rattle.vx_base.specs.Hex.{hex_digits}
use Rattle.vx_rows.specs.Table.{mnemonic}
use Rattle.vx_decode.specs.Decoded.{decoded}
use Rattle.vx_decode.specs.declared.instr.Instr.{Instr}
use Rattle.vx_source.specs.declared.operand.OperandKind.{OperandKind}
use Rattle.vx_source.specs.Operands.{operand_kinds, is_written, operand_text}

-- texts one behind another: before the first stands this separator, before each other a comma and a space
abbrev pub listed : List ℕ → List (List ℕ) → List ℕ
listed separator [] = []
listed separator (text ∷ texts) = separator ++ text ++ listed (codes ", ") texts

-- the texts of an instruction's operands of these kinds
abbrev pub operand_texts : Instr → List OperandKind → List (List ℕ)
operand_texts i kinds = map (operand_text i) (filter (is_written i) kinds)

-- the line of an instruction: its mnemonic, and its operands behind a space
abbrev pub instr_line : Instr → List ℕ
instr_line i = mnemonic i.op i.nf ++ listed (codes " ") (operand_texts i (operand_kinds i.op))

-- the line of a word that is no instruction
abbrev pub word_line : ℕ → List ℕ
word_line word = codes ".word 0x" ++ hex_digits 8 word

-- the line of a word that means this instruction, or none
abbrev pub line_as : ℕ → Option Instr → List ℕ
line_as word (Some i) = instr_line i
line_as word None = word_line word

-- the canonical line of a word
unfoldable pub line_of : ℕ → List ℕ
line_of word = line_as word (decoded word)
