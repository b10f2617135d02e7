-- Where a source's fault is, and its text. This project's own.
use Rattle.std.specs.Prelude.{ℕ, ◌+◌, not, ◌==◌, List, take, reverse, count_by, codes}
use Rattle.std.specs.List.{prefix_len}
use Rattle.vx_language.specs.Bytes.{newline}
use Rattle.vx_language.specs.declared.fault.FaultKind.{FaultKind}
use Rattle.vx_language.specs.declared.fault.FaultKind.TheVariants.{BadByte, BadToken, UnknownName, BadOperand, OutOfRange, Twice, Undefined, TooLarge}

-- the line of the byte at an offset, counted from 1
abbrev pub line_number : List ℕ → ℕ → ℕ
line_number source offset = 1 + count_by (λ byte. byte == newline) (take offset source)

-- its column, counted from 1 in bytes: how many stand before it on its line, and one
abbrev pub column_number : List ℕ → ℕ → ℕ
column_number source offset = 1 + prefix_len (λ byte. not (byte == newline)) (reverse (take offset source))

abbrev pub source_fault_text : FaultKind → List ℕ
source_fault_text BadByte = codes "bad byte"
source_fault_text BadToken = codes "bad token"
source_fault_text UnknownName = codes "unknown name"
source_fault_text BadOperand = codes "bad operand"
source_fault_text OutOfRange = codes "out of range"
source_fault_text Twice = codes "defined twice"
source_fault_text Undefined = codes "undefined"
source_fault_text TooLarge = codes "too large"
