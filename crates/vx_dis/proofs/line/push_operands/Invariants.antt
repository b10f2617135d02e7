use Rattle.std.proofs.Common.{◌≡◌, ◌++◌, drop, string_bytes}
use Rattle.std.specs.Prelude.{codes}
use denote.Shadow.{shadow}
use denote.Text.{Utf8}
use Rattle.vx_source.specs.Lines.{listed, operand_texts}
use Rattle.vx_dis.proofs.line.push_operands.Given as goal

-- with the operands that are left the text becomes the text with all of them
abbrev pub invariant-loop-kind : goal.invariant-loop-kind
invariant-loop-kind l = record {
  separator : shadow (Utf8 l.separator);
  text : string_bytes l.text ++ listed l.separator (operand_texts l.instr (drop l.kind-index l.kinds)) ≡ string_bytes l.fn.text ++ listed (codes " ") (operand_texts l.instr l.kinds);
}
