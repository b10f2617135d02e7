-- Operands behind their separators, one more at a time.
use Rattle.std.proofs.Common.{◌≡◌, ℕ, ◌+◌, ◌<◌, true, false, List, ◌∷◌, ◌++◌, length, get_or, drop, sym, ap, refl, ◌∙◌, append_assoc, add-one}
use Rattle.std.proofs.Math.Seq.{drop-cons}
use Rattle.std.specs.Prelude.{codes}
use Rattle.vx_decode.specs.declared.instr.Instr.{Instr}
use Rattle.vx_source.specs.Lines.{listed, operand_texts}
use Rattle.vx_source.specs.Operands.{is_written, operand_text}
use Rattle.vx_source.specs.declared.operand.OperandKind.{OperandKind}

-- an operand behind its separator
pub written : (i : Instr) (kind : OperandKind) (rest : List OperandKind) (separator before middle after : List ℕ) → is_written i kind ≡ true → middle ≡ before ++ separator → after ≡ middle ++ operand_text i kind → after ++ listed (codes ", ") (operand_texts i rest) ≡ before ++ listed separator (operand_texts i (kind ∷ rest))
written i kind rest separator before middle after h p q = rw h (rw q (rw p (simp append_assoc)))

-- one that is left out
pub left_out : (i : Instr) (kind : OperandKind) (rest : List OperandKind) (separator before : List ℕ) → is_written i kind ≡ false → before ++ listed separator (operand_texts i rest) ≡ before ++ listed separator (operand_texts i (kind ∷ rest))
left_out i kind rest separator before h = rw h refl

-- the next of the kinds
pub next-kind : (kinds : List OperandKind) (at : ℕ) (d : OperandKind) → at < length kinds → drop at kinds ≡ get_or kinds at d ∷ drop (at + 1) kinds
next-kind kinds at d within = drop-cons kinds at d within ∙ ap (λ (n : ℕ). get_or kinds at d ∷ drop n kinds) (sym (add-one at))
