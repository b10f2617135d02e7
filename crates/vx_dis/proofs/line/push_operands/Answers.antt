use Rattle.std.proofs.Common.{◌∙◌, ◌+◌, ◌++◌, ap, sym, drop, rules, string_bytes, List}
use Rattle.vx_source.specs.Lines.{listed, operand_texts}
use Rattle.vx_source.specs.declared.operand.OperandKind.{OperandKind}
use Rattle.vx_dis.proofs.Listed.{next-kind}
use Rattle.vx_dis.proofs.line.push_operands.Goals as goal

pub loop-kind-preserved : goal.loop-kind-preserved
loop-kind-preserved c =
    let i = c.args.instr.now in
    let kinds = c.args.kinds.now in
    let at = c.loop-kind.kind-index in
    let more = c.in_ok-separator.ensures (drop (at + 1) kinds) in
    record {
      separator = search rules;
      text = more ∙ ap (λ (l : List OperandKind). string_bytes c.loop-kind.text ++ listed c.loop-kind.separator.now (operand_texts i l)) (sym (next-kind kinds at _ c.loop-kind-test.true)) ∙ c.loop-kind.invariant.text;
    }
