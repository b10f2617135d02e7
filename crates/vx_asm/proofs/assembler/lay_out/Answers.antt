use Rattle.std.proofs.Common.{Some, None, sym, ◌∙◌}
use Rattle.vx_language.specs.Lines.{lines, label_names}
use Rattle.vx_asm.specs.Assembling.{fault_told}
use Rattle.vx_asm.proofs.Assembled.{plain-first, tells-plain, laid-out}
use Rattle.vx_asm.proofs.assembler.lay_out.Goals as goal

pub returns-in-Some-clause-fault : goal.returns-in-Some-clause-fault
returns-in-Some-clause-fault c =
    let source = c.args.source.now in
    let are = c.in_ok-laid.ensures (label_names (lines source)) c.in_ok-defined.ensures.labels in
    let first = sym c.in-Some.is ∙ (rw c.first.ensures at c.first-2.ensures) in
    tells-plain source c.in-Some.fault (fault_told c.of.result) (plain-first source c.lexical_fault.result c.in_ok-defined.defined.fault c.in_ok-laid.laid.fault (Some c.in-Some.fault) c.lexical_fault.ensures c.in_ok-defined.ensures.fault are.fault first) c.of.ensures

pub returns-clause-laid : goal.returns-clause-laid
returns-clause-laid c =
    let source = c.args.source.now in
    let are = c.in_ok-laid.ensures (label_names (lines source)) c.in_ok-defined.ensures.labels in
    let first = sym c.in-None.is ∙ (rw c.first.ensures at c.first-2.ensures) in
    laid-out source c.in_ok-laid.laid are (plain-first source c.lexical_fault.result c.in_ok-defined.defined.fault c.in_ok-laid.laid.fault None c.lexical_fault.ensures c.in_ok-defined.ensures.fault are.fault first)
