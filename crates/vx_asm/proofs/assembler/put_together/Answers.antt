use Rattle.std.proofs.Common.{arith, sym, ◌∙◌}
use Rattle.vx_asm.specs.Assembling.{fault_told}
use Rattle.vx_asm.proofs.Assembled.{code-fits, code-is, start-fits, tells-reach, is-program}
use Rattle.vx_asm.proofs.assembler.put_together.Goals as goal

pub overflow_cast-code : goal.overflow_cast-code
overflow_cast-code c =
    let fits = code-fits c.args.source.now c.args.laid.now c.requires.laid in
    omega (arith, fits)

pub emit-requires-clause-code : goal.emit-requires-clause-code
emit-requires-clause-code c = code-is c.args.source.now c.args.laid.now c.requires.laid

pub returns-in-Some : goal.returns-in-Some
returns-in-Some c =
    tells-reach c.args.source.now c.in-Some.fault (fault_told c.of.result) c.requires.laid.plain (sym c.in-Some.is ∙ c.in_ok-emitted.ensures.fault) c.of.ensures

pub entry_of-requires : goal.entry_of-requires
entry_of-requires c place e = start-fits c.args.source.now c.args.laid.now c.requires.laid place e

pub returns : goal.returns
returns c =
    let code = c.args.laid.now.end.code in
    is-program c.args.source.now c.args.laid.now c.in_ok-emitted.emitted code c.entry_of.result c.in_ok-program_of.field-0 c.requires.laid (code-is c.args.source.now c.args.laid.now c.requires.laid) c.in_ok-emitted.ensures c.in_default.is c.entry_of.ensures c.in_ok-program_of.ensures
