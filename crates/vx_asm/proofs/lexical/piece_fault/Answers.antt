use Rattle.std.proofs.Common.{sym, ◌∙◌, true, false}
use Rattle.vx_asm.proofs.Lexing.{piece-judged}
use Rattle.vx_asm.proofs.lexical.piece_fault.Goals as goal

pub returns-then-is_bad : goal.returns-then-is_bad
returns-then-is_bad c = piece-judged c.args.source.now c.args.piece true c.requires.order c.requires.within (sym c.if-is_bad.true ∙ c.is_bad.ensures)

pub returns-else-is_bad : goal.returns-else-is_bad
returns-else-is_bad c = piece-judged c.args.source.now c.args.piece false c.requires.order c.requires.within (sym c.if-is_bad.false ∙ c.is_bad.ensures)
