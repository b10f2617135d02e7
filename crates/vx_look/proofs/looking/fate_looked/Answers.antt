use Rattle.std.proofs.Common.{sym}
use Rattle.vx_look.proofs.looking.fate_looked.Goals as goal

pub returns-then-not-is_unknown-clause-looked : goal.returns-then-not-is_unknown-clause-looked
returns-then-not-is_unknown-clause-looked c = c.fate_at_last-fate.ensures.looked (sym c.if-not-is_unknown.ensures)
