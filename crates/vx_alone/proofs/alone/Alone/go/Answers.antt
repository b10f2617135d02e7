-- A step that was asked for a service did it.
use Rattle.std.proofs.Common.{◌∙◌, ap, refl}
use Rattle.vx_flat.specs.Process.{stepped}
use Rattle.vx_alone.proofs.Steps.{none-taken, one-taken}
use Rattle.vx_alone.proofs.alone.Alone.go.Goals as goal

pub serve-requires-clause-running : goal.serve-requires-clause-running
serve-requires-clause-running c = (c.if-advance.ensures.asking refl).running

pub serve-requires-clause-asking : goal.serve-requires-clause-asking
serve-requires-clause-asking c = (c.if-advance.ensures.asking refl).service

pub returns-then-advance : goal.returns-then-advance
returns-then-advance c = c.serve.ensures.stepped ∙ ap stepped (none-taken c.args.self.now c.advance.new.self c.if-advance.ensures)

pub returns-else-advance : goal.returns-else-advance
returns-else-advance c = one-taken c.args.self.now c.advance.new.self c.if-advance.ensures
