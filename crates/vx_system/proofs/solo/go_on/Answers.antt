use Rattle.std.proofs.Common.{refl}
use Rattle.vx_system.proofs.Advancing.{was-served, went-on}
use Rattle.vx_system.proofs.solo.go_on.Goals as goal

pub serve-requires-clause-running : goal.serve-requires-clause-running
serve-requires-clause-running c = (c.if-advance.ensures.asking refl).running

pub serve-requires-clause-asking : goal.serve-requires-clause-asking
serve-requires-clause-asking c = (c.if-advance.ensures.asking refl).service

pub returns-then-advance : goal.returns-then-advance
returns-then-advance c = was-served c.args.most c.args.process.now c.advance.new.self c.serve.new.self c.if-advance.ensures c.serve.ensures.stepped

pub returns-else-advance : goal.returns-else-advance
returns-else-advance c = went-on c.args.most c.args.process.now c.advance.new.self c.requires.some c.requires.running c.if-advance.ensures
