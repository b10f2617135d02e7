use Rattle.vx_statement.specs.Lexemes.{piece_of}
use Rattle.vx_statement.proofs.Advancing.{advance-refused, advance-taken}
use Rattle.vx_statement.proofs.operands.push_step.Goals as goal

pub returns-in_default : goal.returns-in_default
returns-in_default c rest going before =
    let refused = c.step.ensures rest in
    advance-refused (piece_of c.args.token.now) rest going c.args.slot c.args.ways.now.items c.args.way (rw c.in_default.is at refused) before

pub returns : goal.returns
returns c rest going before =
    rw c.or.ensures (advance-taken (piece_of c.args.token.now) rest going c.args.slot c.args.ways.now.items c.push.new.self.items c.args.way c.in-Some.first c.in-Some.later (c.in-Some.ensures rest) c.in_ok-push.ensures.ok before)
