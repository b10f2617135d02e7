use Rattle.std.proofs.Common.{◌≤◌, take, length, arith}
use Rattle.std.proofs.lemmas.List.{take_all}
use Rattle.vx_statement.specs.Lexemes.{piece_of}
use Rattle.vx_statement.proofs.Advancing.{advanced-more}
use Rattle.vx_statement.proofs.operands.advance.Goals as goal

pub loop-way-preserved : goal.loop-way-preserved
loop-way-preserved c rest =
    advanced-more (piece_of c.args.token.now) rest c.args.going.now c.loop-way.way-index _ c.in_ok-slot.slot c.push_step.new.ways.items c.loop-way-test.true (c.in_ok-slot.ensures rest (take c.loop-way.way-index c.args.going.now) (c.loop-way.invariant rest))

pub returns : goal.returns
returns c rest =
    let whole : length c.args.going.now ≤ c.loop-way.way-index = omega arith in
    rw (← take_all c.loop-way.way-index c.args.going.now whole) (c.loop-way.invariant rest)
