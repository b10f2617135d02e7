-- The movement of a legal instruction.
use Rattle.std.proofs.Common.{ap}
use Rattle.vx_vector.specs.Accesses.{Movement}
use Rattle.vx_hart.specs.Outcomes.{flat_of}
use Rattle.vx_hart.proofs.Ended.{moves-are, transfers-same}
use Rattle.vx_hart.proofs.movements.movement.Goals as goal

pub returns-clause-moves : goal.returns-clause-moves
returns-clause-moves c =
    moves-are c.legal_movements_are_sound.ensures.sound c.args.arch.now.v c.args.i.now c.args.addressing c.args.encoded c.new-pattern.result c.setting-at.result c.read-base.result c.read-stride.result
    c.setting-at.ensures c.new-pattern.ensures c.requires.valid c.requires.row c.if-not-legal.ensures c.vlen-length.ensures.in_range.words_in_all

pub returns-clause-addressing : goal.returns-clause-addressing
returns-clause-addressing c = ap (λ (m : Movement). m.addressing) (c.new-pattern.ensures c.args.arch.now.v.words)

pub returns-clause-same : goal.returns-clause-same
returns-clause-same c direction memory output =
    transfers-same direction (flat_of c.args.arch.now memory output) c.args.i.now c.args.addressing c.args.encoded c.new-pattern.result c.setting-at.result c.read-base.result c.read-stride.result
    c.read-base.ensures c.read-stride.ensures c.setting-at.ensures c.new-pattern.ensures
