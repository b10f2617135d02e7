use Rattle.vx_statement.specs.Lexemes.{pieces_of}
use Rattle.vx_code.specs.Aiming.{aim_of}
use Rattle.vx_code.proofs.Stated.{filled-by, reached, none-reached}
use Rattle.vx_code.proofs.statement.reach_fault.Goals as goal

pub offsets_fault-requires : goal.offsets_fault-requires
offsets_fault-requires c = filled-by c.args.statement.now c.in-Some.form c.in-Some.operands c.in-Some.ensures c.requires.faultless

pub returns-in-Some : goal.returns-in-Some
returns-in-Some c = reached (aim_of c.args.aim.now) c.args.statement.now c.in-Some.form c.in-Some.operands c.offsets_fault.result c.in-Some.ensures c.offsets_fault.ensures

pub returns-in-None : goal.returns-in-None
returns-in-None c = none-reached (aim_of c.args.aim.now) (pieces_of c.args.statement.now) c.in-None.ensures
