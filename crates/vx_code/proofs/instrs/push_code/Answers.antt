use Rattle.vx_code.specs.Putting.{instr_with}
use Rattle.vx_code.proofs.Words.{alone-loaded}
use Rattle.vx_code.proofs.instrs.push_code.Goals as goal

pub returns-in-Alone : goal.returns-in-Alone
returns-in-Alone c =
    rw c.in-Alone.is (alone-loaded c.push_instr.result c.instr_with.result (instr_with c.args.instr c.args.filled) c.args.out.now.items c.push_instr.new.out.items c.instr_with.ensures c.push_instr.ensures)
