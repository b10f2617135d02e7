-- The elements below the stop are stored.
use Rattle.vx_vaddr.specs.Views.{movement_with}
use Rattle.vx_hart.specs.Outcomes.{flat_of}
use Rattle.vx_hart.proofs.Ended.{stored-moved}
use Rattle.vx_hart.proofs.movements.store_by.Goals as goal

pub returns-clause-moved : goal.returns-clause-moved
returns-clause-moved g c output =
    stored-moved (movement_with c.args.pattern.now c.args.arch.now.v.words) (flat_of c.args.arch.now (g.M.Memory.state c.args.memory.now c.args.physical.now) output) c.args.end (g.M.Memory.state c.store_elements.new.memory c.store_elements.new.physical) c.store_elements.result
    c.store_elements.ensures.failure c.store_elements.ensures.among c.store_elements.ensures.stored
