-- Elements are loaded, or stored.
use Rattle.std.proofs.Common.{sym, subst}
use Rattle.vx_vaddr.specs.Views.{movement_with}
use Rattle.vx_hart.specs.Directions.{direction_of}
use Rattle.vx_hart.specs.Outcomes.{flat_of}
use Rattle.vx_hart.specs.Transfers.{HasMoved}
use Rattle.vx_hart.specs.declared.direction.Direction.{Direction}
use Rattle.vx_hart.proofs.movements.go_through.Goals as goal

pub returns-in-Loading-clause-moved : goal.returns-in-Loading-clause-moved
returns-in-Loading-clause-moved g c output =
    subst (λ (d : Direction). HasMoved (direction_of d) (movement_with c.args.pattern.now c.args.arch.now.v.words) c.args.end (flat_of c.args.arch.now (g.M.Memory.state c.args.memory.now c.args.physical.now) output) (flat_of c.load_by.new.arch (g.M.Memory.state c.load_by.new.memory c.load_by.new.physical) output) c.load_by.result)
    (sym c.in-Loading.is) (c.load_by.ensures.moved output)

pub returns-in-Storing-clause-moved : goal.returns-in-Storing-clause-moved
returns-in-Storing-clause-moved g c output =
    subst (λ (d : Direction). HasMoved (direction_of d) (movement_with c.args.pattern.now c.args.arch.now.v.words) c.args.end (flat_of c.args.arch.now (g.M.Memory.state c.args.memory.now c.args.physical.now) output) (flat_of c.store_by.new.arch (g.M.Memory.state c.store_by.new.memory c.store_by.new.physical) output) c.store_by.result)
    (sym c.in-Storing.is) (c.store_by.ensures.moved output)
