-- What is moved is what the instruction moves.
use Rattle.std.proofs.Common.{◌∙◌, Some, ap}
use Rattle.vx_flat.specs.State.{Flat}
use Rattle.vx_flat.specs.Transfers.{Transfer, transferred}
use Rattle.vx_hart.specs.Directions.{direction_of}
use Rattle.vx_hart.specs.Outcomes.{flat_of}
use Rattle.vx_hart.proofs.movements.transfer_legal.Goals as goal

pub returns-in_default-clause-legal : goal.returns-in_default-clause-legal
returns-in_default-clause-legal g c output = c.in_default.ensures.legal (g.M.Memory.state c.args.memory.now c.args.physical.now) output

pub returns-clause-legal : goal.returns-clause-legal
returns-clause-legal g c output = c.in-Some.ensures.legal (g.M.Memory.state c.args.memory.now c.args.physical.now) output

pub returns-clause-performed : goal.returns-clause-performed
returns-clause-performed g c output =
    let old : Flat = flat_of c.args.arch.now (g.M.Memory.state c.args.memory.now c.args.physical.now) output in
    c.transfer.ensures.done output
    ∙ ap (λ (t : Transfer). Some (transferred t old)) (c.in-Some.ensures.same (direction_of c.args.direction) (g.M.Memory.state c.args.memory.now c.args.physical.now) output)
