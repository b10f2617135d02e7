-- What became of the service is taken into the process.
use Rattle.std.proofs.Common.{◌∙◌}
use Rattle.vx_flat.specs.Process.{Process}
use Rattle.vx_flat.specs.State.{Flat}
use Rattle.vx_hart.specs.Outcomes.{flat_of}
use Rattle.vx_alone.proofs.Calls.{was_served}
use Rattle.vx_alone.proofs.alone.Alone.serve.Goals as goal

pub returns : goal.returns
returns c =
    let q : Process = record { state = record { pc = c.self.inside.arch.pc; x = c.self.inside.arch.regs.x; v = c.self.inside.arch.v; memory = c.self.inside.memory; output = c.self.inside.output.items }; count = c.self.inside.count; over = c.self.inside.over } in
    let new : Flat = flat_of c.serve-code.new.arch c.serve-code.new.memory c.serve-code.new.output.items in
    record {
      stepped =
          c.settle_service.ensures
          ∙ was_served c.args.self.now q c.serve-code.result new c.self.view_is c.requires.running c.requires.asking c.serve-code.ensures.exits c.serve-code.ensures.served;
    }
