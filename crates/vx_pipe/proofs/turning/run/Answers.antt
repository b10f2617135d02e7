use Rattle.std.proofs.Common.{ℕ, ◌+◌, ap, ◌∙◌}
use Rattle.vx_pipe.specs.Left.{registers_of}
use Rattle.vx_pipe.specs.Playing.{shown_state}
use Rattle.vx_pipe.specs.Turning.{caches_of, course_of, machine_of}
use Rattle.vx_pipe.proofs.Turns.{clock-bounded, clock-later, on-same, turning-next}
use Rattle.vx_pipe.proofs.turning.run.Goals as goal

pub loop-preserved : goal.loop-preserved
loop-preserved g c =
    let inv = c.loop.invariant in
    record {
      machine = c.turn.ensures.machine ∙ inv.machine;
      memory = c.turn.ensures.memory ∙ inv.memory;
      count = c.in-Goes.ensures.timely ∙ ap (λ (n : ℕ). n + 1) inv.count;
      turning = turning-next (machine_of c.loop.engine) (machine_of c.turn.new.engine) c.args.root c.args.until c.loop.memory c.turn.new.memory (course_of c.loop.engine.course) (course_of c.turn.new.engine.course) (caches_of c.loop.engine) (caches_of c.turn.new.engine)
          (g.C.Cells.state c.loop.cells) (g.C.Cells.state c.turn.new.cells) (registers_of c.loop.arch) (registers_of c.turn.new.arch) inv.turning c.turn.ensures.machine c.turn.ensures.memory c.in-Goes.ensures.turned;
      going = λ start from first output on going. c.in-Goes.ensures.turned start from first output
          (on-same (machine_of c.args.engine.now) (machine_of c.loop.engine) c.args.root c.args.memory.now c.loop.memory start inv.machine inv.memory on) (inv.going start from first output on going);
    }

pub returns-in-Slice-clause-later : goal.returns-in-Slice-clause-later
returns-in-Slice-clause-later g c start from first output on going =
    clock-later start c.args.until from first (course_of c.loop.engine.course) (course_of c.turn.new.engine.course) (caches_of c.loop.engine) (g.C.Cells.state c.loop.cells) (shown_state (registers_of c.loop.arch) c.loop.memory (g.C.Cells.state c.loop.cells) output)
    c.in-Slice.clock (c.loop.invariant.going start from first output on going) c.in-Slice.ensures.timely

pub returns-in-Slice-clause-bounded : goal.returns-in-Slice-clause-bounded
returns-in-Slice-clause-bounded g c =
    clock-bounded (machine_of c.loop.engine) (machine_of c.turn.new.engine) c.args.root c.args.until c.loop.memory c.turn.new.memory (course_of c.loop.engine.course) (course_of c.turn.new.engine.course) (caches_of c.loop.engine) (caches_of c.turn.new.engine)
    (g.C.Cells.state c.loop.cells) (g.C.Cells.state c.turn.new.cells) (registers_of c.loop.arch) (registers_of c.turn.new.arch) c.loop.invariant.turning c.requires.until c.in-Slice.clock c.in-Slice.ensures.timely

pub returns-in-Service-clause-over : goal.returns-in-Service-clause-over
returns-in-Service-clause-over g c start from first output on going =
    let inv = c.loop.invariant in
    c.in-Service.ensures.turned start from first output (on-same (machine_of c.args.engine.now) (machine_of c.loop.engine) c.args.root c.args.memory.now c.loop.memory start inv.machine inv.memory on) (inv.going start from first output on going)

pub returns-in-Service-clause-later : goal.returns-in-Service-clause-later
returns-in-Service-clause-later g c start from first output on going =
    clock-later start c.args.until from first (course_of c.loop.engine.course) (course_of c.turn.new.engine.course) (caches_of c.loop.engine) (g.C.Cells.state c.loop.cells) (shown_state (registers_of c.loop.arch) c.loop.memory (g.C.Cells.state c.loop.cells) output)
    c.in-Service.clock (c.loop.invariant.going start from first output on going) c.in-Service.ensures.timely

pub returns-in-Service-clause-bounded : goal.returns-in-Service-clause-bounded
returns-in-Service-clause-bounded g c =
    clock-bounded (machine_of c.loop.engine) (machine_of c.turn.new.engine) c.args.root c.args.until c.loop.memory c.turn.new.memory (course_of c.loop.engine.course) (course_of c.turn.new.engine.course) (caches_of c.loop.engine) (caches_of c.turn.new.engine)
    (g.C.Cells.state c.loop.cells) (g.C.Cells.state c.turn.new.cells) (registers_of c.loop.arch) (registers_of c.turn.new.arch) c.loop.invariant.turning c.requires.until c.in-Service.clock c.in-Service.ensures.timely

pub returns-in-Faulted-clause-over : goal.returns-in-Faulted-clause-over
returns-in-Faulted-clause-over g c start from first output on going =
    let inv = c.loop.invariant in
    c.in-Faulted.ensures.turned start from first output (on-same (machine_of c.args.engine.now) (machine_of c.loop.engine) c.args.root c.args.memory.now c.loop.memory start inv.machine inv.memory on) (inv.going start from first output on going)

pub returns-in-Faulted-clause-later : goal.returns-in-Faulted-clause-later
returns-in-Faulted-clause-later g c start from first output on going =
    clock-later start c.args.until from first (course_of c.loop.engine.course) (course_of c.turn.new.engine.course) (caches_of c.loop.engine) (g.C.Cells.state c.loop.cells) (shown_state (registers_of c.loop.arch) c.loop.memory (g.C.Cells.state c.loop.cells) output)
    c.in-Faulted.clock (c.loop.invariant.going start from first output on going) c.in-Faulted.ensures.timely

pub returns-in-Faulted-clause-bounded : goal.returns-in-Faulted-clause-bounded
returns-in-Faulted-clause-bounded g c =
    clock-bounded (machine_of c.loop.engine) (machine_of c.turn.new.engine) c.args.root c.args.until c.loop.memory c.turn.new.memory (course_of c.loop.engine.course) (course_of c.turn.new.engine.course) (caches_of c.loop.engine) (caches_of c.turn.new.engine)
    (g.C.Cells.state c.loop.cells) (g.C.Cells.state c.turn.new.cells) (registers_of c.loop.arch) (registers_of c.turn.new.arch) c.loop.invariant.turning c.requires.until c.in-Faulted.clock c.in-Faulted.ensures.timely
