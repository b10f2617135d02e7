use Rattle.std.proofs.Common.{[], sym, ◌∙◌}
use Rattle.vx_hart.specs.Outcomes.{outcome_of}
use Rattle.vx_pipe.specs.Left.{registers_of}
use Rattle.vx_pipe.specs.Playing.{shown_state}
use Rattle.vx_pipe.specs.Turning.{caches_of, course_of, machine_of}
use Rattle.vx_pipe.proofs.PlainArm.{rest-of}
use Rattle.vx_pipe.proofs.RefusedArm.{only-faults}
use Rattle.vx_pipe.proofs.refused.refuse.Goals as goal

pub unreachable-requires : goal.unreachable-requires
unreachable-requires g c =
    only-faults c.advance-advance.result.progress c.advance-advance.new.self (shown_state (registers_of c.args.arch.now) c.args.memory.now (g.C.Cells.state c.args.cells.now) [])
    (shown_state (registers_of c.advance-advance.new.arch) c.advance-advance.new.memory (g.C.Cells.state c.advance-advance.new.physical) [])
    (c.requires.refused []) (c.advance-advance.ensures.performed []) c.in_default.not-Faulted

pub returns-clause-turned : goal.returns-clause-turned
returns-clause-turned g c start from first output on issuing =
    let before = g.C.Cells.state c.args.cells.now in
    let after = g.C.Cells.state c.advance-advance.new.physical in
    let u = shown_state (registers_of c.args.arch.now) c.args.memory.now before output in
    let v = shown_state (registers_of c.advance-advance.new.arch) c.advance-advance.new.memory after output in
    let same = c.walks_leave_pages.ensures.same c.args.memory.now c.advance-advance.new.memory before after c.advance-advance.ensures.rest in
    c.refused_instructions_fault.ensures (machine_of c.args.engine.now) c.args.root c.args.until c.args.memory.now start from first (course_of c.args.engine.now.course) c.args.fetched (caches_of c.args.engine.now)
    before after u v c.issue-issued.result c.fault-engine.result on c.pages-pages.ensures.kept issuing (c.requires.refused output) c.issue-issued.ensures
    (rest-of c.args.memory.now c.advance-advance.new.memory before after same c.advance-advance.ensures.rest)
    ((λ i. outcome_of (sym c.in-Faulted.is i) (c.fault-engine.ensures i) v) ∙ c.advance-advance.ensures.performed output)
