use Rattle.std.proofs.Common.{ℕ, ◌+◌, ◌≤◌, List, refl, sym, subst, ap, ◌∙◌, arith}
use Rattle.vx_paged.specs.Framed.{IsPlacement}
use Rattle.vx_paged.specs.declared.placement.FramedPage.{FramedPage}
use Rattle.vx_pipe.specs.Going.{IsEpisodeOn}
use Rattle.vx_base.specs.declared.machine.Fault.{Fault}
use Rattle.vx_hart.specs.Outcomes.{outcome_of}
use Rattle.vx_hart.specs.declared.progress.Progress.TheVariants as progress
use Rattle.vx_pipe.specs.Left.{registers_of}
use Rattle.vx_pipe.specs.Playing.{shown_state}
use Rattle.vx_pipe.specs.Turning.{caches_of, course_of, machine_of}
use Rattle.vx_pipe.proofs.Outputs.{issued-next}
use Rattle.vx_pipe.proofs.PlainArm.{span-small, retiring-plain, retiring-tables, rest-of, retired-early, fetched-soon, issued-early, completed-early}
use Rattle.vx_pipe.proofs.plain.do_plain.Goals as goal

pub retire-requires-clause-tables : goal.retire-requires-clause-tables
retire-requires-clause-tables g c =
    let t = c.requires.issued in
    let before = g.C.Cells.state c.args.cells.now in
    let after = g.C.Cells.state c.execute.new.physical in
    let same = c.walks_leave_pages.ensures.same c.args.memory.now c.execute.new.memory before after c.execute.ensures.rest in
    let v = shown_state (registers_of c.execute.new.arch) c.execute.new.memory after t.output in
    retiring-tables t.start c.args.root c.args.until t.from t.first (course_of c.args.engine.now.course) c.issue-issued.result (c.issue-issued.result + c.span_of.result) 0 c.jumps_as-jumps.result c.changes_as-changes.result
    (caches_of c.args.engine.now) after v t.on.root_is
    (retiring-plain c.plain_instructions_are_done.ensures.completes (machine_of c.args.engine.now) c.args.root c.args.until c.args.memory.now t.start t.from t.first (course_of c.args.engine.now.course) c.args.fetched (caches_of c.args.engine.now)
    before after (shown_state (registers_of c.args.arch.now) c.args.memory.now before t.output) v
    c.args.word c.args.known.now.instr c.args.known.now.class c.issue-issued.result c.span_of.result c.execute.new.self c.jumps_as-jumps.result c.changes_as-changes.result c.execute.new.memory t.on t.kept t.issuing
    c.args.known.now.class_is c.requires.class t.next c.issue-issued.ensures same c.execute.ensures.rest (c.in-Completed.ensures.performed t.output) c.span_of.ensures c.jumps_as-jumps.ensures c.changes_as-changes.ensures)

pub retire-requires-clause-completed : goal.retire-requires-clause-completed
retire-requires-clause-completed g c =
    let early = retired-early (machine_of c.args.engine.now) c.args.root c.args.until c.args.memory.now (course_of c.args.engine.now.course) c.args.fetched (caches_of c.args.engine.now) (g.C.Cells.state c.args.cells.now) (registers_of c.args.arch.now) c.args.word c.args.known.now.instr c.requires.issued c.requires.until c.args.engine.now.bank_time_in_range in
    let soon = fetched-soon (machine_of c.args.engine.now) c.args.root c.args.until c.args.memory.now (course_of c.args.engine.now.course) c.args.fetched (caches_of c.args.engine.now) (g.C.Cells.state c.args.cells.now) (registers_of c.args.arch.now) c.args.word c.args.known.now.instr c.requires.issued c.requires.until c.args.engine.now.bank_time_in_range in
    completed-early (course_of c.args.engine.now.course) c.args.fetched c.issue-issued.result early soon c.issue-issued.ensures c.span_of.result
    (subst (λ (n : ℕ). n ≤ 20) (sym c.span_of.ensures) (span-small c.args.known.now.class))

pub overflow_add-result : goal.overflow_add-result
overflow_add-result g c =
    let early = retired-early (machine_of c.args.engine.now) c.args.root c.args.until c.args.memory.now (course_of c.args.engine.now.course) c.args.fetched (caches_of c.args.engine.now) (g.C.Cells.state c.args.cells.now) (registers_of c.args.arch.now) c.args.word c.args.known.now.instr c.requires.issued c.requires.until c.args.engine.now.bank_time_in_range in
    let soon = fetched-soon (machine_of c.args.engine.now) c.args.root c.args.until c.args.memory.now (course_of c.args.engine.now.course) c.args.fetched (caches_of c.args.engine.now) (g.C.Cells.state c.args.cells.now) (registers_of c.args.arch.now) c.args.word c.args.known.now.instr c.requires.issued c.requires.until c.args.engine.now.bank_time_in_range in
    let by = issued-early (course_of c.args.engine.now.course) c.args.fetched c.issue-issued.result early soon c.issue-issued.ensures in
    omega (arith, by)

pub overflow_add-result-in-Faulted : goal.overflow_add-result-in-Faulted
overflow_add-result-in-Faulted g c =
    let early = retired-early (machine_of c.args.engine.now) c.args.root c.args.until c.args.memory.now (course_of c.args.engine.now.course) c.args.fetched (caches_of c.args.engine.now) (g.C.Cells.state c.args.cells.now) (registers_of c.args.arch.now) c.args.word c.args.known.now.instr c.requires.issued c.requires.until c.args.engine.now.bank_time_in_range in
    let soon = fetched-soon (machine_of c.args.engine.now) c.args.root c.args.until c.args.memory.now (course_of c.args.engine.now.course) c.args.fetched (caches_of c.args.engine.now) (g.C.Cells.state c.args.cells.now) (registers_of c.args.arch.now) c.args.word c.args.known.now.instr c.requires.issued c.requires.until c.args.engine.now.bank_time_in_range in
    let by = issued-early (course_of c.args.engine.now.course) c.args.fetched c.issue-issued.result early soon c.issue-issued.ensures in
    omega (arith, by)

pub returns-in-Completed-clause-turned : goal.returns-in-Completed-clause-turned
returns-in-Completed-clause-turned g c start from first output on issuing =
    let t = c.requires.issued in
    let before = g.C.Cells.state c.args.cells.now in
    let after = g.C.Cells.state c.execute.new.physical in
    let same = c.walks_leave_pages.ensures.same c.args.memory.now c.execute.new.memory before after c.execute.ensures.rest in
    let v = shown_state (registers_of c.execute.new.arch) c.execute.new.memory after output in
    let next = issued-next (machine_of c.args.engine.now) c.args.root c.args.until c.args.memory.now (course_of c.args.engine.now.course) c.args.fetched (caches_of c.args.engine.now) before (registers_of c.args.arch.now) c.args.word c.args.known.now.instr t output in
    let retiring = retiring-plain c.plain_instructions_are_done.ensures.completes (machine_of c.args.engine.now) c.args.root c.args.until c.args.memory.now start from first (course_of c.args.engine.now.course) c.args.fetched (caches_of c.args.engine.now)
    before after (shown_state (registers_of c.args.arch.now) c.args.memory.now before output) v
    c.args.word c.args.known.now.instr c.args.known.now.class c.issue-issued.result c.span_of.result c.execute.new.self c.jumps_as-jumps.result c.changes_as-changes.result c.execute.new.memory on t.kept issuing
    c.args.known.now.class_is c.requires.class next c.issue-issued.ensures same c.execute.ensures.rest (c.in-Completed.ensures.performed output) c.span_of.ensures c.jumps_as-jumps.ensures c.changes_as-changes.ensures in
    let here : IsEpisodeOn (machine_of c.args.engine.now) c.args.root c.execute.new.memory start = subst (λ (p : List FramedPage). IsEpisodeOn (machine_of c.args.engine.now) c.args.root p start) (sym same) on in
    c.retire.ensures.retired c.execute.new.memory start from first (registers_of c.execute.new.arch) output here (subst IsPlacement (sym same) t.kept) retiring refl

pub returns-in-Asks-clause-turned : goal.returns-in-Asks-clause-turned
returns-in-Asks-clause-turned g c start from first output on issuing =
    let t = c.requires.issued in
    let before = g.C.Cells.state c.args.cells.now in
    let after = g.C.Cells.state c.execute.new.physical in
    let same = c.walks_leave_pages.ensures.same c.args.memory.now c.execute.new.memory before after c.execute.ensures.rest in
    let next = issued-next (machine_of c.args.engine.now) c.args.root c.args.until c.args.memory.now (course_of c.args.engine.now.course) c.args.fetched (caches_of c.args.engine.now) before (registers_of c.args.arch.now) c.args.word c.args.known.now.instr t output in
    c.plain_instructions_are_done.ensures.asks (machine_of c.args.engine.now) c.args.root c.args.until c.args.memory.now start from first (course_of c.args.engine.now.course) c.args.fetched (caches_of c.args.engine.now)
    before after (shown_state (registers_of c.args.arch.now) c.args.memory.now before output) (shown_state (registers_of c.execute.new.arch) c.execute.new.memory after output)
    c.args.word c.args.known.now.instr c.args.known.now.class c.issue-issued.result c.execute.new.self on t.kept issuing c.args.known.now.class_is c.requires.class next c.issue-issued.ensures
    (rest-of c.args.memory.now c.execute.new.memory before after same c.execute.ensures.rest) (c.in-Asks.ensures.performed output) (c.execute.ensures.waits output)

pub returns-in-Faulted-clause-turned : goal.returns-in-Faulted-clause-turned
returns-in-Faulted-clause-turned g c start from first output on issuing =
    let t = c.requires.issued in
    let before = g.C.Cells.state c.args.cells.now in
    let after = g.C.Cells.state c.execute.new.physical in
    let same = c.walks_leave_pages.ensures.same c.args.memory.now c.execute.new.memory before after c.execute.ensures.rest in
    let next = issued-next (machine_of c.args.engine.now) c.args.root c.args.until c.args.memory.now (course_of c.args.engine.now.course) c.args.fetched (caches_of c.args.engine.now) before (registers_of c.args.arch.now) c.args.word c.args.known.now.instr t output in
    c.plain_instructions_are_done.ensures.faults (machine_of c.args.engine.now) c.args.root c.args.until c.args.memory.now start from first (course_of c.args.engine.now.course) c.args.fetched (caches_of c.args.engine.now)
    before after (shown_state (registers_of c.args.arch.now) c.args.memory.now before output) (shown_state (registers_of c.execute.new.arch) c.execute.new.memory after output)
    c.args.word c.args.known.now.instr c.args.known.now.class c.issue-issued.result c.fault-engine.result on t.kept issuing c.args.known.now.class_is c.requires.class next c.issue-issued.ensures
    (rest-of c.args.memory.now c.execute.new.memory before after same c.execute.ensures.rest) (ap (λ (f : Fault). outcome_of progress.Faulted f (shown_state (registers_of c.execute.new.arch) c.execute.new.memory after output)) c.fault-engine.ensures ∙ c.in-Faulted.ensures.performed output)
