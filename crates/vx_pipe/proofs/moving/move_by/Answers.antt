use Rattle.std.proofs.Common.{◌≡◌, ℕ, ◌+◌, ◌-◌, ◌^◌, ◌<◌, ◌≤◌, max, List, Some, refl, sym, ap, subst, ◌∙◌, arith}
use Rattle.std.specs.Prelude.{◌||◌, ◌++◌, nat_lt, true}
use Rattle.vx_base.specs.declared.machine.Fault.{Fault}
use Rattle.vx_cells.specs.Cells.{CellsState}
use Rattle.vx_course.specs.Course.{Course}
use Rattle.vx_episode.specs.Organisation.{Organisation}
use Rattle.vx_episode.specs.declared.ended.Ended.TheVariants as ended
use Rattle.vx_flat.specs.Outcome.Outcome.{Next, Faulted}
use Rattle.vx_flat.specs.State.{Flat}
use Rattle.vx_flat.specs.Transfers.{Transfer, transferred}
use Rattle.vx_hart.specs.Directions.{direction_of}
use Rattle.vx_hart.specs.Outcomes.{flat_of, outcome_next, outcome_of}
use Rattle.vx_flat.specs.Step.{meaning, upcoming}
use Rattle.vx_flat.specs.Prefix.{prefix_at, transfer_next}
use Rattle.vx_hart.specs.Transfers.{transfer_with}
use Rattle.vx_image.specs.Pages.{Memory}
use Rattle.vx_paged.specs.Framed.{shown}
use Rattle.vx_paged.specs.declared.placement.FramedPage.{FramedPage}
use Rattle.vx_vector.specs.Accesses.{movement_count}
use Rattle.vx_vstate.specs.State.{SettingView}
use Rattle.vx_pipe.specs.Going.{IsEpisodeOn, IsOver}
use Rattle.vx_pipe.specs.Left.{registers_of}
use Rattle.vx_pipe.specs.Playing.{shown_state}
use Rattle.vx_pipe.specs.Turning.{HasTurned, caches_of, course_of, machine_of}
use Rattle.vx_pipe.proofs.Completing.{StepLaws, retiring}
use Rattle.vx_pipe.proofs.Kept.{PagedLaws}
use Rattle.vx_pipe.proofs.Outputs.{issued-next}
use Rattle.vx_pipe.proofs.TransferArm.{IsNext, arm-illegal, arm-retiring, fits-held, moving-f, next-so, none-fails, passing-at, pc-behind, rest-same, set-at, tables-held, tables-issued, without-elements, low-so, others-at}
use Rattle.vx_pipe.specs.Ending.{KeptBehind}
use Rattle.vx_flat.specs.State.{following}
use Rattle.vx_batching.specs.Batching.{next_times}
use Rattle.vx_episode.specs.Batches.{batch_started}
use Rattle.vx_episode.specs.Commits.{entry_of}
use Rattle.vx_episode.specs.Cycles.Cycle.{At}
use Rattle.vx_episode.specs.Footprint.{Footprint, footprint}
use Rattle.vx_pipe.specs.declared.passing.Passing.{Passing}
use Rattle.vx_episode.specs.History.{batches_of}
use Rattle.vx_quiet.specs.Quiet.{ended_by}
use Rattle.vx_pipe.specs.Passing.{IsAhead}
use Rattle.vx_pipe.specs.Transfers.{element_batch}
use Rattle.vx_pipe.proofs.TransferCourse.{EndLaws}
use Rattle.vx_pipe.proofs.TransferElements.{EndsBehindOne}
use Rattle.vx_pipe.proofs.TransferMoving.{done-faulted, done-next, few-so, illegal-comes, is-of, names-registers}
use Rattle.vx_pipe.proofs.TransferReaches.{ReachLaws, over-reached}
use Rattle.vx_pipe.proofs.TransferStops.{StopLaws, over-stopped}
use Rattle.vx_pipe.proofs.AccessSteps.{last-by}
use Rattle.vx_pipe.proofs.Bounds.{issued-bounds, issued-fetched, issued-fits, issued-tables}
use Rattle.vx_pipe.proofs.moving.move_by.Goals as goal

pub movement-requires-clause-registers : goal.movement-requires-clause-registers
movement-requires-clause-registers g c =
    names-registers c.args.known.now.instr c.requires.valid

pub execute-progress-requires-clause-fits : goal.execute-progress-requires-clause-fits
execute-progress-requires-clause-fits g c =
    issued-fits _ _ _ _ _ _ _ _ _ _ _ c.requires.issued

pub transfer-progress-requires-clause-fits : goal.transfer-progress-requires-clause-fits
transfer-progress-requires-clause-fits g c =
    issued-fits _ _ _ _ _ _ _ _ _ _ _ c.requires.issued

pub issue-issued-requires : goal.issue-issued-requires
issue-issued-requires g c =
    let b = issued-bounds _ _ _ _ _ _ _ _ _ _ _ c.requires.issued c.requires.until in
    omega (arith, b.retired)

pub overflow_add-result : goal.overflow_add-result
overflow_add-result g c =
    let b = issued-bounds _ _ _ _ _ _ _ _ _ _ _ c.requires.issued c.requires.until in
    let near = issued-fetched _ _ _ _ _ _ _ _ _ _ _ c.requires.issued in
    let early : c.issue-issued.result ≤ 2 ^ 42 + 100 = omega (arith, c.issue-issued.ensures, near, b.begun, b.retired, c.args.engine.now.bank_time_in_range) in
    omega (arith, early)

pub overflow_add-issued : goal.overflow_add-issued
overflow_add-issued g c =
    let b = issued-bounds _ _ _ _ _ _ _ _ _ _ _ c.requires.issued c.requires.until in
    let near = issued-fetched _ _ _ _ _ _ _ _ _ _ _ c.requires.issued in
    let early : c.issue-issued.result ≤ 2 ^ 42 + 100 = omega (arith, c.issue-issued.ensures, near, b.begun, b.retired, c.args.engine.now.bank_time_in_range) in
    omega (arith, early)

pub retire-requires-clause-completed : goal.retire-requires-clause-completed
retire-requires-clause-completed g c =
    let b = issued-bounds _ _ _ _ _ _ _ _ _ _ _ c.requires.issued c.requires.until in
    let near = issued-fetched _ _ _ _ _ _ _ _ _ _ _ c.requires.issued in
    let early : c.issue-issued.result ≤ 2 ^ 42 + 100 = omega (arith, c.issue-issued.ensures, near, b.begun, b.retired, c.args.engine.now.bank_time_in_range) in
    omega (arith, early)

pub pass_elements-way-requires-clause-tables : goal.pass_elements-way-requires-clause-tables
pass_elements-way-requires-clause-tables g c =
    issued-tables _ _ _ _ _ _ _ _ _ _ _ c.requires.issued

pub pass_elements-way-requires-clause-count : goal.pass_elements-way-requires-clause-count
pass_elements-way-requires-clause-count g c =
    c.count-count.ensures c.args.arch.now.v.words

pub pass_elements-way-requires-clause-few : goal.pass_elements-way-requires-clause-few
pass_elements-way-requires-clause-few g c =
    let few = few-so _ c.in-Some.ensures.moves.sound in
    omega (arith, few, c.count-count.ensures c.args.arch.now.v.words)

pub pass_elements-way-requires-clause-looked : goal.pass_elements-way-requires-clause-looked
pass_elements-way-requires-clause-looked g c =
    let b = issued-bounds _ _ _ _ _ _ _ _ _ _ _ c.requires.issued c.requires.until in
    let near = issued-fetched _ _ _ _ _ _ _ _ _ _ _ c.requires.issued in
    let early : c.issue-issued.result ≤ 2 ^ 42 + 100 = omega (arith, c.issue-issued.ensures, near, b.begun, b.retired, c.args.engine.now.bank_time_in_range) in
    omega (arith, early)

pub pass_elements-way-requires-clause-committed : goal.pass_elements-way-requires-clause-committed
pass_elements-way-requires-clause-committed g c =
    let b = issued-bounds _ _ _ _ _ _ _ _ _ _ _ c.requires.issued c.requires.until in
    omega (arith, b.retired)

pub pass_elements-way-requires-clause-stamps : goal.pass_elements-way-requires-clause-stamps
pass_elements-way-requires-clause-stamps g c =
    λ bank. omega (arith, c.requires.issued.issuing.stamps bank)

pub fetch_behind-requires-clause-begun : goal.fetch_behind-requires-clause-begun
fetch_behind-requires-clause-begun g c =
    let b = issued-bounds _ _ _ _ _ _ _ _ _ _ _ c.requires.issued c.requires.until in
    let near = issued-fetched _ _ _ _ _ _ _ _ _ _ _ c.requires.issued in
    let early : c.issue-issued.result ≤ 2 ^ 42 + 100 = omega (arith, c.issue-issued.ensures, near, b.begun, b.retired, c.args.engine.now.bank_time_in_range) in
    omega (arith, early)

pub fetch_behind-requires-in-Reaches-clause-begun : goal.fetch_behind-requires-in-Reaches-clause-begun
fetch_behind-requires-in-Reaches-clause-begun g c =
    let b = issued-bounds _ _ _ _ _ _ _ _ _ _ _ c.requires.issued c.requires.until in
    let near = issued-fetched _ _ _ _ _ _ _ _ _ _ _ c.requires.issued in
    let early : c.issue-issued.result ≤ 2 ^ 42 + 100 = omega (arith, c.issue-issued.ensures, near, b.begun, b.retired, c.args.engine.now.bank_time_in_range) in
    omega (arith, early)

pub overflow_add-result-in-Stops : goal.overflow_add-result-in-Stops
overflow_add-result-in-Stops g c =
    let b = issued-bounds _ _ _ _ _ _ _ _ _ _ _ c.requires.issued c.requires.until in
    let near = issued-fetched _ _ _ _ _ _ _ _ _ _ _ c.requires.issued in
    let early : c.issue-issued.result ≤ 2 ^ 42 + 100 = omega (arith, c.issue-issued.ensures, near, b.begun, b.retired, c.args.engine.now.bank_time_in_range) in
    let few = few-so _ c.in-Some.ensures.moves.sound in
    let small : c.pass_elements-way.new.i - c.in-Some.at.vstart + 1 ≤ 8193 = omega (arith, few, c.count-count.ensures c.args.arch.now.v.words, c.pass_elements-way.ensures.among) in
    omega (arith, early, b.retired, small, c.max.ensures, c.max-last.ensures, c.pass_elements-way.ensures.soon.looked, c.pass_elements-way.ensures.soon.committed, c.pass_elements-way.ensures.soon.done)

pub overflow_add-started : goal.overflow_add-started
overflow_add-started g c =
    let b = issued-bounds _ _ _ _ _ _ _ _ _ _ _ c.requires.issued c.requires.until in
    let near = issued-fetched _ _ _ _ _ _ _ _ _ _ _ c.requires.issued in
    let early : c.issue-issued.result ≤ 2 ^ 42 + 100 = omega (arith, c.issue-issued.ensures, near, b.begun, b.retired, c.args.engine.now.bank_time_in_range) in
    let few = few-so _ c.in-Some.ensures.moves.sound in
    let small : c.pass_elements-way.new.i - c.in-Some.at.vstart + 1 ≤ 8193 = omega (arith, few, c.count-count.ensures c.args.arch.now.v.words, c.pass_elements-way.ensures.among) in
    omega (arith, early, b.retired, small, c.max-started.ensures, c.pass_elements-way.ensures.before, c.pass_elements-way.ensures.soon.looked, c.pass_elements-way.ensures.soon.committed)

pub look_ahead-done-requires-clause-cycles : goal.look_ahead-done-requires-clause-cycles
look_ahead-done-requires-clause-cycles g c =
    let b = issued-bounds _ _ _ _ _ _ _ _ _ _ _ c.requires.issued c.requires.until in
    let near = issued-fetched _ _ _ _ _ _ _ _ _ _ _ c.requires.issued in
    let early : c.issue-issued.result ≤ 2 ^ 42 + 100 = omega (arith, c.issue-issued.ensures, near, b.begun, b.retired, c.args.engine.now.bank_time_in_range) in
    let few = few-so _ c.in-Some.ensures.moves.sound in
    let small : c.pass_elements-way.new.i - c.in-Some.at.vstart + 1 ≤ 8193 = omega (arith, few, c.count-count.ensures c.args.arch.now.v.words, c.pass_elements-way.ensures.among) in
    omega (arith, early, b.retired, small, c.max-started.ensures, c.pass_elements-way.ensures.before, c.pass_elements-way.ensures.soon.looked, c.pass_elements-way.ensures.soon.committed)

pub look_ahead-done-requires-clause-stamps : goal.look_ahead-done-requires-clause-stamps
look_ahead-done-requires-clause-stamps g c =
    let b = issued-bounds _ _ _ _ _ _ _ _ _ _ _ c.requires.issued c.requires.until in
    let near = issued-fetched _ _ _ _ _ _ _ _ _ _ _ c.requires.issued in
    let early : c.issue-issued.result ≤ 2 ^ 42 + 100 = omega (arith, c.issue-issued.ensures, near, b.begun, b.retired, c.args.engine.now.bank_time_in_range) in
    let few = few-so _ c.in-Some.ensures.moves.sound in
    let small : c.pass_elements-way.new.i - c.in-Some.at.vstart + 1 ≤ 8193 = omega (arith, few, c.count-count.ensures c.args.arch.now.v.words, c.pass_elements-way.ensures.among) in
    λ bank. omega (arith, early, b.retired, small, c.pass_elements-way.ensures.by bank, c.pass_elements-way.ensures.soon.done)

pub retire-requires-in-Completes-clause-completed : goal.retire-requires-in-Completes-clause-completed
retire-requires-in-Completes-clause-completed g c =
    let b = issued-bounds _ _ _ _ _ _ _ _ _ _ _ c.requires.issued c.requires.until in
    let near = issued-fetched _ _ _ _ _ _ _ _ _ _ _ c.requires.issued in
    let early : c.issue-issued.result ≤ 2 ^ 42 + 100 = omega (arith, c.issue-issued.ensures, near, b.begun, b.retired, c.args.engine.now.bank_time_in_range) in
    let few = few-so _ c.in-Some.ensures.moves.sound in
    let small : c.pass_elements-way.new.i - c.in-Some.at.vstart + 1 ≤ 8193 = omega (arith, few, c.count-count.ensures c.args.arch.now.v.words, c.pass_elements-way.ensures.among) in
    omega (arith, early, b.retired, small, c.max-completed.ensures, c.pass_elements-way.ensures.soon.looked, c.pass_elements-way.ensures.soon.done)

pub look_ahead-done-requires-clause-among : goal.look_ahead-done-requires-clause-among
look_ahead-done-requires-clause-among g c =
    omega (arith, c.count-count.ensures c.args.arch.now.v.words, c.pass_elements-way.ensures.among)

pub reach-requires-clause-below : goal.reach-requires-clause-below
reach-requires-clause-below g c =
    omega (arith, c.count-count.ensures c.args.arch.now.v.words, c.pass_elements-way.ensures.among)

pub overflow_add-result-in-Reaches : goal.overflow_add-result-in-Reaches
overflow_add-result-in-Reaches g c =
    let b = issued-bounds _ _ _ _ _ _ _ _ _ _ _ c.requires.issued c.requires.until in
    let near = issued-fetched _ _ _ _ _ _ _ _ _ _ _ c.requires.issued in
    let early : c.issue-issued.result ≤ 2 ^ 42 + 100 = omega (arith, c.issue-issued.ensures, near, b.begun, b.retired, c.args.engine.now.bank_time_in_range) in
    let few = few-so _ c.in-Some.ensures.moves.sound in
    let small : c.pass_elements-way.new.i - c.in-Some.at.vstart + 1 ≤ 8193 = omega (arith, few, c.count-count.ensures c.args.arch.now.v.words, c.pass_elements-way.ensures.among) in
    let by = c.look_ahead-done.ensures.soon (2 ^ 45) (λ bank. omega (arith, early, b.retired, small, c.pass_elements-way.ensures.by bank, c.pass_elements-way.ensures.soon.done))
    (omega (arith, early, b.retired, small, c.max-started.ensures, c.pass_elements-way.ensures.before, c.pass_elements-way.ensures.soon.looked, c.pass_elements-way.ensures.soon.committed)) in
    omega (arith, early, b.retired, small, by, c.max-in-Reaches.ensures, c.pass_elements-way.ensures.soon.committed)

pub retire-requires-clause-tables : goal.retire-requires-clause-tables
retire-requires-clause-tables g c =
    let before : CellsState = g.C.Cells.state c.args.cells.now in
    let after : CellsState = g.C.Cells.state c.transfer-progress.new.physical in
    let same = rest-same c.walks_leave_pages.ensures.same c.args.memory.now c.transfer-progress.new.memory before after c.transfer-progress.ensures.rest in
    tables-issued (record { words = c.tables_stay.ensures.words; held = c.tables_stay.ensures.held; is_placed = c.walks_leave_pages.ensures.placed; alone = c.walks_leave_pages.ensures.alone; elsewhere = c.walks_leave_pages.ensures.elsewhere }) _ c.args.root c.args.memory.now c.requires.issued.start _ _ _ _ _ _ before after _ c.requires.issued.on c.requires.issued.kept c.requires.issued.issuing same

pub transfer-progress-requires-in-Completes-clause-fits : goal.transfer-progress-requires-in-Completes-clause-fits
transfer-progress-requires-in-Completes-clause-fits g c =
    let paged : PagedLaws = record { words = c.tables_stay.ensures.words; held = c.tables_stay.ensures.held; is_placed = c.walks_leave_pages.ensures.placed; alone = c.walks_leave_pages.ensures.alone; elsewhere = c.walks_leave_pages.ensures.elsewhere } in
    let laws : StepLaws = record {
      next = c.steps_are_alike.ensures.next;
      exact = c.nothing_else_differs.ensures.exact;
      formed = c.runs_are_well_formed.ensures.step;
      footprints = c.footprints_are_the_same.ensures;
      issued = c.instructions_issue_behind_a_quiet_history.ensures.issued;
      completed = c.instructions_without_accesses_complete.ensures.completed;
      happens = c.instructions_without_accesses_complete.ensures.happens;
    } in
    let machine : Organisation = machine_of c.args.engine.now in
    let before : CellsState = g.C.Cells.state c.args.cells.now in
    let u : Flat = shown_state (registers_of c.args.arch.now) c.args.memory.now (g.C.Cells.state c.args.cells.now) c.requires.issued.output in
    let next = issued-next _ _ _ _ _ _ _ _ _ _ _ c.requires.issued c.requires.issued.output in
    let t : Transfer = transfer_with (direction_of c.args.direction) c.in-Some.pattern c.args.arch.now.v in
    let one : EndsBehindOne = λ m lanes from. (c.batches_are_longest_runs.ensures.some m lanes 1 from, c.batches_are_longest_runs.ensures.elements m lanes 1 from (omega arith)) in
    let contents : List ℕ = (g.C.Cells.state c.args.cells.now).contents in
    let n : IsNext (machine_of c.args.engine.now) (shown_state (registers_of c.args.arch.now) c.args.memory.now (g.C.Cells.state c.args.cells.now) c.requires.issued.output) (transfer_with (direction_of c.args.direction) c.in-Some.pattern c.args.arch.now.v) c.args.known.now.instr =
    next-so one (machine_of c.args.engine.now) refl (direction_of c.args.direction) c.args.addressing c.args.encoded c.args.known.now.instr c.requires.class u c.args.word next
    (sym (c.in-Some.ensures.legal (shown c.args.memory.now contents) c.requires.issued.output)) t (c.in-Some.ensures.same (direction_of c.args.direction) (shown c.args.memory.now contents) c.requires.issued.output) in
    let v-at : t.movement.at.vstart ≡ c.in-Some.at.vstart = ap (λ (s : SettingView). s.vstart) c.in-Some.ensures.moves.setting in
    let count-is : c.count-count.result ≡ movement_count t.movement = c.count-count.ensures c.args.arch.now.v.words in
    let few : movement_count t.movement ≤ 8192 = few-so t.movement c.in-Some.ensures.moves.sound in
    let begun = passing-at laws machine c.args.root c.args.memory.now c.requires.issued.start c.args.until c.requires.issued.from c.requires.issued.first (course_of c.args.engine.now.course) c.args.fetched c.args.engine.now.loads c.args.engine.now.fetches c.args.engine.now.banks before u c.issue-issued.result t c.requires.issued.on c.requires.issued.issuing
    c.batches_begin.ensures n.moves (omega (arith, c.issue-issued.ensures)) c.count-count.result c.in-Some.at.vstart v-at count-is in
    let set = set-at laws machine c.args.root c.args.memory.now c.requires.issued.start c.args.until c.requires.issued.from c.requires.issued.first (course_of c.args.engine.now.course) c.args.fetched c.args.engine.now.loads c.args.engine.now.fetches c.args.engine.now.banks before u c.issue-issued.result t c.requires.issued.on c.requires.issued.issuing
    contents c.from-bank_time.result c.want_of-want.result n.moves (sym c.from-bank_time.ensures) c.want_of-want.ensures in
    let gone = c.in-Completes.ensures.passed c.requires.issued.start c.requires.issued.issuing.history _ _ _ _ t before set begun in
    fits-held c.args.memory.now c.args.root before (g.C.Cells.state c.pass_elements-way.new.cells) c.pass_elements-way.ensures.tables gone.transferring.frames (issued-fits _ _ _ _ _ _ _ _ _ _ _ c.requires.issued)

pub retire-requires-in-Completes-clause-tables : goal.retire-requires-in-Completes-clause-tables
retire-requires-in-Completes-clause-tables g c =
    let paged : PagedLaws = record { words = c.tables_stay.ensures.words; held = c.tables_stay.ensures.held; is_placed = c.walks_leave_pages.ensures.placed; alone = c.walks_leave_pages.ensures.alone; elsewhere = c.walks_leave_pages.ensures.elsewhere } in
    let laws : StepLaws = record {
      next = c.steps_are_alike.ensures.next;
      exact = c.nothing_else_differs.ensures.exact;
      formed = c.runs_are_well_formed.ensures.step;
      footprints = c.footprints_are_the_same.ensures;
      issued = c.instructions_issue_behind_a_quiet_history.ensures.issued;
      completed = c.instructions_without_accesses_complete.ensures.completed;
      happens = c.instructions_without_accesses_complete.ensures.happens;
    } in
    let machine : Organisation = machine_of c.args.engine.now in
    let before : CellsState = g.C.Cells.state c.args.cells.now in
    let u : Flat = shown_state (registers_of c.args.arch.now) c.args.memory.now (g.C.Cells.state c.args.cells.now) c.requires.issued.output in
    let next = issued-next _ _ _ _ _ _ _ _ _ _ _ c.requires.issued c.requires.issued.output in
    let t : Transfer = transfer_with (direction_of c.args.direction) c.in-Some.pattern c.args.arch.now.v in
    let one : EndsBehindOne = λ m lanes from. (c.batches_are_longest_runs.ensures.some m lanes 1 from, c.batches_are_longest_runs.ensures.elements m lanes 1 from (omega arith)) in
    let contents : List ℕ = (g.C.Cells.state c.args.cells.now).contents in
    let n : IsNext (machine_of c.args.engine.now) (shown_state (registers_of c.args.arch.now) c.args.memory.now (g.C.Cells.state c.args.cells.now) c.requires.issued.output) (transfer_with (direction_of c.args.direction) c.in-Some.pattern c.args.arch.now.v) c.args.known.now.instr =
    next-so one (machine_of c.args.engine.now) refl (direction_of c.args.direction) c.args.addressing c.args.encoded c.args.known.now.instr c.requires.class u c.args.word next
    (sym (c.in-Some.ensures.legal (shown c.args.memory.now contents) c.requires.issued.output)) t (c.in-Some.ensures.same (direction_of c.args.direction) (shown c.args.memory.now contents) c.requires.issued.output) in
    let v-at : t.movement.at.vstart ≡ c.in-Some.at.vstart = ap (λ (s : SettingView). s.vstart) c.in-Some.ensures.moves.setting in
    let count-is : c.count-count.result ≡ movement_count t.movement = c.count-count.ensures c.args.arch.now.v.words in
    let few : movement_count t.movement ≤ 8192 = few-so t.movement c.in-Some.ensures.moves.sound in
    let begun = passing-at laws machine c.args.root c.args.memory.now c.requires.issued.start c.args.until c.requires.issued.from c.requires.issued.first (course_of c.args.engine.now.course) c.args.fetched c.args.engine.now.loads c.args.engine.now.fetches c.args.engine.now.banks before u c.issue-issued.result t c.requires.issued.on c.requires.issued.issuing
    c.batches_begin.ensures n.moves (omega (arith, c.issue-issued.ensures)) c.count-count.result c.in-Some.at.vstart v-at count-is in
    let set = set-at laws machine c.args.root c.args.memory.now c.requires.issued.start c.args.until c.requires.issued.from c.requires.issued.first (course_of c.args.engine.now.course) c.args.fetched c.args.engine.now.loads c.args.engine.now.fetches c.args.engine.now.banks before u c.issue-issued.result t c.requires.issued.on c.requires.issued.issuing
    contents c.from-bank_time.result c.want_of-want.result n.moves (sym c.from-bank_time.ensures) c.want_of-want.ensures in
    let gone = c.in-Completes.ensures.passed c.requires.issued.start c.requires.issued.issuing.history _ _ _ _ t before set begun in
    let same = rest-same c.walks_leave_pages.ensures.same c.args.memory.now c.transfer-progress-in-Completes.new.memory (g.C.Cells.state c.pass_elements-way.new.cells) (g.C.Cells.state c.transfer-progress-in-Completes.new.physical) c.transfer-progress-in-Completes.ensures.rest in
    tables-held paged machine c.args.root c.args.memory.now c.requires.issued.start _ (g.C.Cells.state c.pass_elements-way.new.cells) (g.C.Cells.state c.transfer-progress-in-Completes.new.physical) c.requires.issued.on c.requires.issued.kept
    gone.transferring.ready.held same

pub transfer-progress-requires-in-Stops-clause-fits : goal.transfer-progress-requires-in-Stops-clause-fits
transfer-progress-requires-in-Stops-clause-fits g c =
    let paged : PagedLaws = record { words = c.tables_stay.ensures.words; held = c.tables_stay.ensures.held; is_placed = c.walks_leave_pages.ensures.placed; alone = c.walks_leave_pages.ensures.alone; elsewhere = c.walks_leave_pages.ensures.elsewhere } in
    let laws : StepLaws = record {
      next = c.steps_are_alike.ensures.next;
      exact = c.nothing_else_differs.ensures.exact;
      formed = c.runs_are_well_formed.ensures.step;
      footprints = c.footprints_are_the_same.ensures;
      issued = c.instructions_issue_behind_a_quiet_history.ensures.issued;
      completed = c.instructions_without_accesses_complete.ensures.completed;
      happens = c.instructions_without_accesses_complete.ensures.happens;
    } in
    let machine : Organisation = machine_of c.args.engine.now in
    let before : CellsState = g.C.Cells.state c.args.cells.now in
    let u : Flat = shown_state (registers_of c.args.arch.now) c.args.memory.now (g.C.Cells.state c.args.cells.now) c.requires.issued.output in
    let next = issued-next _ _ _ _ _ _ _ _ _ _ _ c.requires.issued c.requires.issued.output in
    let t : Transfer = transfer_with (direction_of c.args.direction) c.in-Some.pattern c.args.arch.now.v in
    let one : EndsBehindOne = λ m lanes from. (c.batches_are_longest_runs.ensures.some m lanes 1 from, c.batches_are_longest_runs.ensures.elements m lanes 1 from (omega arith)) in
    let contents : List ℕ = (g.C.Cells.state c.args.cells.now).contents in
    let n : IsNext (machine_of c.args.engine.now) (shown_state (registers_of c.args.arch.now) c.args.memory.now (g.C.Cells.state c.args.cells.now) c.requires.issued.output) (transfer_with (direction_of c.args.direction) c.in-Some.pattern c.args.arch.now.v) c.args.known.now.instr =
    next-so one (machine_of c.args.engine.now) refl (direction_of c.args.direction) c.args.addressing c.args.encoded c.args.known.now.instr c.requires.class u c.args.word next
    (sym (c.in-Some.ensures.legal (shown c.args.memory.now contents) c.requires.issued.output)) t (c.in-Some.ensures.same (direction_of c.args.direction) (shown c.args.memory.now contents) c.requires.issued.output) in
    let v-at : t.movement.at.vstart ≡ c.in-Some.at.vstart = ap (λ (s : SettingView). s.vstart) c.in-Some.ensures.moves.setting in
    let count-is : c.count-count.result ≡ movement_count t.movement = c.count-count.ensures c.args.arch.now.v.words in
    let few : movement_count t.movement ≤ 8192 = few-so t.movement c.in-Some.ensures.moves.sound in
    let begun = passing-at laws machine c.args.root c.args.memory.now c.requires.issued.start c.args.until c.requires.issued.from c.requires.issued.first (course_of c.args.engine.now.course) c.args.fetched c.args.engine.now.loads c.args.engine.now.fetches c.args.engine.now.banks before u c.issue-issued.result t c.requires.issued.on c.requires.issued.issuing
    c.batches_begin.ensures n.moves (omega (arith, c.issue-issued.ensures)) c.count-count.result c.in-Some.at.vstart v-at count-is in
    let set = set-at laws machine c.args.root c.args.memory.now c.requires.issued.start c.args.until c.requires.issued.from c.requires.issued.first (course_of c.args.engine.now.course) c.args.fetched c.args.engine.now.loads c.args.engine.now.fetches c.args.engine.now.banks before u c.issue-issued.result t c.requires.issued.on c.requires.issued.issuing
    contents c.from-bank_time.result c.want_of-want.result n.moves (sym c.from-bank_time.ensures) c.want_of-want.ensures in
    let gone = c.in-Stops.ensures.passed c.requires.issued.start c.requires.issued.issuing.history _ _ _ _ t before set begun in
    fits-held c.args.memory.now c.args.root before (g.C.Cells.state c.fetch_behind.new.cells) c.fetch_behind.ensures.tables (c.fetch_behind.ensures.frames ∙ gone.frames) (issued-fits _ _ _ _ _ _ _ _ _ _ _ c.requires.issued)

pub reach-requires-clause-fits : goal.reach-requires-clause-fits
reach-requires-clause-fits g c =
    let paged : PagedLaws = record { words = c.tables_stay.ensures.words; held = c.tables_stay.ensures.held; is_placed = c.walks_leave_pages.ensures.placed; alone = c.walks_leave_pages.ensures.alone; elsewhere = c.walks_leave_pages.ensures.elsewhere } in
    let laws : StepLaws = record {
      next = c.steps_are_alike.ensures.next;
      exact = c.nothing_else_differs.ensures.exact;
      formed = c.runs_are_well_formed.ensures.step;
      footprints = c.footprints_are_the_same.ensures;
      issued = c.instructions_issue_behind_a_quiet_history.ensures.issued;
      completed = c.instructions_without_accesses_complete.ensures.completed;
      happens = c.instructions_without_accesses_complete.ensures.happens;
    } in
    let machine : Organisation = machine_of c.args.engine.now in
    let before : CellsState = g.C.Cells.state c.args.cells.now in
    let u : Flat = shown_state (registers_of c.args.arch.now) c.args.memory.now (g.C.Cells.state c.args.cells.now) c.requires.issued.output in
    let next = issued-next _ _ _ _ _ _ _ _ _ _ _ c.requires.issued c.requires.issued.output in
    let t : Transfer = transfer_with (direction_of c.args.direction) c.in-Some.pattern c.args.arch.now.v in
    let one : EndsBehindOne = λ m lanes from. (c.batches_are_longest_runs.ensures.some m lanes 1 from, c.batches_are_longest_runs.ensures.elements m lanes 1 from (omega arith)) in
    let contents : List ℕ = (g.C.Cells.state c.args.cells.now).contents in
    let n : IsNext (machine_of c.args.engine.now) (shown_state (registers_of c.args.arch.now) c.args.memory.now (g.C.Cells.state c.args.cells.now) c.requires.issued.output) (transfer_with (direction_of c.args.direction) c.in-Some.pattern c.args.arch.now.v) c.args.known.now.instr =
    next-so one (machine_of c.args.engine.now) refl (direction_of c.args.direction) c.args.addressing c.args.encoded c.args.known.now.instr c.requires.class u c.args.word next
    (sym (c.in-Some.ensures.legal (shown c.args.memory.now contents) c.requires.issued.output)) t (c.in-Some.ensures.same (direction_of c.args.direction) (shown c.args.memory.now contents) c.requires.issued.output) in
    let v-at : t.movement.at.vstart ≡ c.in-Some.at.vstart = ap (λ (s : SettingView). s.vstart) c.in-Some.ensures.moves.setting in
    let count-is : c.count-count.result ≡ movement_count t.movement = c.count-count.ensures c.args.arch.now.v.words in
    let few : movement_count t.movement ≤ 8192 = few-so t.movement c.in-Some.ensures.moves.sound in
    let begun = passing-at laws machine c.args.root c.args.memory.now c.requires.issued.start c.args.until c.requires.issued.from c.requires.issued.first (course_of c.args.engine.now.course) c.args.fetched c.args.engine.now.loads c.args.engine.now.fetches c.args.engine.now.banks before u c.issue-issued.result t c.requires.issued.on c.requires.issued.issuing
    c.batches_begin.ensures n.moves (omega (arith, c.issue-issued.ensures)) c.count-count.result c.in-Some.at.vstart v-at count-is in
    let set = set-at laws machine c.args.root c.args.memory.now c.requires.issued.start c.args.until c.requires.issued.from c.requires.issued.first (course_of c.args.engine.now.course) c.args.fetched c.args.engine.now.loads c.args.engine.now.fetches c.args.engine.now.banks before u c.issue-issued.result t c.requires.issued.on c.requires.issued.issuing
    contents c.from-bank_time.result c.want_of-want.result n.moves (sym c.from-bank_time.ensures) c.want_of-want.ensures in
    let gone = c.in-Reaches.ensures.passed c.requires.issued.start c.requires.issued.issuing.history _ _ _ _ t before set begun in
    fits-held c.args.memory.now c.args.root before (g.C.Cells.state c.fetch_behind-in-Reaches.new.cells) c.fetch_behind-in-Reaches.ensures.tables (c.fetch_behind-in-Reaches.ensures.frames ∙ c.look_ahead-done.ensures.frames ∙ gone.transferring.frames) (issued-fits _ _ _ _ _ _ _ _ _ _ _ c.requires.issued)

pub reach-requires-clause-free : goal.reach-requires-clause-free
reach-requires-clause-free g c =
    let paged : PagedLaws = record { words = c.tables_stay.ensures.words; held = c.tables_stay.ensures.held; is_placed = c.walks_leave_pages.ensures.placed; alone = c.walks_leave_pages.ensures.alone; elsewhere = c.walks_leave_pages.ensures.elsewhere } in
    let laws : StepLaws = record {
      next = c.steps_are_alike.ensures.next;
      exact = c.nothing_else_differs.ensures.exact;
      formed = c.runs_are_well_formed.ensures.step;
      footprints = c.footprints_are_the_same.ensures;
      issued = c.instructions_issue_behind_a_quiet_history.ensures.issued;
      completed = c.instructions_without_accesses_complete.ensures.completed;
      happens = c.instructions_without_accesses_complete.ensures.happens;
    } in
    let machine : Organisation = machine_of c.args.engine.now in
    let before : CellsState = g.C.Cells.state c.args.cells.now in
    let u : Flat = shown_state (registers_of c.args.arch.now) c.args.memory.now (g.C.Cells.state c.args.cells.now) c.requires.issued.output in
    let next = issued-next _ _ _ _ _ _ _ _ _ _ _ c.requires.issued c.requires.issued.output in
    let t : Transfer = transfer_with (direction_of c.args.direction) c.in-Some.pattern c.args.arch.now.v in
    let one : EndsBehindOne = λ m lanes from. (c.batches_are_longest_runs.ensures.some m lanes 1 from, c.batches_are_longest_runs.ensures.elements m lanes 1 from (omega arith)) in
    let contents : List ℕ = (g.C.Cells.state c.args.cells.now).contents in
    let n : IsNext (machine_of c.args.engine.now) (shown_state (registers_of c.args.arch.now) c.args.memory.now (g.C.Cells.state c.args.cells.now) c.requires.issued.output) (transfer_with (direction_of c.args.direction) c.in-Some.pattern c.args.arch.now.v) c.args.known.now.instr =
    next-so one (machine_of c.args.engine.now) refl (direction_of c.args.direction) c.args.addressing c.args.encoded c.args.known.now.instr c.requires.class u c.args.word next
    (sym (c.in-Some.ensures.legal (shown c.args.memory.now contents) c.requires.issued.output)) t (c.in-Some.ensures.same (direction_of c.args.direction) (shown c.args.memory.now contents) c.requires.issued.output) in
    let v-at : t.movement.at.vstart ≡ c.in-Some.at.vstart = ap (λ (s : SettingView). s.vstart) c.in-Some.ensures.moves.setting in
    let count-is : c.count-count.result ≡ movement_count t.movement = c.count-count.ensures c.args.arch.now.v.words in
    let few : movement_count t.movement ≤ 8192 = few-so t.movement c.in-Some.ensures.moves.sound in
    let begun = passing-at laws machine c.args.root c.args.memory.now c.requires.issued.start c.args.until c.requires.issued.from c.requires.issued.first (course_of c.args.engine.now.course) c.args.fetched c.args.engine.now.loads c.args.engine.now.fetches c.args.engine.now.banks before u c.issue-issued.result t c.requires.issued.on c.requires.issued.issuing
    c.batches_begin.ensures n.moves (omega (arith, c.issue-issued.ensures)) c.count-count.result c.in-Some.at.vstart v-at count-is in
    let set = set-at laws machine c.args.root c.args.memory.now c.requires.issued.start c.args.until c.requires.issued.from c.requires.issued.first (course_of c.args.engine.now.course) c.args.fetched c.args.engine.now.loads c.args.engine.now.fetches c.args.engine.now.banks before u c.issue-issued.result t c.requires.issued.on c.requires.issued.issuing
    contents c.from-bank_time.result c.want_of-want.result n.moves (sym c.from-bank_time.ensures) c.want_of-want.ensures in
    let gone = c.in-Reaches.ensures.passed c.requires.issued.start c.requires.issued.issuing.history _ _ _ _ t before set begun in
    gone.free (shown c.args.memory.now (g.C.Cells.state c.fetch_behind-in-Reaches.new.cells).contents) (is-of machine c.args.root c.args.memory.now c.requires.issued.start c.args.until c.requires.issued.from c.requires.issued.first (course_of c.args.engine.now.course) c.args.fetched c.args.engine.now.loads c.args.engine.now.fetches c.args.engine.now.banks before u c.issue-issued.result t c.requires.issued.on c.requires.issued.issuing (g.C.Cells.state c.fetch_behind-in-Reaches.new.cells).contents)

pub returns-in_default-clause-turned : goal.returns-in_default-clause-turned
returns-in_default-clause-turned g c start from first output on i =
    let paged : PagedLaws = record { words = c.tables_stay.ensures.words; held = c.tables_stay.ensures.held; is_placed = c.walks_leave_pages.ensures.placed; alone = c.walks_leave_pages.ensures.alone; elsewhere = c.walks_leave_pages.ensures.elsewhere } in
    let laws : StepLaws = record {
      next = c.steps_are_alike.ensures.next;
      exact = c.nothing_else_differs.ensures.exact;
      formed = c.runs_are_well_formed.ensures.step;
      footprints = c.footprints_are_the_same.ensures;
      issued = c.instructions_issue_behind_a_quiet_history.ensures.issued;
      completed = c.instructions_without_accesses_complete.ensures.completed;
      happens = c.instructions_without_accesses_complete.ensures.happens;
    } in
    let machine : Organisation = machine_of c.args.engine.now in
    let before : CellsState = g.C.Cells.state c.args.cells.now in
    let u : Flat = shown_state (registers_of c.args.arch.now) c.args.memory.now (g.C.Cells.state c.args.cells.now) output in
    let next = issued-next _ _ _ _ _ _ _ _ _ _ _ c.requires.issued output in
    let contents : List ℕ = (g.C.Cells.state c.args.cells.now).contents in
    let after : CellsState = g.C.Cells.state c.execute-progress.new.physical in
    let place = c.walks_leave_pages.ensures.same c.args.memory.now c.execute-progress.new.memory before after c.execute-progress.ensures.rest in
    let same = rest-same c.walks_leave_pages.ensures.same c.args.memory.now c.execute-progress.new.memory before after c.execute-progress.ensures.rest in
    let illegal = illegal-comes (direction_of c.args.direction) c.args.addressing c.args.encoded c.args.known.now.instr c.requires.class u ∙ sym (c.in_default.ensures.legal (shown c.args.memory.now contents) output) in
    subst (λ (p : List FramedPage). IsOver start c.args.until from first (ended.Faulted c.fault-engine.result) (c.issue-issued.result + 20) (course_of c.args.engine.now.course) after (shown_state (registers_of c.execute-progress.new.arch) p after output)) (sym place)
    (arm-illegal paged laws c.courses_end.ensures.at_issue c.steps_are_alike.ensures.faulted machine c.args.root c.args.memory.now start c.args.until from first (course_of c.args.engine.now.course) c.args.fetched (caches_of c.args.engine.now) before after u
    (shown_state (registers_of c.execute-progress.new.arch) c.args.memory.now after output) c.issue-issued.result c.args.word c.args.known.now.instr c.execute-progress.result c.execute-progress.new.self c.fault-engine.result on c.requires.issued.kept i c.issue-issued.ensures next illegal
    (subst (λ (p : List FramedPage). outcome_of c.execute-progress.result c.execute-progress.new.self (shown_state (registers_of c.execute-progress.new.arch) p after output) ≡ outcome_next u (meaning u c.args.word (Some c.args.known.now.instr))) place (c.execute-progress.ensures.performed output))
    (λ f a b told. c.fault-engine.ensures ∙ last-by c.execute-progress.result c.execute-progress.new.self a b f told) same)

pub returns-then-count-at-clause-turned : goal.returns-then-count-at-clause-turned
returns-then-count-at-clause-turned g c start from first output on i =
    let paged : PagedLaws = record { words = c.tables_stay.ensures.words; held = c.tables_stay.ensures.held; is_placed = c.walks_leave_pages.ensures.placed; alone = c.walks_leave_pages.ensures.alone; elsewhere = c.walks_leave_pages.ensures.elsewhere } in
    let laws : StepLaws = record {
      next = c.steps_are_alike.ensures.next;
      exact = c.nothing_else_differs.ensures.exact;
      formed = c.runs_are_well_formed.ensures.step;
      footprints = c.footprints_are_the_same.ensures;
      issued = c.instructions_issue_behind_a_quiet_history.ensures.issued;
      completed = c.instructions_without_accesses_complete.ensures.completed;
      happens = c.instructions_without_accesses_complete.ensures.happens;
    } in
    let machine : Organisation = machine_of c.args.engine.now in
    let before : CellsState = g.C.Cells.state c.args.cells.now in
    let u : Flat = shown_state (registers_of c.args.arch.now) c.args.memory.now (g.C.Cells.state c.args.cells.now) output in
    let next = issued-next _ _ _ _ _ _ _ _ _ _ _ c.requires.issued output in
    let t : Transfer = transfer_with (direction_of c.args.direction) c.in-Some.pattern c.args.arch.now.v in
    let one : EndsBehindOne = λ m lanes from. (c.batches_are_longest_runs.ensures.some m lanes 1 from, c.batches_are_longest_runs.ensures.elements m lanes 1 from (omega arith)) in
    let contents : List ℕ = (g.C.Cells.state c.args.cells.now).contents in
    let n : IsNext (machine_of c.args.engine.now) (shown_state (registers_of c.args.arch.now) c.args.memory.now (g.C.Cells.state c.args.cells.now) output) (transfer_with (direction_of c.args.direction) c.in-Some.pattern c.args.arch.now.v) c.args.known.now.instr =
    next-so one (machine_of c.args.engine.now) refl (direction_of c.args.direction) c.args.addressing c.args.encoded c.args.known.now.instr c.requires.class u c.args.word next
    (sym (c.in-Some.ensures.legal (shown c.args.memory.now contents) output)) t (c.in-Some.ensures.same (direction_of c.args.direction) (shown c.args.memory.now contents) output) in
    let v-at : t.movement.at.vstart ≡ c.in-Some.at.vstart = ap (λ (s : SettingView). s.vstart) c.in-Some.ensures.moves.setting in
    let count-is : c.count-count.result ≡ movement_count t.movement = c.count-count.ensures c.args.arch.now.v.words in
    let few : movement_count t.movement ≤ 8192 = few-so t.movement c.in-Some.ensures.moves.sound in
    let after : CellsState = g.C.Cells.state c.transfer-progress.new.physical in
    let place = c.walks_leave_pages.ensures.same c.args.memory.now c.transfer-progress.new.memory before after c.transfer-progress.ensures.rest in
    let same = rest-same c.walks_leave_pages.ensures.same c.args.memory.now c.transfer-progress.new.memory before after c.transfer-progress.ensures.rest in
    let v : Flat = shown_state (registers_of c.transfer-progress.new.arch) c.args.memory.now after output in
    let none : movement_count t.movement ≤ t.movement.at.vstart = omega (arith, v-at, count-is, c.if-count-at.true) in
    let r = none-fails t u none in
    let outcome : outcome_of c.transfer-progress.result c.transfer-progress.new.self v ≡ Some (transferred t u) = subst (λ (p : List FramedPage). outcome_of c.transfer-progress.result c.transfer-progress.new.self (shown_state (registers_of c.transfer-progress.new.arch) p after output) ≡ Some (transferred t u)) place (c.transfer-progress.ensures.done output) in
    let here : v ≡ r.0 = done-next c.transfer-progress.result c.transfer-progress.new.self v r.0 (outcome ∙ ap Some r.1) in
    subst (λ (p : List FramedPage). HasTurned c.retire.result c.retire.new.engine.fault start c.args.until from first (course_of c.retire.new.engine.course) (caches_of c.retire.new.engine) (g.C.Cells.state c.retire.new.cells) (shown_state (registers_of c.transfer-progress.new.arch) p (g.C.Cells.state c.retire.new.cells) output)) (sym place)
    (c.retire.ensures.retired c.args.memory.now start from first (registers_of c.transfer-progress.new.arch) output on c.requires.issued.kept
    (retiring paged laws machine c.args.root c.args.memory.now start c.args.until from first (course_of c.args.engine.now.course) c.args.fetched (caches_of c.args.engine.now) before after u v 1 c.issue-issued.result _ _ on c.requires.issued.kept i
    (without-elements t _ n.moves none) c.issue-issued.ensures (n.steps ∙ r.1 ∙ ap Next (sym here)) same) refl)

pub returns-in-Completes-clause-turned : goal.returns-in-Completes-clause-turned
returns-in-Completes-clause-turned g c start from first output on i =
    let paged : PagedLaws = record { words = c.tables_stay.ensures.words; held = c.tables_stay.ensures.held; is_placed = c.walks_leave_pages.ensures.placed; alone = c.walks_leave_pages.ensures.alone; elsewhere = c.walks_leave_pages.ensures.elsewhere } in
    let laws : StepLaws = record {
      next = c.steps_are_alike.ensures.next;
      exact = c.nothing_else_differs.ensures.exact;
      formed = c.runs_are_well_formed.ensures.step;
      footprints = c.footprints_are_the_same.ensures;
      issued = c.instructions_issue_behind_a_quiet_history.ensures.issued;
      completed = c.instructions_without_accesses_complete.ensures.completed;
      happens = c.instructions_without_accesses_complete.ensures.happens;
    } in
    let machine : Organisation = machine_of c.args.engine.now in
    let before : CellsState = g.C.Cells.state c.args.cells.now in
    let u : Flat = shown_state (registers_of c.args.arch.now) c.args.memory.now (g.C.Cells.state c.args.cells.now) output in
    let next = issued-next _ _ _ _ _ _ _ _ _ _ _ c.requires.issued output in
    let t : Transfer = transfer_with (direction_of c.args.direction) c.in-Some.pattern c.args.arch.now.v in
    let one : EndsBehindOne = λ m lanes from. (c.batches_are_longest_runs.ensures.some m lanes 1 from, c.batches_are_longest_runs.ensures.elements m lanes 1 from (omega arith)) in
    let contents : List ℕ = (g.C.Cells.state c.args.cells.now).contents in
    let n : IsNext (machine_of c.args.engine.now) (shown_state (registers_of c.args.arch.now) c.args.memory.now (g.C.Cells.state c.args.cells.now) output) (transfer_with (direction_of c.args.direction) c.in-Some.pattern c.args.arch.now.v) c.args.known.now.instr =
    next-so one (machine_of c.args.engine.now) refl (direction_of c.args.direction) c.args.addressing c.args.encoded c.args.known.now.instr c.requires.class u c.args.word next
    (sym (c.in-Some.ensures.legal (shown c.args.memory.now contents) output)) t (c.in-Some.ensures.same (direction_of c.args.direction) (shown c.args.memory.now contents) output) in
    let v-at : t.movement.at.vstart ≡ c.in-Some.at.vstart = ap (λ (s : SettingView). s.vstart) c.in-Some.ensures.moves.setting in
    let count-is : c.count-count.result ≡ movement_count t.movement = c.count-count.ensures c.args.arch.now.v.words in
    let few : movement_count t.movement ≤ 8192 = few-so t.movement c.in-Some.ensures.moves.sound in
    let begun = passing-at laws machine c.args.root c.args.memory.now start c.args.until from first (course_of c.args.engine.now.course) c.args.fetched c.args.engine.now.loads c.args.engine.now.fetches c.args.engine.now.banks before u c.issue-issued.result t on i
    c.batches_begin.ensures n.moves (omega (arith, c.issue-issued.ensures)) c.count-count.result c.in-Some.at.vstart v-at count-is in
    let set = set-at laws machine c.args.root c.args.memory.now start c.args.until from first (course_of c.args.engine.now.course) c.args.fetched c.args.engine.now.loads c.args.engine.now.fetches c.args.engine.now.banks before u c.issue-issued.result t on i
    contents c.from-bank_time.result c.want_of-want.result n.moves (sym c.from-bank_time.ensures) c.want_of-want.ensures in
    let gone = c.in-Completes.ensures.passed start i.history _ _ _ _ t before set begun in
    let ends : EndLaws = record {
      completed = c.instructions_complete_behind_their_batches.ensures.completed;
      happens = c.instructions_complete_behind_their_batches.ensures.happens;
      none_ends = c.batches_commit.ensures.none_before_ends;
      done = c.batches_are_in_flight.ensures.completed_done;
      walked = c.batches_are_in_flight.ensures.completed_walks;
      all_walks = c.batches_are_in_flight.ensures.completed_all_walks;
    } in
    let middle : CellsState = g.C.Cells.state c.pass_elements-way.new.cells in
    let after : CellsState = g.C.Cells.state c.transfer-progress-in-Completes.new.physical in
    let place = c.walks_leave_pages.ensures.same c.args.memory.now c.transfer-progress-in-Completes.new.memory middle after c.transfer-progress-in-Completes.ensures.rest in
    let same = rest-same c.walks_leave_pages.ensures.same c.args.memory.now c.transfer-progress-in-Completes.new.memory middle after c.transfer-progress-in-Completes.ensures.rest in
    let v : Flat = shown_state (registers_of c.transfer-progress-in-Completes.new.arch) c.args.memory.now after output in
    let seen : Flat = shown_state (registers_of c.args.arch.now) c.args.memory.now middle output in
    let still = c.walks_leave_pages.ensures.shown c.args.memory.now c.args.root start.residency (g.C.Cells.state c.args.cells.now).contents (g.C.Cells.state c.pass_elements-way.new.cells).contents c.requires.issued.kept on.placed on.alone gone.transferring.others in
    let outcome : outcome_of c.transfer-progress-in-Completes.result c.transfer-progress-in-Completes.new.self v ≡ Some (transferred t seen) = subst (λ (p : List FramedPage). outcome_of c.transfer-progress-in-Completes.result c.transfer-progress-in-Completes.new.self (shown_state (registers_of c.transfer-progress-in-Completes.new.arch) p after output) ≡ Some (transferred t seen)) place (c.transfer-progress-in-Completes.ensures.done output) in
    let moved = subst (λ (b : ℕ). IsEpisodeOn (record { lanes = c.args.engine.now.lanes; banks = b; bank_time = c.args.engine.now.bank_time; window = 1; batch_limit = 1 }) c.args.root c.args.memory.now start) (sym c.pass_elements-way.ensures.kept.0) on in
    subst (λ (p : List FramedPage). HasTurned c.retire-in-Completes.result c.retire-in-Completes.new.engine.fault start c.args.until from first (course_of c.retire-in-Completes.new.engine.course) (caches_of c.retire-in-Completes.new.engine) (g.C.Cells.state c.retire-in-Completes.new.cells) (shown_state (registers_of c.transfer-progress-in-Completes.new.arch) p (g.C.Cells.state c.retire-in-Completes.new.cells) output)) (sym place)
    (c.retire-in-Completes.ensures.retired c.args.memory.now start from first (registers_of c.transfer-progress-in-Completes.new.arch) output moved c.requires.issued.kept
    (arm-retiring paged laws ends machine c.args.root c.args.memory.now start c.args.until from first (course_of c.args.engine.now.course) c.args.fetched c.args.engine.now.loads c.pass_elements-way.new.loads c.args.engine.now.fetches c.args.engine.now.banks c.pass_elements-way.new.banks before middle after u seen v c.issue-issued.result t c.pass_elements-way.new.i c.pass_elements-way.new.numbers on c.requires.issued.kept i
    c.transfer-progress-in-Completes.result c.transfer-progress-in-Completes.new.self c.max-completed.result c.from-commits.result n.moves n.steps c.issue-issued.ensures (omega (arith, c.pass_elements-way.ensures.later)) gone (ap (λ (m : Memory). flat_of c.args.arch.now m output) still)
    (is-of machine c.args.root c.args.memory.now start c.args.until from first (course_of c.args.engine.now.course) c.args.fetched c.args.engine.now.loads c.args.engine.now.fetches c.args.engine.now.banks before u c.issue-issued.result t on i contents) outcome
    (omega (arith, few, count-is, c.pass_elements-way.ensures.among)) (λ some. c.in-Completes.ensures.early refl (omega (arith, some, v-at)))
    (λ bank. omega (arith, c.pass_elements-way.ensures.by bank, c.pass_elements-way.ensures.later, c.issue-issued.ensures)) same c.max-completed.ensures (omega (arith, c.from-commits.ensures, v-at))) refl)

pub returns-in-Stops-clause-turned : goal.returns-in-Stops-clause-turned
returns-in-Stops-clause-turned g c start from first output on i =
    let paged : PagedLaws = record { words = c.tables_stay.ensures.words; held = c.tables_stay.ensures.held; is_placed = c.walks_leave_pages.ensures.placed; alone = c.walks_leave_pages.ensures.alone; elsewhere = c.walks_leave_pages.ensures.elsewhere } in
    let laws : StepLaws = record {
      next = c.steps_are_alike.ensures.next;
      exact = c.nothing_else_differs.ensures.exact;
      formed = c.runs_are_well_formed.ensures.step;
      footprints = c.footprints_are_the_same.ensures;
      issued = c.instructions_issue_behind_a_quiet_history.ensures.issued;
      completed = c.instructions_without_accesses_complete.ensures.completed;
      happens = c.instructions_without_accesses_complete.ensures.happens;
    } in
    let machine : Organisation = machine_of c.args.engine.now in
    let before : CellsState = g.C.Cells.state c.args.cells.now in
    let u : Flat = shown_state (registers_of c.args.arch.now) c.args.memory.now (g.C.Cells.state c.args.cells.now) output in
    let next = issued-next _ _ _ _ _ _ _ _ _ _ _ c.requires.issued output in
    let t : Transfer = transfer_with (direction_of c.args.direction) c.in-Some.pattern c.args.arch.now.v in
    let one : EndsBehindOne = λ m lanes from. (c.batches_are_longest_runs.ensures.some m lanes 1 from, c.batches_are_longest_runs.ensures.elements m lanes 1 from (omega arith)) in
    let contents : List ℕ = (g.C.Cells.state c.args.cells.now).contents in
    let n : IsNext (machine_of c.args.engine.now) (shown_state (registers_of c.args.arch.now) c.args.memory.now (g.C.Cells.state c.args.cells.now) output) (transfer_with (direction_of c.args.direction) c.in-Some.pattern c.args.arch.now.v) c.args.known.now.instr =
    next-so one (machine_of c.args.engine.now) refl (direction_of c.args.direction) c.args.addressing c.args.encoded c.args.known.now.instr c.requires.class u c.args.word next
    (sym (c.in-Some.ensures.legal (shown c.args.memory.now contents) output)) t (c.in-Some.ensures.same (direction_of c.args.direction) (shown c.args.memory.now contents) output) in
    let v-at : t.movement.at.vstart ≡ c.in-Some.at.vstart = ap (λ (s : SettingView). s.vstart) c.in-Some.ensures.moves.setting in
    let count-is : c.count-count.result ≡ movement_count t.movement = c.count-count.ensures c.args.arch.now.v.words in
    let few : movement_count t.movement ≤ 8192 = few-so t.movement c.in-Some.ensures.moves.sound in
    let begun = passing-at laws machine c.args.root c.args.memory.now start c.args.until from first (course_of c.args.engine.now.course) c.args.fetched c.args.engine.now.loads c.args.engine.now.fetches c.args.engine.now.banks before u c.issue-issued.result t on i
    c.batches_begin.ensures n.moves (omega (arith, c.issue-issued.ensures)) c.count-count.result c.in-Some.at.vstart v-at count-is in
    let set = set-at laws machine c.args.root c.args.memory.now start c.args.until from first (course_of c.args.engine.now.course) c.args.fetched c.args.engine.now.loads c.args.engine.now.fetches c.args.engine.now.banks before u c.issue-issued.result t on i
    contents c.from-bank_time.result c.want_of-want.result n.moves (sym c.from-bank_time.ensures) c.want_of-want.ensures in
    let gone = c.in-Stops.ensures.passed start i.history _ _ _ _ t before set begun in
    let stop : StopLaws = record {
      happens = c.instructions_stop_in_a_batch.ensures.happens;
      of_one = c.instructions_stop_in_a_batch.ensures.of_one_element;
      none_ends = c.batches_commit.ensures.none_ends;
      done = c.batches_are_in_flight.ensures.stopped_done;
      walks = c.batches_are_in_flight.ensures.stopped_walks;
      stops = c.courses_end.ensures.stops;
      faulted = c.steps_are_alike.ensures.faulted;
    } in
    let middle : CellsState = g.C.Cells.state c.pass_elements-way.new.cells in
    let between : CellsState = g.C.Cells.state c.fetch_behind.new.cells in
    let after : CellsState = g.C.Cells.state c.transfer-progress-in-Stops.new.physical in
    let place = c.walks_leave_pages.ensures.same c.args.memory.now c.transfer-progress-in-Stops.new.memory between after c.transfer-progress-in-Stops.ensures.rest in
    let same = rest-same c.walks_leave_pages.ensures.same c.args.memory.now c.transfer-progress-in-Stops.new.memory between after c.transfer-progress-in-Stops.ensures.rest in
    let v : Flat = shown_state (registers_of c.transfer-progress-in-Stops.new.arch) c.args.memory.now after output in
    let seen : Flat = shown_state (registers_of c.args.arch.now) c.args.memory.now between output in
    let apart = others-at start c.args.root c.from-bank_time.result i.history (entry_of start i.history i.now.state) gone.own (next_times start i.history c.issue-issued.result (footprint start.machine start.has_vectors start.residency i.now.state) gone.own gone.b).walks c.args.engine.now.fetches middle between set.bank i.fetches gone.ready.held c.fetch_behind.ensures.others in
    let still = c.walks_leave_pages.ensures.shown c.args.memory.now c.args.root start.residency (g.C.Cells.state c.args.cells.now).contents (g.C.Cells.state c.fetch_behind.new.cells).contents c.requires.issued.kept on.placed on.alone (λ word out. apart word out ∙ gone.others word out) in
    let outcome : outcome_of c.transfer-progress-in-Stops.result c.transfer-progress-in-Stops.new.self v ≡ Some (transferred t seen) = subst (λ (p : List FramedPage). outcome_of c.transfer-progress-in-Stops.result c.transfer-progress-in-Stops.new.self (shown_state (registers_of c.transfer-progress-in-Stops.new.arch) p after output) ≡ Some (transferred t seen)) place (c.transfer-progress-in-Stops.ensures.done output) in
    let fails = gone.faults u (is-of machine c.args.root c.args.memory.now start c.args.until from first (course_of c.args.engine.now.course) c.args.fetched c.args.engine.now.loads c.args.engine.now.fetches c.args.engine.now.banks before u c.issue-issued.result t on i contents) in
    let told = done-faulted c.transfer-progress-in-Stops.result c.transfer-progress-in-Stops.new.self v fails.1 (transferred t seen) outcome fails.0 (ap (λ (m : Memory). transferred t (flat_of c.args.arch.now m output)) still ∙ fails.2) in
    let next-course : Course = record { retired = c.args.engine.now.course.retired; begun = c.args.engine.now.course.begun; commits = c.args.engine.now.course.completed + (c.args.engine.now.course.reached + c.from-commits.result); completed = c.args.engine.now.course.completed; changed = c.args.engine.now.course.changed || nat_lt c.in-Some.at.vstart c.pass_elements-way.new.i } in
    let behind : KeptBehind c.args.root c.from-bank_time.result (following u) (c.issue-issued.result + 1) (max c.pass_elements-way.new.numbers.looked c.pass_elements-way.new.numbers.committed) c.args.engine.now.fetches middle between =
    subst (λ (l : ℕ). KeptBehind c.args.root c.from-bank_time.result (following u) (c.issue-issued.result + 1) l c.args.engine.now.fetches middle between) c.max-last.ensures c.fetch_behind.ensures.kept in
    subst (λ (f : Fault). IsOver start c.args.until from first (ended.Faulted f) (c.max.result + 20) next-course after (shown_state (registers_of c.transfer-progress-in-Stops.new.arch) c.transfer-progress-in-Stops.new.memory after output)) (sym (c.fault-engine-in-Stops.ensures ∙ last-by c.transfer-progress-in-Stops.result c.transfer-progress-in-Stops.new.self v v fails.0 told.1))
    (subst (λ (p : List FramedPage). IsOver start c.args.until from first (ended.Faulted fails.0) (c.max.result + 20) next-course after (shown_state (registers_of c.transfer-progress-in-Stops.new.arch) p after output)) (sym place)
    (over-stopped paged laws stop machine c.args.root c.args.memory.now start c.args.until from first (course_of c.args.engine.now.course) c.args.fetched c.args.engine.now.loads c.pass_elements-way.new.loads c.args.engine.now.fetches c.args.engine.now.banks c.pass_elements-way.new.banks before middle between after u v c.issue-issued.result t c.pass_elements-way.new.i c.pass_elements-way.new.numbers on c.requires.issued.kept i
    (moving-f laws machine c.args.root c.args.memory.now start c.args.until from first (course_of c.args.engine.now.course) c.args.fetched c.args.engine.now.loads c.args.engine.now.fetches c.args.engine.now.banks before u c.issue-issued.result t on i n.moves) c.issue-issued.ensures gone
    c.from-bank_time.result (following u) (c.max.result + 20) fails.0 next-course set.bank
    (pc-behind laws machine c.args.root c.args.memory.now start c.args.until from first (course_of c.args.engine.now.course) c.args.fetched c.args.engine.now.loads c.args.engine.now.fetches c.args.engine.now.banks before u c.issue-issued.result t on i c.pending_bytes_are_not_read.ensures.next (direction_of c.args.direction) c.args.addressing c.args.encoded c.args.known.now.instr c.requires.class n.at)
    (λ some. c.in-Stops.ensures.early_stop refl (omega (arith, some, v-at)))
    (n.steps ∙ fails.2 ∙ ap (Faulted fails.0) (sym told.0)) behind same
    (omega (arith, c.max.ensures, c.max-last.ensures)) (omega (arith, c.from-commits.ensures, v-at)) refl
    (ap (λ (x : ℕ). c.args.engine.now.course.changed || nat_lt x c.pass_elements-way.new.i) (sym v-at))))

pub returns-in-Reaches-clause-turned : goal.returns-in-Reaches-clause-turned
returns-in-Reaches-clause-turned g c start from first output on i =
    let paged : PagedLaws = record { words = c.tables_stay.ensures.words; held = c.tables_stay.ensures.held; is_placed = c.walks_leave_pages.ensures.placed; alone = c.walks_leave_pages.ensures.alone; elsewhere = c.walks_leave_pages.ensures.elsewhere } in
    let laws : StepLaws = record {
      next = c.steps_are_alike.ensures.next;
      exact = c.nothing_else_differs.ensures.exact;
      formed = c.runs_are_well_formed.ensures.step;
      footprints = c.footprints_are_the_same.ensures;
      issued = c.instructions_issue_behind_a_quiet_history.ensures.issued;
      completed = c.instructions_without_accesses_complete.ensures.completed;
      happens = c.instructions_without_accesses_complete.ensures.happens;
    } in
    let machine : Organisation = machine_of c.args.engine.now in
    let before : CellsState = g.C.Cells.state c.args.cells.now in
    let u : Flat = shown_state (registers_of c.args.arch.now) c.args.memory.now (g.C.Cells.state c.args.cells.now) output in
    let next = issued-next _ _ _ _ _ _ _ _ _ _ _ c.requires.issued output in
    let t : Transfer = transfer_with (direction_of c.args.direction) c.in-Some.pattern c.args.arch.now.v in
    let one : EndsBehindOne = λ m lanes from. (c.batches_are_longest_runs.ensures.some m lanes 1 from, c.batches_are_longest_runs.ensures.elements m lanes 1 from (omega arith)) in
    let contents : List ℕ = (g.C.Cells.state c.args.cells.now).contents in
    let n : IsNext (machine_of c.args.engine.now) (shown_state (registers_of c.args.arch.now) c.args.memory.now (g.C.Cells.state c.args.cells.now) output) (transfer_with (direction_of c.args.direction) c.in-Some.pattern c.args.arch.now.v) c.args.known.now.instr =
    next-so one (machine_of c.args.engine.now) refl (direction_of c.args.direction) c.args.addressing c.args.encoded c.args.known.now.instr c.requires.class u c.args.word next
    (sym (c.in-Some.ensures.legal (shown c.args.memory.now contents) output)) t (c.in-Some.ensures.same (direction_of c.args.direction) (shown c.args.memory.now contents) output) in
    let v-at : t.movement.at.vstart ≡ c.in-Some.at.vstart = ap (λ (s : SettingView). s.vstart) c.in-Some.ensures.moves.setting in
    let count-is : c.count-count.result ≡ movement_count t.movement = c.count-count.ensures c.args.arch.now.v.words in
    let few : movement_count t.movement ≤ 8192 = few-so t.movement c.in-Some.ensures.moves.sound in
    let begun = passing-at laws machine c.args.root c.args.memory.now start c.args.until from first (course_of c.args.engine.now.course) c.args.fetched c.args.engine.now.loads c.args.engine.now.fetches c.args.engine.now.banks before u c.issue-issued.result t on i
    c.batches_begin.ensures n.moves (omega (arith, c.issue-issued.ensures)) c.count-count.result c.in-Some.at.vstart v-at count-is in
    let set = set-at laws machine c.args.root c.args.memory.now start c.args.until from first (course_of c.args.engine.now.course) c.args.fetched c.args.engine.now.loads c.args.engine.now.fetches c.args.engine.now.banks before u c.issue-issued.result t on i
    contents c.from-bank_time.result c.want_of-want.result n.moves (sym c.from-bank_time.ensures) c.want_of-want.ensures in
    let gone = c.in-Reaches.ensures.passed start i.history _ _ _ _ t before set begun in
    let reach : ReachLaws = record {
      starts = c.a_batch_starts.ensures.times;
      more = c.batches_commit.ensures.more;
      add = c.happenings_are_counted.ensures.commits;
      happens = c.batches_commit.ensures.reaches;
      none_ends = c.batches_commit.ensures.none_before_ends;
      done = c.batches_are_in_flight.ensures.reached_done;
      walks = c.batches_are_in_flight.ensures.reached_walks;
      reaches = c.courses_end.ensures.reaches;
      prefix = c.prefixes_are_alike.ensures.shown;
      formed = c.prefixes_join.ensures.formed;
    } in
    let middle : CellsState = g.C.Cells.state c.pass_elements-way.new.cells in
    let looking : CellsState = g.C.Cells.state c.look_ahead-done.new.cells in
    let between : CellsState = g.C.Cells.state c.fetch_behind-in-Reaches.new.cells in
    let after : CellsState = g.C.Cells.state c.reach.new.physical in
    let numbers : Passing = c.pass_elements-way.new.numbers in
    let f : Footprint = footprint start.machine start.has_vectors start.residency i.now.state in
    let ahead : IsAhead start i.history (entry_of start i.history i.now.state) (gone.own ++ batches_of i.history) (footprint start.machine start.has_vectors start.residency i.now.state) (max c.pass_elements-way.new.numbers.looked c.pass_elements-way.new.numbers.before + 1) (element_batch t c.pass_elements-way.new.i) c.pass_elements-way.new.numbers.committed c.args.root middle looking c.look_ahead-done.result =
    subst (λ (s : ℕ). IsAhead start i.history (entry_of start i.history i.now.state) (gone.own ++ batches_of i.history) (footprint start.machine start.has_vectors start.residency i.now.state) s (element_batch t c.pass_elements-way.new.i) c.pass_elements-way.new.numbers.committed c.args.root middle looking c.look_ahead-done.result) (ap (λ (x : ℕ). x + 1) c.max-started.ensures)
    (c.look_ahead-done.ensures.ahead start i.history (entry_of start i.history i.now.state) (gone.own ++ batches_of i.history) (footprint start.machine start.has_vectors start.residency i.now.state) t set.bank set.wants refl set.fetched gone.transferring.ready gone.transferring.stands) in
    let place = c.walks_leave_pages.ensures.same c.args.memory.now c.reach.new.memory between after c.reach.ensures.rest in
    let same = rest-same c.walks_leave_pages.ensures.same c.args.memory.now c.reach.new.memory between after c.reach.ensures.rest in
    let v : Flat = shown_state (registers_of c.reach.new.arch) c.args.memory.now after output in
    let seen : Flat = shown_state (registers_of c.args.arch.now) c.args.memory.now between output in
    let apart = others-at start c.args.root c.from-bank_time.result i.history (entry_of start i.history i.now.state) gone.own
    (ended_by c.pass_elements-way.new.numbers.committed (batch_started start i.history (gone.own ++ batches_of i.history) (footprint start.machine start.has_vectors start.residency i.now.state) (element_batch t c.pass_elements-way.new.i) (At (max c.pass_elements-way.new.numbers.looked c.pass_elements-way.new.numbers.before + 1))).walks)
    c.args.engine.now.fetches looking between set.bank i.fetches ahead.held c.fetch_behind-in-Reaches.ensures.others in
    let still = c.walks_leave_pages.ensures.shown c.args.memory.now c.args.root start.residency (g.C.Cells.state c.args.cells.now).contents (g.C.Cells.state c.fetch_behind-in-Reaches.new.cells).contents c.requires.issued.kept on.placed on.alone
    (λ word out. apart word out ∙ ahead.others word out ∙ gone.transferring.others word out) in
    let seen-is : seen ≡ u = ap (λ (m : Memory). flat_of c.args.arch.now m output) still in
    let first-prefix : prefix_at c.pass_elements-way.new.i seen ≡ Some (shown_state (registers_of c.reach.new.arch) c.reach.new.memory after output) =
    c.reach.ensures.prefix output (subst (λ (s : Flat). transfer_next s (upcoming s) ≡ Some t) (sym seen-is) n.next) in
    let prefix : prefix_at c.pass_elements-way.new.i u ≡ Some v =
    subst (λ (p : List FramedPage). prefix_at c.pass_elements-way.new.i u ≡ Some (shown_state (registers_of c.reach.new.arch) p after output)) place
    (subst (λ (s : Flat). prefix_at c.pass_elements-way.new.i s ≡ Some (shown_state (registers_of c.reach.new.arch) c.reach.new.memory after output)) seen-is first-prefix) in
    let low-shown : c.pass_elements-way.new.i < seen.v.vlen = low-so t c.pass_elements-way.new.i seen (shown_state (registers_of c.reach.new.arch) c.reach.new.memory after output) (c.reach.ensures.done output) c.vlen-vlen.ensures.in_range.vstart_in_range in
    let low : c.pass_elements-way.new.i < i.now.state.v.vlen = subst (λ (x : ℕ). c.pass_elements-way.new.i < x) (ap (λ (s : Flat). s.v.vlen) i.stands.is) low-shown in
    let next-course : Course = record { retired = c.args.engine.now.course.retired; begun = c.args.engine.now.course.begun; commits = c.args.engine.now.course.completed + (c.args.engine.now.course.reached + c.from-commits.result); completed = c.args.engine.now.course.completed; changed = true } in
    subst (λ (p : List FramedPage). IsOver start c.args.until from first ended.Slice (c.max-in-Reaches.result + 20) next-course after (shown_state (registers_of c.reach.new.arch) p after output)) (sym place)
    (over-reached paged laws reach machine c.args.root c.args.memory.now start c.args.until from first (course_of c.args.engine.now.course) c.args.fetched c.args.engine.now.loads c.pass_elements-way.new.loads c.look_ahead-done.new.loads c.args.engine.now.fetches c.args.engine.now.banks c.pass_elements-way.new.banks before middle looking between after u v c.issue-issued.result t c.pass_elements-way.new.i _ c.pass_elements-way.new.numbers on c.requires.issued.kept i
    (moving-f laws machine c.args.root c.args.memory.now start c.args.until from first (course_of c.args.engine.now.course) c.args.fetched c.args.engine.now.loads c.args.engine.now.fetches c.args.engine.now.banks before u c.issue-issued.result t on i n.moves) c.issue-issued.ensures
    (c.in-Reaches.ensures.late refl) (omega (arith, c.in-Reaches.ensures.reached refl, v-at)) (λ some. c.in-Reaches.ensures.early_before refl (omega (arith, some, v-at))) c.look_ahead-done.result gone ahead
    c.from-bank_time.result (following u) (c.max-in-Reaches.result + 20) next-course set.bank
    (pc-behind laws machine c.args.root c.args.memory.now start c.args.until from first (course_of c.args.engine.now.course) c.args.fetched c.args.engine.now.loads c.args.engine.now.fetches c.args.engine.now.banks before u c.issue-issued.result t on i c.pending_bytes_are_not_read.ensures.next (direction_of c.args.direction) c.args.addressing c.args.encoded c.args.known.now.instr c.requires.class n.at)
    prefix low c.fetch_behind-in-Reaches.ensures.kept same
    (omega (arith, c.max-in-Reaches.ensures)) (omega (arith, c.from-commits.ensures, v-at)) refl refl)

pub returns-in_default-clause-timely : goal.returns-in_default-clause-timely
returns-in_default-clause-timely g c =
    let b = issued-bounds _ _ _ _ _ _ _ _ _ _ _ c.requires.issued c.requires.until in
    let near = issued-fetched _ _ _ _ _ _ _ _ _ _ _ c.requires.issued in
    let early : c.issue-issued.result ≤ c.args.engine.now.course.retired + 66 = omega (arith, c.issue-issued.ensures, near, b.begun, b.retired, c.args.engine.now.bank_time_in_range) in
    record { one = omega arith; later = omega (arith, c.issue-issued.ensures); soon = omega (arith, early) }

pub returns-then-count-at-clause-timely : goal.returns-then-count-at-clause-timely
returns-then-count-at-clause-timely g c =
    let b = issued-bounds _ _ _ _ _ _ _ _ _ _ _ c.requires.issued c.requires.until in
    let near = issued-fetched _ _ _ _ _ _ _ _ _ _ _ c.requires.issued in
    let early : c.issue-issued.result ≤ c.args.engine.now.course.retired + 66 = omega (arith, c.issue-issued.ensures, near, b.begun, b.retired, c.args.engine.now.bank_time_in_range) in
    c.retire.ensures.timely (omega (arith, c.issue-issued.ensures)) (omega (arith, early))

pub returns-in-Completes-clause-timely : goal.returns-in-Completes-clause-timely
returns-in-Completes-clause-timely g c =
    let b = issued-bounds _ _ _ _ _ _ _ _ _ _ _ c.requires.issued c.requires.until in
    let near = issued-fetched _ _ _ _ _ _ _ _ _ _ _ c.requires.issued in
    let early : c.issue-issued.result ≤ c.args.engine.now.course.retired + 66 = omega (arith, c.issue-issued.ensures, near, b.begun, b.retired, c.args.engine.now.bank_time_in_range) in
    let few = few-so _ c.in-Some.ensures.moves.sound in
    let small : c.pass_elements-way.new.i - c.in-Some.at.vstart + 1 ≤ 8193 = omega (arith, few, c.count-count.ensures c.args.arch.now.v.words, c.pass_elements-way.ensures.among) in
    let looked : c.pass_elements-way.new.numbers.looked ≤ c.args.engine.now.course.retired + 5736000 = omega (arith, early, small, c.pass_elements-way.ensures.soon.looked) in
    let committed : c.pass_elements-way.new.numbers.committed ≤ c.args.engine.now.course.retired + 5736000 = omega (arith, early, small, c.pass_elements-way.ensures.soon.committed) in
    let done : c.pass_elements-way.new.numbers.done ≤ c.args.engine.now.course.retired + 5736000 = omega (arith, early, small, c.pass_elements-way.ensures.soon.done) in
    c.retire-in-Completes.ensures.timely (omega (arith, c.issue-issued.ensures)) (omega (arith, looked, done, c.max-completed.ensures))

pub returns-in-Stops-clause-timely : goal.returns-in-Stops-clause-timely
returns-in-Stops-clause-timely g c =
    let b = issued-bounds _ _ _ _ _ _ _ _ _ _ _ c.requires.issued c.requires.until in
    let near = issued-fetched _ _ _ _ _ _ _ _ _ _ _ c.requires.issued in
    let early : c.issue-issued.result ≤ c.args.engine.now.course.retired + 66 = omega (arith, c.issue-issued.ensures, near, b.begun, b.retired, c.args.engine.now.bank_time_in_range) in
    let few = few-so _ c.in-Some.ensures.moves.sound in
    let small : c.pass_elements-way.new.i - c.in-Some.at.vstart + 1 ≤ 8193 = omega (arith, few, c.count-count.ensures c.args.arch.now.v.words, c.pass_elements-way.ensures.among) in
    let looked : c.pass_elements-way.new.numbers.looked ≤ c.args.engine.now.course.retired + 5736000 = omega (arith, early, small, c.pass_elements-way.ensures.soon.looked) in
    let committed : c.pass_elements-way.new.numbers.committed ≤ c.args.engine.now.course.retired + 5736000 = omega (arith, early, small, c.pass_elements-way.ensures.soon.committed) in
    let done : c.pass_elements-way.new.numbers.done ≤ c.args.engine.now.course.retired + 5736000 = omega (arith, early, small, c.pass_elements-way.ensures.soon.done) in
    record { one = omega arith; later = omega (arith, c.issue-issued.ensures, c.pass_elements-way.ensures.later, c.max.ensures, c.max-last.ensures); soon = omega (arith, looked, committed, done, c.max.ensures, c.max-last.ensures) }

pub returns-in-Reaches-clause-timely : goal.returns-in-Reaches-clause-timely
returns-in-Reaches-clause-timely g c =
    let b = issued-bounds _ _ _ _ _ _ _ _ _ _ _ c.requires.issued c.requires.until in
    let near = issued-fetched _ _ _ _ _ _ _ _ _ _ _ c.requires.issued in
    let early : c.issue-issued.result ≤ c.args.engine.now.course.retired + 66 = omega (arith, c.issue-issued.ensures, near, b.begun, b.retired, c.args.engine.now.bank_time_in_range) in
    let few = few-so _ c.in-Some.ensures.moves.sound in
    let small : c.pass_elements-way.new.i - c.in-Some.at.vstart + 1 ≤ 8193 = omega (arith, few, c.count-count.ensures c.args.arch.now.v.words, c.pass_elements-way.ensures.among) in
    let looked : c.pass_elements-way.new.numbers.looked ≤ c.args.engine.now.course.retired + 5736000 = omega (arith, early, small, c.pass_elements-way.ensures.soon.looked) in
    let committed : c.pass_elements-way.new.numbers.committed ≤ c.args.engine.now.course.retired + 5736000 = omega (arith, early, small, c.pass_elements-way.ensures.soon.committed) in
    let done : c.pass_elements-way.new.numbers.done ≤ c.args.engine.now.course.retired + 5736000 = omega (arith, early, small, c.pass_elements-way.ensures.soon.done) in
    let paged : PagedLaws = record { words = c.tables_stay.ensures.words; held = c.tables_stay.ensures.held; is_placed = c.walks_leave_pages.ensures.placed; alone = c.walks_leave_pages.ensures.alone; elsewhere = c.walks_leave_pages.ensures.elsewhere } in
    let laws : StepLaws = record {
      next = c.steps_are_alike.ensures.next;
      exact = c.nothing_else_differs.ensures.exact;
      formed = c.runs_are_well_formed.ensures.step;
      footprints = c.footprints_are_the_same.ensures;
      issued = c.instructions_issue_behind_a_quiet_history.ensures.issued;
      completed = c.instructions_without_accesses_complete.ensures.completed;
      happens = c.instructions_without_accesses_complete.ensures.happens;
    } in
    let machine : Organisation = machine_of c.args.engine.now in
    let before : CellsState = g.C.Cells.state c.args.cells.now in
    let u : Flat = shown_state (registers_of c.args.arch.now) c.args.memory.now (g.C.Cells.state c.args.cells.now) c.requires.issued.output in
    let next = issued-next _ _ _ _ _ _ _ _ _ _ _ c.requires.issued c.requires.issued.output in
    let t : Transfer = transfer_with (direction_of c.args.direction) c.in-Some.pattern c.args.arch.now.v in
    let one : EndsBehindOne = λ m lanes from. (c.batches_are_longest_runs.ensures.some m lanes 1 from, c.batches_are_longest_runs.ensures.elements m lanes 1 from (omega arith)) in
    let contents : List ℕ = (g.C.Cells.state c.args.cells.now).contents in
    let n : IsNext (machine_of c.args.engine.now) (shown_state (registers_of c.args.arch.now) c.args.memory.now (g.C.Cells.state c.args.cells.now) c.requires.issued.output) (transfer_with (direction_of c.args.direction) c.in-Some.pattern c.args.arch.now.v) c.args.known.now.instr =
    next-so one (machine_of c.args.engine.now) refl (direction_of c.args.direction) c.args.addressing c.args.encoded c.args.known.now.instr c.requires.class u c.args.word next
    (sym (c.in-Some.ensures.legal (shown c.args.memory.now contents) c.requires.issued.output)) t (c.in-Some.ensures.same (direction_of c.args.direction) (shown c.args.memory.now contents) c.requires.issued.output) in
    let v-at : t.movement.at.vstart ≡ c.in-Some.at.vstart = ap (λ (s : SettingView). s.vstart) c.in-Some.ensures.moves.setting in
    let count-is : c.count-count.result ≡ movement_count t.movement = c.count-count.ensures c.args.arch.now.v.words in
    let few : movement_count t.movement ≤ 8192 = few-so t.movement c.in-Some.ensures.moves.sound in
    let begun = passing-at laws machine c.args.root c.args.memory.now c.requires.issued.start c.args.until c.requires.issued.from c.requires.issued.first (course_of c.args.engine.now.course) c.args.fetched c.args.engine.now.loads c.args.engine.now.fetches c.args.engine.now.banks before u c.issue-issued.result t c.requires.issued.on c.requires.issued.issuing
    c.batches_begin.ensures n.moves (omega (arith, c.issue-issued.ensures)) c.count-count.result c.in-Some.at.vstart v-at count-is in
    let set = set-at laws machine c.args.root c.args.memory.now c.requires.issued.start c.args.until c.requires.issued.from c.requires.issued.first (course_of c.args.engine.now.course) c.args.fetched c.args.engine.now.loads c.args.engine.now.fetches c.args.engine.now.banks before u c.issue-issued.result t c.requires.issued.on c.requires.issued.issuing
    contents c.from-bank_time.result c.want_of-want.result n.moves (sym c.from-bank_time.ensures) c.want_of-want.ensures in
    let gone = c.in-Reaches.ensures.passed c.requires.issued.start c.requires.issued.issuing.history _ _ _ _ t before set begun in
    let by = c.look_ahead-done.ensures.soon (c.args.engine.now.course.retired + 5737000) (λ bank. omega (arith, c.pass_elements-way.ensures.by bank, done)) (omega (arith, looked, committed, c.max-started.ensures, c.pass_elements-way.ensures.before)) in
    record { one = omega arith; later = omega (arith, gone.transferring.reached.committed_from, c.max-in-Reaches.ensures); soon = omega (arith, committed, by, c.max-in-Reaches.ensures) }
