use Rattle.std.proofs.Common.{◌≡◌, ℕ, ◌+◌, ◌<◌, ◌^◌, max, true, false, List, ◌∷◌, Some, None, refl, sym, ap, subst, ◌∙◌, arith}
use Rattle.vx_flat.specs.Scalar.{next_pc}
use Rattle.vx_flat.specs.State.{Flat}
use Rattle.vx_flat.specs.Step.{meaning}
use Rattle.vx_hart.specs.Outcomes.{outcome_next, outcome_of}
use Rattle.vx_tables.specs.Tables.{AreHeld}
use Rattle.vx_episode.specs.Commits.{entry_of}
use Rattle.vx_episode.specs.Footprint.{Access}
use Rattle.vx_episode.specs.Instructions.{residency_now}
use Rattle.vx_episode.specs.Organisation.{Organisation}
use Rattle.vx_episode.specs.declared.ended.Ended.TheVariants as ended
use Rattle.vx_paged.specs.Framed.{shown}
use Rattle.vx_paged.specs.Left.{rest_of}
use Rattle.vx_paged.specs.declared.placement.FramedPage.{FramedPage}
use Rattle.vx_serve.specs.Fates.{told}
use Rattle.vx_serve.specs.InTurn.{is_good}
use Rattle.vx_pipe.specs.Going.{Caches, IsEpisodeOn, IsOver}
use Rattle.vx_pipe.specs.Left.{registers_of}
use Rattle.vx_pipe.specs.Playing.{shown_state}
use Rattle.vx_pipe.specs.Retiring.{IsRetiring}
use Rattle.vx_pipe.specs.Turning.{HasTurned, caches_of, course_of, machine_of}
use Rattle.vx_pipe.specs.declared.course.Course as code
use Rattle.vx_pipe.proofs.AccessArm.{ArmLaws, is-over, kept-then, retires}
use Rattle.vx_pipe.proofs.AccessBatch.{BatchLaws}
use Rattle.vx_pipe.proofs.AccessBounds.{fits-looked, issued-small, issued-soon, later-known, tables-done}
use Rattle.vx_pipe.proofs.Outputs.{next-any}
use Rattle.vx_pipe.proofs.Retires.{over-same}
use Rattle.vx_pipe.proofs.Bounds.{issued-bounds, issued-tables}
use Rattle.vx_pipe.proofs.Completing.{StepLaws}
use Rattle.vx_pipe.proofs.Kept.{PagedLaws}
use Rattle.vx_pipe.proofs.accesses.access.Goals as goal

pub issue-issued-requires : goal.issue-issued-requires
issue-issued-requires g c =
    let bounds = issued-bounds _ _ _ _ _ _ _ _ _ _ _ c.requires.issued c.requires.until in
    omega (arith, bounds.retired)

pub overflow_add-issued : goal.overflow_add-issued
overflow_add-issued g c =
    let small = issued-small _ _ _ _ _ _ _ _ _ _ _ c.requires.issued c.args.engine.now.bank_time_in_range c.requires.until c.issue-issued.result (omega (arith, c.issue-issued.ensures)) in
    omega (arith, small)

pub look_one-looked-requires-clause-tables : goal.look_one-looked-requires-clause-tables
look_one-looked-requires-clause-tables g c = issued-tables _ _ _ _ _ _ _ _ _ _ _ c.requires.issued

pub look_one-looked-requires-clause-cycles : goal.look_one-looked-requires-clause-cycles
look_one-looked-requires-clause-cycles g c =
    let small = issued-small _ _ _ _ _ _ _ _ _ _ _ c.requires.issued c.args.engine.now.bank_time_in_range c.requires.until c.issue-issued.result (omega (arith, c.issue-issued.ensures)) in
    omega (arith, small, c.from-bank_time.ensures, c.args.engine.now.bank_time_in_range)

pub perform-requires-clause-fits : goal.perform-requires-clause-fits
perform-requires-clause-fits g c = fits-looked _ _ _ _ _ _ _ _ _ _ _ c.requires.issued (g.C.Cells.state c.look_one-looked.new.cells) c.look_one-looked.ensures.tables c.look_one-looked.ensures.frames

pub serve_one-served-requires-clause-known : goal.serve_one-served-requires-clause-known
serve_one-served-requires-clause-known g c =
    let small = issued-small _ _ _ _ _ _ _ _ _ _ _ c.requires.issued c.args.engine.now.bank_time_in_range c.requires.until c.issue-issued.result (omega (arith, c.issue-issued.ensures)) in
    later-known c.look_one-looked.result.ended (2 ^ 62) c.look_one-looked.result.fate (omega (arith, small, c.look_one-looked.ensures.ended, c.from-bank_time.ensures, c.args.engine.now.bank_time_in_range)) c.look_one-looked.ensures.known

pub serve_one-served-requires-clause-stamps : goal.serve_one-served-requires-clause-stamps
serve_one-served-requires-clause-stamps g c =
    let bounds = issued-bounds _ _ _ _ _ _ _ _ _ _ _ c.requires.issued c.requires.until in
    bounds.stamps

pub retire-requires-clause-tables : goal.retire-requires-clause-tables
retire-requires-clause-tables g c =
    let paged : PagedLaws = record {
      words = c.tables_stay.ensures.words;
      held = c.tables_stay.ensures.held;
      is_placed = c.walks_leave_pages.ensures.placed;
      alone = c.walks_leave_pages.ensures.alone;
      elsewhere = c.walks_leave_pages.ensures.elsewhere;
    } in
    let a : Access = record { element = 0; address = c.scalar_address-address.result; width = c.access_width-width.result; stored = None; loaded = None } in
    let middle = g.C.Cells.state c.look_one-looked.new.cells in
    let after = g.C.Cells.state c.perform.new.physical in
    let time : c.requires.issued.start.machine.bank_time ≡ c.from-bank_time.result = ap (λ (m : Organisation). m.bank_time) c.requires.issued.on.machine_is ∙ sym c.from-bank_time.ensures in
    tables-done _ _ _ _ _ _ _ _ _ _ _ c.requires.issued paged c.look_one-looked.new.self c.want-want.result (c.issue-issued.result + 1) a middle after c.perform.new.memory c.look_one-looked.result.fate c.look_one-looked.result.ended
    (c.look_one-looked.ensures.looked c.requires.issued.start _ _ a time refl refl) c.perform.ensures.rest
    (c.walks_leave_pages.ensures.same c.args.memory.now c.perform.new.memory middle after c.perform.ensures.rest)

pub retire-requires-clause-completed : goal.retire-requires-clause-completed
retire-requires-clause-completed g c =
    let small = issued-small _ _ _ _ _ _ _ _ _ _ _ c.requires.issued c.args.engine.now.bank_time_in_range c.requires.until c.issue-issued.result (omega (arith, c.issue-issued.ensures)) in
    let soon = c.serve_one-served.ensures.soon c.look_one-looked.result.ended (λ bank. (let it = c.requires.issued.issuing.stamps bank in omega (arith, it, c.issue-issued.ensures, c.look_one-looked.ensures.started))) c.look_one-looked.ensures.known in
    omega (arith, small, soon, c.look_one-looked.ensures.ended, c.from-bank_time.ensures, c.max-completed.ensures, c.args.engine.now.bank_time_in_range, c.args.engine.now.same_time)

pub returns-then-is_good-clause-turned : goal.returns-then-is_good-clause-turned
returns-then-is_good-clause-turned g c start from first output on issuing =
    let paged : PagedLaws = record {
      words = c.tables_stay.ensures.words;
      held = c.tables_stay.ensures.held;
      is_placed = c.walks_leave_pages.ensures.placed;
      alone = c.walks_leave_pages.ensures.alone;
      elsewhere = c.walks_leave_pages.ensures.elsewhere;
    } in
    let steps : StepLaws = record {
      next = c.steps_are_alike.ensures.next;
      exact = c.nothing_else_differs.ensures.exact;
      formed = c.runs_are_well_formed.ensures.step;
      footprints = c.footprints_are_the_same.ensures;
      issued = c.instructions_issue_behind_a_quiet_history.ensures.issued;
      completed = c.instructions_without_accesses_complete.ensures.completed;
      happens = c.instructions_without_accesses_complete.ensures.happens;
    } in
    let batching : BatchLaws = record {
      begins = c.batches_begin.ensures;
      times = c.a_batch_starts.ensures.times;
      passes = c.a_batch_passes.ensures.passes;
      completed = c.instructions_complete_behind_their_batches.ensures.completed;
      happens = c.instructions_complete_behind_their_batches.ensures.happens;
      completed_done = c.batches_are_in_flight.ensures.completed_done;
      completed_walks = c.batches_are_in_flight.ensures.completed_walks;
      completed_all_walks = c.batches_are_in_flight.ensures.completed_all_walks;
      stops = c.instructions_stop_in_a_batch.ensures.happens;
      stopped_done = c.batches_are_in_flight.ensures.stopped_done;
      stopped_walks = c.batches_are_in_flight.ensures.stopped_walks;
      stopped_all_walks = c.batches_are_in_flight.ensures.stopped_all_walks;
    } in
    let laws : ArmLaws = record {
      paged = paged;
      steps = steps;
      batching = batching;
      comes = c.walks_commute.ensures.front;
      nothing = c.walks_commute.ensures.accessed;
      pages = c.walks_commute.ensures.pages;
      stay = c.walks_commute.ensures.away;
      shows = c.walks_leave_pages.ensures.shown;
      stops = c.courses_end.ensures.stops;
      next = c.pending_bytes_are_not_read.ensures.next;
      faulted = c.steps_are_alike.ensures.faulted;
    } in
    let before = g.C.Cells.state c.args.cells.now in
    let middle = g.C.Cells.state c.look_one-looked.new.cells in
    let after = g.C.Cells.state c.perform.new.physical in
    let placed : c.perform.new.memory ≡ c.args.memory.now = c.walks_leave_pages.ensures.same c.args.memory.now c.perform.new.memory middle after c.perform.ensures.rest in
    let same : rest_of c.args.memory.now after ≡ rest_of c.args.memory.now middle = ap (λ (p : List FramedPage). rest_of p after) (sym placed) ∙ c.perform.ensures.rest in
    let shown-before : Flat = shown_state (registers_of c.args.arch.now) c.args.memory.now before c.requires.issued.output in
    let outcome : outcome_of c.perform.result c.perform.new.executor (shown_state (registers_of c.perform.new.arch) c.args.memory.now after output)
    ≡ outcome_next (shown_state (registers_of c.args.arch.now) c.args.memory.now middle output) (meaning (shown_state (registers_of c.args.arch.now) c.args.memory.now middle output) c.args.word (Some c.args.i.now)) =
    subst (λ (p : List FramedPage). outcome_of c.perform.result c.perform.new.executor (shown_state (registers_of c.perform.new.arch) p after output)
    ≡ outcome_next (shown_state (registers_of c.args.arch.now) c.args.memory.now middle output) (meaning (shown_state (registers_of c.args.arch.now) c.args.memory.now middle output) c.args.word (Some c.args.i.now))) placed (c.perform.ensures.performed c.args.word output) in
    let free = c.serve_one-served.new.self in
    let good : is_good (told c.look_one-looked.result.fate) ≡ true = sym c.is_good.ensures ∙ c.if-is_good.true in
    let completed : c.max-completed.result ≡ max c.look_one-looked.result.ended c.serve_one-served.result.done = omega (arith, c.max-completed.ensures) in
    let retiring = retires laws (machine_of c.args.engine.now) c.args.root c.args.memory.now start c.args.until from first (course_of c.args.engine.now.course) c.args.fetched c.args.engine.now.loads c.look_one-looked.new.self c.args.engine.now.fetches c.args.engine.now.banks free before middle after
    (registers_of c.args.arch.now) (registers_of c.perform.new.arch) output c.args.word c.args.i.now g.K.AccessKind.kind c.look_one-looked.result.fate c.look_one-looked.result.ended c.perform.result c.perform.new.executor c.want-want.result c.scalar_address-address.result c.access_width-width.result c.issue-issued.result c.from-bank_time.result
    on c.requires.issued.kept issuing c.requires.access (sym c.requires.class) (next-any shown-before output c.args.word c.args.i.now c.requires.issued.next) (omega (arith, c.issue-issued.ensures))
    c.want-want.ensures c.scalar_address-address.ensures c.access_width-width.ensures.value (sym c.from-bank_time.ensures) c.look_one-looked.ensures.looked c.look_one-looked.ensures.started same outcome
    good c.serve_one-served.result c.serve_one-served.ensures.serves c.serve_one-served.ensures.by in
    let machine_with : ℕ → Organisation = λ n. record { lanes = c.args.engine.now.lanes; banks = n; bank_time = c.args.engine.now.bank_time; window = 1; batch_limit = 1 } in
    let on-then : IsEpisodeOn (machine_with free.banks) c.args.root c.args.memory.now start =
    subst (λ (n : ℕ). IsEpisodeOn (machine_with n) c.args.root c.args.memory.now start) (sym c.serve_one-served.ensures.kept.0) on in
    let caches : Caches = record { loads = c.look_one-looked.new.self; fetches = c.args.engine.now.fetches; stamps = free } in
    let retiring-then : IsRetiring start c.args.until from first (course_of c.args.engine.now.course) c.issue-issued.result c.max-completed.result 0 false false caches after (shown_state (registers_of c.perform.new.arch) c.args.memory.now after output) =
    subst (λ (n : ℕ). IsRetiring start c.args.until from first (course_of c.args.engine.now.course) c.issue-issued.result n 0 false false caches after (shown_state (registers_of c.perform.new.arch) c.args.memory.now after output))
    (sym completed) retiring in
    let last = g.C.Cells.state c.retire.new.cells in
    subst (λ (p : List FramedPage). HasTurned c.retire.result c.retire.new.engine.fault start c.args.until from first (course_of c.retire.new.engine.course) (caches_of c.retire.new.engine) last (shown_state (registers_of c.perform.new.arch) p last output))
    (sym placed) (c.retire.ensures.retired c.args.memory.now start from first (registers_of c.perform.new.arch) output on-then c.requires.issued.kept retiring-then refl)

pub returns-then-is_good-clause-timely : goal.returns-then-is_good-clause-timely
returns-then-is_good-clause-timely g c =
    let small = issued-soon _ _ _ _ _ _ _ _ _ _ _ c.requires.issued c.args.engine.now.bank_time_in_range c.issue-issued.result (omega (arith, c.issue-issued.ensures)) in
    let behind : c.args.engine.now.course.retired < c.issue-issued.result = omega (arith, c.issue-issued.ensures) in
    let soon = c.serve_one-served.ensures.soon c.look_one-looked.result.ended (λ bank. (let it = c.requires.issued.issuing.stamps bank in omega (arith, it, behind, c.look_one-looked.ensures.started))) c.look_one-looked.ensures.known in
    c.retire.ensures.timely behind
    (omega (arith, small, soon, c.max-completed.ensures, c.look_one-looked.ensures.ended, c.from-bank_time.ensures, c.args.engine.now.bank_time_in_range, c.args.engine.now.same_time))

pub end_behind-requires-clause-tables : goal.end_behind-requires-clause-tables
end_behind-requires-clause-tables g c =
    let paged : PagedLaws = record {
      words = c.tables_stay.ensures.words;
      held = c.tables_stay.ensures.held;
      is_placed = c.walks_leave_pages.ensures.placed;
      alone = c.walks_leave_pages.ensures.alone;
      elsewhere = c.walks_leave_pages.ensures.elsewhere;
    } in
    let a : Access = record { element = 0; address = c.scalar_address-address.result; width = c.access_width-width.result; stored = None; loaded = None } in
    let middle = g.C.Cells.state c.look_one-looked.new.cells in
    let after = g.C.Cells.state c.perform.new.physical in
    let time : c.requires.issued.start.machine.bank_time ≡ c.from-bank_time.result = ap (λ (m : Organisation). m.bank_time) c.requires.issued.on.machine_is ∙ sym c.from-bank_time.ensures in
    tables-done _ _ _ _ _ _ _ _ _ _ _ c.requires.issued paged c.look_one-looked.new.self c.want-want.result (c.issue-issued.result + 1) a middle after c.perform.new.memory c.look_one-looked.result.fate c.look_one-looked.result.ended
    (c.look_one-looked.ensures.looked c.requires.issued.start _ _ a time refl refl) c.perform.ensures.rest
    (c.walks_leave_pages.ensures.same c.args.memory.now c.perform.new.memory middle after c.perform.ensures.rest)

pub end_behind-requires-clause-begun : goal.end_behind-requires-clause-begun
end_behind-requires-clause-begun g c =
    let small = issued-small _ _ _ _ _ _ _ _ _ _ _ c.requires.issued c.args.engine.now.bank_time_in_range c.requires.until c.issue-issued.result (omega (arith, c.issue-issued.ensures)) in
    omega (arith, small)

pub end_behind-requires-clause-last : goal.end_behind-requires-clause-last
end_behind-requires-clause-last g c =
    let small = issued-small _ _ _ _ _ _ _ _ _ _ _ c.requires.issued c.args.engine.now.bank_time_in_range c.requires.until c.issue-issued.result (omega (arith, c.issue-issued.ensures)) in
    omega (arith, small, c.look_one-looked.ensures.ended, c.from-bank_time.ensures, c.args.engine.now.bank_time_in_range)

pub returns-clause-turned : goal.returns-clause-turned
returns-clause-turned g c start from first output on issuing =
    let paged : PagedLaws = record {
      words = c.tables_stay.ensures.words;
      held = c.tables_stay.ensures.held;
      is_placed = c.walks_leave_pages.ensures.placed;
      alone = c.walks_leave_pages.ensures.alone;
      elsewhere = c.walks_leave_pages.ensures.elsewhere;
    } in
    let steps : StepLaws = record {
      next = c.steps_are_alike.ensures.next;
      exact = c.nothing_else_differs.ensures.exact;
      formed = c.runs_are_well_formed.ensures.step;
      footprints = c.footprints_are_the_same.ensures;
      issued = c.instructions_issue_behind_a_quiet_history.ensures.issued;
      completed = c.instructions_without_accesses_complete.ensures.completed;
      happens = c.instructions_without_accesses_complete.ensures.happens;
    } in
    let batching : BatchLaws = record {
      begins = c.batches_begin.ensures;
      times = c.a_batch_starts.ensures.times;
      passes = c.a_batch_passes.ensures.passes;
      completed = c.instructions_complete_behind_their_batches.ensures.completed;
      happens = c.instructions_complete_behind_their_batches.ensures.happens;
      completed_done = c.batches_are_in_flight.ensures.completed_done;
      completed_walks = c.batches_are_in_flight.ensures.completed_walks;
      completed_all_walks = c.batches_are_in_flight.ensures.completed_all_walks;
      stops = c.instructions_stop_in_a_batch.ensures.happens;
      stopped_done = c.batches_are_in_flight.ensures.stopped_done;
      stopped_walks = c.batches_are_in_flight.ensures.stopped_walks;
      stopped_all_walks = c.batches_are_in_flight.ensures.stopped_all_walks;
    } in
    let laws : ArmLaws = record {
      paged = paged;
      steps = steps;
      batching = batching;
      comes = c.walks_commute.ensures.front;
      nothing = c.walks_commute.ensures.accessed;
      pages = c.walks_commute.ensures.pages;
      stay = c.walks_commute.ensures.away;
      shows = c.walks_leave_pages.ensures.shown;
      stops = c.courses_end.ensures.stops;
      next = c.pending_bytes_are_not_read.ensures.next;
      faulted = c.steps_are_alike.ensures.faulted;
    } in
    let before = g.C.Cells.state c.args.cells.now in
    let middle = g.C.Cells.state c.look_one-looked.new.cells in
    let after = g.C.Cells.state c.perform.new.physical in
    let placed : c.perform.new.memory ≡ c.args.memory.now = c.walks_leave_pages.ensures.same c.args.memory.now c.perform.new.memory middle after c.perform.ensures.rest in
    let same : rest_of c.args.memory.now after ≡ rest_of c.args.memory.now middle = ap (λ (p : List FramedPage). rest_of p after) (sym placed) ∙ c.perform.ensures.rest in
    let shown-before : Flat = shown_state (registers_of c.args.arch.now) c.args.memory.now before c.requires.issued.output in
    let outcome : outcome_of c.perform.result c.perform.new.executor (shown_state (registers_of c.perform.new.arch) c.args.memory.now after output)
    ≡ outcome_next (shown_state (registers_of c.args.arch.now) c.args.memory.now middle output) (meaning (shown_state (registers_of c.args.arch.now) c.args.memory.now middle output) c.args.word (Some c.args.i.now)) =
    subst (λ (p : List FramedPage). outcome_of c.perform.result c.perform.new.executor (shown_state (registers_of c.perform.new.arch) p after output)
    ≡ outcome_next (shown_state (registers_of c.args.arch.now) c.args.memory.now middle output) (meaning (shown_state (registers_of c.args.arch.now) c.args.memory.now middle output) c.args.word (Some c.args.i.now))) placed (c.perform.ensures.performed c.args.word output) in
    let bad : is_good (told c.look_one-looked.result.fate) ≡ false = sym c.is_good.ensures ∙ c.if-is_good.false in
    let e = entry_of start issuing.history issuing.now.state in
    let last = g.C.Cells.state c.end_behind.new.cells in
    let time : start.machine.bank_time ≡ c.args.engine.now.bank_time = ap (λ (m : Organisation). m.bank_time) on.machine_is in
    let kept = kept-then laws (machine_of c.args.engine.now) c.args.root c.args.memory.now start c.args.until from first (course_of c.args.engine.now.course) c.args.fetched c.args.engine.now.loads c.look_one-looked.new.self c.args.engine.now.fetches c.args.engine.now.banks c.args.engine.now.banks before middle after
    (registers_of c.args.arch.now) (registers_of c.perform.new.arch) output c.args.word c.args.i.now g.K.AccessKind.kind c.look_one-looked.result.fate c.look_one-looked.result.ended c.perform.result c.perform.new.executor c.want-want.result c.scalar_address-address.result c.access_width-width.result c.issue-issued.result c.from-bank_time.result
    on c.requires.issued.kept issuing c.requires.access (sym c.requires.class) (next-any shown-before output c.args.word c.args.i.now c.requires.issued.next) (omega (arith, c.issue-issued.ensures))
    c.want-want.ensures c.scalar_address-address.ensures c.access_width-width.ensures.value (sym c.from-bank_time.ensures) c.look_one-looked.ensures.looked c.look_one-looked.ensures.started same outcome bad in
    let left = c.end_behind.ensures.kept start (e ∷ issuing.history) first on.root_is time issuing.fetches kept in
    let held : AreHeld after c.args.root (residency_now start (e ∷ issuing.history)) = subst (λ (r : ℕ). AreHeld after r (residency_now start (e ∷ issuing.history))) on.root_is kept.held in
    let shown-last : shown c.args.memory.now last.contents ≡ shown c.args.memory.now after.contents =
    c.walks_leave_pages.ensures.shown c.args.memory.now c.args.root start.residency after.contents last.contents c.requires.issued.kept on.placed on.alone (c.end_behind.ensures.others start (e ∷ issuing.history) time issuing.fetches held) in
    let over = is-over laws (machine_of c.args.engine.now) c.args.root c.args.memory.now start c.args.until from first (course_of c.args.engine.now.course) c.args.fetched c.args.engine.now.loads c.look_one-looked.new.self c.args.engine.now.fetches c.args.engine.now.banks c.args.engine.now.banks before middle after
    (registers_of c.args.arch.now) (registers_of c.perform.new.arch) output c.args.word c.args.i.now g.K.AccessKind.kind c.look_one-looked.result.fate c.look_one-looked.result.ended c.perform.result c.perform.new.executor c.want-want.result c.scalar_address-address.result c.access_width-width.result c.issue-issued.result c.from-bank_time.result
    on c.requires.issued.kept issuing c.requires.access (sym c.requires.class) (next-any shown-before output c.args.word c.args.i.now c.requires.issued.next) (omega (arith, c.issue-issued.ensures))
    c.want-want.ensures c.scalar_address-address.ensures c.access_width-width.ensures.value (sym c.from-bank_time.ensures) c.look_one-looked.ensures.looked c.look_one-looked.ensures.started same outcome bad last (next_pc c.args.arch.now.pc) refl left shown-last in
    let there : IsOver start c.args.until from first (ended.Faulted c.perform.new.executor) (c.look_one-looked.result.ended + 20) (course_of c.args.engine.now.course) last (shown_state (registers_of c.perform.new.arch) c.perform.new.memory last output) =
    subst (λ (p : List FramedPage). IsOver start c.args.until from first (ended.Faulted c.perform.new.executor) (c.look_one-looked.result.ended + 20) (course_of c.args.engine.now.course) last (shown_state (registers_of c.perform.new.arch) p last output))
    (sym placed) over in
    over-same start c.args.until from first _ _ _ _ _ _ (c.end_behind.ensures.fault ∙ c.fault-engine.ensures) c.end_behind.ensures.clock (ap course_of c.end_behind.ensures.course) last (shown_state (registers_of c.perform.new.arch) c.perform.new.memory last output) there

pub returns-clause-timely : goal.returns-clause-timely
returns-clause-timely g c =
    let near = issued-soon _ _ _ _ _ _ _ _ _ _ _ c.requires.issued c.args.engine.now.bank_time_in_range c.issue-issued.result (omega (arith, c.issue-issued.ensures)) in
    let count = ap (λ (k : code.Course). k.completed) c.end_behind.ensures.course in
    record {
      one = omega (arith, count);
      later = omega (arith, c.end_behind.ensures.clock, c.look_one-looked.ensures.started, c.issue-issued.ensures);
      soon = omega (arith, c.end_behind.ensures.clock, near, c.look_one-looked.ensures.ended, c.from-bank_time.ensures, c.args.engine.now.bank_time_in_range);
    }
