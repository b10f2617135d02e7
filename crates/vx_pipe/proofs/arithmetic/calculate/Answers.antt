-- By the law of calculations: what is refused is over at its issue, what is calculated retires.
use Rattle.std.proofs.Common.{◌≡◌, ℕ, ◌+◌, ◌≤◌, true, false, length, Some, refl, sym, ap, subst, ◌∙◌, arith}
use Rattle.vx_base.specs.declared.machine.Fault.{Fault}
use Rattle.vx_cells.specs.Cells.{CellsState}
use Rattle.vx_decode.specs.Legal.{is_illegal}
use Rattle.vx_episode.specs.Footprint.{groups_made, groups_of}
use Rattle.vx_episode.specs.Organisation.{Organisation}
use Rattle.vx_episode.specs.declared.ended.Ended.TheVariants as ended
use Rattle.vx_flat.specs.State.{Flat}
use Rattle.vx_flat.specs.Vectors.{reading_at, setting_at}
use Rattle.vx_rows.specs.Families.{unit_of}
use Rattle.vx_rows.specs.declared.family.Unit.{Unit}
use Rattle.vx_vector.specs.Reading.{Reading}
use Rattle.vx_vector.specs.Words.{handled_words}
use Rattle.vx_pipe.specs.Beating.{beats_span}
use Rattle.vx_pipe.specs.Going.{IsOver}
use Rattle.vx_pipe.specs.Left.{registers_of}
use Rattle.vx_pipe.specs.Playing.{shown_state}
use Rattle.vx_pipe.specs.Retiring.{IsRetiring}
use Rattle.vx_pipe.specs.Turning.{caches_of, course_of, machine_of}
use Rattle.vx_pipe.proofs.Calculating.{behind, illegal-by, issued-soon, legal-by, names_registers}
use Rattle.vx_pipe.proofs.Bounds.{issued-bounds, issued-fetched, issued-tables}
use Rattle.vx_pipe.proofs.Outputs.{issued-next}
use Rattle.vx_pipe.proofs.arithmetic.calculate.Goals as goal

pub calculation-requires : goal.calculation-requires
calculation-requires g c = record { registers = names_registers c.args.known.now.instr c.requires.valid }

pub calculate-progress-requires-clause-registers : goal.calculate-progress-requires-clause-registers
calculate-progress-requires-clause-registers g c = names_registers c.args.known.now.instr c.requires.valid

pub issue-issued-requires : goal.issue-issued-requires
issue-issued-requires g c =
    let bounds = issued-bounds (machine_of c.args.engine.now) c.args.root c.args.until c.args.memory.now (course_of c.args.engine.now.course) c.args.fetched (caches_of c.args.engine.now) (g.C.Cells.state c.args.cells.now) (registers_of c.args.arch.now) c.args.word c.args.known.now.instr c.requires.issued c.requires.until in
    omega (arith, bounds.retired)

pub overflow_add-result : goal.overflow_add-result
overflow_add-result g c =
    let bounds = issued-bounds (machine_of c.args.engine.now) c.args.root c.args.until c.args.memory.now (course_of c.args.engine.now.course) c.args.fetched (caches_of c.args.engine.now) (g.C.Cells.state c.args.cells.now) (registers_of c.args.arch.now) c.args.word c.args.known.now.instr c.requires.issued c.requires.until in
    let fetched = issued-fetched (machine_of c.args.engine.now) c.args.root c.args.until c.args.memory.now (course_of c.args.engine.now.course) c.args.fetched (caches_of c.args.engine.now) (g.C.Cells.state c.args.cells.now) (registers_of c.args.arch.now) c.args.word c.args.known.now.instr c.requires.issued in
    let soon : c.issue-issued.result ≤ c.args.engine.now.course.retired + 65 =
    issued-soon c.args.fetched c.args.engine.now.course.begun c.args.engine.now.course.retired c.args.engine.now.bank_time c.issue-issued.result fetched c.args.engine.now.bank_time_in_range bounds.begun c.issue-issued.ensures in
    omega (arith, soon, bounds.retired)

pub overflow_add-completed : goal.overflow_add-completed
overflow_add-completed g c =
    let bounds = issued-bounds (machine_of c.args.engine.now) c.args.root c.args.until c.args.memory.now (course_of c.args.engine.now.course) c.args.fetched (caches_of c.args.engine.now) (g.C.Cells.state c.args.cells.now) (registers_of c.args.arch.now) c.args.word c.args.known.now.instr c.requires.issued c.requires.until in
    let fetched = issued-fetched (machine_of c.args.engine.now) c.args.root c.args.until c.args.memory.now (course_of c.args.engine.now.course) c.args.fetched (caches_of c.args.engine.now) (g.C.Cells.state c.args.cells.now) (registers_of c.args.arch.now) c.args.word c.args.known.now.instr c.requires.issued in
    let soon : c.issue-issued.result ≤ c.args.engine.now.course.retired + 65 =
    issued-soon c.args.fetched c.args.engine.now.course.begun c.args.engine.now.course.retired c.args.engine.now.bank_time c.issue-issued.result fetched c.args.engine.now.bank_time_in_range bounds.begun c.issue-issued.ensures in
    omega (arith, soon, bounds.retired, c.beats_span.ensures.few)

pub retire-requires-clause-tables : goal.retire-requires-clause-tables
retire-requires-clause-tables g c = issued-tables (machine_of c.args.engine.now) c.args.root c.args.until c.args.memory.now (course_of c.args.engine.now.course) c.args.fetched (caches_of c.args.engine.now) (g.C.Cells.state c.args.cells.now) (registers_of c.args.arch.now) c.args.word c.args.known.now.instr c.requires.issued

pub retire-requires-clause-completed : goal.retire-requires-clause-completed
retire-requires-clause-completed g c =
    let bounds = issued-bounds (machine_of c.args.engine.now) c.args.root c.args.until c.args.memory.now (course_of c.args.engine.now.course) c.args.fetched (caches_of c.args.engine.now) (g.C.Cells.state c.args.cells.now) (registers_of c.args.arch.now) c.args.word c.args.known.now.instr c.requires.issued c.requires.until in
    let fetched = issued-fetched (machine_of c.args.engine.now) c.args.root c.args.until c.args.memory.now (course_of c.args.engine.now.course) c.args.fetched (caches_of c.args.engine.now) (g.C.Cells.state c.args.cells.now) (registers_of c.args.arch.now) c.args.word c.args.known.now.instr c.requires.issued in
    let soon : c.issue-issued.result ≤ c.args.engine.now.course.retired + 65 =
    issued-soon c.args.fetched c.args.engine.now.course.begun c.args.engine.now.course.retired c.args.engine.now.bank_time c.issue-issued.result fetched c.args.engine.now.bank_time_in_range bounds.begun c.issue-issued.ensures in
    omega (arith, soon, bounds.retired, c.beats_span.ensures.few)

pub returns-in_default-clause-timely : goal.returns-in_default-clause-timely
returns-in_default-clause-timely g c =
    let bounds = issued-bounds (machine_of c.args.engine.now) c.args.root c.args.until c.args.memory.now (course_of c.args.engine.now.course) c.args.fetched (caches_of c.args.engine.now) (g.C.Cells.state c.args.cells.now) (registers_of c.args.arch.now) c.args.word c.args.known.now.instr c.requires.issued c.requires.until in
    let fetched = issued-fetched (machine_of c.args.engine.now) c.args.root c.args.until c.args.memory.now (course_of c.args.engine.now.course) c.args.fetched (caches_of c.args.engine.now) (g.C.Cells.state c.args.cells.now) (registers_of c.args.arch.now) c.args.word c.args.known.now.instr c.requires.issued in
    let soon : c.issue-issued.result ≤ c.args.engine.now.course.retired + 65 =
    issued-soon c.args.fetched c.args.engine.now.course.begun c.args.engine.now.course.retired c.args.engine.now.bank_time c.issue-issued.result fetched c.args.engine.now.bank_time_in_range bounds.begun c.issue-issued.ensures in
    let later = behind c.args.fetched c.args.engine.now.course.begun c.args.engine.now.course.retired c.args.engine.now.bank_time c.issue-issued.result fetched c.args.engine.now.bank_time_in_range bounds.begun c.issue-issued.ensures in
    record { one = omega arith; later = omega (arith, later); soon = omega (arith, soon) }

pub returns-clause-timely : goal.returns-clause-timely
returns-clause-timely g c =
    let bounds = issued-bounds (machine_of c.args.engine.now) c.args.root c.args.until c.args.memory.now (course_of c.args.engine.now.course) c.args.fetched (caches_of c.args.engine.now) (g.C.Cells.state c.args.cells.now) (registers_of c.args.arch.now) c.args.word c.args.known.now.instr c.requires.issued c.requires.until in
    let fetched = issued-fetched (machine_of c.args.engine.now) c.args.root c.args.until c.args.memory.now (course_of c.args.engine.now.course) c.args.fetched (caches_of c.args.engine.now) (g.C.Cells.state c.args.cells.now) (registers_of c.args.arch.now) c.args.word c.args.known.now.instr c.requires.issued in
    let soon : c.issue-issued.result ≤ c.args.engine.now.course.retired + 65 =
    issued-soon c.args.fetched c.args.engine.now.course.begun c.args.engine.now.course.retired c.args.engine.now.bank_time c.issue-issued.result fetched c.args.engine.now.bank_time_in_range bounds.begun c.issue-issued.ensures in
    let later = behind c.args.fetched c.args.engine.now.course.begun c.args.engine.now.course.retired c.args.engine.now.bank_time c.issue-issued.result fetched c.args.engine.now.bank_time_in_range bounds.begun c.issue-issued.ensures in
    c.retire.ensures.timely later (omega (arith, soon, c.beats_span.ensures.few))

pub returns-in_default-clause-turned : goal.returns-in_default-clause-turned
returns-in_default-clause-turned g c start from first output on issuing =
    let machine : Organisation = machine_of c.args.engine.now in
    let cells : CellsState = g.C.Cells.state c.args.cells.now in
    let u : Flat = shown_state (registers_of c.args.arch.now) c.args.memory.now cells output in
    let next = issued-next machine c.args.root c.args.until c.args.memory.now (course_of c.args.engine.now.course) c.args.fetched (caches_of c.args.engine.now) cells (registers_of c.args.arch.now) c.args.word c.args.known.now.instr c.requires.issued output in
    let illegal : is_illegal c.args.known.now.instr (setting_at u c.args.known.now.instr) ≡ true = illegal-by (is_illegal c.args.known.now.instr (setting_at u c.args.known.now.instr)) (c.in_default.ensures.legal u.memory output) in
    let over = c.calculations_are_done.ensures.refused machine c.args.root c.args.until c.args.memory.now start from first (course_of c.args.engine.now.course) c.args.fetched (caches_of c.args.engine.now) cells u c.args.word c.args.known.now.instr c.args.family c.issue-issued.result
    on c.requires.issued.kept issuing c.requires.class next illegal c.issue-issued.ensures in
    subst (λ (fault : Fault). IsOver start c.args.until from first (ended.Faulted fault) (c.issue-issued.result + 20) (course_of c.args.engine.now.course) cells u) (sym c.refusal-engine.ensures) over

pub returns-clause-turned : goal.returns-clause-turned
returns-clause-turned g c start from first output on issuing =
    let machine : Organisation = machine_of c.args.engine.now in
    let cells : CellsState = g.C.Cells.state c.args.cells.now in
    let u : Flat = shown_state (registers_of c.args.arch.now) c.args.memory.now cells output in
    let v : Flat = shown_state (registers_of c.calculate-progress.new.arch) c.args.memory.now cells output in
    let next = issued-next machine c.args.root c.args.until c.args.memory.now (course_of c.args.engine.now.course) c.args.fetched (caches_of c.args.engine.now) cells (registers_of c.args.arch.now) c.args.word c.args.known.now.instr c.requires.issued output in
    let legal : is_illegal c.args.known.now.instr (setting_at u c.args.known.now.instr) ≡ false = legal-by (is_illegal c.args.known.now.instr (setting_at u c.args.known.now.instr)) (c.in-Some.ensures.legal u.memory output) in
    let count : (r : Reading) → reading_at u c.args.known.now.instr ≡ Some r → length (groups_made r (groups_of machine.lanes (handled_words r))) ≡ c.beat_count-beats.result =
    λ r reads. c.beat_count-beats.ensures.state u c.args.known.now.instr r c.requires.class (sym c.in-Some.ensures.setting) reads in
    let spans : c.beats_span.result ≡ beats_span (unit_of c.args.family) c.beat_count-beats.result = c.beats_span.ensures.is ∙ ap (λ (x : Unit). beats_span x c.beat_count-beats.result) c.unit.ensures in
    let calculated = c.calculations_are_done.ensures.completes machine c.args.root c.args.until c.args.memory.now start from first (course_of c.args.engine.now.course) c.args.fetched (caches_of c.args.engine.now) cells u v c.args.word c.args.known.now.instr c.args.family c.beat_count-beats.result c.calculate-progress.result c.calculate-progress.new.self c.issue-issued.result
    on c.requires.issued.kept issuing c.requires.class next legal count c.issue-issued.ensures (c.calculate-progress.ensures.performed u.memory output) in
    let retiring : IsRetiring start c.args.until from first (course_of c.args.engine.now.course) c.issue-issued.result (c.issue-issued.result + c.beats_span.result) 0 false true (caches_of c.args.engine.now) cells v =
    subst (λ (n : ℕ). IsRetiring start c.args.until from first (course_of c.args.engine.now.course) c.issue-issued.result (c.issue-issued.result + n) 0 false true (caches_of c.args.engine.now) cells v) (sym spans) calculated in
    c.retire.ensures.retired c.args.memory.now start from first (registers_of c.calculate-progress.new.arch) output on c.requires.issued.kept retiring refl
