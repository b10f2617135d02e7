use Rattle.std.proofs.Common.{sym, ap, subst, arith}
use Rattle.vx_course.specs.Course.{Course}
use Rattle.vx_episode.specs.Organisation.{Organisation}
use Rattle.vx_episode.specs.declared.ended.Ended.TheVariants as ended
use Rattle.vx_image.specs.Pages.{Memory}
use Rattle.vx_pipe.specs.Going.{IsGoing, IsOver}
use Rattle.vx_pipe.specs.Playing.{shown_state}
use Rattle.vx_pipe.specs.Turning.{caches_of, course_of}
use Rattle.vx_pipe.specs.declared.course.Course as code
use Rattle.vx_pipe.proofs.Retires.{over-retired, same-behind, slice-same}
use Rattle.vx_pipe.proofs.retire.retire.Goals as goal

pub returns-then-completed-until-clause-turned : goal.returns-then-completed-until-clause-turned
returns-then-completed-until-clause-turned g c start from first u window root_is time r at =
    subst (λ (k : Course). IsGoing start c.args.until from first k (caches_of c.args.engine.now) (g.C.Cells.state c.args.cells.now) u) (sym c.count.ensures)
    (c.retiring_instructions_go_on.ensures.goes start c.args.until from first (course_of c.args.engine.now.course) c.args.issued c.args.completed c.args.commits c.args.jumps c.args.changes
    (caches_of c.args.engine.now) (g.C.Cells.state c.args.cells.now) u window r c.if-completed-until.true)

pub returns-then-completed-until-clause-retired : goal.returns-then-completed-until-clause-retired
returns-then-completed-until-clause-retired g c placement start from first registers output on kept r at =
    returns-then-completed-until-clause-turned g c start from first (shown_state registers placement (g.C.Cells.state c.args.cells.now) output) (ap (λ (m : Organisation). m.window) on.machine_is) on.root_is
    (ap (λ (m : Organisation). m.bank_time) on.machine_is) r at

pub returns-clause-turned : goal.returns-clause-turned
returns-clause-turned g c start from first u window root_is time r at =
    slice-same start c.args.until from first _ _ _ _ c.end_behind.ensures.clock (ap course_of c.end_behind.ensures.course) (g.C.Cells.state c.end_behind.new.cells) u
    (over-retired start c.args.root c.args.until from first (course_of c.args.engine.now.course) c.args.issued c.args.completed c.args.commits c.args.jumps c.args.changes
    (caches_of c.args.engine.now) (g.C.Cells.state c.args.cells.now) (g.C.Cells.state c.end_behind.new.cells) u c.args.pc r
    c.retiring_instructions_go_on.ensures.ends (course_of c.count.new.course) c.args.engine.now.bank_time c.count.ensures window root_is time c.if-completed-until.false at
    c.end_behind.ensures.kept)

pub returns-clause-shown : goal.returns-clause-shown
returns-clause-shown g c placement start from first u root_is time kept placed alone r =
    c.walks_leave_pages.ensures.shown placement c.args.root start.residency (g.C.Cells.state c.args.cells.now).contents (g.C.Cells.state c.end_behind.new.cells).contents kept placed alone
    (same-behind start c.args.root c.args.until from first (course_of c.args.engine.now.course) c.args.issued c.args.completed c.args.commits c.args.jumps c.args.changes
    (caches_of c.args.engine.now) (g.C.Cells.state c.args.cells.now) (g.C.Cells.state c.end_behind.new.cells) u c.args.pc r
    c.args.engine.now.bank_time root_is time c.end_behind.ensures.others)

pub returns-clause-retired : goal.returns-clause-retired
returns-clause-retired g c placement start from first registers output on kept r at =
    let before = g.C.Cells.state c.args.cells.now in
    let after = g.C.Cells.state c.end_behind.new.cells in
    let time = ap (λ (m : Organisation). m.bank_time) on.machine_is in
    let same = returns-clause-shown g c placement start from first (shown_state registers placement before output) on.root_is time kept on.placed on.alone r in
    subst (λ (m : Memory). IsOver start c.args.until from first ended.Slice c.end_behind.result (course_of c.end_behind.new.engine.course) after
    (record { pc = registers.pc; x = registers.x; v = registers.v; memory = m; output = output })) (sym same)
    (returns-clause-turned g c start from first (shown_state registers placement before output) (ap (λ (m : Organisation). m.window) on.machine_is) on.root_is time r at)

pub returns-clause-timely : goal.returns-clause-timely
returns-clause-timely g c late near =
    let counted = ap (λ (k : Course). k.completed) c.count.ensures in
    let count = ap (λ (k : code.Course). k.completed) c.end_behind.ensures.course in
    record {
      one = omega (arith, count, counted);
      later = omega (arith, c.end_behind.ensures.clock, late, c.requires.order);
      soon = omega (arith, c.end_behind.ensures.clock, near);
    }
