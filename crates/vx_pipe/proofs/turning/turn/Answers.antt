use Rattle.std.proofs.Common.{refl, sym, ap, ◌∙◌}
use Rattle.vx_episode.specs.Organisation.{Organisation}
use Rattle.vx_pipe.specs.Left.{registers_of}
use Rattle.vx_pipe.specs.Playing.{shown_state}
use Rattle.vx_pipe.specs.Turning.{course_of, machine_of}
use Rattle.vx_pipe.proofs.Kept.{PagedLaws}
use Rattle.vx_pipe.proofs.Turns.{issued-at, issuing-at, issuing-fits, on-now}
use Rattle.vx_pipe.proofs.turning.turn.Goals as goal

pub find-requires : goal.find-requires
find-requires g c =
    let t = c.requires.going in
    let before = g.C.Cells.state c.args.cells.now in
    let between = g.C.Cells.state c.fetch_next-fetched.new.cells in
    let u = shown_state (registers_of c.args.arch.now) c.args.memory.now before t.output in
    let course = course_of c.args.engine.now.course in
    record {
      fits = issuing-fits t.start c.args.until t.from t.first course c.fetch_next-fetched.result (record { loads = c.args.engine.now.loads; fetches = c.fetch_next-fetched.new.fetches; stamps = c.args.engine.now.banks }) between u c.args.memory.now t.within
          (c.fetch_next-fetched.ensures.issuing t.start c.args.until t.from t.first course c.args.engine.now.loads c.args.engine.now.banks u t.on.root_is
          (ap (λ (m : Organisation). m.bank_time) t.on.machine_is ∙ sym c.from-bank_time.ensures) refl refl t.going);
    }

pub do_issued-requires-clause-issued : goal.do_issued-requires-clause-issued
do_issued-requires-clause-issued g c =
    let paged : PagedLaws = record { words = c.tables_stay.ensures.words; held = c.tables_stay.ensures.held; is_placed = c.walks_leave_pages.ensures.placed; alone = c.walks_leave_pages.ensures.alone; elsewhere = c.walks_leave_pages.ensures.elsewhere } in
    let before = g.C.Cells.state c.args.cells.now in
    let between = g.C.Cells.state c.fetch_next-fetched.new.cells in
    let after = g.C.Cells.state c.find.new.physical in
    let same = c.walks_leave_pages.ensures.same c.args.memory.now c.find.new.memory between after c.find.ensures.rest in
    issued-at paged c.walks_leave_pages.ensures.shown (machine_of c.args.engine.now) c.args.root c.args.until c.args.memory.now c.find.new.memory (course_of c.args.engine.now.course) c.fetch_next-fetched.result
    c.args.engine.now.loads c.args.engine.now.fetches c.fetch_next-fetched.new.fetches c.args.engine.now.banks before between after (registers_of c.args.arch.now) c.from-bank_time.result
    c.fetch_next-fetched.ensures.issuing c.fetch_next-fetched.ensures.others (sym c.from-bank_time.ensures) same c.find.ensures.rest c.find.ensures.memory c.requires.going.kept
    c.in-Known.word c.in-Known.known.now.instr c.in-Known.ensures.found c.requires.going

pub returns-in-Denied-clause-turned : goal.returns-in-Denied-clause-turned
returns-in-Denied-clause-turned g c start from first output on going =
    let paged : PagedLaws = record { words = c.tables_stay.ensures.words; held = c.tables_stay.ensures.held; is_placed = c.walks_leave_pages.ensures.placed; alone = c.walks_leave_pages.ensures.alone; elsewhere = c.walks_leave_pages.ensures.elsewhere } in
    let before = g.C.Cells.state c.args.cells.now in
    let between = g.C.Cells.state c.fetch_next-fetched.new.cells in
    let after = g.C.Cells.state c.find.new.physical in
    let same = c.walks_leave_pages.ensures.same c.args.memory.now c.find.new.memory between after c.find.ensures.rest in
    let there = on-now paged c.walks_leave_pages.ensures.shown (machine_of c.args.engine.now) c.args.root c.args.until c.args.memory.now c.find.new.memory (course_of c.args.engine.now.course) c.fetch_next-fetched.result
    c.args.engine.now.loads c.args.engine.now.fetches c.fetch_next-fetched.new.fetches c.args.engine.now.banks before between after (registers_of c.args.arch.now) c.from-bank_time.result
    c.fetch_next-fetched.ensures.issuing c.fetch_next-fetched.ensures.others (sym c.from-bank_time.ensures) same c.find.ensures.rest c.find.ensures.memory c.requires.going.kept start on in
    c.refuse.ensures.turned start from first output there
    (issuing-at paged c.walks_leave_pages.ensures.shown (machine_of c.args.engine.now) c.args.root c.args.until c.args.memory.now c.find.new.memory (course_of c.args.engine.now.course) c.fetch_next-fetched.result
    c.args.engine.now.loads c.args.engine.now.fetches c.fetch_next-fetched.new.fetches c.args.engine.now.banks before between after (registers_of c.args.arch.now) c.from-bank_time.result
    c.fetch_next-fetched.ensures.issuing c.fetch_next-fetched.ensures.others (sym c.from-bank_time.ensures) same c.find.ensures.rest c.find.ensures.memory c.requires.going.kept start from first output on going)

pub returns-in-Unknown-clause-turned : goal.returns-in-Unknown-clause-turned
returns-in-Unknown-clause-turned g c start from first output on going =
    let paged : PagedLaws = record { words = c.tables_stay.ensures.words; held = c.tables_stay.ensures.held; is_placed = c.walks_leave_pages.ensures.placed; alone = c.walks_leave_pages.ensures.alone; elsewhere = c.walks_leave_pages.ensures.elsewhere } in
    let before = g.C.Cells.state c.args.cells.now in
    let between = g.C.Cells.state c.fetch_next-fetched.new.cells in
    let after = g.C.Cells.state c.find.new.physical in
    let same = c.walks_leave_pages.ensures.same c.args.memory.now c.find.new.memory between after c.find.ensures.rest in
    let there = on-now paged c.walks_leave_pages.ensures.shown (machine_of c.args.engine.now) c.args.root c.args.until c.args.memory.now c.find.new.memory (course_of c.args.engine.now.course) c.fetch_next-fetched.result
    c.args.engine.now.loads c.args.engine.now.fetches c.fetch_next-fetched.new.fetches c.args.engine.now.banks before between after (registers_of c.args.arch.now) c.from-bank_time.result
    c.fetch_next-fetched.ensures.issuing c.fetch_next-fetched.ensures.others (sym c.from-bank_time.ensures) same c.find.ensures.rest c.find.ensures.memory c.requires.going.kept start on in
    c.refuse-in-Unknown.ensures.turned start from first output there
    (issuing-at paged c.walks_leave_pages.ensures.shown (machine_of c.args.engine.now) c.args.root c.args.until c.args.memory.now c.find.new.memory (course_of c.args.engine.now.course) c.fetch_next-fetched.result
    c.args.engine.now.loads c.args.engine.now.fetches c.fetch_next-fetched.new.fetches c.args.engine.now.banks before between after (registers_of c.args.arch.now) c.from-bank_time.result
    c.fetch_next-fetched.ensures.issuing c.fetch_next-fetched.ensures.others (sym c.from-bank_time.ensures) same c.find.ensures.rest c.find.ensures.memory c.requires.going.kept start from first output on going)

pub returns-in-Known-clause-turned : goal.returns-in-Known-clause-turned
returns-in-Known-clause-turned g c start from first output on going =
    let paged : PagedLaws = record { words = c.tables_stay.ensures.words; held = c.tables_stay.ensures.held; is_placed = c.walks_leave_pages.ensures.placed; alone = c.walks_leave_pages.ensures.alone; elsewhere = c.walks_leave_pages.ensures.elsewhere } in
    let before = g.C.Cells.state c.args.cells.now in
    let between = g.C.Cells.state c.fetch_next-fetched.new.cells in
    let after = g.C.Cells.state c.find.new.physical in
    let same = c.walks_leave_pages.ensures.same c.args.memory.now c.find.new.memory between after c.find.ensures.rest in
    let there = on-now paged c.walks_leave_pages.ensures.shown (machine_of c.args.engine.now) c.args.root c.args.until c.args.memory.now c.find.new.memory (course_of c.args.engine.now.course) c.fetch_next-fetched.result
    c.args.engine.now.loads c.args.engine.now.fetches c.fetch_next-fetched.new.fetches c.args.engine.now.banks before between after (registers_of c.args.arch.now) c.from-bank_time.result
    c.fetch_next-fetched.ensures.issuing c.fetch_next-fetched.ensures.others (sym c.from-bank_time.ensures) same c.find.ensures.rest c.find.ensures.memory c.requires.going.kept start on in
    c.do_issued.ensures.turned start from first output there
    (issuing-at paged c.walks_leave_pages.ensures.shown (machine_of c.args.engine.now) c.args.root c.args.until c.args.memory.now c.find.new.memory (course_of c.args.engine.now.course) c.fetch_next-fetched.result
    c.args.engine.now.loads c.args.engine.now.fetches c.fetch_next-fetched.new.fetches c.args.engine.now.banks before between after (registers_of c.args.arch.now) c.from-bank_time.result
    c.fetch_next-fetched.ensures.issuing c.fetch_next-fetched.ensures.others (sym c.from-bank_time.ensures) same c.find.ensures.rest c.find.ensures.memory c.requires.going.kept start from first output on going)
