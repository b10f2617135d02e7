use Rattle.std.proofs.Common.{◌+◌, List, refl, sym, ap, subst, ◌∙◌, arith}
use Rattle.vx_cells.specs.Cells.{CellsState}
use Rattle.vx_episode.specs.Played.{Plays}
use Rattle.vx_paged.specs.Framed.{IsPlacement}
use Rattle.vx_paged.specs.declared.placement.FramedPage.{FramedPage}
use Rattle.vx_pipe.specs.Going.{IsEpisodeOn}
use Rattle.vx_pipe.specs.Left.{registers_of}
use Rattle.vx_pipe.specs.Pipes.{PipeState, counts_of}
use Rattle.vx_pipe.specs.Turning.{caches_of, course_of, machine_of}
use Rattle.vx_pipe.proofs.Episodes.{going-at, on-at, plays-placed, start_at, turning-at}
use Rattle.vx_pipe.proofs.pipe.Pipe.episode.Goals as goal

pub run-over-requires-clause-going : goal.run-over-requires-clause-going
run-over-requires-clause-going g c =
    let cells = g.C.Cells.state c.args.cells.now in
    let is = sym (ap (λ (s : PipeState). s.machine) c.self.view_is) in
    turning-at c.episodes_are_played.ensures.begins c.args.self.now.machine (machine_of c.begin.new.engine) c.args.root c.args.until c.now-cycle.result c.args.memory.now cells (registers_of c.args.arch.now)
    (caches_of c.begin.new.engine) (course_of c.begin.new.engine.course) (is ∙ sym c.begin.ensures.machine) refl refl c.now-cycle.ensures c.begin.ensures.course
    c.begin.ensures.loads c.begin.ensures.fetches (c.begin.ensures.banks c.args.self.now.machine is) c.begin.ensures.by
    c.requires.shown c.pages-pages.ensures.kept c.requires.fits.within c.requires.cycle

pub advance-requires : goal.advance-requires
advance-requires g c =
    let s = c.requires.shown in
    let cells = g.C.Cells.state c.args.cells.now in
    let is = sym (ap (λ (s : PipeState). s.machine) c.self.view_is) in
    let on = on-at c.args.self.now.machine (machine_of c.begin.new.engine) cells.cycle c.args.root s.residency c.args.memory.now (registers_of c.args.arch.now) cells s.process.state (is ∙ sym c.begin.ensures.machine) refl refl s.shows s.placed in
    let going = going-at c.episodes_are_played.ensures.begins c.args.self.now.machine (machine_of c.begin.new.engine) c.args.root c.args.until c.now-cycle.result c.args.memory.now cells (registers_of c.args.arch.now)
    (caches_of c.begin.new.engine) (course_of c.begin.new.engine.course) (is ∙ sym c.begin.ensures.machine) refl refl c.now-cycle.ensures c.begin.ensures.course
    c.begin.ensures.loads c.begin.ensures.fetches (c.begin.ensures.banks c.args.self.now.machine is) c.begin.ensures.by s.residency s.process s.shows s.placed s.playable in
    let over = c.run-over.ensures.over (start_at c.args.self.now.machine cells.cycle c.args.root s.residency) s.process cells s.process.state.output on going in
    let later = c.run-over.ensures.later (start_at c.args.self.now.machine cells.cycle c.args.root s.residency) s.process cells s.process.state.output on going in
    let same = over.cells_are.cycle in
    omega (arith, later, same)

pub returns-clause-later : goal.returns-clause-later
returns-clause-later g c =
    let s = c.requires.shown in
    let cells = g.C.Cells.state c.args.cells.now in
    let is = sym (ap (λ (s : PipeState). s.machine) c.self.view_is) in
    let on = on-at c.args.self.now.machine (machine_of c.begin.new.engine) cells.cycle c.args.root s.residency c.args.memory.now (registers_of c.args.arch.now) cells s.process.state (is ∙ sym c.begin.ensures.machine) refl refl s.shows s.placed in
    let going = going-at c.episodes_are_played.ensures.begins c.args.self.now.machine (machine_of c.begin.new.engine) c.args.root c.args.until c.now-cycle.result c.args.memory.now cells (registers_of c.args.arch.now)
    (caches_of c.begin.new.engine) (course_of c.begin.new.engine.course) (is ∙ sym c.begin.ensures.machine) refl refl c.now-cycle.ensures c.begin.ensures.course
    c.begin.ensures.loads c.begin.ensures.fetches (c.begin.ensures.banks c.args.self.now.machine is) c.begin.ensures.by s.residency s.process s.shows s.placed s.playable in
    let later = c.run-over.ensures.later (start_at c.args.self.now.machine cells.cycle c.args.root s.residency) s.process cells s.process.state.output on going in
    let clock = ap (λ (x : CellsState). x.cycle) c.advance.ensures in
    omega (arith, later, clock)

pub returns-clause-plays : goal.returns-clause-plays
returns-clause-plays g c residency process shows placed playable =
    let cells = g.C.Cells.state c.args.cells.now in
    let behind = g.C.Cells.state c.run-over.new.cells in
    let start = start_at c.args.self.now.machine cells.cycle c.args.root residency in
    let is = sym (ap (λ (s : PipeState). s.machine) c.self.view_is) in
    let on = on-at c.args.self.now.machine (machine_of c.begin.new.engine) cells.cycle c.args.root residency c.args.memory.now (registers_of c.args.arch.now) cells process.state (is ∙ sym c.begin.ensures.machine) refl refl shows placed in
    let going = going-at c.episodes_are_played.ensures.begins c.args.self.now.machine (machine_of c.begin.new.engine) c.args.root c.args.until c.now-cycle.result c.args.memory.now cells (registers_of c.args.arch.now)
    (caches_of c.begin.new.engine) (course_of c.begin.new.engine.course) (is ∙ sym c.begin.ensures.machine) refl refl c.now-cycle.ensures c.begin.ensures.course
    c.begin.ensures.loads c.begin.ensures.fetches (c.begin.ensures.banks c.args.self.now.machine is) c.begin.ensures.by residency process shows placed playable in
    let over = c.run-over.ensures.over (start_at c.args.self.now.machine cells.cycle c.args.root residency) process cells process.state.output on going in
    let here : IsEpisodeOn (machine_of c.begin.new.engine) c.args.root c.run-over.new.memory (start_at c.args.self.now.machine cells.cycle c.args.root residency) =
    subst (λ (p : List FramedPage). IsEpisodeOn (machine_of c.begin.new.engine) c.args.root p (start_at c.args.self.now.machine cells.cycle c.args.root residency)) (sym c.run-over.ensures.memory) on in
    let kept : IsPlacement c.run-over.new.memory = subst (λ (p : List FramedPage). IsPlacement p) (sym c.run-over.ensures.memory) c.pages-pages.ensures.kept in
    let plays : Plays (start_at c.args.self.now.machine cells.cycle c.args.root residency) c.args.until process cells (g.C.Cells.state c.advance.new.self) (registers_of c.run-over.new.arch) c.run-over.result.ended
    (c.run-over.new.engine.course.completed + c.run-over.new.engine.course.reached) c.run-over.new.engine.course.completed c.run-over.new.engine.course.changed =
    subst (λ (x : CellsState). Plays (start_at c.args.self.now.machine cells.cycle c.args.root residency) c.args.until process cells x (registers_of c.run-over.new.arch) c.run-over.result.ended
    (c.run-over.new.engine.course.completed + c.run-over.new.engine.course.reached) c.run-over.new.engine.course.completed c.run-over.new.engine.course.changed) (sym c.advance.ensures)
    (c.episodes_are_played.ensures.plays (machine_of c.begin.new.engine) c.args.root c.args.until c.run-over.new.memory (start_at c.args.self.now.machine cells.cycle c.args.root residency) process cells behind (registers_of c.run-over.new.arch)
    c.run-over.result.ended c.run-over.result.clock (course_of c.run-over.new.engine.course) process.state.output here kept over) in
    plays-placed (machine_of c.begin.new.engine) c.args.root c.args.until c.run-over.new.memory (start_at c.args.self.now.machine cells.cycle c.args.root residency) process cells behind (g.C.Cells.state c.advance.new.self)
    (registers_of c.run-over.new.arch) c.run-over.result.ended c.run-over.result.clock (course_of c.run-over.new.engine.course) (counts_of c.run-over.new.engine.course) here kept over
    c.walks_leave_pages.ensures.placed (c.shown_memory_is_alike.ensures.whole c.run-over.new.memory behind.contents) refl plays
