-- The walk begins, goes on and ends.
use Rattle.std.proofs.Common.{[], None, refl, ap, subst, ◌∙◌}
use Rattle.vx_cells.specs.Cells.{CellsState}
use Rattle.vx_tables.specs.Walking.{Walking, Ticks, WalkTicks, WalkGoesOn, WalkEnds}
use Rattle.std.specs.Prelude.{Option}
use Rattle.vx_tables.specs.declared.walked.Walked.{Walked}
use Rattle.vx_walk.proofs.Begun.{IsBegun-more, Walks-end, fewer}
use Rattle.vx_walk.proofs.whole.walk.Goals as goal

pub loop-answer-init : goal.loop-answer-init
loop-answer-init g c residency held = record {
  done = [];
  walk = c.begin-walker.ensures.walk residency held.stand.listed;
  held = held;
  makes = c.accesses_are_made_in_turn.ensures.none (g.C.Cells.state c.args.cells.now);
  same_address = ap (λ (w : Walking). w.address) c.begin-walker.ensures.starts;
  same_want = ap (λ (w : Walking). w.want) c.begin-walker.ensures.starts;
  same_port = ap (λ (w : Walking). w.port) c.begin-walker.ensures.starts ∙ c.port_of.ensures;
}

pub tick-requires : goal.tick-requires
tick-requires g c =
    let begun = c.loop-answer.invariant c.requires.residency c.requires.held in
    c.steps_follow_the_tables.ensures.can_tick (g.C.Cells.state c.loop-answer.cells) c.requires.residency c.requires.residency c.args.root c.loop-answer.walker begun.done begun.held
    (c.walks_go_side_by_side.ensures.same c.loop-answer.walker.address c.loop-answer.walker.want c.requires.residency) begun.walk

pub returns-in-Some : goal.returns-in-Some
returns-in-Some g c residency held =
    let now : CellsState = g.C.Cells.state c.loop-answer.cells in
    let after : CellsState = g.C.Cells.state c.tick.new.cells in
    let begun = c.loop-answer.invariant residency held in
    let ends : WalkEnds now after residency residency c.args.root c.loop-answer.walker begun.done c.in-Some.answer =
    subst (λ (r : Option Walked). WalkTicks now after residency residency c.args.root c.loop-answer.walker c.tick.new.self begun.done r) c.in-Some.is
    (c.tick.ensures.walk residency residency c.args.root begun.done begun.held (c.walks_go_side_by_side.ensures.same c.loop-answer.walker.address c.loop-answer.walker.want residency) begun.walk) in
    Walks-end c.accesses_are_made_in_turn.ensures.joined _ now after residency c.args.root c.args.address c.args.want c.loop-answer.walker c.in-Some.answer begun ends

pub loop-answer-smaller : goal.loop-answer-smaller
loop-answer-smaller g c =
    let now : CellsState = g.C.Cells.state c.loop-answer.cells in
    let after : CellsState = g.C.Cells.state c.tick.new.cells in
    let step : Ticks now after c.loop-answer.walker c.tick.new.self c.loop-answer.walker.stage None =
    subst (λ (r : Option Walked). Ticks now after c.loop-answer.walker c.tick.new.self c.loop-answer.walker.stage r) c.in_default.is c.tick.ensures.ticks in
    fewer now after c.loop-answer.walker c.tick.new.self c.loop-answer.walker.stage refl step

pub loop-answer-preserved : goal.loop-answer-preserved
loop-answer-preserved g c residency held =
    let now : CellsState = g.C.Cells.state c.loop-answer.cells in
    let after : CellsState = g.C.Cells.state c.tick.new.cells in
    let begun = c.loop-answer.invariant residency held in
    let step : Ticks now after c.loop-answer.walker c.tick.new.self c.loop-answer.walker.stage None =
    subst (λ (r : Option Walked). Ticks now after c.loop-answer.walker c.tick.new.self c.loop-answer.walker.stage r) c.in_default.is c.tick.ensures.ticks in
    let reads : WalkGoesOn now after residency c.args.root c.loop-answer.walker c.tick.new.self begun.done =
    subst (λ (r : Option Walked). WalkTicks now after residency residency c.args.root c.loop-answer.walker c.tick.new.self begun.done r) c.in_default.is
    (c.tick.ensures.walk residency residency c.args.root begun.done begun.held (c.walks_go_side_by_side.ensures.same c.loop-answer.walker.address c.loop-answer.walker.want residency) begun.walk) in
    IsBegun-more c.accesses_are_made_in_turn.ensures.joined _ now after residency c.args.root c.args.address c.args.want c.loop-answer.walker c.tick.new.self begun step reads
