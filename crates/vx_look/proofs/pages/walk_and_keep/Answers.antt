use Rattle.vx_look.proofs.Caught.{answered-below, IsFilled-learned}
use Rattle.vx_cells.specs.Cells.{CellsState}
use Rattle.vx_image.specs.Pages.{page_of}
use Rattle.vx_look.proofs.pages.walk_and_keep.Goals as goal
use Rattle.vx_look.specs.Filled.{IsFoundBelow}
use Rattle.vx_tables.specs.Residency.{after_walk}

pub returns-clause-below : goal.returns-clause-below
returns-clause-below g c =
    let cells : CellsState = g.C.Cells.state c.args.cells.now in
    answered-below cells.frames c.requires.residency c.args.address c.args.want c.walk-answer.result c.requires.held.memory.limit c.requires.held.pages
    (c.walk-answer.ensures c.requires.residency c.requires.held).answer

pub returns-clause-filled : goal.returns-clause-filled
returns-clause-filled g c entries filled =
    let cells : CellsState = g.C.Cells.state c.args.cells.now in
    let below : IsFoundBelow 16384 c.walk-answer.result =
    answered-below cells.frames c.requires.residency c.args.address c.args.want c.walk-answer.result c.requires.held.memory.limit c.requires.held.pages
    (c.walk-answer.ensures c.requires.residency c.requires.held).answer in
    IsFilled-learned entries (page_of c.args.address) c.args.tlb.now c.learn.new.self c.walk-answer.result c.learn.ensures.size c.learn.ensures.learned below filled

pub returns-clause-tables : goal.returns-clause-tables
returns-clause-tables g c = record {
  residency = after_walk c.requires.residency c.args.address c.args.want;
  held = (c.walk-answer.ensures c.requires.residency c.requires.held).held;
}

pub returns-clause-frames : goal.returns-clause-frames
returns-clause-frames g c = (c.walk-answer.ensures c.requires.residency c.requires.held).makes.frames

pub returns-clause-cycle : goal.returns-clause-cycle
returns-clause-cycle g c = (c.walk-answer.ensures c.requires.residency c.requires.held).makes.cycle
