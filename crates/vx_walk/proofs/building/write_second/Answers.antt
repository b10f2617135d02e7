-- The table of the region, behind those before it.
use Rattle.std.proofs.Common.{◌≡◌, ℕ, true, ◌+◌, ◌*◌, List, sym, subst, ◌∙◌}
use Rattle.vx_base.specs.declared.perm.PageEntry.{PageEntry}
use Rattle.vx_cells.specs.Cells.{CellsState, Makes}
use Rattle.vx_tables.specs.Building.{kernel_writes, pointer_for}
use Rattle.vx_tables.specs.Tables.{gib, mib2, has_region, region_total, regions_below}
use Rattle.vx_walk.proofs.building.write_second.Goals as goal

pub returns-clause-next : goal.returns-clause-next
returns-clause-next g c = c.write_pointers-next.ensures.next (c.args.first + 1 + region_total gib c.args.pages.now) c.requires.next

pub returns-clause-frames : goal.returns-clause-frames
returns-clause-frames g c = (c.write_pointers-next.ensures.makes (c.args.first + 1 + region_total gib c.args.pages.now) c.requires.next).frames

pub returns-clause-memory : goal.returns-clause-memory
returns-clause-memory g c =
    c.accesses_are_made_in_turn.ensures.memory (g.C.Cells.state c.args.cells.now) (g.C.Cells.state c.write_pointers-next.new.cells) _
    (c.write_pointers-next.ensures.makes (c.args.first + 1 + region_total gib c.args.pages.now) c.requires.next) c.requires.memory

pub returns-clause-makes : goal.returns-clause-makes
returns-clause-makes g c before residency same begun =
    let now : CellsState = g.C.Cells.state c.args.cells.now in
    let after : CellsState = g.C.Cells.state c.write_pointers-next.new.cells in
    let first : ℕ = c.args.first in
    let frame : ℕ = c.args.begun.frame in
    let region : ℕ = c.args.region in
    let P : List PageEntry → Type 0 = λ ps. (has_region gib region ps ≡ true) × (frame ≡ 1 + regions_below gib region ps) × Makes now after (kernel_writes now.cycle (512 * (first + frame)) (λ i. pointer_for (first + 1 + region_total gib ps) mib2 ps (512 * region + i)) 512) in
    let facts : P _ = subst P (sym same) (
      sym c.has_region.ensures ∙ c.if-not-has_region.false,
      c.requires.frame,
      c.write_pointers-next.ensures.makes (first + 1 + region_total gib c.args.pages.now) c.requires.next,
    ) in
    c.tables_are_built_in_turn.ensures.second before now after first region frame residency facts.0 facts.1 begun facts.2
