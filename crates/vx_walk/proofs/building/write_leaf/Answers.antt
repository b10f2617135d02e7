-- The leaf table of the region, behind those before it.
use Rattle.std.proofs.Common.{◌≡◌, true, ◌+◌, List, sym, subst, ◌∙◌}
use Rattle.vx_base.specs.declared.perm.PageEntry.{PageEntry}
use Rattle.vx_cells.specs.Cells.{CellsState}
use Rattle.vx_tables.specs.Residency.{at_boot}
use Rattle.vx_tables.specs.Tables.{gib, mib2, has_region, region_total, regions_below}
use Rattle.vx_walk.proofs.building.write_leaf.Goals as goal

pub returns-clause-makes : goal.returns-clause-makes
returns-clause-makes g c before begun =
    let now : CellsState = g.C.Cells.state c.args.cells.now in
    let after : CellsState = g.C.Cells.state c.write_leaves.new.cells in
    let same = c.tables_are_built_in_turn.ensures.pages c.args.first_page c.args.pages.now in
    let P : List PageEntry → Type 0 = λ ps. (has_region mib2 c.args.region ps ≡ true) × (c.args.frame ≡ 1 + region_total gib ps + regions_below mib2 c.args.region ps) in
    let facts : P _ = subst P (sym same) (sym c.has_region.ensures ∙ c.if-not-has_region.false, c.requires.frame) in
    c.tables_are_built_in_turn.ensures.leaf before now after c.args.first c.args.region c.args.frame (at_boot c.args.first_page c.args.pages.now) facts.0 facts.1 begun c.write_leaves.ensures
