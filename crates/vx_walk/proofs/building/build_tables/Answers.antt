-- The root, the second-level tables and the leaf tables are all tables.
use Rattle.std.proofs.Common.{◌≡◌, ℕ, ◌+◌, ◌*◌, List, sym, ap, subst, lit<, ◌<◌, ◌∙◌, arith}
use Rattle.vx_base.specs.Pages.{IsPageList}
use Rattle.vx_base.specs.declared.perm.PageEntry.{PageEntry}
use Rattle.vx_cells.specs.Cells.{CellsState, Makes}
use Rattle.vx_tables.specs.Building.{kernel_writes, pointer_for, table_writes}
use Rattle.vx_tables.specs.Residency.{Residency, at_boot, pages_of}
use Rattle.vx_tables.specs.Tables.{gib, regions_below, table_count}
use Rattle.vx_walk.proofs.building.build_tables.Goals as goal

pub write_seconds-frame-requires-clause-memory : goal.write_seconds-frame-requires-clause-memory
write_seconds-frame-requires-clause-memory g c =
    let from : c.args.first + 1 ≡ c.args.first + 1 + regions_below gib 0 c.args.pages.now = omega (arith, c.tables_are_built_in_turn.ensures.none gib c.args.pages.now) in
    c.accesses_are_made_in_turn.ensures.memory (g.C.Cells.state c.args.cells.now) (g.C.Cells.state c.write_pointers-next.new.cells) _
    (c.write_pointers-next.ensures.makes (c.args.first + 1) from) c.frames-frames.ensures.memory

pub write_seconds-frame-requires-clause-room : goal.write_seconds-frame-requires-clause-room
write_seconds-frame-requires-clause-room g c =
    let from : c.args.first + 1 ≡ c.args.first + 1 + regions_below gib 0 c.args.pages.now = omega (arith, c.tables_are_built_in_turn.ensures.none gib c.args.pages.now) in
    omega (arith, c.requires.room, (c.write_pointers-next.ensures.makes (c.args.first + 1) from).frames)

pub write_seconds-frame-requires-clause-next : goal.write_seconds-frame-requires-clause-next
write_seconds-frame-requires-clause-next g c =
    let from : c.args.first + 1 ≡ c.args.first + 1 + regions_below gib 0 c.args.pages.now = omega (arith, c.tables_are_built_in_turn.ensures.none gib c.args.pages.now) in
    let few : 67108863 < gib * 512 = lit< tt in
    omega (arith, c.write_pointers-next.ensures.next (c.args.first + 1) from, c.tables_are_built_in_turn.ensures.all gib 512 c.args.pages.now c.len-pages.ensures.kept few)

pub write_leaf_tables-requires-clause-room : goal.write_leaf_tables-requires-clause-room
write_leaf_tables-requires-clause-room g c =
    let from : c.args.first + 1 ≡ c.args.first + 1 + regions_below gib 0 c.args.pages.now = omega (arith, c.tables_are_built_in_turn.ensures.none gib c.args.pages.now) in
    omega (arith, c.requires.room, (c.write_pointers-next.ensures.makes (c.args.first + 1) from).frames, c.write_seconds-frame.ensures.frames)

pub returns-clause-builds : goal.returns-clause-builds
returns-clause-builds g c =
    let before : CellsState = g.C.Cells.state c.args.cells.now in
    let after : CellsState = g.C.Cells.state c.write_leaf_tables.new.cells in
    let first : ℕ = c.args.first in
    let residency : Residency = at_boot c.args.first_page c.args.pages.now in
    let same : pages_of residency ≡ c.args.pages.now = c.tables_are_built_in_turn.ensures.pages c.args.first_page c.args.pages.now in
    let from : c.args.first + 1 ≡ c.args.first + 1 + regions_below gib 0 c.args.pages.now = omega (arith, c.tables_are_built_in_turn.ensures.none gib c.args.pages.now) in
    let root : Makes before (g.C.Cells.state c.write_pointers-next.new.cells) (kernel_writes before.cycle (512 * first) (λ i. pointer_for (first + 1) gib (pages_of residency) (0 + i)) 512) =
    subst (λ (ps : List PageEntry). Makes before (g.C.Cells.state c.write_pointers-next.new.cells) (kernel_writes before.cycle (512 * first) (λ i. pointer_for (first + 1) gib ps (0 + i)) 512)) (sym same)
    (c.write_pointers-next.ensures.makes (first + 1) from) in
    let one = c.tables_are_built_in_turn.ensures.root before before (g.C.Cells.state c.write_pointers-next.new.cells) first residency (c.tables_are_built_in_turn.ensures.begun before first residency) root in
    let two = c.write_seconds-frame.ensures.makes before residency same one in
    let three = c.write_leaf_tables.ensures.makes before two in
    let count : c.write_leaf_tables.result ≡ table_count (pages_of residency) = c.write_leaf_tables.ensures.count ∙ ap table_count (sym same) in
    c.tables_are_built_in_turn.ensures.built before after first residency c.frames-frames.ensures.memory
    (subst (λ (ps : List PageEntry). IsPageList ps) (sym same) c.len-pages.ensures.kept)
    (omega (arith, c.requires.room, ap table_count same))
    (c.tables_are_built_in_turn.ensures.below c.args.first_page c.args.pages.now 16384 c.requires.pages)
    (subst (λ (t : ℕ). Makes before after (table_writes before.cycle residency first t)) count three)
