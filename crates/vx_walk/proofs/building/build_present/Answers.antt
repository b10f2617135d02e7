-- The cells have the frames of the tables and of the pages.
use Rattle.std.proofs.Common.{ℕ, ◌+◌, ◌≤◌, length, Some, sym, ap, subst, arith}
use Rattle.vx_tables.specs.Residency.{AreBelow, at_boot}
use Rattle.vx_tables.specs.Tables.{table_count}
use Rattle.vx_walk.proofs.building.build_present.Goals as goal

pub returns-clause-held : goal.returns-clause-held
returns-clause-held g c =
    let built = c.build_tables.ensures.builds in
    let same = c.tables_are_built_in_turn.ensures.pages (Some c.args.frame) c.args.pages.now in
    let few : c.args.frame + length c.args.pages.now ≤ (g.C.Cells.state c.args.cells.now).frames = c.requires.pages in
    record {
      memory = built.memory;
      stand = built.stand;
      tables = omega (arith, c.requires.room, built.makes.frames, ap table_count same);
      pages = subst (λ (frames : ℕ). AreBelow frames (at_boot (Some c.args.frame) c.args.pages.now)) (sym built.makes.frames) (c.tables_are_built_in_turn.ensures.below (Some c.args.frame) c.args.pages.now (g.C.Cells.state c.args.cells.now).frames few);
    }
