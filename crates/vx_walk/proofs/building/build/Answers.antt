-- The cells have the frames of the tables and of the pages.
use Rattle.std.proofs.Common.{ℕ, None, sym, ap, subst, arith}
use Rattle.vx_tables.specs.Residency.{AreBelow, at_boot}
use Rattle.vx_tables.specs.Tables.{table_count}
use Rattle.vx_walk.proofs.building.build.Goals as goal

pub returns-clause-held : goal.returns-clause-held
returns-clause-held g c =
    let built = c.build_tables.ensures.builds in
    let same = c.tables_are_built_in_turn.ensures.pages None c.args.pages.now in
    record {
      memory = built.memory;
      stand = built.stand;
      tables = omega (arith, c.requires, built.makes.frames, ap table_count same);
      pages = subst (λ (frames : ℕ). AreBelow frames (at_boot None c.args.pages.now)) (sym built.makes.frames) (c.tables_are_built_in_turn.ensures.below None c.args.pages.now (g.C.Cells.state c.args.cells.now).frames tt);
    }
