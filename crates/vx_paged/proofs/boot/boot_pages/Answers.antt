-- The tables are built, the pages placed behind them, and what they show is the image.
use Rattle.std.proofs.Common.{ℕ, ◌+◌, sym, ap, subst, ◌∙◌, arith}
use Rattle.vx_paged.specs.Framed.{IsWithin, entries_of}
use Rattle.vx_paged.proofs.Booted.{boots, count_of_tables, length_of_pages}
use Rattle.vx_paged.proofs.InTurn.{entries-in_turn, IsWithin-in_turn}
use Rattle.vx_paged.proofs.boot.boot_pages.Goals as goal

pub build_present-requires-clause-room : goal.build_present-requires-clause-room
build_present-requires-clause-room g c =
    let count = count_of_tables c.pages_are_granted.ensures.frames c.args.image.now.pages c.in_ok-pages.pages c.in_ok-pages.ensures in
    omega (arith, count, c.requires)

pub place_pages-requires-clause-pages : goal.place_pages-requires-clause-pages
place_pages-requires-clause-pages g c =
    ap entries_of c.in_ok-placement.ensures ∙ entries-in_turn _ c.in_ok-pages.pages ∙ c.in_ok-pages.ensures

pub place_pages-requires-clause-within : goal.place_pages-requires-clause-within
place_pages-requires-clause-within g c =
    let page : ℕ = c.args.first + c.table_frames.result in
    let long = length_of_pages c.args.image.now.pages c.in_ok-pages.pages c.in_ok-pages.ensures in
    let frames = (g.C.Cells.state c.build_present.new.cells).frames in
    subst (IsWithin frames) (sym c.in_ok-placement.ensures)
    (IsWithin-in_turn page c.in_ok-pages.pages frames (omega (arith, long, c.table_frames.ensures, c.build_present.ensures.builds.makes.frames, c.requires)))

pub returns-clause-boots : goal.returns-clause-boots
returns-clause-boots g c =
    boots c.pages_are_granted.ensures.frames c.nothing_else_differs.ensures.itself c.accesses_are_made_in_turn.ensures.joined
    (g.C.Cells.state c.args.cells.now) (g.C.Cells.state c.build_present.new.cells) (g.C.Cells.state c.place_pages.new.cells) c.args.first c.args.image.now.pages
    c.in_ok-pages.pages (c.args.first + c.table_frames.result) c.in_ok-placement.placement
    (record {
      memory = c.frames-frames.ensures.memory;
      room = c.requires;
      listed = c.len-count.ensures.kept;
      entries_are = c.in_ok-pages.ensures;
      page_is = ap (λ (n : ℕ). c.args.first + n) c.table_frames.ensures;
      placed = c.in_ok-placement.ensures;
      builds = c.build_present.ensures.builds;
      held = c.build_present.ensures.held;
      makes = c.place_pages.ensures.makes;
      memory_after = c.place_pages.ensures.memory;
      rest = c.place_pages.ensures.rest;
      is_shown = c.place_pages.ensures.shown;
    })
