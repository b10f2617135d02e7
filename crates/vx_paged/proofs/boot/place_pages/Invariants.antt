-- The pages so far.
use Rattle.std.proofs.Common.{◌≡◌, ℕ, ◌<◌, get_or}
use Rattle.vx_cells.specs.Cells.{IsMemory, Makes}
use Rattle.vx_paged.specs.Booting.{page_at, page_writes}
use Rattle.vx_paged.proofs.boot.place_pages.Given as goal

abbrev pub invariant-loop-i : goal.invariant-loop-i
invariant-loop-i g l = record {
  memory : IsMemory (g.C.Cells.state l.cells);
  frames : (g.C.Cells.state l.cells).frames ≡ (g.C.Cells.state l.initial.cells).frames;
  makes : Makes (g.C.Cells.state l.initial.cells) (g.C.Cells.state l.cells) (page_writes (g.C.Cells.state l.initial.cells).cycle l.placement l.image.pages l.i);
  small : (k : ℕ) → k < l.i → (j : ℕ) → get_or (page_at l.image.pages k).bytes j 0 < 256;
}
