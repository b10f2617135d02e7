-- The words so far.
use Rattle.std.proofs.Common.{◌≡◌, ◌*◌}
use Rattle.vx_cells.specs.Cells.{Makes}
use Rattle.vx_paged.specs.Booting.{word_in}
use Rattle.vx_tables.specs.Building.{kernel_writes}
use Rattle.vx_paged.proofs.boot.write_page.Given as goal

abbrev pub invariant-loop-w : goal.invariant-loop-w
invariant-loop-w g l = record {
  frames : (g.C.Cells.state l.cells).frames ≡ (g.C.Cells.state l.initial.cells).frames;
  makes : Makes (g.C.Cells.state l.initial.cells) (g.C.Cells.state l.cells) (kernel_writes (g.C.Cells.state l.initial.cells).cycle (512 * l.frame) (word_in l.bytes) l.w);
}
