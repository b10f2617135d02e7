-- The bytes so far have been appended, and there is room for the rest.
use Rattle.std.proofs.Common.{◌≡◌, ◌+◌, ◌-◌, ◌≤◌, ◌++◌, vec_len, vec_capacity}
use Rattle.vx_base.specs.declared.machine.Want.TheVariants.{Load}
use Rattle.vx_cells.specs.Cells.{IsMemory}
use Rattle.vx_flat.specs.Memory.{bytes_at}
use Rattle.vx_paged.specs.Framed.{shown}
use Rattle.vx_paged.specs.Granted.{Serves}
use Rattle.vx_paged.proofs.paged.append_readable.Given as goal

abbrev pub invariant-loop-done : goal.invariant-loop-done
invariant-loop-done g l = record {
  within : l.done ≤ l.count;
  serves : Serves l.pages Load l.last.number l.last.frame;
  memory : IsMemory (g.C.Cells.state l.cells);
  frames : (g.C.Cells.state l.cells).frames ≡ (g.C.Cells.state l.initial.cells).frames;
  cycle : (g.C.Cells.state l.cells).cycle ≡ (g.C.Cells.state l.initial.cells).cycle;
  contents : (g.C.Cells.state l.cells).contents ≡ (g.C.Cells.state l.initial.cells).contents;
  appended : l.out.items ≡ l.initial.out.items ++ bytes_at (shown l.pages (g.C.Cells.state l.initial.cells).contents) l.address l.done;
  room : vec_len l.out + l.count ≤ vec_capacity l.out + l.done;
  capacity : vec_capacity l.initial.out ≤ vec_capacity l.out;
}

abbrev pub decreases-loop-done : goal.decreases-loop-done
decreases-loop-done g l = l.count - l.done
