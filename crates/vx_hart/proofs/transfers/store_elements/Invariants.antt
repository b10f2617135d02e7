-- The elements so far have been stored.
use Rattle.std.proofs.Common.{◌≡◌, ◌-◌}
use Rattle.vx_vaddr.specs.Views.{movement_with}
use Rattle.vx_hart.proofs.Elements.{IsStored}
use Rattle.vx_hart.proofs.transfers.store_elements.Given as goal

abbrev pub invariant-loop-i : goal.invariant-loop-i
invariant-loop-i g l = record {
  fits : g.M.Memory.fits l.memory l.physical;
  rest : g.M.Memory.rest l.memory l.physical ≡ g.M.Memory.rest l.fn.memory l.fn.physical;
  so : IsStored (movement_with l.pattern l.v.words) l.end l.v (g.M.Memory.state l.fn.memory l.fn.physical) (g.M.Memory.state l.memory l.physical) l.i;
}

abbrev pub decreases-loop-i : goal.decreases-loop-i
decreases-loop-i g l = l.end - l.i
