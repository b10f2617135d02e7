-- The accesses so far have been done.
use Rattle.std.proofs.Common.{◌≡◌, length}
use Rattle.vx_hart.proofs.Elements.{IsLoading}
use Rattle.vx_hart.proofs.transfers.load_items.Given as goal

abbrev pub invariant-loop-item : goal.invariant-loop-item
invariant-loop-item g l = record {
  fits : g.M.Memory.fits l.memory l.physical;
  rest : g.M.Memory.rest l.memory l.physical ≡ g.M.Memory.rest l.fn.memory l.fn.physical;
  so : IsLoading (g.M.Memory.state l.fn.memory l.fn.physical) (g.M.Memory.state l.memory l.physical) l.fn.v l.v l.items l.rest;
}

abbrev pub decreases-loop-item : goal.decreases-loop-item
decreases-loop-item g l = length l.rest
