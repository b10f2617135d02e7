-- One access more.
use Rattle.std.proofs.Common.{◌∙◌}
use Rattle.vx_hart.proofs.Elements.{storing-more, storing-placed}
use Rattle.vx_hart.proofs.transfers.store_items.Goals as goal

pub store_item-requires-clause-placed : goal.store_item-requires-clause-placed
store_item-requires-clause-placed g c =
    storing-placed c.args.v.now (g.M.Memory.state c.args.memory.now c.args.physical.now) (g.M.Memory.state c.loop-item.memory c.loop-item.physical) c.args.items.now c.loop-item.rest.now c.in-Some.later.now c.in-Some.item.now c.in-Some.ensures.cases.0 c.loop-item.invariant.so

pub loop-item-preserved : goal.loop-item-preserved
loop-item-preserved g c =
    record {
      fits = c.store_item.ensures.fits;
      rest = c.store_item.ensures.rest ∙ c.loop-item.invariant.rest;
      so =
          storing-more c.args.v.now (g.M.Memory.state c.args.memory.now c.args.physical.now) (g.M.Memory.state c.loop-item.memory c.loop-item.physical) (g.M.Memory.state c.store_item.new.memory c.store_item.new.physical) c.args.items.now c.loop-item.rest.now c.in-Some.later.now c.in-Some.item.now c.in-Some.ensures.cases.0 c.store_item.ensures.done c.loop-item.invariant.so;
    }
