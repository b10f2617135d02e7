-- One access more.
use Rattle.std.proofs.Common.{◌∙◌}
use Rattle.vx_hart.proofs.Elements.{loading-more, loading-placed}
use Rattle.vx_hart.proofs.transfers.load_items.Goals as goal

pub load_item-requires-clause-placed : goal.load_item-requires-clause-placed
load_item-requires-clause-placed g c =
    loading-placed (g.M.Memory.state c.args.memory.now c.args.physical.now) (g.M.Memory.state c.loop-item.memory c.loop-item.physical) c.args.v.now c.loop-item.v c.args.items.now c.loop-item.rest.now c.in-Some.later.now c.in-Some.item.now c.in-Some.ensures.cases.0 c.loop-item.invariant.so

pub loop-item-preserved : goal.loop-item-preserved
loop-item-preserved g c =
    record {
      fits = c.load_item.ensures.fits;
      rest = c.load_item.ensures.rest ∙ c.loop-item.invariant.rest;
      so =
          loading-more (g.M.Memory.state c.args.memory.now c.args.physical.now) (g.M.Memory.state c.loop-item.memory c.loop-item.physical) (g.M.Memory.state c.load_item.new.memory c.load_item.new.physical) c.args.v.now c.loop-item.v c.load_item.new.v c.args.items.now c.loop-item.rest.now c.in-Some.later.now c.in-Some.item.now c.in-Some.ensures.cases.0 c.load_item.ensures.memory c.load_item.ensures.loaded c.loop-item.invariant.so;
    }
