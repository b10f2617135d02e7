-- One access more that doesn't fail.
use Rattle.std.proofs.Common.{ℕ, IsTrue, sym, ap, ◌∙◌, subst}
use Rattle.vx_flat.specs.Checks.{cause_of}
use Rattle.vx_scalar.specs.Operands.{is_access_width}
use Rattle.vx_hart.proofs.Elements.{searched-more, searched-width}
use Rattle.vx_hart.proofs.failures.first_failing.Goals as goal

pub cause_of-requires-clause-width : goal.cause_of-requires-clause-width
cause_of-requires-clause-width g c = subst (λ (n : ℕ). IsTrue (is_access_width n)) (sym c.from.ensures) (searched-width (g.M.Memory.state c.args.memory.now c.args.physical.now) (g.M.Memory.state c.loop-item.memory c.loop-item.physical) c.args.want c.args.items.now c.loop-item.rest.now c.in-Some.later.now c.in-Some.item.now c.in-Some.ensures.cases.0 c.loop-item.invariant.so)

pub loop-item-preserved : goal.loop-item-preserved
loop-item-preserved g c =
    record {
      fits = c.cause_of.ensures.fits;
      rest = c.cause_of.ensures.rest ∙ c.loop-item.invariant.rest;
      so =
          searched-more (g.M.Memory.state c.args.memory.now c.args.physical.now) (g.M.Memory.state c.loop-item.memory c.loop-item.physical) (g.M.Memory.state c.cause_of.new.memory c.cause_of.new.physical) c.args.want c.args.items.now c.loop-item.rest.now c.in-Some.later.now c.in-Some.item.now c.in-Some.ensures.cases.0 c.cause_of.ensures.memory
          (c.in_default-cause_of.ensures.cause ∙ ap (λ (n : ℕ). cause_of (g.M.Memory.state c.loop-item.memory c.loop-item.physical) c.args.want c.in-Some.item.now.address n) c.from.ensures)
          c.loop-item.invariant.so;
    }
