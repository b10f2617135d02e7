use Rattle.std.proofs.Common.{sym, subst, length}
use Rattle.vx_look.proofs.Caught.{look-below}
use Rattle.vx_look.proofs.data_tlb.look.Goals as goal
use Rattle.vx_look.specs.Fates.{IsHitBelow}
use Rattle.vx_tables.specs.declared.look.Look.{Look}

pub returns-clause-below : goal.returns-clause-below
returns-clause-below c =
    subst (λ (l : Look). IsHitBelow 16384 l) (sym (c.look.ensures c.requires.fills c.requires.stands))
    (look-below (length c.args.tlb.now) 16384 c.args.page c.args.want c.requires.fills c.requires.below)
