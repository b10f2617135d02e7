use Rattle.vx_look.proofs.Lasting.{last-hit}
use Rattle.vx_look.proofs.data_tlb.look_and_keep.Goals as goal

pub returns-clause-last : goal.returns-clause-last
returns-clause-last c =
    last-hit c.args.tlb.now c.args.want c.args.address c.in-Hit.frame c.look-seen.result c.requires.canonical c.in-Hit.is c.look-seen.ensures.below c.look-seen.ensures.value
