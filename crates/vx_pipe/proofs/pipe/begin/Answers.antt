use Rattle.std.proofs.Common.{sym, ap, ◌∙◌}
use Rattle.vx_episode.specs.Organisation.{Organisation}
use Rattle.vx_pipe.proofs.pipe.begin.Goals as goal

pub returns-clause-banks : goal.returns-clause-banks
returns-clause-banks c machine is = c.clear.ensures.stands machine (ap (λ (m : Organisation). m.banks) is) (ap (λ (m : Organisation). m.bank_time) is ∙ sym c.args.engine.now.same_time)
