use Rattle.vx_serve.proofs.Agreeing.{agree-served}
use Rattle.vx_serve.proofs.Known.{are-together, are-cut}
use Rattle.vx_serve.proofs.laws.what_is_known_is_enough.Goals as goal

pub returns-clause-agree : goal.returns-clause-agree
returns-clause-agree c last machine earlier fate other accesses agree one two = agree-served last machine earlier fate other accesses agree one two

pub returns-clause-together : goal.returns-clause-together
returns-clause-together c last fate accesses h = are-together last fate accesses h

pub returns-clause-cut : goal.returns-clause-cut
returns-clause-cut c last fate accesses all = are-cut last fate accesses all
