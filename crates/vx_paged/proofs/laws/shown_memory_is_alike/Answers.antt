use Rattle.vx_paged.proofs.Joined.{alike_there, alike_back, shown-whole}
use Rattle.vx_paged.proofs.laws.shown_memory_is_alike.Goals as goal

pub returns-clause-there : goal.returns-clause-there
returns-clause-there c placement registers cells first residency s whole is shows = alike_there placement registers cells first residency s is whole shows

pub returns-clause-back : goal.returns-clause-back
returns-clause-back c placement registers cells first residency s is pc x v held alone alike = alike_back placement registers cells first residency s is pc x v held alone alike

pub returns-clause-whole : goal.returns-clause-whole
returns-clause-whole c = shown-whole
