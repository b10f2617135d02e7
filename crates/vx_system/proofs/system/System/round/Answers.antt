use Rattle.vx_system.proofs.Rounds.{Moves-round}
use Rattle.vx_system.proofs.system.System.round.Goals as goal

pub returns-clause-round : goal.returns-clause-round
returns-clause-round g c m h =
    let one = c.take-until.ensures.moves m h in
    let two = c.go-ended.ensures.played _ one.stands in
    Moves-round _ _ _ _ _ _ _ _ _ m one c.take-until.ensures.end two c.finish.ensures.finished

pub returns-clause-settings : goal.returns-clause-settings
returns-clause-settings g c = (returns-clause-round g c c.requires.stands.machine c.requires.stands.stands).settings
