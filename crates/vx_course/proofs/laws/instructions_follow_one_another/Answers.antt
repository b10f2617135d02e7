use Rattle.vx_course.proofs.Behind.{issued-by, waits-behind}
use Rattle.vx_episode.specs.History.{last_retire}
use Rattle.vx_course.proofs.laws.instructions_follow_one_another.Goals as goal

pub returns-clause-issued : goal.returns-clause-issued
returns-clause-issued c start history s f retired before after h parts = issued-by start history s f retired before after h parts

pub returns-clause-waits : goal.returns-clause-waits
returns-clause-waits c start history s t f g retired before after h quiet one parts =
    waits-behind start history s f
    (record {
      quiet = λ completed is. c.a_quiet_history_goes_on.ensures.goes_on start history s f retired completed quiet one is;
      never = λ why stop. c.instructions_without_accesses_stop.ensures.completed start history s f why stop;
    })
    one (last_retire start.cycle history) before after h parts t g
