use Rattle.std.proofs.Common.{◌+◌, ap, ◌∙◌}
use Rattle.std.specs.Prelude.{ℕ}
use Rattle.vx_episode.specs.Commits.{happenings, happenings_of}
use Rattle.vx_episode.specs.History.{last_retire}
use Rattle.vx_ending.specs.Counts.{completed_in}
use Rattle.vx_ending.proofs.Changing.{changes-some}
use Rattle.vx_ending.proofs.Counting.{commits-append, completed-append, completed-once, changes-append}
use Rattle.vx_ending.proofs.laws.happenings_are_counted.Goals as goal

pub returns-clause-commits : goal.returns-clause-commits
returns-clause-commits c some others = commits-append some others

pub returns-clause-completed : goal.returns-clause-completed
returns-clause-completed c some others = completed-append some others

pub returns-clause-changes : goal.returns-clause-changes
returns-clause-changes c some others = changes-append some others

pub returns-clause-next_commits : goal.returns-clause-next_commits
returns-clause-next_commits c start history e = commits-append (happenings start history) (happenings_of (last_retire start history) e)

pub returns-clause-next_completed : goal.returns-clause-next_completed
returns-clause-next_completed c start history e =
    completed-append (happenings start history) (happenings_of (last_retire start history) e)
    ∙ ap (λ (n : ℕ). completed_in (happenings start history) + n) (completed-once e (last_retire start history))

pub returns-clause-next_changes : goal.returns-clause-next_changes
returns-clause-next_changes c start history e = changes-append (happenings start history) (happenings_of (last_retire start history) e)

pub returns-clause-once : goal.returns-clause-once
returns-clause-once c e before = completed-once e before

pub returns-clause-of_one : goal.returns-clause-of_one
returns-clause-of_one c e before some others parts = changes-some e before some others parts
