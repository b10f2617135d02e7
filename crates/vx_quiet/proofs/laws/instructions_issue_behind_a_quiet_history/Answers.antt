use Rattle.vx_quiet.proofs.Issue.{issue-at, issue-of}
use Rattle.vx_quiet.proofs.laws.instructions_issue_behind_a_quiet_history.Goals as goal

pub returns-clause-at : goal.returns-clause-at
returns-clause-at c start history retired fetched f quiet one = issue-at start history retired fetched f one quiet

pub returns-clause-issued : goal.returns-clause-issued
returns-clause-issued c start history s f retired fetched quiet one is = issue-of start history retired fetched f _ one quiet is
