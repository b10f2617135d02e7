use Rattle.vx_ending.proofs.Parts.{completed-all, process-all, commits-all, changes-all, end-all}
use Rattle.vx_ending.proofs.laws.ends_have_parts.Goals as goal

pub returns-clause-completed : goal.returns-clause-completed
returns-clause-completed c start until from n history now e before after last fetched way is parts =
    completed-all start until from n history now e way is before after last parts

pub returns-clause-process : goal.returns-clause-process
returns-clause-process c start until from n history now e before after last fetched way is parts =
    process-all start until from n history now e way is before after last parts

pub returns-clause-commits : goal.returns-clause-commits
returns-clause-commits c start until from n history now e before after last fetched way is parts =
    commits-all start until from n history now e way is before after last parts

pub returns-clause-changes : goal.returns-clause-changes
returns-clause-changes c start until from n history now e before after last fetched way is parts =
    changes-all start until from n history now e way is before after last parts

pub returns-clause-whole : goal.returns-clause-whole
returns-clause-whole c start until from n history now e before after last fetched way is parts =
    end-all start until from n history now e way is before after last parts fetched
