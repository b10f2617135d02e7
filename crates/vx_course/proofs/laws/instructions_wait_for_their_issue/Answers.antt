use Rattle.vx_course.proofs.Late.{late-walks, late-accesses, late-happenings, fetch-late}
use Rattle.vx_course.proofs.laws.instructions_wait_for_their_issue.Goals as goal

pub returns-clause-walks : goal.returns-clause-walks
returns-clause-walks c start history s f last late = late-walks start history s f last late

pub returns-clause-accesses : goal.returns-clause-accesses
returns-clause-accesses c start history s f last late = late-accesses start history s f last late

pub returns-clause-happens : goal.returns-clause-happens
returns-clause-happens c start history s f last before late = late-happenings start history s f last late before

pub returns-clause-fetch : goal.returns-clause-fetch
returns-clause-fetch c start history pc begun last few = fetch-late start history pc begun last few
