use Rattle.vx_tables.proofs.Granted.{leaf_permitted, denied_forbidden, count_same}
use Rattle.vx_tables.proofs.laws.pages_are_granted.Goals as goal

pub returns-clause-leaf : goal.returns-clause-leaf
returns-clause-leaf c residency memory address frame perm dirty want is listed leaf = leaf_permitted residency memory address frame perm dirty want is listed leaf

pub returns-clause-denied : goal.returns-clause-denied
returns-clause-denied c residency memory address want is denied = denied_forbidden residency memory address want is denied

pub returns-clause-frames : goal.returns-clause-frames
returns-clause-frames c residency memory is = count_same residency memory is
