-- Of the words that were asked for those that are full.
use Rattle.std.proofs.Common.{◌<◌, ◌≤◌, arith}
use Rattle.vx_perm.proofs.gathers.gathered_first.Goals as goal

pub gathered_by_family-requires-clause-within : goal.gathered_by_family-requires-clause-within
gathered_by_family-requires-clause-within c k l = let most : c.full_count-count.result ≤ c.args.most = c.full_count-count.ensures.most in c.requires.within k (omega (arith, l, most))

pub gathered_by_family-requires-in-16-clause-within : goal.gathered_by_family-requires-in-16-clause-within
gathered_by_family-requires-in-16-clause-within c k l = let most : c.full_count-count.result ≤ c.args.most = c.full_count-count.ensures.most in c.requires.within k (omega (arith, l, most))

pub gathered_by_family-requires-in-32-clause-within : goal.gathered_by_family-requires-in-32-clause-within
gathered_by_family-requires-in-32-clause-within c k l = let most : c.full_count-count.result ≤ c.args.most = c.full_count-count.ensures.most in c.requires.within k (omega (arith, l, most))

pub gathered_by_family-requires-in_default-clause-within : goal.gathered_by_family-requires-in_default-clause-within
gathered_by_family-requires-in_default-clause-within c k l = let most : c.full_count-count.result ≤ c.args.most = c.full_count-count.ensures.most in c.requires.within k (omega (arith, l, most))
