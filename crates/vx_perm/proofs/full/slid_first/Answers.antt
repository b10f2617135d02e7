-- Of the words that were asked for those that are full.
use Rattle.std.proofs.Common.{◌<◌, ◌≤◌, arith}
use Rattle.vx_perm.proofs.full.slid_first.Goals as goal

pub slid_by_family-requires-clause-within : goal.slid_by_family-requires-clause-within
slid_by_family-requires-clause-within g c k l = let most : c.full_count-count.result ≤ c.args.most = c.full_count-count.ensures.most in c.requires.within k (omega (arith, l, most))

pub slid_by_family-requires-in-16-clause-within : goal.slid_by_family-requires-in-16-clause-within
slid_by_family-requires-in-16-clause-within g c k l = let most : c.full_count-count.result ≤ c.args.most = c.full_count-count.ensures.most in c.requires.within k (omega (arith, l, most))

pub slid_by_family-requires-in-32-clause-within : goal.slid_by_family-requires-in-32-clause-within
slid_by_family-requires-in-32-clause-within g c k l = let most : c.full_count-count.result ≤ c.args.most = c.full_count-count.ensures.most in c.requires.within k (omega (arith, l, most))

pub slid_by_family-requires-in_default-clause-within : goal.slid_by_family-requires-in_default-clause-within
slid_by_family-requires-in_default-clause-within g c k l = let most : c.full_count-count.result ≤ c.args.most = c.full_count-count.ensures.most in c.requires.within k (omega (arith, l, most))
