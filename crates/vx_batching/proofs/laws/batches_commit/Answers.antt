use Rattle.vx_episode.specs.Commits.{not_last}
use Rattle.vx_batching.proofs.Ending.{reaches}
use Rattle.vx_batching.proofs.Happening.{reached-more}
use Rattle.vx_batching.proofs.Slicing.{none-ends, more-ends, any-behind, finds-behind, goes-behind, finds-end, ends-there}
use Rattle.vx_batching.proofs.laws.batches_commit.Goals as goal

pub returns-clause-reaches : goal.returns-clause-reaches
returns-clause-reaches c start history s retired issued f last own b rest looked committed before done issue so =
    reaches start history s retired issued f issue last own b rest looked committed before done so

pub returns-clause-more : goal.returns-clause-more
returns-clause-more c start history retired issued f last own rest looked committed before done e so = reached-more e last own committed so.committed_is

pub returns-clause-ends_more : goal.returns-clause-ends_more
returns-clause-ends_more c start history retired issued f last own rest looked committed before done until e so = more-ends e until committed last own so.committed_is

pub returns-clause-none_ends : goal.returns-clause-none_ends
returns-clause-none_ends c start history retired issued f own rest looked committed before done until e so few = none-ends e until committed few own so.all_committed

pub returns-clause-none_before_ends : goal.returns-clause-none_before_ends
returns-clause-none_before_ends c start history retired issued f own rest looked committed before done until e so few = none-ends e until before few (not_last own) so.committed_before

pub returns-clause-any_ends : goal.returns-clause-any_ends
returns-clause-any_ends c until happened follows h = any-behind until happened follows h

pub returns-clause-finds : goal.returns-clause-finds
returns-clause-finds c until happened follows h = finds-behind until happened follows h

pub returns-clause-goes_on : goal.returns-clause-goes_on
returns-clause-goes_on c until happened follows h = goes-behind until happened follows h

pub returns-clause-finds_end : goal.returns-clause-finds_end
returns-clause-finds_end c until happened follows h none is = finds-end until happened follows h none is

pub returns-clause-ends_there : goal.returns-clause-ends_there
returns-clause-ends_there c until happened follows h none is = ends-there until happened follows h none is
