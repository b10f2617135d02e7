use Rattle.std.proofs.Common.{length}
use Rattle.vx_source.specs.Listing.{listing}
use Rattle.vx_dis.proofs.Written.{IsBefore}
use Rattle.vx_dis.proofs.listing.write_listing.Given as goal

-- all but the listing of the rest was put
abbrev pub invariant-loop-piece : goal.invariant-loop-piece
invariant-loop-piece g l = IsBefore (g.K.Sink.state l.fn.out) (g.K.Sink.state l.out) (listing l.bytes) (listing l.rest)

abbrev pub decreases-loop-piece : goal.decreases-loop-piece
decreases-loop-piece g l = length l.rest
