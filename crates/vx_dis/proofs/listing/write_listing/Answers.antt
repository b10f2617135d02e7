use Rattle.std.proofs.Common.{[], append-nil}
use Rattle.vx_source.specs.Listing.{listing}
use Rattle.vx_dis.proofs.Written.{IsBefore-more, IsBefore-stopped, IsBefore-handed}
use Rattle.vx_dis.proofs.Listings.{listing-piece}
use Rattle.vx_dis.proofs.listing.write_listing.Goals as goal

pub returns-in_err-write_piece-clause-stopped : goal.returns-in_err-write_piece-clause-stopped
returns-in_err-write_piece-clause-stopped g c =
    let cut = c.in-Some.ensures.cases in
    let whole = listing-piece c.loop-piece.rest.now c.in-Some.piece.now c.in-Some.later.now cut.1 cut.2 in
    IsBefore-handed _ _ _ _ (listing c.in-Some.piece.now) (listing c.in-Some.later.now) c.in_err-write_piece.field-0.0 _ c.from_residual-in_err-write_piece.ensures.1 (rw whole at c.loop-piece.invariant) c.in_err-write_piece.ensures.stopped

pub loop-piece-preserved : goal.loop-piece-preserved
loop-piece-preserved g c =
    let cut = c.in-Some.ensures.cases in
    let whole = listing-piece c.loop-piece.rest.now c.in-Some.piece.now c.in-Some.later.now cut.1 cut.2 in
    IsBefore-more _ _ _ _ (listing c.in-Some.piece.now) (listing c.in-Some.later.now) (rw whole at c.loop-piece.invariant) c.in_ok-write_piece.ensures.written

pub returns-clause-stopped : goal.returns-clause-stopped
returns-clause-stopped g c =
    IsBefore-stopped _ _ _ _ (listing c.loop-piece.rest.now) [] _ (rw (← append-nil (listing c.loop-piece.rest.now)) at c.loop-piece.invariant) c.write_piece-2.ensures.stopped
