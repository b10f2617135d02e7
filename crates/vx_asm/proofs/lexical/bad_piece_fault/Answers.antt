use Rattle.std.proofs.Common.{refl}
use Rattle.vx_asm.proofs.Lexing.{pieces-on, pieces-over}
use Rattle.vx_asm.proofs.lexical.bad_piece_fault.Goals as goal

pub loop-piece-preserved : goal.loop-piece-preserved
loop-piece-preserved c =
    pieces-on c.args.source.now c.loop-piece.at c.in-Some.piece c.loop-piece.found _ _ _ c.in-Some.ensures.piece c.first-found.ensures c.piece_fault.ensures c.loop-piece.invariant

pub returns : goal.returns
returns c = pieces-over c.args.source.now c.loop-piece.at c.loop-piece.found _ (c.in_default.ensures.end.0 refl) c.loop-piece.invariant
