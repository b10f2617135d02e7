use Rattle.std.proofs.Common.{drop, false}
use Rattle.vx_language.specs.Lexemes.{Piece}
use Rattle.vx_language.specs.Texts.{text_bytes}
use Rattle.vx_code.proofs.Filling.{pieces-on, pieces-over}
use Rattle.vx_code.proofs.data.push_texts.Goals as goal

pub loop-token-preserved : goal.loop-token-preserved
loop-token-preserved c =
    pieces-on (λ (piece : Piece). text_bytes false (drop 1 piece.text)) c.args.tokens.now c.loop-token.token-index c.token-item.result _ _ _ c.loop-token-test.true c.token-item.is c.in_ok-push_text_of.ensures c.loop-token.invariant

pub returns : goal.returns
returns c =
    pieces-over (λ (piece : Piece). text_bytes false (drop 1 piece.text)) c.args.tokens.now c.loop-token.token-index _ _ c.loop-token-test.false c.loop-token.invariant
