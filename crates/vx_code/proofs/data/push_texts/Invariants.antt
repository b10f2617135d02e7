use Rattle.std.proofs.Common.{◌≡◌, ◌++◌, drop, flat_map, false}
use Rattle.vx_language.specs.Lexemes.{Piece}
use Rattle.vx_language.specs.Texts.{text_bytes}
use Rattle.vx_statement.specs.Lexemes.{pieces_of}
use Rattle.vx_code.proofs.data.push_texts.Given as goal

abbrev pub invariant-loop-token : goal.invariant-loop-token
invariant-loop-token l =
    l.out.items ++ flat_map (λ (piece : Piece). text_bytes false (drop 1 piece.text)) (pieces_of (drop l.token-index l.tokens)) ≡ l.fn.out.items ++ flat_map (λ (piece : Piece). text_bytes false (drop 1 piece.text)) (pieces_of l.tokens)
