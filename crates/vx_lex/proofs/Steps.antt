-- What one piece adds to the tokens and to the bad pieces.
use Rattle.std.proofs.Common.{◌≡◌, ℕ, zero, suc, true, false, ◌+◌, ◌-◌, ◌<◌, ◌≤◌, List, [], ◌∷◌, length, drop, take, map, cond, refl, sym, ◌∙◌, ap, subst, arith}
use Rattle.std.proofs.Math.ListN.{drop_of_length-le}
use Rattle.std.proofs.lemmas.List.{length-take-le, length-drop}
use Rattle.std.specs.Prelude.{Bool, Some, None, filter, filter_map}
use Rattle.std.specs.List.{cons_option}
use Rattle.vx_language.specs.Faults.{fault_at, first_of}
use Rattle.vx_language.specs.Lexemes.{span_of, first_piece, piece_with, pieces_behind, pieces_from, is_bad, is_bad_kind}
use Rattle.vx_language.specs.Lexemes as language
use Rattle.vx_language.specs.Tokens.{bad_pieces, token_as, token_of}
use Rattle.vx_language.specs.declared.fault.Fault.{Fault}
use Rattle.vx_language.specs.declared.fault.FaultKind.TheVariants.{BadToken}
use Rattle.vx_language.specs.declared.token.PieceKind.TheVariants.{Good, Blank}
use Rattle.vx_language.specs.declared.token.Span.{Span}
use Rattle.vx_language.specs.declared.token.Token.{Token}
use Rattle.vx_language.specs.declared.token.TokenKind.{TokenKind}
use Rattle.vx_lex.specs.Pieces.{piece_in, BeginsAt}
use Rattle.vx_lex.specs.Reading.{bad_token_at}
use Rattle.vx_lex.specs.declared.piece.Piece.{Piece}
use Rattle.vx_lex.proofs.First.{IsFrom, IsFrom-weaken, first_of-first}

-- a piece in a source has the span of the lexer's
pub span-is : (source : List ℕ) (from : ℕ) (piece : Piece) → BeginsAt source from piece → span_of (piece_in source piece) ≡ piece.span
span-is source from piece begins =
    let start : ℕ = piece.span.start in
    let room : piece.span.end - start ≤ length (drop start source) = rw (length-drop start source) (omega (arith, begins.within)) in
    let size : length (take (piece.span.end - start) (drop start source)) ≡ piece.span.end - start = length-take-le (piece.span.end - start) (drop start source) room in
    let end : start + length (take (piece.span.end - start) (drop start source)) ≡ piece.span.end = omega (arith, size, begins.starts, begins.some) in
    ap (λ e. let span : Span = record { start = start; end = e } in span) end

-- a good token is one more, and no bad piece
pub tokens-good : (source : List ℕ) (from : ℕ) (piece : Piece) (kind : TokenKind) → BeginsAt source from piece → piece.kind ≡ Good kind → filter_map token_of (pieces_from source from) ≡ record { kind = kind; span = piece.span } ∷ filter_map token_of (pieces_from source piece.span.end)
tokens-good source from piece kind begins is =
    let rest : List Token = filter_map token_of (pieces_from source piece.span.end) in
    ap (filter_map token_of) begins.pieces
    ∙ (ap (λ k. cons_option (token_as k (span_of (piece_in source piece))) rest) is
    ∙ ap (λ s. record { kind = kind; span = s } ∷ rest) (span-is source from piece begins))

pub tokens-blank : (source : List ℕ) (from : ℕ) (piece : Piece) → BeginsAt source from piece → piece.kind ≡ Blank → filter_map token_of (pieces_from source from) ≡ filter_map token_of (pieces_from source piece.span.end)
tokens-blank source from piece begins is =
    ap (filter_map token_of) begins.pieces
    ∙ ap (λ k. cons_option (token_as k (span_of (piece_in source piece))) (filter_map token_of (pieces_from source piece.span.end))) is

pub bad_pieces-good : (source : List ℕ) (from : ℕ) (piece : Piece) → BeginsAt source from piece → is_bad_kind piece.kind ≡ false → bad_pieces (pieces_from source from) ≡ bad_pieces (pieces_from source piece.span.end)
unfolding bad_pieces
bad_pieces-good source from piece begins is =
    let rest : List language.Piece = filter is_bad (pieces_from source piece.span.end) in
    ap bad_pieces begins.pieces ∙ ap (λ b. map (fault_at BadToken) (cond b (piece_in source piece ∷ rest) rest)) is

bad_pieces-bad : (source : List ℕ) (from : ℕ) (piece : Piece) → BeginsAt source from piece → is_bad_kind piece.kind ≡ true → bad_pieces (pieces_from source from) ≡ bad_token_at piece.span ∷ bad_pieces (pieces_from source piece.span.end)
unfolding bad_pieces
bad_pieces-bad source from piece begins is =
    let rest : List language.Piece = filter is_bad (pieces_from source piece.span.end) in
    ap bad_pieces begins.pieces
    ∙ (ap (λ b. map (fault_at BadToken) (cond b (piece_in source piece ∷ rest) rest)) is
    ∙ ap (λ s. bad_token_at s ∷ map (fault_at BadToken) rest) (span-is source from piece begins))

-- bad pieces start at the offset of the first byte or behind it
one-more : (piece : language.Piece) (pieces : List language.Piece) (bad : Bool) → is_bad piece ≡ bad → IsFrom (piece.start + 1) (first_of (bad_pieces pieces)) → IsFrom piece.start (first_of (bad_pieces (piece ∷ pieces)))
unfolding bad_pieces
one-more piece pieces true is from =
    let here : piece.start ≤ piece.start = omega arith in
    let same : bad_pieces (piece ∷ pieces) ≡ fault_at BadToken piece ∷ bad_pieces pieces = ap (λ b. map (fault_at BadToken) (cond b (piece ∷ filter is_bad pieces) (filter is_bad pieces))) is in
    let first : first_of (bad_pieces (piece ∷ pieces)) ≡ Some (fault_at BadToken piece) = ap first_of same ∙ first_of-first (fault_at BadToken piece) (bad_pieces pieces) (piece.start + 1) (omega arith) from in
    subst (IsFrom piece.start) (sym first) here
one-more piece pieces false is from =
    let same : bad_pieces (piece ∷ pieces) ≡ bad_pieces pieces = ap (λ b. map (fault_at BadToken) (cond b (piece ∷ filter is_bad pieces) (filter is_bad pieces))) is in
    let P : List Fault → Type 0 = λ faults. IsFrom piece.start (first_of faults) in
    subst P (sym same) (IsFrom-weaken piece.start (piece.start + 1) (first_of (bad_pieces pieces)) (omega arith) from)

pub bad_pieces-from : (taken start : ℕ) (bytes : List ℕ) → IsFrom start (first_of (bad_pieces (pieces_behind taken start bytes)))
unfolding pieces_behind bad_pieces first_of first_piece piece_with
bad_pieces-from taken start [] = tt
bad_pieces-from (suc taken) start (byte ∷ rest) = IsFrom-weaken start (start + 1) _ (omega arith) (bad_pieces-from taken (start + 1) rest)
bad_pieces-from zero start (byte ∷ rest) =
    let piece : language.Piece = first_piece byte start (byte ∷ rest) in
    let taken : ℕ = length piece.text - 1 in
    one-more piece (pieces_behind taken (start + 1) rest) (is_bad piece) refl (bad_pieces-from taken (start + 1) rest)

-- the first bad piece is the first of them
pub first_bad_piece : (source : List ℕ) (from : ℕ) (piece : Piece) → BeginsAt source from piece → is_bad_kind piece.kind ≡ true → first_of (bad_pieces (pieces_from source from)) ≡ Some (bad_token_at piece.span)
first_bad_piece source from piece begins is =
    let below : piece.span.start < piece.span.end = omega (arith, begins.starts, begins.some) in
    ap first_of (bad_pieces-bad source from piece begins is)
    ∙ first_of-first (bad_token_at piece.span) (bad_pieces (pieces_from source piece.span.end)) piece.span.end below (bad_pieces-from 0 piece.span.end (drop piece.span.end source))

-- at the end there is no piece
pub pieces_from-end : (source : List ℕ) (from : ℕ) → length source ≤ from → pieces_from source from ≡ []
unfolding pieces_behind
pieces_from-end source from past = ap (pieces_behind 0 from) (drop_of_length-le source past)

-- faults without a first are none
pub no-first : (faults : List Fault) → first_of faults ≡ None → faults ≡ []
unfolding first_of
no-first [] none = refl
no-first (fault ∷ faults) none = absurd cc
