-- The bad pieces of a source, one after the other.
use Rattle.std.proofs.Common.{◌≡◌, ℕ, ◌+◌, ◌-◌, ◌≤◌, length, arith, Bool, true, false, cond, List, [], ◌∷◌, ◌++◌, map, filter, drop, length-drop, Option, Some, None, refl, sym, ap, ◌∙◌}
use Rattle.std.specs.Prelude.{slice_range}
use Rattle.std.proofs.lemmas.List.{drop_all, length-take-le}
use Rattle.vx_language.specs.Faults.{fault_at, first_of, earlier, earliest}
use Rattle.vx_language.specs.Lexemes.{Piece, is_bad, is_bad_kind, pieces_from, pieces_behind}
use Rattle.vx_language.specs.Tokens.{bad_pieces}
use Rattle.vx_language.specs.declared.fault.Fault.{Fault}
use Rattle.vx_language.specs.declared.fault.FaultKind.TheVariants.{BadToken}
use Rattle.vx_lex.specs.Pieces.{piece_in, BeginsAt}
use Rattle.vx_lex.specs.declared.piece as lexer
use Rattle.vx_statement.proofs.Firsts.{first-twice, first_of-append, first-none}

bad-cut : (b : Bool) (p : Piece) (ps : List Piece) → map (fault_at BadToken) (cond b (p ∷ ps) ps) ≡ map (fault_at BadToken) (cond b (p ∷ []) []) ++ map (fault_at BadToken) ps
bad-cut true p ps = refl
bad-cut false p ps = refl

bad-first : (piece : Piece) (rest : List Piece) → bad_pieces (piece ∷ rest) ≡ bad_pieces (piece ∷ []) ++ bad_pieces rest
unfolding bad_pieces
bad-first piece rest = bad-cut (is_bad piece) piece (filter is_bad rest)

by-bad : (piece : Piece) (b : Bool) → cond b (Some (fault_at BadToken piece)) None ≡ first_of (map (fault_at BadToken) (cond b (piece ∷ []) []))
unfolding first_of earlier
by-bad piece true = refl
by-bad piece false = refl

whole-span : (source : List ℕ) (start end : ℕ) → start ≤ end → end ≤ length source → start + length (slice_range source start end) ≡ end
whole-span source start end order within =
    let room : end - start ≤ length (drop start source) = omega (arith, length-drop start source) in
    omega (arith, length-take-le (end - start) (drop start source) room)

pub piece-judged : (source : List ℕ) (piece : lexer.Piece.Piece) (b : Bool) → piece.span.start ≤ piece.span.end → piece.span.end ≤ length source → b ≡ is_bad_kind piece.kind → cond b (Some (let f : Fault = record { kind = BadToken; span = piece.span } in f)) None ≡ first_of (bad_pieces (piece_in source piece ∷ []))
unfolding bad_pieces
piece-judged source piece b order within e =
    let own : Fault = record { kind = BadToken; span = piece.span } in
    let same : own ≡ fault_at BadToken (piece_in source piece) = ap (λ (n : ℕ). let f : Fault = record { kind = BadToken; span = record { start = piece.span.start; end = n } } in f) (sym (whole-span source piece.span.start piece.span.end order within)) in
    ap (λ (f : Fault). cond b (Some f) None) same ∙ rw e (by-bad (piece_in source piece) (is_bad (piece_in source piece)))

pub pieces-on : (source : List ℕ) (at : ℕ) (piece : lexer.Piece.Piece) (found fault new whole : Option Fault) → BeginsAt source at piece → new ≡ earliest found fault → fault ≡ first_of (bad_pieces (piece_in source piece ∷ [])) → earliest found (first_of (bad_pieces (pieces_from source at))) ≡ whole → earliest new (first_of (bad_pieces (pieces_from source piece.span.end))) ≡ whole
pieces-on source at piece found fault new whole begins joined judged before =
    let rest = pieces_from source piece.span.end in
    let own = piece_in source piece in
    ap (λ (o : Option Fault). earliest o (first_of (bad_pieces rest))) (joined ∙ ap (earliest found) judged)
    ∙ first-twice found (first_of (bad_pieces (own ∷ []))) (first_of (bad_pieces rest))
    ∙ ap (earliest found) (sym (first_of-append (bad_pieces (own ∷ [])) (bad_pieces rest)))
    ∙ ap (λ (l : List Fault). earliest found (first_of l)) (sym (bad-first own rest))
    ∙ ap (λ (l : List Piece). earliest found (first_of (bad_pieces l))) (sym begins.pieces)
    ∙ before

pub pieces-over : (source : List ℕ) (at : ℕ) (found whole : Option Fault) → length source ≤ at → earliest found (first_of (bad_pieces (pieces_from source at))) ≡ whole → found ≡ whole
unfolding pieces_behind bad_pieces first_of
pieces-over source at found whole past before =
    sym (first-none found) ∙ ap (λ (l : List ℕ). earliest found (first_of (bad_pieces (pieces_behind 0 at l)))) (sym (drop_all at source past)) ∙ before
