use Rattle.std.proofs.Common.{◌≡◌, ℕ, true, List, [], ◌∷◌, ◌++◌, ◌≤◌, length, refl, sym, ◌∙◌, ap, append_assoc, append-nil, inl, inr}
use Rattle.std.specs.Prelude.{filter_map}
use Rattle.vx_language.specs.Faults.{first_of}
use Rattle.vx_language.specs.Lexemes.{pieces_from, is_bad_kind}
use Rattle.vx_language.specs.Tokens.{bad_pieces, token_of, tokens}
use Rattle.vx_language.specs.declared.token.Token.{Token}
use Rattle.vx_lex.proofs.Steps.{tokens-good, tokens-blank, bad_pieces-good, first_bad_piece, pieces_from-end}
use Rattle.vx_lex.proofs.lexer.read_pieces.Goals as goal

pub pieces-init : goal.pieces-init
unfolding tokens
pieces-init c = record {
  list = ap (λ (ts : List Token). ts ++ filter_map token_of (pieces_from c.args.source.now 0)) c.new-items.ensures.items;
  good = refl;
}

pub returns-in-Bad : goal.returns-in-Bad
returns-in-Bad c =
    let piece = c.in-Some.piece in
    let bad : is_bad_kind piece.kind ≡ true = elim c.in-Bad.is [ inl w ↦ ap is_bad_kind w.1 | inr w ↦ ap is_bad_kind w ] in
    sym (ap first_of c.pieces.invariant.good) ∙ first_bad_piece c.args.source.now c.pieces.from piece c.in-Some.ensures.piece bad

pub pieces-preserved-in_ok-push-in-Good : goal.pieces-preserved-in_ok-push-in-Good
pieces-preserved-in_ok-push-in-Good c =
    let source : List ℕ = c.args.source.now in
    let piece = c.in-Some.piece in
    let read : List Token = c.pieces.items.items in
    let here : Token = record { kind = c.in-Good.kind; span = piece.span } in
    let rest : List Token = filter_map token_of (pieces_from source piece.span.end) in
    let step = tokens-good source c.pieces.from piece c.in-Good.kind c.in-Some.ensures.piece c.in-Good.is in
    record {
      list =
          ap (λ (ts : List Token). ts ++ rest) c.in_ok-push-in-Good.ensures.items
          ∙ (append_assoc read (here ∷ []) rest
          ∙ (sym (ap (λ (ts : List Token). read ++ ts) step) ∙ c.pieces.invariant.list));
      good = sym (bad_pieces-good source c.pieces.from piece c.in-Some.ensures.piece (ap is_bad_kind c.in-Good.is)) ∙ c.pieces.invariant.good;
    }

pub pieces-preserved : goal.pieces-preserved
pieces-preserved c =
    let source : List ℕ = c.args.source.now in
    let piece = c.in-Some.piece in
    let read : List Token = c.pieces.items.items in
    let step = tokens-blank source c.pieces.from piece c.in-Some.ensures.piece c.in-Blank.is in
    record {
      list = sym (ap (λ (ts : List Token). read ++ ts) step) ∙ c.pieces.invariant.list;
      good = sym (bad_pieces-good source c.pieces.from piece c.in-Some.ensures.piece (ap is_bad_kind c.in-Blank.is)) ∙ c.pieces.invariant.good;
    }

pub returns : goal.returns
unfolding bad_pieces first_of
returns c =
    let source : List ℕ = c.args.source.now in
    let past : length source ≤ c.pieces.from = c.in_default.ensures.end.0 refl in
    let none = pieces_from-end source c.pieces.from past in
    let read : List Token = c.pieces.items.items in (
      sym (ap first_of c.pieces.invariant.good) ∙ ap (λ ps. first_of (bad_pieces ps)) none,
      c.of.ensures ∙ (sym (append-nil read) ∙ (sym (ap (λ ps. read ++ filter_map token_of ps) none) ∙ c.pieces.invariant.list)),
    )
