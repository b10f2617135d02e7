-- The faults of a statement where it stands, part by part.
use Rattle.std.proofs.Common.{◌≡◌, ℕ, ◌+◌, ◌<◌, ◌≤◌, length, get_or, arith, Bool, true, false, not, cond, ◌&&◌, List, [], ◌∷◌, ◌++◌, map, filter, drop, Option, Some, None, Result, Ok, Err, IfOk, refl, sym, ap, ◌∙◌}
use Rattle.std.specs.List.{list_any}
use Rattle.std.specs.declared.alloc.AllocError.{AllocError}
use Rattle.std.proofs.lemmas.List.{drop_all}
use Rattle.vx_language.specs.Faults.{fault_at, first_of, earlier, earliest}
use Rattle.vx_language.specs.Lexemes.{Piece, is_a, is_bad}
use Rattle.vx_language.specs.Places.{Place, is_code, may_have_code_in, name_placement_faults, placement_faults}
use Rattle.vx_language.specs.Statements.{named_faults, statement_faults}
use Rattle.vx_language.specs.Tokens.{bad_pieces}
use Rattle.vx_language.specs.declared.fault.Fault.{Fault}
use Rattle.vx_language.specs.declared.fault.FaultKind.TheVariants.{BadOperand, BadToken}
use Rattle.vx_language.specs.declared.token.TokenKind.TheVariants as token
use Rattle.vx_statement.specs.Knowing.{Know}
use Rattle.vx_statement.specs.Labels.{Label}
use Rattle.vx_statement.specs.Lexemes.{piece_of, pieces_of}
use Rattle.vx_statement.specs.Owning.{own_of}
use Rattle.vx_statement.specs.Statements.{AreForms}
use Rattle.vx_statement.specs.Ways.{commas_in, form_of}
use Rattle.vx_statement.specs.declared.form.Form.{Form}
use Rattle.vx_statement.specs.declared.lexeme.Lexeme.{Lexeme}
use Rattle.vx_statement.proofs.Firsts.{first_of-append, first-twice, first-none}
use Rattle.vx_statement.proofs.Judging.{cut-off}
use Rattle.vx_statement.proofs.Naming.{forms-are}

-- bad tokens
bad-cut : (b : Bool) (p : Piece) (ps : List Piece) → map (fault_at BadToken) (cond b (p ∷ ps) ps) ≡ map (fault_at BadToken) (cond b (p ∷ []) []) ++ map (fault_at BadToken) ps
bad-cut true p ps = refl
bad-cut false p ps = refl

bad-first : (piece : Piece) (rest : List Piece) → bad_pieces (piece ∷ rest) ≡ bad_pieces (piece ∷ []) ++ bad_pieces rest
unfolding bad_pieces
bad-first piece rest = bad-cut (is_bad piece) piece (filter is_bad rest)

by-bad : (piece : Piece) (b : Bool) → cond b (Some (fault_at BadToken piece)) None ≡ first_of (map (fault_at BadToken) (cond b (piece ∷ []) []))
unfolding first_of earlier
by-bad piece true = refl
by-bad piece false = refl

pub bad-token : (piece : Piece) (b : Bool) → b ≡ is_bad piece → cond b (Some (fault_at BadToken piece)) None ≡ first_of (bad_pieces (piece ∷ []))
unfolding bad_pieces first_of earlier
bad-token piece b e = rw e (by-bad piece (is_bad piece))

pub bad-next : (tokens : List Lexeme) (i : ℕ) (token : Lexeme) (found fault new whole : Option Fault) → i < length tokens → token ≡ get_or tokens i token → new ≡ earliest found fault → fault ≡ first_of (bad_pieces (piece_of token ∷ [])) → earliest found (first_of (bad_pieces (pieces_of (drop i tokens)))) ≡ whole → earliest new (first_of (bad_pieces (pieces_of (drop (i + 1) tokens)))) ≡ whole
bad-next tokens i token found fault new whole within is is_new is_fault before =
    let rest = pieces_of (drop (i + 1) tokens) in
    ap (λ (o : Option Fault). earliest o (first_of (bad_pieces rest))) (is_new ∙ ap (earliest found) is_fault)
    ∙ first-twice found (first_of (bad_pieces (piece_of token ∷ []))) (first_of (bad_pieces rest))
    ∙ ap (earliest found) (sym (first_of-append (bad_pieces (piece_of token ∷ [])) (bad_pieces rest)))
    ∙ ap (λ (l : List Fault). earliest found (first_of l)) (sym (bad-first (piece_of token) rest))
    ∙ ap (λ (l : List Piece). earliest found (first_of (bad_pieces l))) (sym (cut-off tokens i token within is))
    ∙ before

pub bad-end : (tokens : List Lexeme) (i : ℕ) (found whole : Option Fault) → length tokens ≤ i → earliest found (first_of (bad_pieces (pieces_of (drop i tokens)))) ≡ whole → found ≡ whole
unfolding bad_pieces first_of
bad-end tokens i found whole past before =
    sym (first-none found) ∙ ap (λ (l : List Lexeme). earliest found (first_of (bad_pieces (pieces_of l)))) (sym (drop_all i tokens past)) ∙ before

-- where an instruction may stand
by-place : (a b m : Bool) (f : Fault) → first_of (cond (a && (b && not m)) (f ∷ []) []) ≡ cond a (cond b (cond m None (Some f)) None) None
unfolding first_of earlier
by-place true true true f = refl
by-place true true false f = refl
by-place true false m f = refl
by-place false b m f = refl

pub placement-judged : (place : Place) (piece : Piece) (operands : List Piece) (forms : List Form) (a b m : Bool) → AreForms piece.text forms → a ≡ is_a token.Name piece → ((name : List ℕ) (commas : ℕ) → b ≡ list_any is_code (map (form_of name commas) forms)) → m ≡ may_have_code_in place place.section → cond a (cond b (cond m None (Some (fault_at BadOperand piece))) None) None ≡ first_of (name_placement_faults place piece operands)
placement-judged place piece operands forms a b m all is_name code may =
    let codes = code piece.text (commas_in operands) ∙ ap (list_any is_code) (forms-are piece operands forms all) in
    sym (by-place a b m (fault_at BadOperand piece))
    ∙ rw is_name (rw codes (rw may refl))

pub no-name : (place : Place) (piece : Piece) (operands : List Piece) → false ≡ is_a token.Name piece → None ≡ first_of (name_placement_faults place piece operands)
unfolding first_of
no-name place piece operands is_name = rw (← is_name) refl

-- the statement by itself
pub begun-named : (names : List (List ℕ)) (end : ℕ) (piece : Piece) (operands : List Piece) → is_a token.Name piece ≡ true → statement_faults names end (piece ∷ operands) ≡ named_faults names end piece operands
unfolding statement_faults
begun-named names end piece operands h = rw h refl

pub begun-otherwise : (names : List (List ℕ)) (end : ℕ) (piece : Piece) (operands : List Piece) → is_a token.Name piece ≡ false → Some (fault_at BadOperand piece) ≡ first_of (statement_faults names end (piece ∷ operands))
unfolding statement_faults first_of earlier
begun-otherwise names end piece operands h = rw h refl

pub begun-handed : (labels : List Label) (end : ℕ) (piece : Piece) (operands : List Piece) (answer : Result (Option Fault) AllocError) → is_a token.Name piece ≡ true → IfOk answer (λ fault. (names : List (List ℕ)) → Know labels names → fault ≡ first_of (named_faults names end piece operands)) → IfOk answer (λ fault. (names : List (List ℕ)) → Know labels names → fault ≡ first_of (statement_faults names end (piece ∷ operands)))
begun-handed labels end piece operands (Ok fault) h k = λ names known. k names known ∙ ap first_of (sym (begun-named names end piece operands h))
begun-handed labels end piece operands (Err error) h k = tt

-- the whole
pub own-joined : (names : List (List ℕ)) (place : Place) (end : ℕ) (piece : Piece) (operands : List Piece) (by_itself by_tokens by_place : Option Fault) → by_itself ≡ first_of (statement_faults names end (piece ∷ operands)) → by_tokens ≡ first_of (bad_pieces (piece ∷ operands)) → by_place ≡ first_of (name_placement_faults place piece operands) → earliest (earliest by_itself by_tokens) by_place ≡ first_of (own_of names place end (piece ∷ operands))
unfolding placement_faults
own-joined names place end piece operands by_itself by_tokens by_place e f g =
    rw e (rw f (rw g (sym (
    first_of-append (statement_faults names end (piece ∷ operands) ++ bad_pieces (piece ∷ operands)) (name_placement_faults place piece operands)
    ∙ ap (λ (o : Option Fault). earliest o (first_of (name_placement_faults place piece operands))) (first_of-append (statement_faults names end (piece ∷ operands)) (bad_pieces (piece ∷ operands)))))))

pub own-none : (names : List (List ℕ)) (place : Place) (end : ℕ) → None ≡ first_of (own_of names place end [])
unfolding statement_faults bad_pieces placement_faults first_of
own-none names place end = refl

pub none-of : (tokens : List Lexeme) → length tokens ≡ 0 → tokens ≡ []
none-of [] e = refl
none-of (token ∷ tokens) e = absurd (omega (arith, e))
