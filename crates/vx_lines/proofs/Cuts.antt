-- Sources made of whole pieces, one behind another.
use Rattle.std.proofs.Common.{◌≡◌, ℕ, suc, ◌+◌, ◌-◌, arith, Bool, true, false, cond, ◌&&◌, ◌||◌, List, [], ◌∷◌, ◌++◌, length, take, filter, bytes_eq, refl, sym, ap, ◌∙◌, subst}
use Rattle.std.specs.Prelude.{codes}
use Rattle.std.specs.List.{list_all, list_any}
use Rattle.std.proofs.lemmas.Bool.{and_parts, or_parts}
use Rattle.std.proofs.lemmas.List.{append_assoc, length-append}
use Rattle.std.proofs.lemmas.List.Folds.{list_all-append}
use Rattle.std.proofs.Math.Seq.{take-append_seam}
use Rattle.vx_language.specs.Bytes.{is_source_byte}
use Rattle.vx_language.specs.Lexemes.{beginning, piece_length, kind_of, Piece, piece_with, first_piece, pieces_behind, is_a, is_kind, token_kind, is_token, is_bad, is_bad_kind}
use Rattle.vx_language.specs.Lines.{is_the_mark}
use Rattle.vx_language.specs.Tokens.{bad_bytes}
use Rattle.vx_language.specs.declared.token.PieceKind.{PieceKind}
use Rattle.vx_language.specs.declared.token.TokenKind.TheVariants as token

-- what a piece is, and its bytes
pub record Cut : Type 0 where
  pub kind : PieceKind
  pub text : List ℕ

abbrev pub bytes_of : List Cut → List ℕ
bytes_of [] = []
bytes_of (cut ∷ cuts) = cut.text ++ bytes_of cuts

-- the pieces that cuts are, from an offset on, and those of them that are tokens
abbrev pub piece_at : ℕ → Cut → Piece
piece_at start cut = record { kind = cut.kind; start = start; text = cut.text }

abbrev pub pieces_of : ℕ → List Cut → List Piece
pieces_of start [] = []
pieces_of start (cut ∷ cuts) = piece_at start cut ∷ pieces_of (start + length cut.text) cuts

abbrev pub tokens_of : ℕ → List Cut → List Piece
tokens_of start cuts = filter is_token (pieces_of start cuts)

-- the cut is the first piece of its bytes with these behind it, a good one, and no colon and no newline
pub record IsCut (cut : Cut) (rest : List ℕ) : Type 0 where
  pub piece : (start : ℕ) → pieces_behind 0 start (cut.text ++ rest) ≡ piece_at start cut ∷ pieces_behind 0 (start + length cut.text) rest
  pub bytes : list_all is_source_byte cut.text ≡ true
  pub good : is_bad_kind cut.kind ≡ false
  pub no_colon : (is_kind token.Mark (token_kind cut.kind) && bytes_eq cut.text (codes ":")) ≡ false
  pub no_newline : is_kind token.Newline (token_kind cut.kind) ≡ false

abbrev pub AreCuts : List Cut → List ℕ → Type 0
AreCuts [] rest = Unit {0}
AreCuts (cut ∷ cuts) rest = IsCut cut (bytes_of cuts ++ rest) × AreCuts cuts rest

-- what stands behind the bytes that a piece before has
skip : (more rest : List ℕ) (start : ℕ) → pieces_behind (length more) start (more ++ rest) ≡ pieces_behind 0 (start + length more) rest
unfolding pieces_behind
skip [] rest start = ap (λ s. pieces_behind 0 s rest) (omega arith)
skip (byte ∷ more) rest start = skip more rest (start + 1) ∙ ap (λ s. pieces_behind 0 s rest) (omega arith)

-- the first piece of bytes, where so many bytes are of it
pub first-cut : (kind : PieceKind) (byte : ℕ) (more rest : List ℕ) → piece_length (beginning byte) (byte ∷ (more ++ rest)) ≡ suc (length more) → kind_of (beginning byte) (byte ∷ more) ≡ kind → (start : ℕ) → pieces_behind 0 start (byte ∷ (more ++ rest)) ≡ record { kind = kind; start = start; text = byte ∷ more } ∷ pieces_behind 0 (start + suc (length more)) rest
unfolding pieces_behind first_piece piece_with
first-cut kind byte more rest size is start =
    let whole : List ℕ = byte ∷ (more ++ rest) in
    let made : List ℕ → List Piece = λ text. piece_with (beginning byte) start text ∷ pieces_behind (length text - 1) (start + 1) (more ++ rest) in
    let cut : take (suc (length more)) whole ≡ byte ∷ more = ap (λ (bs : List ℕ). byte ∷ bs) (take-append_seam more rest) in
    let less : suc (length more) - 1 ≡ length more = omega arith in
    ap (λ n. made (take n whole)) size
    ∙ (ap made cut
    ∙ (ap (λ n. piece_with (beginning byte) start (byte ∷ more) ∷ pieces_behind n (start + 1) (more ++ rest)) less
    ∙ (ap (λ (ps : List Piece). piece_with (beginning byte) start (byte ∷ more) ∷ ps) (skip more rest (start + 1))
    ∙ (ap (λ s. piece_with (beginning byte) start (byte ∷ more) ∷ pieces_behind 0 s rest) (omega arith)
    ∙ ap (λ (k : PieceKind). record { kind = k; start = start; text = byte ∷ more } ∷ pieces_behind 0 (start + suc (length more)) rest) is))))

pub bytes-join : (xs ys : List Cut) → bytes_of (xs ++ ys) ≡ bytes_of xs ++ bytes_of ys
bytes-join [] ys = refl
bytes-join (x ∷ xs) ys = ap (λ (bs : List ℕ). x.text ++ bs) (bytes-join xs ys) ∙ sym (append_assoc x.text (bytes_of xs) (bytes_of ys))

pub cuts-join : (xs ys : List Cut) (rest : List ℕ) → AreCuts xs (bytes_of ys ++ rest) → AreCuts ys rest → AreCuts (xs ++ ys) rest
cuts-join [] ys rest first second = second
cuts-join (x ∷ xs) ys rest first second =
    let behind : bytes_of xs ++ (bytes_of ys ++ rest) ≡ bytes_of (xs ++ ys) ++ rest = sym (append_assoc (bytes_of xs) (bytes_of ys) rest) ∙ ap (λ (bs : List ℕ). bs ++ rest) (sym (bytes-join xs ys)) in
    (subst (λ (bs : List ℕ). IsCut x bs) behind first.0, cuts-join xs ys rest first.1 second)

-- the tokens of cuts, one list behind another
tokens-more : (b : Bool) (piece : Piece) (xs ys : List Piece) → cond b (piece ∷ (xs ++ ys)) (xs ++ ys) ≡ cond b (piece ∷ xs) xs ++ ys
tokens-more true piece xs ys = refl
tokens-more false piece xs ys = refl

pub tokens-join : (start : ℕ) (xs ys : List Cut) → tokens_of start (xs ++ ys) ≡ tokens_of start xs ++ tokens_of (start + length (bytes_of xs)) ys
tokens-join start [] ys = ap (λ s. tokens_of s ys) (omega arith)
tokens-join start (x ∷ xs) ys =
    let next : ℕ = start + length x.text in
    let place : next + length (bytes_of xs) ≡ start + length (x.text ++ bytes_of xs) = omega (arith, length-append x.text (bytes_of xs)) in
    let token : Bool = is_token (piece_at start x) in
    ap (λ (ps : List Piece). cond token (piece_at start x ∷ ps) ps) (tokens-join next xs ys)
    ∙ (tokens-more token (piece_at start x) (tokens_of next xs) (tokens_of (next + length (bytes_of xs)) ys)
    ∙ ap (λ s. cond token (piece_at start x ∷ tokens_of next xs) (tokens_of next xs) ++ tokens_of s ys) place)

-- the pieces of cuts, and what stands behind them
pub pieces-cut : (cuts : List Cut) (rest : List ℕ) (start : ℕ) → AreCuts cuts rest → pieces_behind 0 start (bytes_of cuts ++ rest) ≡ pieces_of start cuts ++ pieces_behind 0 (start + length (bytes_of cuts)) rest
pieces-cut [] rest start are = ap (λ s. pieces_behind 0 s rest) (omega arith)
pieces-cut (cut ∷ cuts) rest start are =
    let next : ℕ = start + length cut.text in
    let place : next + length (bytes_of cuts) ≡ start + length (cut.text ++ bytes_of cuts) = omega (arith, length-append cut.text (bytes_of cuts)) in
    ap (pieces_behind 0 start) (append_assoc cut.text (bytes_of cuts) rest)
    ∙ (are.0.piece start
    ∙ (ap (λ (ps : List Piece). piece_at start cut ∷ ps) (pieces-cut cuts rest next are.1)
    ∙ ap (λ s. piece_at start cut ∷ (pieces_of next cuts ++ pieces_behind 0 s rest)) place))

-- lexical faults
pub no-bad-bytes : (start : ℕ) (bytes : List ℕ) → list_all is_source_byte bytes ≡ true → bad_bytes start bytes ≡ []
unfolding bad_bytes
no-bad-bytes start [] all = refl
no-bad-bytes start (byte ∷ bytes) all =
    let parts = and_parts (is_source_byte byte) (list_all is_source_byte bytes) all in
    rw parts.0 (no-bad-bytes (start + 1) bytes parts.1)

pub bytes-good : (cuts : List Cut) (rest : List ℕ) → AreCuts cuts rest → list_all is_source_byte (bytes_of cuts) ≡ true
bytes-good [] rest are = refl
bytes-good (cut ∷ cuts) rest are =
    list_all-append is_source_byte cut.text (bytes_of cuts)
    ∙ (ap (λ b. b && list_all is_source_byte (bytes_of cuts)) are.0.bytes ∙ bytes-good cuts rest are.1)

none-more : (q : Piece → Bool) (piece : Piece) (pieces : List Piece) → q piece ≡ false → list_any q pieces ≡ false → list_any q (piece ∷ pieces) ≡ false
none-more q piece pieces refuted rest = ap (λ b. b || list_any q pieces) refuted ∙ rest

pub none-first : (q : Piece → Bool) (b : Bool) (piece : Piece) (pieces : List Piece) → q piece ≡ false → list_any q pieces ≡ false → list_any q (cond b (piece ∷ pieces) pieces) ≡ false
none-first q true piece pieces refuted rest = none-more q piece pieces refuted rest
none-first q false piece pieces refuted rest = rest

-- a test that no cut's piece passes
pub no-piece : (q : Piece → Bool) → ((cut : Cut) (rest : List ℕ) (start : ℕ) → IsCut cut rest → q (piece_at start cut) ≡ false) → (cuts : List Cut) (rest : List ℕ) (start : ℕ) → AreCuts cuts rest → list_any q (pieces_of start cuts) ≡ false
no-piece q none [] rest start are = refl
no-piece q none (cut ∷ cuts) rest start are =
    none-more q (piece_at start cut) (pieces_of (start + length cut.text) cuts) (none cut (bytes_of cuts ++ rest) start are.0) (no-piece q none cuts rest (start + length cut.text) are.1)

pub no-token : (q : Piece → Bool) → ((cut : Cut) (rest : List ℕ) (start : ℕ) → IsCut cut rest → q (piece_at start cut) ≡ false) → (cuts : List Cut) (rest : List ℕ) (start : ℕ) → AreCuts cuts rest → list_any q (tokens_of start cuts) ≡ false
no-token q none [] rest start are = refl
no-token q none (cut ∷ cuts) rest start are =
    none-first q (is_token (piece_at start cut)) (piece_at start cut) (tokens_of (start + length cut.text) cuts) (none cut (bytes_of cuts ++ rest) start are.0) (no-token q none cuts rest (start + length cut.text) are.1)

none-kept : (q : Piece → Bool) (b : Bool) (piece : Piece) (kept : List Piece) → b ≡ false → kept ≡ [] → cond b (piece ∷ kept) kept ≡ []
none-kept q b piece kept refuted rest = rw refuted rest

pub filter-none : (q : Piece → Bool) (pieces : List Piece) → list_any q pieces ≡ false → filter q pieces ≡ []
filter-none q [] none = refl
filter-none q (piece ∷ pieces) none =
    let parts = or_parts (q piece) (list_any q pieces) none in
    none-kept q (q piece) piece (filter q pieces) parts.0 (filter-none q pieces parts.1)

pub cut-good : (cut : Cut) (rest : List ℕ) (start : ℕ) → IsCut cut rest → is_bad (piece_at start cut) ≡ false
cut-good cut rest start is = is.good

pub cut-no-colon : (cut : Cut) (rest : List ℕ) (start : ℕ) → IsCut cut rest → is_the_mark (codes ":") (piece_at start cut) ≡ false
unfolding is_the_mark is_a
cut-no-colon cut rest start is = is.no_colon

pub cut-no-newline : (cut : Cut) (rest : List ℕ) (start : ℕ) → IsCut cut rest → is_a token.Newline (piece_at start cut) ≡ false
unfolding is_a
cut-no-newline cut rest start is = is.no_newline
