-- A source of one statement.
use Rattle.std.proofs.Common.{◌≡◌, ℕ, ◌+◌, Bool, true, false, cond, ◌&&◌, ℤ, pos, List, [], ◌∷◌, ◌++◌, length, map, filter, refl, ap, ◌∙◌}
use Rattle.std.specs.Prelude.{flat_map, codes}
use Rattle.std.specs.List.{list_all, list_any}
use Rattle.std.proofs.lemmas.Bool.{or_parts}
use Rattle.std.proofs.lemmas.List.{append-nil}
use Rattle.std.proofs.lemmas.List.Folds.{list_all-append}
use Rattle.vx_base.specs.Numbers.{little_endian}
use Rattle.vx_language.specs.Assembly.{Layout, layout, layout_of_lines, aim_of, twice_faults, placed_faults, plain_faults, reach_faults, faults, chunks, chunk_at, is_in, assembled, IsSourceOf}
use Rattle.vx_language.specs.Bytes.{newline, is_source_byte}
use Rattle.vx_language.specs.Forms.{OfCode}
use Rattle.vx_language.specs.Lexemes.{Piece, pieces, pieces_behind, beginning, piece_length, kind_of, piece_with, first_piece, is_a, is_token, is_bad, lexemes}
use Rattle.vx_language.specs.Lines.{Line, lines, lines_from, before_lines, is_the_mark, labels_before, behind_labels, labels_in, label_names}
use Rattle.vx_language.specs.Places.{Place, first_place, statement_of, own_faults, size_of, size_faults, too_large, is_faultless, placement_faults, placed_from, place_behind, Placed, statement_offset_faults}
use Rattle.vx_language.specs.Statements.{Chunk, Plain, chunk_size, chunk_bytes, statement_faults, statement_form, statement_chunk}
use Rattle.vx_language.specs.Tokens.{bad_bytes, bad_pieces, lexical_faults}
use Rattle.vx_language.specs.Faults.{fault_at}
use Rattle.vx_language.specs.declared.fault.Fault.{Fault}
use Rattle.vx_language.specs.declared.fault.FaultKind.TheVariants.{BadToken}
use Rattle.vx_language.specs.declared.token.PieceKind.TheVariants.{Good}
use Rattle.vx_language.specs.declared.token.TokenKind.TheVariants as token
use Rattle.vx_lines.proofs.Cuts.{Cut, bytes_of, pieces_of, tokens_of, AreCuts, pieces-cut, no-bad-bytes, bytes-good, no-piece, no-token, filter-none, cut-good, cut-no-colon, cut-no-newline}

-- tokens are a statement without a fault, which puts this word where the code begins
pub record IsStatement (tokens : List Piece) (word : ℕ) : Type 0 where
  pub faults : (end : ℕ) → statement_faults [] end tokens ≡ []
  pub placed : placement_faults first_place tokens ≡ []
  pub chunk : (aim : Piece → ℤ) → statement_chunk aim 0 tokens ≡ Plain (little_endian 4 word)
  pub reach : (aim : Piece → ℤ) → statement_offset_faults aim tokens ≡ []

three-none : (a b c : List Fault) → a ≡ [] → b ≡ [] → c ≡ [] → a ++ b ++ c ≡ []
three-none a b c p q r = ap (λ (x : List Fault). x ++ b ++ c) p ∙ (ap (λ (x : List Fault). [] ++ x ++ c) q ∙ ap (λ (x : List Fault). [] ++ [] ++ x) r)

two-none : (a b : List Fault) → a ≡ [] → b ≡ [] → a ++ b ≡ []
two-none a b p q = ap (λ (x : List Fault). x ++ b) p ∙ ap (λ (x : List Fault). [] ++ x) q

pub and-false : (b : Bool) → (b && false) ≡ false
and-false true = refl
and-false false = refl

-- labels
no-labels : (tokens : List Piece) → list_any (is_the_mark (codes ":")) tokens ≡ false → labels_before tokens ≡ []
unfolding labels_before
no-labels [] none = refl
no-labels (name ∷ []) none = refl
no-labels (name ∷ colon ∷ rest) none =
    let first = or_parts (is_the_mark (codes ":") name) (list_any (is_the_mark (codes ":")) (colon ∷ rest)) none in
    let second = or_parts (is_the_mark (codes ":") colon) (list_any (is_the_mark (codes ":")) rest) first.1 in
    let no : (is_a token.Name name && is_the_mark (codes ":") colon) ≡ false = ap (λ b. is_a token.Name name && b) second.0 ∙ and-false (is_a token.Name name) in
    rw no refl

all-behind : (tokens : List Piece) → list_any (is_the_mark (codes ":")) tokens ≡ false → behind_labels tokens ≡ tokens
unfolding behind_labels
all-behind [] none = refl
all-behind (name ∷ []) none = refl
all-behind (name ∷ colon ∷ rest) none =
    let first = or_parts (is_the_mark (codes ":") name) (list_any (is_the_mark (codes ":")) (colon ∷ rest)) none in
    let second = or_parts (is_the_mark (codes ":") colon) (list_any (is_the_mark (codes ":")) rest) first.1 in
    let no : (is_a token.Name name && is_the_mark (codes ":") colon) ≡ false = ap (λ b. is_a token.Name name && b) second.0 ∙ and-false (is_a token.Name name) in
    rw no refl

-- lines
lines-front : (end first : ℕ) (tokens more : List Piece) (rest : List Line) → list_any (is_a token.Newline) tokens ≡ false → lines_from end more ≡ record { tokens = []; end = first } ∷ rest → lines_from end (tokens ++ more) ≡ record { tokens = tokens; end = first } ∷ rest
unfolding lines_from
lines-front end first [] more rest none is = is
lines-front end first (piece ∷ tokens) more rest none is =
    let parts = or_parts (is_a token.Newline piece) (list_any (is_a token.Newline) tokens) none in
    ap (before_lines piece) (lines-front end first tokens more rest parts.1 is) ∙ rw parts.0 refl

-- with a newline at the end, or without
abbrev pub ending : Bool → List ℕ
ending true = newline ∷ []
ending false = []

abbrev ending_pieces : Bool → ℕ → List Piece
ending_pieces true start = record { kind = Good token.Newline; start = start; text = newline ∷ [] } ∷ []
ending_pieces false start = []

abbrev ending_lines : Bool → ℕ → List Line
ending_lines true end = record { tokens = []; end = end } ∷ []
ending_lines false end = []

abbrev first_end : Bool → ℕ → ℕ → ℕ
first_end true start end = start
first_end false start end = end

pieces-end : (b : Bool) (start : ℕ) → pieces_behind 0 start (ending b) ≡ ending_pieces b start
unfolding pieces_behind first_piece beginning piece_length piece_with kind_of
pieces-end true start = refl
pieces-end false start = refl

lines-end : (b : Bool) (start end : ℕ) → lines_from end (filter is_token (ending_pieces b start)) ≡ record { tokens = []; end = first_end b start end } ∷ ending_lines b end
unfolding lines_from is_a
lines-end true start end = refl
lines-end false start end = refl

bad-end : (b : Bool) (start : ℕ) → filter is_bad (ending_pieces b start) ≡ []
bad-end true start = refl
bad-end false start = refl

bytes-end : (b : Bool) → list_all is_source_byte (ending b) ≡ true
unfolding is_source_byte
bytes-end true = refl
bytes-end false = refl

kept : (b : Bool) (x : Piece) (xs ys : List Piece) → cond b (x ∷ (xs ++ ys)) (xs ++ ys) ≡ cond b (x ∷ xs) xs ++ ys
kept true x xs ys = refl
kept false x xs ys = refl

filter-append : (q : Piece → Bool) (xs ys : List Piece) → filter q (xs ++ ys) ≡ filter q xs ++ filter q ys
filter-append q [] ys = refl
filter-append q (x ∷ xs) ys =
    ap (λ (ps : List Piece). cond (q x) (x ∷ ps) ps) (filter-append q xs ys) ∙ kept (q x) x (filter q xs) (filter q ys)

-- the faults of bad tokens
abbrev bad_faults : List Piece → List Fault
bad_faults ps = map (fault_at BadToken) ps

-- a line's own faults
own-none : (word : ℕ) (line : Line) (tokens : List Piece) → statement_of line ≡ tokens → filter is_bad tokens ≡ [] → IsStatement tokens word → own_faults [] first_place line ≡ []
unfolding own_faults bad_pieces
own-none word line tokens is good statement =
    ap (λ (s : List Piece). statement_faults [] line.end s ++ bad_pieces s ++ placement_faults first_place s) is
    ∙ three-none (statement_faults [] line.end tokens) (bad_pieces tokens) (placement_faults first_place tokens) (statement.faults line.end) (ap (λ (ps : List Piece). bad_faults ps) good) statement.placed

no-size : (s : List Piece) → size_faults s 0 4 ≡ []
no-size [] = refl
no-size (piece ∷ pieces) = refl

too-none : (word : ℕ) (line : Line) (tokens : List Piece) → statement_of line ≡ tokens → own_faults [] first_place line ≡ [] → IsStatement tokens word → too_large [] first_place line ≡ []
unfolding too_large size_of
too-none word line tokens is none statement =
    let chunk : statement_chunk (λ label. pos 0) 0 (statement_of line) ≡ Plain (little_endian 4 word) = ap (statement_chunk (λ label. pos 0) 0) is ∙ statement.chunk (λ label. pos 0) in
    ap (λ (fs : List Fault). size_faults (statement_of line) 0 (cond (is_faultless fs) (chunk_size (statement_chunk (λ label. pos 0) 0 (statement_of line))) 0)) none
    ∙ (ap (λ (c : Chunk). size_faults (statement_of line) 0 (chunk_size c)) chunk
    ∙ no-size (statement_of line))

-- the lines
abbrev with_end : Line → Bool → ℕ → List Line
with_end line b end = line ∷ ending_lines b end

labels-none : (line : Line) (b : Bool) (end : ℕ) → labels_before line.tokens ≡ [] → labels_in (with_end line b end) ≡ []
unfolding labels_in labels_before
labels-none line true end none = rw none refl
labels-none line false end none = rw none refl

placed-end : (b : Bool) (place : Place) (end : ℕ) → placed_faults [] (placed_from [] place (ending_lines b end)) ≡ []
unfolding placed_faults placed_from own_faults too_large behind_labels statement_faults bad_pieces placement_faults
placed-end true place end = refl
placed-end false place end = refl

placed-none : (line : Line) (b : Bool) (end : ℕ) → own_faults [] first_place line ≡ [] → too_large [] first_place line ≡ [] → placed_faults [] (placed_from [] first_place (with_end line b end)) ≡ []
unfolding placed_faults placed_from
placed-none line b end own large =
    ap (λ (fs : List Fault). fs ++ placed_faults [] (placed_from [] (place_behind [] first_place line) (ending_lines b end))) (two-none (own_faults [] first_place line) (too_large [] first_place line) own large)
    ∙ placed-end b (place_behind [] first_place line) end

reach-end : (laid : Layout) (b : Bool) (place : Place) (end : ℕ) (names : List (List ℕ)) → flat_map (λ (p : Placed). statement_offset_faults (aim_of laid p) (statement_of p.line)) (placed_from names place (ending_lines b end)) ≡ []
unfolding placed_from behind_labels statement_form
reach-end laid true place end names = refl
reach-end laid false place end names = refl

reach-none : (word : ℕ) (laid : Layout) (line : Line) (b : Bool) (end : ℕ) (tokens : List Piece) (place : Place) → statement_of line ≡ tokens → IsStatement tokens word → (names : List (List ℕ)) → flat_map (λ (p : Placed). statement_offset_faults (aim_of laid p) (statement_of p.line)) (placed_from names place (with_end line b end)) ≡ []
unfolding placed_from
reach-none word laid line b end tokens place is statement names =
    two-none _ _ (ap (statement_offset_faults (aim_of laid (record { line = line; place = place }))) is ∙ statement.reach (aim_of laid (record { line = line; place = place }))) (reach-end laid b (place_behind names place line) end names)

no-code : (laid : Layout) (c : Bool) (p : Placed) → statement_of p.line ≡ [] → flat_map chunk_bytes (map (chunk_at laid) (cond c (p ∷ []) [])) ≡ []
unfolding statement_chunk statement_form
no-code laid true p none = rw none refl
no-code laid false p none = refl

code-end : (laid : Layout) (b : Bool) (place : Place) (end : ℕ) (names : List (List ℕ)) → flat_map chunk_bytes (map (chunk_at laid) (filter (is_in OfCode) (placed_from names place (ending_lines b end)))) ≡ []
unfolding placed_from behind_labels
code-end laid true place end names = no-code laid (is_in OfCode (record { line = record { tokens = []; end = end }; place = place })) (record { line = record { tokens = []; end = end }; place = place }) refl
code-end laid false place end names = refl

code-is : (word : ℕ) (laid : Layout) (line : Line) (b : Bool) (end : ℕ) (tokens : List Piece) → statement_of line ≡ tokens → IsStatement tokens word → (names : List (List ℕ)) → flat_map chunk_bytes (map (chunk_at laid) (filter (is_in OfCode) (placed_from names first_place (with_end line b end)))) ≡ little_endian 4 word
unfolding placed_from
code-is word laid line b end tokens is statement names =
    let first : Placed = record { line = line; place = first_place } in
    let chunk : chunk_at laid first ≡ Plain (little_endian 4 word) = ap (statement_chunk (aim_of laid first) 0) is ∙ statement.chunk (aim_of laid first) in
    ap (λ (c : Chunk). chunk_bytes c ++ flat_map chunk_bytes (map (chunk_at laid) (filter (is_in OfCode) (placed_from names (place_behind names first_place line) (ending_lines b end))))) chunk
    ∙ (ap (λ (bs : List ℕ). little_endian 4 word ++ bs) (code-end laid b (place_behind names first_place line) end names) ∙ append-nil (little_endian 4 word))

-- the whole source
record IsRead (source : List ℕ) (line : Line) (b : Bool) (tokens : List Piece) : Type 0 where
  lexical : lexical_faults source ≡ []
  lines : lines source ≡ with_end line b (length source)
  labels : labels_before line.tokens ≡ []
  statement : statement_of line ≡ tokens
  good : filter is_bad tokens ≡ []

source-of : (source : List ℕ) (line : Line) (b : Bool) (tokens : List Piece) (word : ℕ) → IsRead source line b tokens → IsStatement tokens word → IsSourceOf source word
unfolding faults plain_faults reach_faults twice_faults layout assembled chunks
source-of source line b tokens word read statement =
    let end : ℕ = length source in
    let ls : List Line = with_end line b end in
    let none : labels_in ls ≡ [] = labels-none line b end read.labels in
    let own : own_faults [] first_place line ≡ [] = own-none word line tokens read.statement read.good statement in
    let large : too_large [] first_place line ≡ [] = too-none word line tokens read.statement own statement in
    let twice : twice_faults [] (labels_in (lines source)) ≡ [] = ap (λ (l : List Line). twice_faults [] (labels_in l)) read.lines ∙ ap (twice_faults []) none in
    let names : label_names ls ≡ [] = ap (map (λ (label : Piece). label.text)) none in
    let placed : placed_faults (label_names (lines source)) (layout source).lines ≡ [] =
    ap (λ (l : List Line). placed_faults (label_names l) (placed_from (label_names l) first_place l)) read.lines
    ∙ (ap (λ (n : List (List ℕ)). placed_faults n (placed_from n first_place ls)) names
    ∙ placed-none line b end own large) in
    let plain : plain_faults source ≡ [] = three-none (lexical_faults source) (twice_faults [] (labels_in (lines source))) (placed_faults (label_names (lines source)) (layout source).lines) read.lexical twice placed in
    let reach : reach_faults (layout source) ≡ [] =
    ap (λ (l : List Line). reach_faults (layout_of_lines l)) read.lines
    ∙ reach-none word (layout_of_lines ls) line b end tokens first_place read.statement statement (label_names ls) in
    record {
      faultless = ap (λ (fs : List Fault). cond (is_faultless fs) (reach_faults (layout source)) fs) plain ∙ reach;
      code = ap (λ (l : List Line). flat_map chunk_bytes (map (chunk_at (layout_of_lines l)) (filter (is_in OfCode) (layout_of_lines l).lines))) read.lines
          ∙ code-is word (layout_of_lines ls) line b end tokens read.statement statement (label_names ls);
    }

pub source-is : (cuts : List Cut) (b : Bool) (word : ℕ) → AreCuts cuts (ending b) → IsStatement (tokens_of 0 cuts) word → IsSourceOf (bytes_of cuts ++ ending b) word
unfolding lexemes bad_pieces
source-is cuts b word are statement =
    let source : List ℕ = bytes_of cuts ++ ending b in
    let end : ℕ = length source in
    let behind : ℕ = length (bytes_of cuts) in
    let toks : List Piece = tokens_of 0 cuts in
    let cut : pieces source ≡ pieces_of 0 cuts ++ ending_pieces b (0 + behind) = pieces-cut cuts (ending b) 0 are ∙ ap (λ (ps : List Piece). pieces_of 0 cuts ++ ps) (pieces-end b (0 + behind)) in
    let all : list_all is_source_byte source ≡ true = list_all-append is_source_byte (bytes_of cuts) (ending b) ∙ (ap (λ c. c && list_all is_source_byte (ending b)) (bytes-good cuts (ending b) are) ∙ bytes-end b) in
    let bad : filter is_bad (pieces source) ≡ [] =
    ap (filter is_bad) cut
    ∙ (filter-append is_bad (pieces_of 0 cuts) (ending_pieces b (0 + behind))
    ∙ (ap (λ (ps : List Piece). ps ++ filter is_bad (ending_pieces b (0 + behind))) (filter-none is_bad (pieces_of 0 cuts) (no-piece is_bad cut-good cuts (ending b) 0 are))
    ∙ bad-end b (0 + behind))) in
    let seen : lexemes source ≡ toks ++ filter is_token (ending_pieces b (0 + behind)) = ap (filter is_token) cut ∙ filter-append is_token (pieces_of 0 cuts) (ending_pieces b (0 + behind)) in
    let line : Line = record { tokens = toks; end = first_end b (0 + behind) end } in
    let colons : list_any (is_the_mark (codes ":")) toks ≡ false = no-token (is_the_mark (codes ":")) cut-no-colon cuts (ending b) 0 are in
    let read : IsRead source line b toks = record {
      lexical = two-none (bad_bytes 0 source) (bad_pieces (pieces source)) (no-bad-bytes 0 source all) (ap (λ (ps : List Piece). bad_faults ps) bad);
      lines = ap (lines_from end) seen ∙ lines-front end (first_end b (0 + behind) end) toks (filter is_token (ending_pieces b (0 + behind))) (ending_lines b end) (no-token (is_a token.Newline) cut-no-newline cuts (ending b) 0 are) (lines-end b (0 + behind) end);
      labels = no-labels toks colons;
      statement = all-behind toks colons;
      good = filter-none is_bad toks (no-token is_bad cut-good cuts (ending b) 0 are);
    } in
    source-of source line b toks word read statement
