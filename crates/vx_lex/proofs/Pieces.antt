-- The pieces of a source, one after the other.
use Rattle.std.proofs.Common.{◌≡◌, ℕ, zero, suc, true, false, not, ◌||◌, eqb, ◌+◌, ◌-◌, ◌<◌, ◌≤◌, List, [], ◌∷◌, length, drop, take, get_or, refl, sym, ◌∙◌, ap, subst, add-zero, arith}
use Rattle.std.proofs.lemmas.List.{drop_more, drop-drop, length-take-le, length-drop, get_or-drop}
use Rattle.std.proofs.Math.Seq.{take-length}
use Rattle.std.proofs.lemmas.Map.Views.{exact_unsigned_eq}
use Rattle.std.specs.Prelude.{Bool, cond}
use Rattle.std.specs.List.{prefix_len}
use Rattle.vx_language.specs.Bytes.{newline, hash, is_digit, is_hex_digit, begins_name, is_name_byte}
use Rattle.vx_language.specs.Lexemes.{beginning, piece_length, kind_of, Piece, piece_with, first_piece, pieces_behind, pieces_from}
use Rattle.vx_language.specs.Numerals.{digits_length, is_hexadecimal}
use Rattle.vx_language.specs.declared.token.Beginning.{Beginning}
use Rattle.vx_language.specs.declared.token.Beginning.TheVariants as begins
use Rattle.vx_language.specs.declared.token.PieceKind.{PieceKind}
use Rattle.vx_lex.specs.Pieces.{BeginsAt}

-- what the byte is, where it begins a comment, a name or a number
abbrev chain : (c₁ c₂ c₃ c₄ c₅ c₆ c₇ c₈ : Bool) → Beginning
chain c₁ c₂ c₃ c₄ c₅ c₆ c₇ c₈ =
    cond c₁ begins.Line (cond c₂ begins.Gap (cond c₃ begins.Comment (cond c₄ begins.Sign (cond c₅ begins.Text (cond c₆ begins.Word (cond c₇ begins.Digits (cond c₈ begins.Negative begins.Nothing)))))))

comment-chain : (c₁ c₂ c₃ c₄ c₅ c₆ c₇ c₈ : Bool) → chain c₁ c₂ c₃ c₄ c₅ c₆ c₇ c₈ ≡ begins.Comment → c₃ ≡ true
comment-chain true c₂ c₃ c₄ c₅ c₆ c₇ c₈ is = absurd cc
comment-chain false true c₃ c₄ c₅ c₆ c₇ c₈ is = absurd cc
comment-chain false false true c₄ c₅ c₆ c₇ c₈ is = refl
comment-chain false false false true c₅ c₆ c₇ c₈ is = absurd cc
comment-chain false false false false true c₆ c₇ c₈ is = absurd cc
comment-chain false false false false false true c₇ c₈ is = absurd cc
comment-chain false false false false false false true c₈ is = absurd cc
comment-chain false false false false false false false true is = absurd cc
comment-chain false false false false false false false false is = absurd cc

word-chain : (c₁ c₂ c₃ c₄ c₅ c₆ c₇ c₈ : Bool) → chain c₁ c₂ c₃ c₄ c₅ c₆ c₇ c₈ ≡ begins.Word → c₆ ≡ true
word-chain true c₂ c₃ c₄ c₅ c₆ c₇ c₈ is = absurd cc
word-chain false true c₃ c₄ c₅ c₆ c₇ c₈ is = absurd cc
word-chain false false true c₄ c₅ c₆ c₇ c₈ is = absurd cc
word-chain false false false true c₅ c₆ c₇ c₈ is = absurd cc
word-chain false false false false true c₆ c₇ c₈ is = absurd cc
word-chain false false false false false true c₇ c₈ is = refl
word-chain false false false false false false true c₈ is = absurd cc
word-chain false false false false false false false true is = absurd cc
word-chain false false false false false false false false is = absurd cc

digits-chain : (c₁ c₂ c₃ c₄ c₅ c₆ c₇ c₈ : Bool) → chain c₁ c₂ c₃ c₄ c₅ c₆ c₇ c₈ ≡ begins.Digits → c₇ ≡ true
digits-chain true c₂ c₃ c₄ c₅ c₆ c₇ c₈ is = absurd cc
digits-chain false true c₃ c₄ c₅ c₆ c₇ c₈ is = absurd cc
digits-chain false false true c₄ c₅ c₆ c₇ c₈ is = absurd cc
digits-chain false false false true c₅ c₆ c₇ c₈ is = absurd cc
digits-chain false false false false true c₆ c₇ c₈ is = absurd cc
digits-chain false false false false false true c₇ c₈ is = absurd cc
digits-chain false false false false false false true c₈ is = refl
digits-chain false false false false false false false true is = absurd cc
digits-chain false false false false false false false false is = absurd cc

pub comment-byte : (byte : ℕ) → beginning byte ≡ begins.Comment → eqb byte hash ≡ true
unfolding beginning
comment-byte byte is = comment-chain _ _ _ _ _ _ _ _ is

pub word-byte : (byte : ℕ) → beginning byte ≡ begins.Word → begins_name byte ≡ true
unfolding beginning
word-byte byte is = word-chain _ _ _ _ _ _ _ _ is

pub digits-byte : (byte : ℕ) → beginning byte ≡ begins.Digits → is_digit byte ≡ true
unfolding beginning
digits-byte byte is = digits-chain _ _ _ _ _ _ _ _ is

-- as many as the first byte passes, at least
prefix-some : (p : ℕ → Bool) (byte : ℕ) (rest : List ℕ) → p byte ≡ true → 0 < prefix_len p (byte ∷ rest)
prefix-some p byte rest is = rw is (omega arith)

if-some : (b : Bool) (m n : ℕ) → 0 < m → 0 < n → 0 < cond b m n
if-some true m n first second = first
if-some false m n first second = second

no-newline : (byte : ℕ) → eqb byte hash ≡ true → not (eqb byte newline) ≡ true
no-newline byte is = ap (λ b. not (eqb b newline)) (exact_unsigned_eq byte hash is)

-- a piece has a byte
length-some : (first : Beginning) (byte : ℕ) (rest : List ℕ) → beginning byte ≡ first → 0 < piece_length first (byte ∷ rest)
unfolding piece_length digits_length is_name_byte
length-some begins.Line byte rest is = omega arith
length-some begins.Gap byte rest is = omega arith
length-some begins.Comment byte rest is = prefix-some (λ b. not (eqb b newline)) byte rest (no-newline byte (comment-byte byte is))
length-some begins.Sign byte rest is = omega arith
length-some begins.Text byte rest is = omega arith
length-some begins.Word byte rest is = prefix-some is_name_byte byte rest (ap (λ b. b || is_digit byte) (word-byte byte is))
length-some begins.Digits byte rest is = if-some (is_hexadecimal (byte ∷ rest)) (2 + prefix_len is_hex_digit (drop 2 (byte ∷ rest))) (prefix_len is_digit (byte ∷ rest)) (omega arith) (prefix-some is_digit byte rest (digits-byte byte is))
length-some begins.Negative byte rest is = omega arith
length-some begins.Nothing byte rest is = omega arith

pub piece_length-some : (byte : ℕ) (rest : List ℕ) → 0 < piece_length (beginning byte) (byte ∷ rest)
piece_length-some byte rest = length-some (beginning byte) byte rest refl

-- what stands behind the bytes that a piece before has
pub pieces_behind-skip : (taken start : ℕ) (bytes : List ℕ) → pieces_behind taken start bytes ≡ pieces_behind 0 (start + taken) (drop taken bytes)
unfolding pieces_behind
pieces_behind-skip zero start bytes = ap (λ s. pieces_behind 0 s bytes) (omega arith)
pieces_behind-skip (suc taken) start [] = refl
pieces_behind-skip (suc taken) start (byte ∷ rest) = pieces_behind-skip taken (start + 1) rest ∙ ap (λ s. pieces_behind 0 s (drop taken rest)) (omega arith)

-- what is behind some bytes, the first of them apart
drop-behind : (count byte : ℕ) (rest : List ℕ) → 0 < count → drop (count - 1) rest ≡ drop count (byte ∷ rest)
drop-behind zero byte rest some = absurd (omega (arith, some))
drop-behind (suc count) byte rest some = let same : suc count - 1 ≡ count = omega arith in ap (λ k. drop k rest) same

-- the pieces of bytes: the first, and those from its end on
pieces_behind-step : (byte from count : ℕ) (rest : List ℕ) → count ≡ piece_length (beginning byte) (byte ∷ rest) → count ≤ length (byte ∷ rest) → pieces_behind 0 from (byte ∷ rest) ≡ piece_with (beginning byte) from (take count (byte ∷ rest)) ∷ pieces_behind 0 (from + count) (drop count (byte ∷ rest))
unfolding pieces_behind first_piece piece_with
pieces_behind-step byte from count rest is room =
    let first : ℕ → Piece = λ n. piece_with (beginning byte) from (take n (byte ∷ rest)) in
    let some : 0 < count = subst (λ n. 0 < n) (sym is) (piece_length-some byte rest) in
    let size : length (take count (byte ∷ rest)) ≡ count = length-take-le count (byte ∷ rest) room in
    let place : from + 1 + (count - 1) ≡ from + count = omega (arith, some) in
    ap (λ n. first n ∷ pieces_behind (length (take n (byte ∷ rest)) - 1) (from + 1) rest) (sym is)
    ∙ (ap (λ n. first count ∷ pieces_behind (n - 1) (from + 1) rest) size
    ∙ (ap (λ ps. first count ∷ ps) (pieces_behind-skip (count - 1) (from + 1) rest)
    ∙ (ap (λ n. first count ∷ pieces_behind 0 n (drop (count - 1) rest)) place
    ∙ ap (λ bs. first count ∷ pieces_behind 0 (from + count) bs) (drop-behind count byte rest some))))

-- the pieces of a source from an offset on: the first, and those from its end on
pub pieces_from-step : (source : List ℕ) (from count : ℕ) → from < length source → count ≡ piece_length (beginning (get_or source from 0)) (drop from source) → count ≤ length (drop from source) → pieces_from source from ≡ piece_with (beginning (get_or source from 0)) from (take count (drop from source)) ∷ pieces_from source (from + count)
pieces_from-step source from count within is room =
    let byte : ℕ = get_or source from 0 in
    let rest : List ℕ = drop (from + 1) source in
    let at : drop from source ≡ byte ∷ rest = drop_more source from 0 within in
    ap (pieces_behind 0 from) at
    ∙ (pieces_behind-step byte from count rest (is ∙ ap (piece_length (beginning byte)) at) (subst (λ (bs : List ℕ). count ≤ length bs) at room)
    ∙ (ap (λ bs. piece_with (beginning byte) from (take count bs) ∷ pieces_behind 0 (from + count) (drop count bs)) (sym at)
    ∙ ap (λ bs. piece_with (beginning byte) from (take count (drop from source)) ∷ pieces_behind 0 (from + count) bs) (drop-drop count from source)))

-- `&source[from..]`
pub rest-is : (source : List ℕ) (from : ℕ) → take (length source - from) (drop from source) ≡ drop from source
rest-is source from = sym (ap (λ n. take n (drop from source)) (length-drop from source)) ∙ take-length (drop from source)

-- the rest of a source begins with its byte there
first-is : (source rest : List ℕ) (from : ℕ) → rest ≡ drop from source → get_or rest 0 0 ≡ get_or source from 0
first-is source rest from is = ap (λ (bs : List ℕ). get_or bs 0 0) is ∙ (get_or-drop from source 0 0 ∙ ap (λ n. get_or source n 0) (add-zero from))

-- a piece has a byte, also in the middle of a source
pub length-at : (source rest : List ℕ) (from count : ℕ) (first : Beginning) → rest ≡ drop from source → from < length source → first ≡ beginning (get_or rest 0 0) → count ≡ piece_length first rest → 0 < count
length-at source rest from count first is within begins size =
    let at : rest ≡ get_or source from 0 ∷ drop (from + 1) source = is ∙ drop_more source from 0 within in
    let byte : first ≡ beginning (get_or source from 0) = begins ∙ ap beginning (first-is source rest from is) in
    subst (λ n. 0 < n) (sym (size ∙ (ap (λ f. piece_length f rest) byte ∙ ap (piece_length (beginning (get_or source from 0))) at)))
    (piece_length-some (get_or source from 0) (drop (from + 1) source))

-- the bytes of a piece
pub text-some : (rest : List ℕ) (count : ℕ) → 0 < count → count ≤ length rest → 0 < length (take count rest)
text-some rest count some room = subst (λ n. 0 < n) (sym (length-take-le count rest room)) some

-- a piece of this kind and length begins at an offset
pub begins-at : (source rest : List ℕ) (from count : ℕ) (first : Beginning) (kind : PieceKind) → rest ≡ drop from source → from < length source → first ≡ beginning (get_or rest 0 0) → count ≡ piece_length first rest → count ≤ length rest → kind ≡ kind_of first (take count rest) → BeginsAt source from (record { kind = kind; span = record { start = from; end = from + count } })
unfolding piece_with
begins-at source rest from count first kind is within begins size room named =
    let byte : ℕ = get_or source from 0 in
    let same : first ≡ beginning byte = begins ∙ ap beginning (first-is source rest from is) in
    let long : count ≤ length (drop from source) = subst (λ (bs : List ℕ). count ≤ length bs) is room in
    let known : count ≡ piece_length (beginning byte) (drop from source) = size ∙ (ap (λ f. piece_length f rest) same ∙ ap (piece_length (beginning byte)) is) in
    let kinds : kind ≡ kind_of (beginning byte) (take count (drop from source)) = named ∙ (ap (λ f. kind_of f (take count rest)) same ∙ ap (λ (bs : List ℕ). kind_of (beginning byte) (take count bs)) is) in
    let some : 0 < count = length-at source rest from count first is within begins size in
    let fits : length (drop from source) ≡ length source - from = length-drop from source in
    let cut : count ≡ from + count - from = omega arith in
    record {
      starts = refl;
      some = omega (arith, some);
      within = omega (arith, long, fits, within);
      pieces =
          pieces_from-step source from count within known long
          ∙ (ap (λ (k : PieceKind). record { kind = k; start = from; text = take count (drop from source) } ∷ pieces_from source (from + count)) (sym kinds)
          ∙ ap (λ n. record { kind = kind; start = from; text = take n (drop from source) } ∷ pieces_from source (from + count)) cut);
    }
