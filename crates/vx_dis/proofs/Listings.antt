-- A listing, a word or a piece at a time.
use Rattle.std.proofs.Common.{◌≡◌, ℕ, zero, suc, ◌*◌, ◌<◌, ◌≤◌, List, [], ◌∷◌, ◌++◌, length, take, drop, refl, sym, ap, ◌∙◌, append_assoc, append-nil, arith, w32}
use Rattle.std.specs.Int.{from_le_bytes}
use Rattle.vx_base.specs.Numbers.{from_little_endian}
use Rattle.vx_source.specs.Lines.{line_of}
use Rattle.vx_source.specs.Listing.{listing}

-- the first word
pub listing-word : (bytes : List ℕ) → 4 ≤ length bytes → line_of (from_le_bytes w32 (take 4 bytes)) ++ 10 ∷ listing (drop 4 bytes) ≡ listing bytes
unfolding listing
listing-word [] h = absurd (omega arith)
listing-word (a ∷ []) h = absurd (omega arith)
listing-word (a ∷ b ∷ []) h = absurd (omega arith)
listing-word (a ∷ b ∷ c ∷ []) h = absurd (omega arith)
listing-word (a ∷ b ∷ c ∷ d ∷ rest) h =
    let e : from_le_bytes w32 (a ∷ b ∷ c ∷ d ∷ []) ≡ from_little_endian (a ∷ b ∷ c ∷ d ∷ []) = omega arith in
    ap (λ (n : ℕ). line_of n ++ 10 ∷ listing rest) e

-- the next line behind a text
pub listing-next : (rest word later before middle after whole : List ℕ) → 4 ≤ length rest → word ≡ take 4 rest → later ≡ drop 4 rest → middle ≡ before ++ line_of (from_le_bytes w32 word) → after ≡ middle ++ 10 ∷ [] → before ++ listing rest ≡ whole → after ++ listing later ≡ whole
listing-next rest word later before middle after whole h front back line newline sofar =
    let step = listing-word rest h in
    let here : after ++ listing later ≡ before ++ (line_of (from_le_bytes w32 (take 4 rest)) ++ 10 ∷ listing (drop 4 rest)) =
    rw back (rw newline (rw line (rw front (simp append_assoc)))) in
    here ∙ ap (λ (l : List ℕ). before ++ l) step ∙ sofar

-- no whole word
pub listing-short : (bytes : List ℕ) → length bytes < 4 → listing bytes ≡ []
unfolding listing
listing-short [] h = refl
listing-short (a ∷ []) h = refl
listing-short (a ∷ b ∷ []) h = refl
listing-short (a ∷ b ∷ c ∷ []) h = refl
listing-short (a ∷ b ∷ c ∷ d ∷ rest) h = absurd (omega arith)

-- so many whole words and what is behind them
words : ℕ → ℕ
words zero = zero
words (suc k) = suc (suc (suc (suc (words k))))

words_are : (k : ℕ) → words k ≡ 4 * k
unfolding words
words_are zero = refl
words_are (suc k) = let e = words_are k in omega arith

split : (k : ℕ) (bytes : List ℕ) → listing (take (words k) bytes) ++ listing (drop (words k) bytes) ≡ listing bytes
unfolding listing words
split zero bytes = refl
split (suc k) [] = refl
split (suc k) (a ∷ []) = refl
split (suc k) (a ∷ b ∷ []) = refl
split (suc k) (a ∷ b ∷ c ∷ []) = refl
split (suc k) (a ∷ b ∷ c ∷ d ∷ rest) =
    append_assoc (line_of (from_little_endian (a ∷ b ∷ c ∷ d ∷ []))) (10 ∷ listing (take (words k) rest)) (listing (drop (words k) rest))
    ∙ ap (λ (l : List ℕ). line_of (from_little_endian (a ∷ b ∷ c ∷ d ∷ [])) ++ 10 ∷ l) (split k rest)

pub listing-split : (k n : ℕ) (bytes : List ℕ) → n ≡ 4 * k → listing (take n bytes) ++ listing (drop n bytes) ≡ listing bytes
listing-split k n bytes e =
    let same : n ≡ words k = e ∙ sym (words_are k) in
    rw same (split k bytes)

-- no line is left
pub listing-over : (rest text whole : List ℕ) → length rest < 4 → text ++ listing rest ≡ whole → text ≡ whole
listing-over rest text whole h sofar = sym (append-nil text) ∙ (ap (λ (l : List ℕ). text ++ l) (sym (listing-short rest h)) ∙ sofar)

-- a piece of whole words and what is behind it
pub listing-piece : (bytes piece later : List ℕ) → piece ≡ take 4096 bytes → later ≡ drop 4096 bytes → listing bytes ≡ listing piece ++ listing later
listing-piece bytes piece later p q = rw p (rw q (sym (listing-split 1024 4096 bytes refl)))
