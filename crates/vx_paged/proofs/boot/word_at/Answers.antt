-- The bytes that are read are eight.
use Rattle.std.proofs.Common.{◌≡◌, ℕ, ◌+◌, ◌-◌, ◌*◌, ◌≤◌, List, [], ◌∷◌, length, get_or, take, drop, sym, ap, add_assoc, ◌∙◌, arith}
use Rattle.std.proofs.lemmas.List.{drop_more}
use Rattle.std.specs.Int.{from_le_bytes, w64}
use Rattle.vx_base.specs.Numbers.{from_little_endian}
use Rattle.vx_paged.proofs.boot.word_at.Goals as goal

take_eight : (bytes : List ℕ) (i : ℕ) → i + 8 ≤ length bytes → take 8 (drop i bytes) ≡ get_or bytes (i + 0) 0 ∷ get_or bytes (i + 1) 0 ∷ get_or bytes (i + 2) 0 ∷ get_or bytes (i + 3) 0 ∷ get_or bytes (i + 4) 0 ∷ get_or bytes (i + 5) 0 ∷ get_or bytes (i + 6) 0 ∷ get_or bytes (i + 7) 0 ∷ []
take_eight bytes i long =
    let here : i + 0 ≡ i = omega arith in
    let e0 : drop i bytes ≡ get_or bytes i 0 ∷ drop (i + 1) bytes = drop_more bytes i 0 (omega arith) in
    let e1 : drop (i + 1) bytes ≡ get_or bytes (i + 1) 0 ∷ drop (i + 2) bytes = rw add_assoc at (drop_more bytes (i + 1) 0 (omega arith)) in
    let e2 : drop (i + 2) bytes ≡ get_or bytes (i + 2) 0 ∷ drop (i + 3) bytes = rw add_assoc at (drop_more bytes (i + 2) 0 (omega arith)) in
    let e3 : drop (i + 3) bytes ≡ get_or bytes (i + 3) 0 ∷ drop (i + 4) bytes = rw add_assoc at (drop_more bytes (i + 3) 0 (omega arith)) in
    let e4 : drop (i + 4) bytes ≡ get_or bytes (i + 4) 0 ∷ drop (i + 5) bytes = rw add_assoc at (drop_more bytes (i + 4) 0 (omega arith)) in
    let e5 : drop (i + 5) bytes ≡ get_or bytes (i + 5) 0 ∷ drop (i + 6) bytes = rw add_assoc at (drop_more bytes (i + 5) 0 (omega arith)) in
    let e6 : drop (i + 6) bytes ≡ get_or bytes (i + 6) 0 ∷ drop (i + 7) bytes = rw add_assoc at (drop_more bytes (i + 6) 0 (omega arith)) in
    let e7 : drop (i + 7) bytes ≡ get_or bytes (i + 7) 0 ∷ drop (i + 8) bytes = rw add_assoc at (drop_more bytes (i + 7) 0 (omega arith)) in
    rw (e0, e1, e2, e3, e4, e5, e6, e7) (ap (λ (n : ℕ). get_or bytes n 0 ∷ get_or bytes (i + 1) 0 ∷ get_or bytes (i + 2) 0 ∷ get_or bytes (i + 3) 0 ∷ get_or bytes (i + 4) 0 ∷ get_or bytes (i + 5) 0 ∷ get_or bytes (i + 6) 0 ∷ get_or bytes (i + 7) 0 ∷ []) (sym here))

read_eight : (b0 b1 b2 b3 b4 b5 b6 b7 : ℕ) → from_le_bytes w64 (b0 ∷ b1 ∷ b2 ∷ b3 ∷ b4 ∷ b5 ∷ b6 ∷ b7 ∷ []) ≡ from_little_endian (b0 ∷ b1 ∷ b2 ∷ b3 ∷ b4 ∷ b5 ∷ b6 ∷ b7 ∷ [])
read_eight b0 b1 b2 b3 b4 b5 b6 b7 = omega arith

pub returns : goal.returns
returns c =
    let bytes = c.args.bytes.now in
    let start : ℕ = 8 * c.args.w in
    let cut : start + 8 - start ≡ 8 = omega arith in
    let copied : c.copy_from_slice.new.self ≡ take 8 (drop start bytes) = rw cut at c.copy_from_slice.ensures.after in
    c.from_le_bytes.ensures ∙ ap (from_le_bytes w64) (copied ∙ take_eight bytes start c.requires) ∙ read_eight _ _ _ _ _ _ _ _
