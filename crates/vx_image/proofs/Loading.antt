-- The bytes of a page in its words.
use Rattle.std.proofs.Common.{◌≡◌, ℕ, zero, suc, ◌+◌, ◌*◌, ◌/◌, ◌%◌, ◌^◌, ◌<◌, List, length, get_or, drop, slice_index, sym, ap, ◌∙◌, arith}
use Rattle.std.proofs.lemmas.List.{get_or-drop}
use Rattle.std.proofs.lemmas.Nat.{shr-shr}
use Rattle.byteorder.specs.Endian.{little_from, little_number, IsRead}
use Rattle.vx_image.specs.Images.{HoldBytes}

-- a byte of a number is that of its bytes
byte_of_little : (n k i : ℕ) (xs : List ℕ) → ((j : ℕ) → get_or xs j 0 < 256) → k < n → little_from i n xs / 2 ^ (8 * k) % 256 ≡ get_or xs (i + k) 0
byte_of_little zero k i xs small below = absurd (omega arith)
byte_of_little (suc n) zero i xs small below =
    let here = small i in
    let there : i + 0 ≡ i = omega arith in
    rw there (omega arith)
byte_of_little (suc n) (suc k) i xs small below =
    let here = small i in
    let rest : (slice_index xs i + 256 * little_from (suc i) n xs) / 2 ^ 8 ≡ little_from (suc i) n xs = omega arith in
    let step : 8 * suc k ≡ 8 + 8 * k = omega arith in
    let there : suc i + k ≡ i + suc k = omega arith in
    ap (λ (e : ℕ). (slice_index xs i + 256 * little_from (suc i) n xs) / 2 ^ e % 256) step
    ∙ ap (λ (m : ℕ). m % 256) (sym (shr-shr (slice_index xs i + 256 * little_from (suc i) n xs) 8 (8 * k)))
    ∙ ap (λ (m : ℕ). m / 2 ^ (8 * k) % 256) rest
    ∙ byte_of_little n k (suc i) xs small (omega arith)
    ∙ ap (λ (m : ℕ). get_or xs m 0) there

-- words that were read of bytes hold them
pub words_hold : (words bytes : List ℕ) → length words ≡ 512 → ((i : ℕ) → get_or bytes i 0 < 256) → IsRead little_number 8 bytes words → HoldBytes words bytes
words_hold words bytes long small read j below =
    let part = drop (8 * (j / 8)) bytes in
    let within : j / 8 < length words = omega arith in
    let each : (i : ℕ) → get_or part i 0 < 256 = λ i. rw (get_or-drop (8 * (j / 8)) bytes i 0) (small (8 * (j / 8) + i)) in
    let there : 8 * (j / 8) + (0 + j % 8) ≡ j = omega arith in
    ap (λ (n : ℕ). n / 2 ^ (8 * (j % 8)) % 256) (read (j / 8) within)
    ∙ byte_of_little 8 (j % 8) 0 part each (omega arith)
    ∙ get_or-drop (8 * (j / 8)) bytes (0 + j % 8) 0
    ∙ ap (λ (n : ℕ). get_or bytes n 0) there
