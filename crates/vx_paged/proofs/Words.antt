-- Bytes of a word, and the numbers that they are.
use Rattle.std.proofs.Common.{◌≡◌, ℕ, zero, suc, ◌+◌, ◌*◌, ◌/◌, ◌%◌, ◌^◌, ◌<◌, ◌≤◌, List, [], ◌∷◌, length, get_or, take, drop, refl, sym, ap, ◌∙◌, add-zero, arith}
use Rattle.std.proofs.lemmas.Nat.{shr-shr, shl-shr, mod-pow-add}
use Rattle.vx_base.specs.Numbers.{field, little_endian, from_little_endian}
use Rattle.vx_flat.specs.Memory.{byte_at, bytes_at, next_address}
use Rattle.vx_image.specs.Pages.{Memory}
use Rattle.vx_paged.proofs.Shown.{next_is}

-- the bits of a quotient are bits further up
field_up : (n low more count : ℕ) → field (n / 2 ^ low) more count ≡ field n (low + more) count
field_up n low more count = ap (λ (q : ℕ). q % 2 ^ count) (shr-shr n low more)

-- a byte and those behind it
pub one_digit : (n low count : ℕ) → field n (8 * low) 8 + 256 * field n (8 * (low + 1)) (8 * count) ≡ field n (8 * low) (8 * suc count)
one_digit n low count =
    let q : ℕ = n / 2 ^ (8 * low) in
    let wide : 8 * suc count ≡ 8 * count + 8 = omega arith in
    let up : 8 * low + 8 ≡ 8 * (low + 1) = omega arith in
    let split : q % 2 ^ (8 * count + 8) ≡ (q / 2 ^ 8 % 2 ^ (8 * count)) * 2 ^ 8 + q % 2 ^ 8 = mod-pow-add q (8 * count) 8 in
    let next : q / 2 ^ 8 % 2 ^ (8 * count) ≡ field n (8 * (low + 1)) (8 * count) = field_up n (8 * low) 8 (8 * count) ∙ ap (λ (k : ℕ). field n k (8 * count)) up in
    let whole : q % 2 ^ (8 * suc count) ≡ q % 2 ^ (8 * count + 8) = ap (λ (k : ℕ). q % 2 ^ k) wide in
    let joined : q % 2 ^ 8 + 256 * field n (8 * (low + 1)) (8 * count) ≡ (q / 2 ^ 8 % 2 ^ (8 * count)) * 2 ^ 8 + q % 2 ^ 8 = omega (arith, next) in
    joined ∙ sym split ∙ sym whole

first_is : (memory : Memory) (word from address : ℕ) → byte_at memory (address + 0) ≡ field word (8 * (from + 0)) 8 → byte_at memory address ≡ field word (8 * from) 8
first_is memory word from address each = ap (byte_at memory) (sym (add-zero address)) ∙ each ∙ ap (λ (n : ℕ). field word (8 * n) 8) (add-zero from)

-- the number that the bytes of memory are that are a word's from one on
pub number_is : (memory : Memory) (word count from address : ℕ) → address + count ≤ 2 ^ 64 → ((j : ℕ) → j < count → byte_at memory (address + j) ≡ field word (8 * (from + j)) 8) → from_little_endian (bytes_at memory address count) ≡ field word (8 * from) (8 * count)
number_is memory word zero from address fits each = omega arith
number_is memory word (suc zero) from address fits each =
    ap (λ (b : ℕ). b + 256 * 0) (first_is memory word from address (each 0 (omega arith))) ∙ last word from
  where
    last : (n low : ℕ) → field n (8 * low) 8 + 256 * 0 ≡ field n (8 * low) (8 * suc zero)
    last n low = omega arith
number_is memory word (suc (suc count)) from address fits each =
    ap (λ (b : ℕ). b + 256 * from_little_endian (bytes_at memory (next_address address) (suc count))) (first_is memory word from address (each 0 (omega arith)))
    ∙ ap (λ (a : ℕ). field word (8 * from) 8 + 256 * from_little_endian (bytes_at memory a (suc count))) (next_is address (omega arith))
    ∙ ap (λ (n : ℕ). field word (8 * from) 8 + 256 * n) (number_is memory word (suc count) (from + 1) (address + 1) (omega arith) (λ j below.
    let there : address + 1 + j ≡ address + suc j = omega arith in
    let here : from + suc j ≡ from + 1 + j = omega arith in
    ap (byte_at memory) there ∙ each (suc j) (omega arith) ∙ ap (λ (n : ℕ). field word (8 * n) 8) here))
    ∙ one_digit word from (suc count)

-- so many bytes of a word from one on
abbrev parts : (word from count : ℕ) → List ℕ
parts word from zero = []
parts word from (suc count) = field word (8 * from) 8 ∷ parts word (from + 1) count

parts_up : (word from count : ℕ) → parts (word / 256) from count ≡ parts word (from + 1) count
parts_up word from zero = refl
parts_up word from (suc count) =
    let up : 8 + 8 * from ≡ 8 * (from + 1) = omega arith in
    ap (λ (b : ℕ). b ∷ parts (word / 256) (from + 1) count) (field_up word 8 (8 * from) 8 ∙ ap (λ (k : ℕ). field word k 8) up)
    ∙ ap (λ (bs : List ℕ). field word (8 * (from + 1)) 8 ∷ bs) (parts_up word (from + 1) count)

parts_are : (n word from count : ℕ) → from + count ≤ n → take count (drop from (little_endian n word)) ≡ parts word from count
parts_are zero word zero zero fits = refl
parts_are zero word from (suc count) fits = absurd (omega arith)
parts_are zero word (suc from) count fits = absurd (omega arith)
parts_are (suc n) word zero zero fits = refl
parts_are (suc n) word zero (suc count) fits =
    let first : word % 256 ≡ field word (8 * 0) 8 = omega arith in
    ap (λ (b : ℕ). b ∷ take count (little_endian n (word / 256))) first
    ∙ ap (λ (bs : List ℕ). field word (8 * 0) 8 ∷ bs) (parts_are n (word / 256) 0 count (omega arith) ∙ parts_up word 0 count)
parts_are (suc n) word (suc from) count fits =
    let up : from + 1 ≡ suc from = omega arith in
    parts_are n (word / 256) from count (omega arith) ∙ parts_up word from count ∙ ap (λ (k : ℕ). parts word k count) up

-- the bytes of memory that are a word's from one on
pub bytes_are : (memory : Memory) (word count from address : ℕ) → from + count ≤ 8 → address + count ≤ 2 ^ 64 → ((j : ℕ) → j < count → byte_at memory (address + j) ≡ field word (8 * (from + j)) 8) → bytes_at memory address count ≡ take count (drop from (little_endian 8 word))
bytes_are memory word count from address within fits each = by_parts count from address fits each ∙ sym (parts_are 8 word from count within)
  where
    by_parts : (rest start place : ℕ) → place + rest ≤ 2 ^ 64 → ((j : ℕ) → j < rest → byte_at memory (place + j) ≡ field word (8 * (start + j)) 8) → bytes_at memory place rest ≡ parts word start rest
    by_parts zero start place room all = refl
    by_parts (suc zero) start place room all = ap (λ (b : ℕ). b ∷ []) (ap (byte_at memory) (sym (add-zero place)) ∙ all 0 (omega arith) ∙ ap (λ (n : ℕ). field word (8 * n) 8) (add-zero start))
    by_parts (suc (suc rest)) start place room all =
        ap (λ (b : ℕ). b ∷ bytes_at memory (next_address place) (suc rest)) (ap (byte_at memory) (sym (add-zero place)) ∙ all 0 (omega arith) ∙ ap (λ (n : ℕ). field word (8 * n) 8) (add-zero start))
        ∙ ap (λ (a : ℕ). field word (8 * start) 8 ∷ bytes_at memory a (suc rest)) (next_is place (omega arith))
        ∙ ap (λ (bs : List ℕ). field word (8 * start) 8 ∷ bs) (by_parts (suc rest) (start + 1) (place + 1) (omega arith) (λ j below.
        let there : place + 1 + j ≡ place + suc j = omega arith in
        let here : start + suc j ≡ start + 1 + j = omega arith in
        ap (byte_at memory) there ∙ all (suc j) (omega arith) ∙ ap (λ (n : ℕ). field word (8 * n) 8) here))

-- byte j of a number
pub little_at : (n value j : ℕ) → j < n → get_or (little_endian n value) j 0 ≡ field value (8 * j) 8
little_at zero value j below = absurd (omega arith)
little_at (suc n) value zero below = let first : value % 256 ≡ field value (8 * 0) 8 = omega arith in first
little_at (suc n) value (suc j) below =
    let up : 8 + 8 * j ≡ 8 * suc j = omega arith in
    little_at n (value / 256) j (omega arith) ∙ field_up value 8 (8 * j) 8 ∙ ap (λ (k : ℕ). field value k 8) up

pub length-little_endian : (n value : ℕ) → length (little_endian n value) ≡ n
length-little_endian zero value = refl
length-little_endian (suc n) value = ap suc (length-little_endian n (value / 256))

-- a byte of a number below 2 ^ 64
cut : (n j : ℕ) → j < 8 → field (n % 2 ^ 64) (8 * j) 8 ≡ field n (8 * j) 8
cut n zero h = omega arith
cut n (suc zero) h = omega arith
cut n (suc (suc zero)) h = omega arith
cut n (suc (suc (suc zero))) h = omega arith
cut n (suc (suc (suc (suc zero)))) h = omega arith
cut n (suc (suc (suc (suc (suc zero))))) h = omega arith
cut n (suc (suc (suc (suc (suc (suc zero)))))) h = omega arith
cut n (suc (suc (suc (suc (suc (suc (suc zero))))))) h = omega arith
cut n (suc (suc (suc (suc (suc (suc (suc (suc j)))))))) h = absurd (omega arith)

-- the bytes of a number that was moved up
pub moved_byte : (value from j : ℕ) → from + j < 8 → field (value * 2 ^ (8 * from) % 2 ^ 64) (8 * (from + j)) 8 ≡ field value (8 * j) 8
moved_byte value from j below =
    let parted : 8 * (from + j) ≡ 8 * from + 8 * j = omega arith in
    cut (value * 2 ^ (8 * from)) (from + j) below
    ∙ ap (λ (k : ℕ). field (value * 2 ^ (8 * from)) k 8) parted
    ∙ sym (field_up (value * 2 ^ (8 * from)) (8 * from) (8 * j) 8)
    ∙ ap (λ (q : ℕ). field q (8 * j) 8) (shl-shr value (8 * from))
