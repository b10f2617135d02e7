-- Numbers and their bytes, least first.
use Rattle.std.proofs.Common.{◌≡◌, ℕ, zero, suc, ◌+◌, ◌/◌, ◌%◌, ◌<◌, ◌≤◌, List, [], ◌∷◌, ◌++◌, length, length-drop, get_or, take, take_all, drop, set, refl, sym, ap, ◌∙◌, append_assoc, take-append-drop, add-zero, arith}
use Rattle.std.proofs.lemmas.List.{append-nil, drop-drop, drop-set-lt, get_or-drop, take_more, take_more_set}
use Rattle.std.specs.Int.{from_le_bytes, to_le_bytes, w16, w32, w64}
use Rattle.vx_base.specs.Numbers.{from_little_endian, little_endian}

-- two, four and eight bytes are read as the number that they are
pub from_two : (xs : List ℕ) → length xs ≡ 2 → from_le_bytes w16 xs ≡ from_little_endian xs
from_two (a ∷ b ∷ []) long = omega arith
from_two other long = absurd (omega (arith, long))

pub from_four : (xs : List ℕ) → length xs ≡ 4 → from_le_bytes w32 xs ≡ from_little_endian xs
from_four (a ∷ b ∷ c ∷ d ∷ []) long = omega arith
from_four other long = absurd (omega (arith, long))

pub from_eight : (xs : List ℕ) → length xs ≡ 8 → from_le_bytes w64 xs ≡ from_little_endian xs
from_eight (a ∷ b ∷ c ∷ d ∷ e ∷ f ∷ g ∷ h ∷ []) long = omega arith
from_eight other long = absurd (omega (arith, long))

-- the first bytes of more of a number's bytes
take-little_endian : (n k value : ℕ) → n ≤ k → take n (little_endian k value) ≡ little_endian n value
take-little_endian zero k value fits = refl
take-little_endian (suc n) zero value fits = absurd (omega (arith, fits))
take-little_endian (suc n) (suc k) value fits = ap (λ (xs : List ℕ). value % 256 ∷ xs) (take-little_endian n k (value / 256) (omega (arith, fits)))

-- the eight bytes of a number
to_eight : (value : ℕ) → to_le_bytes w64 value ≡ little_endian 8 value
to_eight value =
    let e2 : value / 256 / 256 ≡ value / 65536 = omega arith in
    let e3 : value / 65536 / 256 ≡ value / 16777216 = omega arith in
    let e4 : value / 16777216 / 256 ≡ value / 4294967296 = omega arith in
    let e5 : value / 4294967296 / 256 ≡ value / 1099511627776 = omega arith in
    let e6 : value / 1099511627776 / 256 ≡ value / 281474976710656 = omega arith in
    let e7 : value / 281474976710656 / 256 ≡ value / 72057594037927936 = omega arith in
    rw (e2, e3, e4, e5, e6, e7) refl

pub first_of_eight : (value n : ℕ) → n ≤ 8 → take n (to_le_bytes w64 value) ≡ little_endian n value
first_of_eight value n fits = ap (λ (xs : List ℕ). take n xs) (to_eight value) ∙ take-little_endian n 8 value fits

pub length-little_endian : (n value : ℕ) → length (little_endian n value) ≡ n
length-little_endian zero value = refl
length-little_endian (suc n) value = ap suc (length-little_endian n (value / 256))

-- values behind one that was set stand behind it
pub put_next : (bytes values : List ℕ) (value i : ℕ) → i < length bytes → take (i + 1) (set bytes i value) ++ (values ++ drop (i + 1 + length values) (set bytes i value)) ≡ take i bytes ++ ((value ∷ values) ++ drop (i + suc (length values)) bytes)
put_next bytes values value i within =
    let behind : i + 1 + length values ≡ i + suc (length values) = omega arith in
    rw (take_more_set bytes i value within, drop-set-lt (i + 1 + length values) bytes i value (omega arith), behind)
    (append_assoc (take i bytes) (value ∷ []) (values ++ drop (i + suc (length values)) bytes))

-- the first values of a list stand at an index, and behind them what was there
pub record IsPut (old values : List ℕ) (i k : ℕ) (new : List ℕ) : Type 0 where
  pub front : take (i + k) new ≡ take i old ++ take k values
  pub behind : drop (i + k) new ≡ drop (i + k) old

pub put_none : (old values : List ℕ) (i : ℕ) → IsPut old values i 0 old
put_none old values i = record { front = rw (add-zero i) (sym (append-nil (take i old))); behind = refl }

-- one more
pub more_put : (old values new : List ℕ) (i k : ℕ) → k < length values → i + k < length new → IsPut old values i k new → IsPut old values i (k + 1) (set new (i + k) (get_or values k 0))
more_put old values new i k some within put =
    let value = get_or values k 0 in
    let next : i + (k + 1) ≡ i + k + 1 = omega arith in
    record {
      front =
          ap (λ (n : ℕ). take n (set new (i + k) value)) next
          ∙ take_more_set new (i + k) value within
          ∙ ap (λ (xs : List ℕ). xs ++ value ∷ []) put.front
          ∙ append_assoc (take i old) (take k values) (value ∷ [])
          ∙ ap (λ (xs : List ℕ). take i old ++ xs) (sym (take_more values k 0 some));
      behind =
          ap (λ (n : ℕ). drop n (set new (i + k) value)) next
          ∙ drop-set-lt (i + k + 1) new (i + k) value (omega arith)
          ∙ sym (drop-drop 1 (i + k) new)
          ∙ ap (λ (xs : List ℕ). drop 1 xs) put.behind
          ∙ drop-drop 1 (i + k) old
          ∙ ap (λ (n : ℕ). drop n old) (sym next);
    }

-- all of them
pub all_put : (old values new : List ℕ) (i n : ℕ) → IsPut old values i n new → new ≡ take i old ++ (take n values ++ drop (i + n) old)
all_put old values new i n put =
    sym (take-append-drop (i + n) new)
    ∙ (λ j. put.front j ++ put.behind j)
    ∙ append_assoc (take i old) (take n values) (drop (i + n) old)

-- the first bytes of an array are those from an index on, and one more is
pub more_taken : (bytes array : List ℕ) (i k : ℕ) → i + k < length bytes → k < length array → take k array ≡ take k (drop i bytes) → take (k + 1) (set array k (get_or bytes (i + k) 0)) ≡ take (k + 1) (drop i bytes)
more_taken bytes array i k within some same =
    take_more_set array k (get_or bytes (i + k) 0) some
    ∙ (λ j. same j ++ sym (get_or-drop i bytes k 0) j ∷ [])
    ∙ sym (take_more (drop i bytes) k 0 (omega (arith, length-drop i bytes)))

pub all_taken : (bytes array : List ℕ) (i k n : ℕ) → length array ≡ n → k ≡ n → take k array ≡ take k (drop i bytes) → array ≡ take n (drop i bytes)
all_taken bytes array i k n long through same =
    sym (take_all n array (omega (arith, long)))
    ∙ ap (λ (m : ℕ). take m array) (sym through)
    ∙ same
    ∙ ap (λ (m : ℕ). take m (drop i bytes)) through
