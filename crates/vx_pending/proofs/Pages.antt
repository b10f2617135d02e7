-- Two memories with the same pages: which accesses they let through, and the bytes that are put into both.
use Rattle.std.proofs.Common.{◌≡◌, ◌≢◌, ℕ, zero, suc, ◌+◌, ◌/◌, ◌^◌, ◌<◌, ◌≤◌, Bool, true, false, ◌&&◌, nat_eq, ltb, List, [], ◌∷◌, length, map, if◌then◌else◌, refl, sym, ap, ◌∙◌, subst, ⊎_elim, arith}
use Rattle.std.specs.Option.{option_map_or}
use Rattle.std.specs.Prelude.{Option, Some, slice_index, slice_set}
use Rattle.std.proofs.Math.Nat.{mod-eq_of_lt}
use Rattle.std.proofs.lemmas.Bool.{cases_eq, cases_lt, eqb-true}
use Rattle.std.proofs.lemmas.Bool.Decides.{nat_tests}
use Rattle.std.proofs.lemmas.List.{length-set, get_or-set_same, get_or-set_other, set_past, get_or_past}
use Rattle.vx_base.specs.Numbers.{little_endian}
use Rattle.vx_base.specs.Permissions.{grants}
use Rattle.vx_base.specs.declared.machine.Want.{Want}
use Rattle.vx_base.specs.declared.perm.PageEntry.{PageEntry}
use Rattle.vx_image.specs.Images.{entry_of_page}
use Rattle.vx_image.specs.Pages.{MappedPage, Memory, page_numbered, page_of, is_canonical, permits}
use Rattle.vx_flat.specs.Memory.{offset_of, byte_at, bytes_at, next_address, with_byte, put_byte, put_bytes}
use Rattle.vx_pending.specs.Alike.{HaveSamePages}

abbrev pub extent : MappedPage → ℕ
extent page = length page.bytes

pub same-back : (m n : Memory) → HaveSamePages m n → HaveSamePages n m
same-back m n h = record { entries = sym h.entries; lengths = sym h.lengths }

pub same-on : (l m n : Memory) → HaveSamePages l m → HaveSamePages m n → HaveSamePages l n
same-on l m n g h = record { entries = g.entries ∙ h.entries; lengths = g.lengths ∙ h.lengths }

pub same-itself : (m : Memory) → HaveSamePages m m
same-itself m = record { entries = refl; lengths = refl }

-- ---- which accesses are let through

abbrev granted : Option MappedPage → Want → Bool
granted o want = option_map_or (λ (page : MappedPage). grants page.permissions want) o false

abbrev granted_among : (number : ℕ) → Want → List PageEntry → Bool
granted_among number want [] = false
granted_among number want (e ∷ entries) = if nat_eq e.page number then grants e.perm.bits want else granted_among number want entries

granted-is : (number : ℕ) (want : Want) (m : Memory) → granted (page_numbered number m) want ≡ granted_among number want (map entry_of_page m)
granted-is number want [] = refl
granted-is number want (page ∷ m) = by_test (nat_eq page.number number) (page_numbered number m) (granted_among number want (map entry_of_page m)) (granted-is number want m)
  where
    by_test : (b : Bool) (o : Option MappedPage) (x : Bool) → granted o want ≡ x → granted (if b then Some page else o) want ≡ (if b then grants page.permissions want else x)
    by_test true o x h = refl
    by_test false o x h = h

pub permits-alike : (m n : Memory) → HaveSamePages m n → (address : ℕ) (want : Want) → permits m address want ≡ permits n address want
permits-alike m n h address want =
    ap (λ b. is_canonical address && b)
    (granted-is (page_of address) want m ∙ ap (granted_among (page_of address) want) h.entries ∙ sym (granted-is (page_of address) want n))

-- ---- a byte that is put

abbrev with_bytes_if : (b : Bool) (offset byte : ℕ) → MappedPage → MappedPage
with_bytes_if b offset byte page = if b then record page { bytes = slice_set page.bytes offset byte } else page

number-stays : (b : Bool) (offset byte : ℕ) (page : MappedPage) → (with_bytes_if b offset byte page).number ≡ page.number
number-stays true offset byte page = refl
number-stays false offset byte page = refl

entry-stays : (b : Bool) (offset byte : ℕ) (page : MappedPage) → entry_of_page (with_bytes_if b offset byte page) ≡ entry_of_page page
entry-stays true offset byte page = refl
entry-stays false offset byte page = refl

extent-stays : (b : Bool) (offset byte : ℕ) (page : MappedPage) → extent (with_bytes_if b offset byte page) ≡ extent page
extent-stays true offset byte page = length-set page.bytes offset byte
extent-stays false offset byte page = refl

map-stays : {X : Type 0} (f : MappedPage → X) (number offset byte : ℕ) → ((page : MappedPage) → f (with_byte number offset byte page) ≡ f page) → (m : Memory) → map f (map (with_byte number offset byte) m) ≡ map f m
map-stays f number offset byte h [] = refl
map-stays f number offset byte h (page ∷ m) = λ j. h page j ∷ map-stays f number offset byte h m j

pub put-same : (m : Memory) (address byte : ℕ) → HaveSamePages (put_byte m address byte) m
put-same m address byte = record {
  entries = map-stays entry_of_page (page_of address) (offset_of address) byte (λ page. entry-stays (nat_eq page.number (page_of address)) (offset_of address) byte page) m;
  lengths = map-stays extent (page_of address) (offset_of address) byte (λ page. extent-stays (nat_eq page.number (page_of address)) (offset_of address) byte page) m;
}

abbrev byte_in : Option MappedPage → (offset : ℕ) → ℕ
byte_in o offset = option_map_or (λ (page : MappedPage). slice_index page.bytes offset) o 0

-- what then stands where a byte was put
abbrev written_among : (number offset byte : ℕ) → List PageEntry → List ℕ → ℕ
written_among number offset byte [] lengths = 0
written_among number offset byte (e ∷ entries) [] = 0
written_among number offset byte (e ∷ entries) (n ∷ lengths) = if nat_eq e.page number then (if ltb offset n then byte else 0) else written_among number offset byte entries lengths

set-at : (bytes : List ℕ) (offset byte : ℕ) → slice_index (slice_set bytes offset byte) offset ≡ (if ltb offset (length bytes) then byte else 0)
set-at bytes offset byte = ⊎_elim within past (cases_lt offset (length bytes))
  where
    within : offset < length bytes → slice_index (slice_set bytes offset byte) offset ≡ (if ltb offset (length bytes) then byte else 0)
    within l =
        let test : ltb offset (length bytes) ≡ true = grind (arith, nat_tests) in
        get_or-set_same bytes offset byte 0 l ∙ sym (ap (λ b. if b then byte else 0) test)

    past : length bytes ≤ offset → slice_index (slice_set bytes offset byte) offset ≡ (if ltb offset (length bytes) then byte else 0)
    past l =
        let test : ltb offset (length bytes) ≡ false = grind (arith, nat_tests) in
        ap (λ (xs : List ℕ). slice_index xs offset) (set_past bytes offset byte l) ∙ get_or_past bytes offset 0 l ∙ sym (ap (λ b. if b then byte else 0) test)

written-is : (number offset byte : ℕ) (m : Memory) → byte_in (page_numbered number (map (with_byte number offset byte) m)) offset ≡ written_among number offset byte (map entry_of_page m) (map extent m)
written-is number offset byte [] = refl
written-is number offset byte (page ∷ m) =
    let new = with_byte number offset byte page in
    let later = page_numbered number (map (with_byte number offset byte) m) in
    ap (λ x. byte_in (if nat_eq x number then Some new else later) offset) (number-stays (nat_eq page.number number) offset byte page)
    ∙ by_test (nat_eq page.number number) later (written_among number offset byte (map entry_of_page m) (map extent m)) (written-is number offset byte m)
  where
    by_test : (b : Bool) (later : Option MappedPage) (rest : ℕ) → byte_in later offset ≡ rest → byte_in (if b then Some (with_bytes_if b offset byte page) else later) offset ≡ (if b then (if ltb offset (length page.bytes) then byte else 0) else rest)
    by_test true later rest h = set-at page.bytes offset byte
    by_test false later rest h = h

byte-apart : (number place other offset byte : ℕ) → (other ≡ number → place ≢ offset) → (m : Memory) → byte_in (page_numbered number (map (with_byte other offset byte) m)) place ≡ byte_in (page_numbered number m) place
byte-apart number place other offset byte apart [] = refl
byte-apart number place other offset byte apart (page ∷ m) =
    let new = with_byte other offset byte page in
    let later = page_numbered number (map (with_byte other offset byte) m) in
    ap (λ x. byte_in (if nat_eq x number then Some new else later) place) (number-stays (nat_eq page.number other) offset byte page)
    ∙ by_tests (nat_eq page.number number) (nat_eq page.number other) later (page_numbered number m)
    (λ p q. apart (sym (eqb-true page.number other q) ∙ eqb-true page.number number p))
    (byte-apart number place other offset byte apart m)
  where
    by_tests : (b d : Bool) (later earlier : Option MappedPage) → (b ≡ true → d ≡ true → place ≢ offset) → byte_in later place ≡ byte_in earlier place → byte_in (if b then Some (with_bytes_if d offset byte page) else later) place ≡ byte_in (if b then Some page else earlier) place
    by_tests true true later earlier f h = get_or-set_other page.bytes offset place byte 0 (f refl refl)
    by_tests true false later earlier f h = refl
    by_tests false d later earlier f h = h

abbrev pub Agree : Memory → Memory → ℕ → Type 0
Agree m n address = byte_at m address ≡ byte_at n address

put-elsewhere : (m : Memory) (address byte c : ℕ) → c ≢ address → byte_at (put_byte m address byte) c ≡ byte_at m c
put-elsewhere m address byte c ne = byte-apart (page_of c) (offset_of c) (page_of address) (offset_of address) byte (λ p q. ne (omega (arith, p, q))) m

put-there : (m n : Memory) (address byte : ℕ) → HaveSamePages m n → Agree (put_byte m address byte) (put_byte n address byte) address
put-there m n address byte h =
    written-is (page_of address) (offset_of address) byte m
    ∙ (λ j. written_among (page_of address) (offset_of address) byte (h.entries j) (h.lengths j))
    ∙ sym (written-is (page_of address) (offset_of address) byte n)

put-agree : (m n : Memory) (address byte c : ℕ) → HaveSamePages m n → Agree m n c → Agree (put_byte m address byte) (put_byte n address byte) c
put-agree m n address byte c same h =
    ⊎_elim
    (λ e. subst (λ x. Agree (put_byte m address byte) (put_byte n address byte) x) (sym e) (put-there m n address byte same))
    (λ ne. put-elsewhere m address byte c ne ∙ h ∙ sym (put-elsewhere n address byte c ne))
    (cases_eq c address)

-- ---- bytes that are put

pub puts-same : (bytes : List ℕ) (m : Memory) (address : ℕ) → HaveSamePages (put_bytes m address bytes) m
puts-same [] m address = same-itself m
puts-same (byte ∷ bytes) m address = same-on _ (put_byte m address byte) m (puts-same bytes (put_byte m address byte) (next_address address)) (put-same m address byte)

both-put : (m n : Memory) (address byte : ℕ) → HaveSamePages m n → HaveSamePages (put_byte m address byte) (put_byte n address byte)
both-put m n address byte h = same-on _ m _ (put-same m address byte) (same-on _ n _ h (same-back _ n (put-same n address byte)))

pub puts-agree : (bytes : List ℕ) (m n : Memory) (address c : ℕ) → HaveSamePages m n → Agree m n c → Agree (put_bytes m address bytes) (put_bytes n address bytes) c
puts-agree [] m n address c same h = h
puts-agree (byte ∷ bytes) m n address c same h = puts-agree bytes (put_byte m address byte) (put_byte n address byte) (next_address address) c (both-put m n address byte same) (put-agree m n address byte c same h)

next-is : (address : ℕ) → address + 1 < 2 ^ 64 → next_address address ≡ address + 1
next-is address l = mod-eq_of_lt l

-- where bytes were put, both memories have them
pub puts-there : (bytes : List ℕ) (m n : Memory) (address c : ℕ) → HaveSamePages m n → address + length bytes ≤ 2 ^ 64 → address ≤ c → c < address + length bytes → Agree (put_bytes m address bytes) (put_bytes n address bytes) c
puts-there [] m n address c same fits low high = absurd (omega (arith, low, high))
puts-there (byte ∷ bytes) m n address c same fits low high =
    let next = both-put m n address byte same in
    ⊎_elim
    (λ e. puts-agree bytes (put_byte m address byte) (put_byte n address byte) (next_address address) c next (subst (λ x. Agree (put_byte m address byte) (put_byte n address byte) x) (sym e) (put-there m n address byte same)))
    (λ ne.
    let is : next_address address ≡ address + 1 = next-is address (omega (arith, fits, low, high, ne)) in
    puts-there bytes (put_byte m address byte) (put_byte n address byte) (next_address address) c next (omega (arith, is, fits)) (omega (arith, is, low, ne)) (omega (arith, is, high)))
    (cases_eq c address)

-- elsewhere they change nothing
pub puts-elsewhere : (bytes : List ℕ) (m : Memory) (address c : ℕ) → address + length bytes ≤ 2 ^ 64 → (address ≤ c → c < address + length bytes → ⊥) → byte_at (put_bytes m address bytes) c ≡ byte_at m c
puts-elsewhere [] m address c fits out = refl
puts-elsewhere (byte ∷ []) m address c fits out = put-elsewhere m address byte c (λ e. out (omega (arith, e)) (omega (arith, e)))
puts-elsewhere (byte ∷ more ∷ bytes) m address c fits out =
    let is : next_address address ≡ address + 1 = next-is address (omega (arith, fits)) in
    puts-elsewhere (more ∷ bytes) (put_byte m address byte) (next_address address) c (omega (arith, is, fits)) (λ low high. out (omega (arith, is, low)) (omega (arith, is, high)))
    ∙ put-elsewhere m address byte c (λ e. out (omega (arith, e)) (omega (arith, e)))

pub length-little_endian : (count n : ℕ) → length (little_endian count n) ≡ count
length-little_endian zero n = refl
length-little_endian (suc count) n = ap suc (length-little_endian count (n / 256))

-- ---- bytes that are read

pub all-bytes-alike : (m n : Memory) → ((c : ℕ) → Agree m n c) → (count address : ℕ) → bytes_at m address count ≡ bytes_at n address count
all-bytes-alike m n h zero address = refl
all-bytes-alike m n h (suc count) address = λ j. h address j ∷ all-bytes-alike m n h count (next_address address) j

pub bytes-alike : (m n : Memory) (count address : ℕ) → address + count ≤ 2 ^ 64 → ((c : ℕ) → address ≤ c → c < address + count → Agree m n c) → bytes_at m address count ≡ bytes_at n address count
bytes-alike m n zero address fits h = refl
bytes-alike m n (suc zero) address fits h =
    let here = h address (omega arith) (omega arith) in
    λ j. here j ∷ []
bytes-alike m n (suc (suc count)) address fits h =
    let here = h address (omega arith) (omega arith) in
    let is : next_address address ≡ address + 1 = next-is address (omega (arith, fits)) in
    let rest = bytes-alike m n (suc count) (next_address address) (omega (arith, is, fits)) (λ c low high. h c (omega (arith, is, low)) (omega (arith, is, high))) in
    λ j. here j ∷ rest j
