-- What a store leaves: the permissions, and the bytes of other pages.
use Rattle.std.proofs.Common.{◌≡◌, ◌≢◌, ℕ, zero, suc, ◌+◌, ◌-◌, ◌/◌, ◌%◌, ◌^◌, ◌<◌, ◌≤◌, Bool, true, false, ◌&&◌, ◌||◌, nat_eq, List, [], ◌∷◌, length, map, if◌then◌else◌, refl, sym, ap, ◌∙◌, ⊎_elim, arith}
use Rattle.std.specs.Option.{option_map_or}
use Rattle.std.specs.Prelude.{Option, Some, slice_index, slice_set}
use Rattle.std.proofs.Math.Nat.{mod-eq_of_lt}
use Rattle.std.proofs.lemmas.Bool.{and_parts, or_cases, eqb-true, cases_eq, ne_eqb, eq-eqb, true≢false}
use Rattle.std.proofs.lemmas.Nat.{shr-shr}
use Rattle.vx_base.specs.Numbers.{little_endian, from_little_endian}
use Rattle.vx_base.specs.Permissions.{grants}
use Rattle.vx_base.specs.declared.machine.Want.{Want}
use Rattle.vx_image.specs.Pages.{MappedPage, Memory, page_numbered, page_of, is_canonical, permits}
use Rattle.vx_flat.specs.Memory.{offset_of, byte_at, next_address, with_byte, put_byte, put_bytes, number_at}

-- ---- a page with a byte set

abbrev with_bytes_if : (b : Bool) (offset byte : ℕ) → MappedPage → MappedPage
with_bytes_if b offset byte page = if b then record page { bytes = slice_set page.bytes offset byte } else page

number-stays : (b : Bool) (offset byte : ℕ) (page : MappedPage) → (with_bytes_if b offset byte page).number ≡ page.number
number-stays true offset byte page = refl
number-stays false offset byte page = refl

permissions-stay : (b : Bool) (offset byte : ℕ) (page : MappedPage) → (with_bytes_if b offset byte page).permissions ≡ page.permissions
permissions-stay true offset byte page = refl
permissions-stay false offset byte page = refl

-- ---- permissions

abbrev granted : Option MappedPage → Want → Bool
granted o want = option_map_or (λ (page : MappedPage). grants page.permissions want) o false

granted-if : (want : Want) (b : Bool) (new old : MappedPage) (later earlier : Option MappedPage) → new.permissions ≡ old.permissions → granted later want ≡ granted earlier want → granted (if b then Some new else later) want ≡ granted (if b then Some old else earlier) want
granted-if want true new old later earlier p h = ap (λ n. grants n want) p
granted-if want false new old later earlier p h = h

granted-stays : (want : Want) (number n offset byte : ℕ) (memory : Memory) → granted (page_numbered number (map (with_byte n offset byte) memory)) want ≡ granted (page_numbered number memory) want
granted-stays want number n offset byte [] = refl
granted-stays want number n offset byte (page ∷ memory) =
    let new = with_byte n offset byte page in
    let later = page_numbered number (map (with_byte n offset byte) memory) in
    ap (λ x. granted (if nat_eq x number then Some new else later) want) (number-stays (nat_eq page.number n) offset byte page)
    ∙ granted-if want (nat_eq page.number number) new page later (page_numbered number memory) (permissions-stay (nat_eq page.number n) offset byte page) (granted-stays want number n offset byte memory)

permits-byte : (memory : Memory) (address byte a : ℕ) (want : Want) → permits (put_byte memory address byte) a want ≡ permits memory a want
permits-byte memory address byte a want = ap (λ b. is_canonical a && b) (granted-stays want (page_of a) (page_of address) (offset_of address) byte memory)

pub permits-bytes : (bytes : List ℕ) (memory : Memory) (address a : ℕ) (want : Want) → permits (put_bytes memory address bytes) a want ≡ permits memory a want
permits-bytes [] memory address a want = refl
permits-bytes (byte ∷ bytes) memory address a want = permits-bytes bytes (put_byte memory address byte) (next_address address) a want ∙ permits-byte memory address byte a want

-- addresses of one page are let through alike
permits-page : (memory : Memory) (a b : ℕ) (want : Want) → page_of a ≡ page_of b → permits memory a want ≡ permits memory b want
permits-page memory a b want same =
    let upper : a / 2 ^ 38 ≡ b / 2 ^ 38 = sym (shr-shr a 12 26) ∙ ap (λ (q : ℕ). q / 2 ^ 26) same ∙ shr-shr b 12 26 in
    λ j. (nat_eq (upper j) 0 || nat_eq (upper j) (2 ^ 26 - 1)) && granted (page_numbered (same j) memory) want

-- a page that one access is let through on and the other isn't, is another one
pub other-page : (memory : Memory) (a b : ℕ) (want : Want) → permits memory a want ≡ true → permits memory b want ≡ false → page_of a ≢ page_of b
other-page memory a b want granted denied e = true≢false (sym granted ∙ permits-page memory a b want e ∙ denied)

canonical-below : (address : ℕ) → is_canonical address ≡ true → address < 2 ^ 64
canonical-below address h =
    ⊎_elim
    (λ t. let e = eqb-true (address / 2 ^ 38) 0 t in omega arith)
    (λ t. let e = eqb-true (address / 2 ^ 38) (2 ^ 26 - 1) t in omega arith)
    (or_cases (nat_eq (address / 2 ^ 38) 0) (nat_eq (address / 2 ^ 38) (2 ^ 26 - 1)) h)

pub permitted-below : (memory : Memory) (address : ℕ) (want : Want) → permits memory address want ≡ true → address < 2 ^ 64
permitted-below memory address want h = canonical-below address (and_parts (is_canonical address) (granted (page_numbered (page_of address) memory) want) h).0

-- ---- bytes of other pages

abbrev byte_in : Option MappedPage → (offset : ℕ) → ℕ
byte_in o offset = option_map_or (λ (page : MappedPage). slice_index page.bytes offset) o 0

module _ (number n place offset byte : ℕ) (ne : n ≢ number) (page : MappedPage) where
  abbrev new : MappedPage
  new = with_byte n offset byte page

  found : (later earlier : Option MappedPage) → page.number ≡ number → byte_in (if nat_eq new.number number then Some new else later) place ≡ byte_in (if nat_eq page.number number then Some page else earlier) place
  found later earlier e =
      let same : new ≡ page = ap (λ b. with_bytes_if b offset byte page) (ne_eqb page.number n (λ q. ne (sym q ∙ e))) in
      let here = eq-eqb page.number number e in
      ap (λ (x : MappedPage). byte_in (if nat_eq x.number number then Some x else later) place) same
      ∙ ap (λ b. byte_in (if b then Some page else later) place) here
      ∙ sym (ap (λ b. byte_in (if b then Some page else earlier) place) here)

  passed : (later earlier : Option MappedPage) → byte_in later place ≡ byte_in earlier place → page.number ≢ number → byte_in (if nat_eq new.number number then Some new else later) place ≡ byte_in (if nat_eq page.number number then Some page else earlier) place
  passed later earlier h differs =
      let there = ne_eqb page.number number differs in
      ap (λ x. byte_in (if nat_eq x number then Some new else later) place) (number-stays (nat_eq page.number n) offset byte page)
      ∙ ap (λ b. byte_in (if b then Some new else later) place) there
      ∙ h
      ∙ sym (ap (λ b. byte_in (if b then Some page else earlier) place) there)

byte-stays : (number n place offset byte : ℕ) → n ≢ number → (memory : Memory) → byte_in (page_numbered number (map (with_byte n offset byte) memory)) place ≡ byte_in (page_numbered number memory) place
byte-stays number n place offset byte ne [] = refl
byte-stays number n place offset byte ne (page ∷ memory) =
    let later = page_numbered number (map (with_byte n offset byte) memory) in
    ⊎_elim
    (found number n place offset byte ne page later (page_numbered number memory))
    (passed number n place offset byte ne page later (page_numbered number memory) (byte-stays number n place offset byte ne memory))
    (cases_eq page.number number)

next-on-page : (a n : ℕ) → a < 2 ^ 64 → a % 4096 + suc (suc n) ≤ 4096 → (next_address a / 4096 ≡ a / 4096) × ((next_address a % 4096 + suc n ≤ 4096) × (next_address a < 2 ^ 64))
next-on-page a n below fits =
    let small : a + 1 < 2 ^ 64 = omega arith in
    let is : next_address a ≡ a + 1 = mod-eq_of_lt small in
    (omega arith, (omega arith, omega arith))

-- bytes that are put on a page leave those of other pages
pub bytes-stay : (bytes : List ℕ) (memory : Memory) (address b : ℕ) → page_of address ≢ page_of b → address % 4096 + length bytes ≤ 4096 → address < 2 ^ 64 → byte_at (put_bytes memory address bytes) b ≡ byte_at memory b
bytes-stay [] memory address b ne fits below = refl
bytes-stay (byte ∷ []) memory address b ne fits below = byte-stays (page_of b) (page_of address) (offset_of b) (offset_of address) byte ne memory
bytes-stay (byte ∷ more ∷ bytes) memory address b ne fits below =
    let next = next-on-page address (length bytes) below fits in
    bytes-stay (more ∷ bytes) (put_byte memory address byte) (next_address address) b (λ e. ne (sym next.0 ∙ e)) next.1.0 next.1.1
    ∙ byte-stays (page_of b) (page_of address) (offset_of b) (offset_of address) byte ne memory

pub length-little_endian : (count n : ℕ) → length (little_endian count n) ≡ count
length-little_endian zero n = refl
length-little_endian (suc count) n = ap suc (length-little_endian count (n / 256))

-- ---- a word

next-in-word : (a : ℕ) → a < 2 ^ 64 → a % 4 < 3 → (next_address a ≡ a + 1) × (next_address a / 4096 ≡ a / 4096)
next-in-word a below fits =
    let small : a + 1 < 2 ^ 64 = omega arith in
    let is : next_address a ≡ a + 1 = mod-eq_of_lt small in
    (is, omega arith)

pub word-stays : (old new : Memory) (pc : ℕ) → pc % 4 ≡ 0 → pc < 2 ^ 64 → ((b : ℕ) → page_of b ≡ page_of pc → byte_at new b ≡ byte_at old b) → number_at new pc 4 ≡ number_at old pc 4
word-stays old new pc aligned below h =
    let one = next-in-word pc below (omega arith) in
    let two = next-in-word (next_address pc) (omega (arith, one.0)) (omega (arith, one.0)) in
    let three = next-in-word (next_address (next_address pc)) (omega (arith, one.0, two.0)) (omega (arith, one.0, two.0)) in
    let a = h pc refl in
    let b = h (next_address pc) one.1 in
    let c = h (next_address (next_address pc)) (two.1 ∙ one.1) in
    let d = h (next_address (next_address (next_address pc))) (three.1 ∙ two.1 ∙ one.1) in
    ap from_little_endian (λ j. a j ∷ b j ∷ c j ∷ d j ∷ [])
