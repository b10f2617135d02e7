-- Which page of a memory a store leaves as it was, and what its pages grant.
use Rattle.std.proofs.Common.{◌≡◌, ℕ, zero, suc, ◌+◌, ◌-◌, ◌*◌, ◌/◌, ◌%◌, ◌^◌, ◌<◌, ◌≤◌, Bool, true, false, not, ◌&&◌, ◌||◌, nat_eq, List, [], ◌∷◌, length, map, if◌then◌else◌, refl, sym, ap, ◌∙◌, subst, ⊎_elim, arith}
use Rattle.std.specs.Option.{option_map_or}
use Rattle.std.specs.Prelude.{Option, Some, None, is_some, slice_set}
use Rattle.std.proofs.Math.Nat.{mod-eq_of_lt}
use Rattle.std.proofs.lemmas.Bool.{false≢true, true≢false, or_parts, or_cases, not-false, eqb-true, eq-eqb}
use Rattle.vx_base.specs.Numbers.{little_endian}
use Rattle.vx_base.specs.Permissions.{grants}
use Rattle.vx_base.specs.declared.machine.Want.{Want}
use Rattle.vx_base.specs.declared.machine.Want.TheVariants.{Store}
use Rattle.vx_base.specs.declared.perm.PageEntry.{PageEntry}
use Rattle.vx_image.specs.Images.{entry_of_page}
use Rattle.vx_image.specs.Pages.{MappedPage, Memory, page_numbered, page_of, is_canonical, is_granted}
use Rattle.vx_vstate.specs.Registers.{is_byte_width}
use Rattle.vx_tables.specs.Residency.{PlacedPage, Residency, IsOf, pages_of, placed}
use Rattle.vx_flat.specs.Checks.{cause_of, misaligned, page_fault}
use Rattle.vx_flat.specs.Memory.{offset_of, next_address, with_byte, put_byte, put_bytes, put_number}
use Rattle.vx_episode.specs.Batches.{is_refused}
use Rattle.vx_episode.specs.Footprint.{Access}
use Rattle.vx_episode.specs.History.{Walk, after_walks}
use Rattle.vx_dirty.specs.Dirty.{is_dirty}
use Rattle.vx_dirty.proofs.Fates.{IsGood, Fails_on}
use Rattle.vx_dirty.proofs.Walks.{lets}

-- ---- a byte that is put

abbrev with_bytes_if : (b : Bool) (offset byte : ℕ) → MappedPage → MappedPage
with_bytes_if b offset byte page = if b then record page { bytes = slice_set page.bytes offset byte } else page

number-stays : (b : Bool) (offset byte : ℕ) (page : MappedPage) → (with_bytes_if b offset byte page).number ≡ page.number
number-stays true offset byte page = refl
number-stays false offset byte page = refl

entry-stays : (b : Bool) (offset byte : ℕ) (page : MappedPage) → entry_of_page (with_bytes_if b offset byte page) ≡ entry_of_page page
entry-stays true offset byte page = refl
entry-stays false offset byte page = refl

entries-byte : (number offset byte : ℕ) (m : Memory) → map entry_of_page (map (with_byte number offset byte) m) ≡ map entry_of_page m
entries-byte number offset byte [] = refl
entries-byte number offset byte (page ∷ m) = λ j. entry-stays (nat_eq page.number number) offset byte page j ∷ entries-byte number offset byte m j

pub entries-stay : (bytes : List ℕ) (m : Memory) (address : ℕ) → map entry_of_page (put_bytes m address bytes) ≡ map entry_of_page m
entries-stay [] m address = refl
entries-stay (byte ∷ bytes) m address = entries-stay bytes (put_byte m address byte) (next_address address) ∙ entries-byte (page_of address) (offset_of address) byte m

-- a page of another number stays
byte-elsewhere : (n number offset byte : ℕ) → nat_eq number n ≡ false → (m : Memory) → page_numbered n (map (with_byte number offset byte) m) ≡ page_numbered n m
byte-elsewhere n number offset byte apart [] = refl
byte-elsewhere n number offset byte apart (page ∷ m) =
    let later = page_numbered n (map (with_byte number offset byte) m) in
    ap (λ x. if nat_eq x n then Some (with_bytes_if (nat_eq page.number number) offset byte page) else later) (number-stays (nat_eq page.number number) offset byte page)
    ∙ by_tests (nat_eq page.number number) (nat_eq page.number n)
    (λ a b. false≢true (sym apart ∙ eq-eqb number n (sym (eqb-true page.number number a) ∙ eqb-true page.number n b)))
    later (page_numbered n m) (byte-elsewhere n number offset byte apart m)
  where
    by_tests : (a b : Bool) → (a ≡ true → b ≡ true → ⊥) → (later now : Option MappedPage) → later ≡ now → (if b then Some (with_bytes_if a offset byte page) else later) ≡ (if b then Some page else now)
    by_tests true true none later now h = absurd (none refl refl)
    by_tests false true none later now h = refl
    by_tests true false none later now h = h
    by_tests false false none later now h = h

bytes-elsewhere : (n : ℕ) (bytes : List ℕ) (m : Memory) (address : ℕ) → address + length bytes ≤ 2 ^ 64 → ((c : ℕ) → address ≤ c → c < address + length bytes → nat_eq (page_of c) n ≡ false) → page_numbered n (put_bytes m address bytes) ≡ page_numbered n m
bytes-elsewhere n [] m address fits apart = refl
bytes-elsewhere n (x ∷ []) m address fits apart = byte-elsewhere n (page_of address) (offset_of address) x (apart address (omega arith) (omega arith)) m
bytes-elsewhere n (x ∷ y ∷ bytes) m address fits apart =
    let next : next_address address ≡ address + 1 = mod-eq_of_lt (omega (arith, fits)) in
    ap (λ a. page_numbered n (put_bytes (put_byte m address x) a (y ∷ bytes))) next
    ∙ bytes-elsewhere n (y ∷ bytes) (put_byte m address x) (address + 1) (omega (arith, fits)) (λ c low high. apart c (omega (arith, low)) (omega (arith, high)))
    ∙ byte-elsewhere n (page_of address) (offset_of address) x (apart address (omega arith) (omega arith)) m

-- ---- a number that is put

pub by_width : (P : ℕ → Type 0) (n : ℕ) → P 8 → P 16 → P 32 → P 64 → is_byte_width n ≡ true → P n
by_width P n one two four eight h =
    ⊎_elim
    (λ t. ⊎_elim
    (λ t. ⊎_elim
    (λ t. subst P (sym (eqb-true n 8 t)) one)
    (λ t. subst P (sym (eqb-true n 16 t)) two)
    (or_cases (nat_eq n 8) (nat_eq n 16) t))
    (λ t. subst P (sym (eqb-true n 32 t)) four)
    (or_cases (nat_eq n 8 || nat_eq n 16) (nat_eq n 32) t))
    (λ t. subst P (sym (eqb-true n 64 t)) eight)
    (or_cases (nat_eq n 8 || nat_eq n 16 || nat_eq n 32) (nat_eq n 64) h)

by_bytes : (P : ℕ → Type 0) (n : ℕ) → P 1 → P 2 → P 4 → P 8 → is_byte_width (8 * n) ≡ true → P n
by_bytes P n one two four eight h =
    let whole : 8 * n / 8 ≡ n = omega arith in
    subst P whole (by_width (λ w. P (w / 8)) (8 * n) one two four eight h)

on-page : (address width c : ℕ) → is_byte_width (8 * width) ≡ true → address % width ≡ 0 → address ≤ c → c < address + width → page_of c ≡ page_of address
on-page address width c h = by_bytes (λ w. address % w ≡ 0 → address ≤ c → c < address + w → c / 4096 ≡ address / 4096) width (λ e l u. omega arith) (λ e l u. omega arith) (λ e l u. omega arith) (λ e l u. omega arith) h

fits-below : (address width : ℕ) → is_byte_width (8 * width) ≡ true → address % width ≡ 0 → address < 2 ^ 64 → address + width ≤ 2 ^ 64
fits-below address width h = by_bytes (λ w. address % w ≡ 0 → address < 2 ^ 64 → address + w ≤ 2 ^ 64) width (λ e l. omega arith) (λ e l. omega arith) (λ e l. omega arith) (λ e l. omega arith) h

canonical-below : (address : ℕ) → is_canonical address ≡ true → address < 2 ^ 64
canonical-below address h =
    ⊎_elim
    (λ t. let e = eqb-true (address / 2 ^ 38) 0 t in omega arith)
    (λ t. let e = eqb-true (address / 2 ^ 38) (2 ^ 26 - 1) t in omega arith)
    (or_cases (nat_eq (address / 2 ^ 38) 0) (nat_eq (address / 2 ^ 38) (2 ^ 26 - 1)) h)

length-little_endian : (width value : ℕ) → length (little_endian width value) ≡ width
length-little_endian zero value = refl
length-little_endian (suc width) value = ap suc (length-little_endian width _)

-- an access isn't refused: it is aligned and canonical
record IsAccepted (address width : ℕ) : Type 0 where
  pub aligned : nat_eq (address % width) 0 ≡ true
  pub canonical : is_canonical address ≡ true

accepted-so : (a : Access) → is_refused a ≡ false → IsAccepted a.address a.width
accepted-so a h =
    let parts = or_parts (not (nat_eq (a.address % a.width) 0)) (not (is_canonical a.address)) h in
    record { aligned = not-false (nat_eq (a.address % a.width) 0) parts.0; canonical = not-false (is_canonical a.address) parts.1 }

-- a store that isn't refused leaves a page on which it doesn't lie
pub number-elsewhere : (n : ℕ) (a : Access) → is_byte_width (8 * a.width) ≡ true → is_refused a ≡ false → nat_eq (page_of a.address) n ≡ false → (m : Memory) (value : ℕ) → page_numbered n (put_number m a.address a.width value) ≡ page_numbered n m
number-elsewhere n a wide accepted apart m value =
    let is = accepted-so a accepted in
    let aligned = eqb-true (a.address % a.width) 0 is.aligned in
    let count = length-little_endian a.width value in
    let fits = fits-below a.address a.width wide aligned (canonical-below a.address is.canonical) in
    bytes-elsewhere n (little_endian a.width value) m a.address (omega (arith, fits, count))
    (λ c low high. ap (λ p. nat_eq p n) (on-page a.address a.width c wide aligned low (omega (arith, high, count))) ∙ apart)

pub number-entries : (m : Memory) (address width value : ℕ) → map entry_of_page (put_number m address width value) ≡ map entry_of_page m
number-entries m address width value = entries-stay (little_endian width value) m address

-- the page of a store that passes isn't one without D
pub good-apart : (residency : Residency) (walks : List Walk) (n : ℕ) (a : Access) → IsGood residency walks Store a → is_dirty n (after_walks residency walks) ≡ false → nat_eq (page_of a.address) n ≡ false
good-apart residency walks n a good clean = by_test (nat_eq (page_of a.address) n) refl
  where
    by_test : (b : Bool) → nat_eq (page_of a.address) n ≡ b → b ≡ false
    by_test true e = absurd (false≢true (sym clean ∙ ap (λ k. is_dirty k (after_walks residency walks)) (sym (eqb-true (page_of a.address) n e)) ∙ good.stored refl))
    by_test false e = refl

-- ---- what pages grant

abbrev granted_among : (number : ℕ) → Want → List PageEntry → Bool
granted_among number want [] = false
granted_among number want (e ∷ entries) = if nat_eq e.page number then grants e.perm.bits want else granted_among number want entries

granted-memory : (number : ℕ) (want : Want) (m : Memory) → option_map_or (λ (page : MappedPage). grants page.permissions want) (page_numbered number m) false ≡ granted_among number want (map entry_of_page m)
granted-memory number want [] = refl
granted-memory number want (page ∷ m) = by_test (nat_eq page.number number) (page_numbered number m) (granted_among number want (map entry_of_page m)) (granted-memory number want m)
  where
    by_test : (b : Bool) (o : Option MappedPage) (x : Bool) → option_map_or (λ (page : MappedPage). grants page.permissions want) o false ≡ x → option_map_or (λ (page : MappedPage). grants page.permissions want) (if b then Some page else o) false ≡ (if b then grants page.permissions want else x)
    by_test true o x h = refl
    by_test false o x h = h

granted-residency : (number : ℕ) (want : Want) (residency : Residency) → lets residency number want ≡ granted_among number want (pages_of residency)
granted-residency number want [] = refl
granted-residency number want (p ∷ residency) = by_test (nat_eq p.entry.page number) (placed number residency) (granted_among number want (pages_of residency)) (granted-residency number want residency)
  where
    by_test : (b : Bool) (o : Option PlacedPage) (x : Bool) → option_map_or (λ (p : PlacedPage). grants p.entry.perm.bits want) o false ≡ x → option_map_or (λ (p : PlacedPage). grants p.entry.perm.bits want) (if b then Some p else o) false ≡ (if b then grants p.entry.perm.bits want else x)
    by_test true o x h = refl
    by_test false o x h = h

granted-is : (residency : Residency) (m : Memory) (address : ℕ) (want : Want) → IsOf residency m → is_granted m address want ≡ lets residency (page_of address) want
granted-is residency m address want of =
    granted-memory (page_of address) want m ∙ ap (granted_among (page_of address) want) (sym of) ∙ sym (granted-residency (page_of address) want residency)

abbrev checks : Want → (aligned permitted : Bool) → Option ℕ
checks want aligned permitted = if not aligned then Some (misaligned want) else if not permitted then Some (page_fault want) else None

-- what passes has no cause to fail, and what fails has one
pub good-passes : (residency : Residency) (walks : List Walk) (m : Memory) (want : Want) (a : Access) → IsOf residency m → IsGood residency walks want a → cause_of m want a.address a.width ≡ None
good-passes residency walks m want a of good =
    let is = accepted-so a good.accepted in
    λ j. checks want (is.aligned j) (is.canonical j && (granted-is residency m a.address want of ∙ good.granted) j)

pub fails-cause : (residency : Residency) (m : Memory) (want : Want) (a : Access) → IsOf residency m → Fails_on residency want a → is_some (cause_of m want a.address a.width) ≡ true
fails-cause residency m want a of h =
    let x = nat_eq (a.address % a.width) 0 in
    let y = is_canonical a.address in
    let z = is_granted m a.address want in
    ⊎_elim (λ r. by_refused x y z r) (λ r. by_denied x y z (granted-is residency m a.address want of ∙ r)) h
  where
    by_refused : (x y z : Bool) → (not x || not y) ≡ true → is_some (checks want x (y && z)) ≡ true
    by_refused true true z h = absurd (false≢true h)
    by_refused true false true h = refl
    by_refused true false false h = refl
    by_refused false y z h = refl

    by_denied : (x y z : Bool) → z ≡ false → is_some (checks want x (y && z)) ≡ true
    by_denied x y true h = absurd (true≢false h)
    by_denied true true false h = refl
    by_denied true false false h = refl
    by_denied false y false h = refl
