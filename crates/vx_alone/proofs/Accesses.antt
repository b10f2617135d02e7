-- What an access finds in the memory that entries and bytes stand for.
use Rattle.std.proofs.Common.{◌≡◌, ℕ, zero, suc, ◌+◌, ◌-◌, ◌*◌, ◌/◌, ◌%◌, ◌^◌, ◌<◌, ◌≤◌, Bool, true, false, ◌&&◌, leb, List, [], ◌∷◌, ◌++◌, length, get_or, take, drop, set, refl, sym, ap, subst, ◌∙◌, zero-add, add-zero, IsTrue, take-append-drop, arith}
use Rattle.std.proofs.Math.Bool.{and-false, and_assoc}
use Rattle.std.proofs.Math.Nat.{mod-eq_of_lt, suc-add}
use Rattle.std.proofs.Math.Seq.{drop-cons}
use Rattle.std.proofs.lemmas.Bool.{false≢true, leb-true}
use Rattle.std.proofs.lemmas.List.{length-set}
use Rattle.std.proofs.lemmas.Nat.{div-mul-add, mod-mul-add, shr-shr}
use Rattle.vx_base.specs.Permissions.{grants}
use Rattle.vx_base.specs.declared.machine.Want.{Want}
use Rattle.vx_base.specs.declared.perm.PageEntry.{PageEntry}
use Rattle.vx_base.specs.declared.machine.Want.TheVariants.{Load}
use Rattle.vx_image.specs.Pages.{Memory, page_of, is_canonical, permits}
use Rattle.vx_flat.specs.Memory.{byte_at, bytes_at, next_address, all_permit, put_byte, put_bytes}
use Rattle.vx_flat.specs.Service.{is_readable}
use Rattle.vx_scalar.specs.Operands.{is_access_width}
use Rattle.vx_image.specs.Kept.{pages_of, entry_at, IsRising, IsPlaceOf, Lacks}
use Rattle.vx_alone.specs.Granted.{IsGrantedAt, Serves}
use Rattle.vx_alone.proofs.Numbers.{put_next}
use Rattle.vx_image.proofs.PagesAt.{absent_by}
use Rattle.vx_alone.proofs.Pages.{permissions_at, byte_in_page, put_in_page}

-- an address that isn't canonical is let through nowhere
pub denied_outside : (memory : Memory) (address : ℕ) (want : Want) → is_canonical address ≡ false → permits memory address want ≡ false
denied_outside memory address want outside = rw outside refl

-- nor is one whose page is not mapped
pub denied_unmapped : (entries : List PageEntry) (address : ℕ) (want : Want) → Lacks entries (page_of address) → (bytes : List ℕ) → permits (pages_of entries bytes) address want ≡ false
unfolding pages_of
denied_unmapped entries address want lacks bytes =
    rw (absent_by 4096 entries bytes (page_of address) lacks) (and-false (is_canonical address))

module _ (entries : List PageEntry) (rising : IsRising entries) (address k : ℕ) (place : IsPlaceOf entries (page_of address) k) where
  -- an access is let through as the permissions at the place say
  pub permits_at : (want : Want) (bytes : List ℕ) → permits (pages_of entries bytes) address want ≡ (is_canonical address && grants (entry_at entries k).perm.bits want)
  unfolding pages_of
  permits_at want bytes = ap (λ (b : Bool). is_canonical address && b) (permissions_at 4096 (λ (n : ℕ). grants n want) entries bytes (page_of address) k rising place)

  pub denied_at : (want : Want) → grants (entry_at entries k).perm.bits want ≡ false → (bytes : List ℕ) → permits (pages_of entries bytes) address want ≡ false
  denied_at want refused bytes = permits_at want bytes ∙ ap (λ (b : Bool). is_canonical address && b) refused ∙ and-false (is_canonical address)

  pub granted_at : (want : Want) → is_canonical address ≡ true → grants (entry_at entries k).perm.bits want ≡ true → IsGrantedAt entries address want k
  granted_at want inside granted = record {
    place = place;
    permitted = λ bytes. permits_at want bytes ∙ ap (λ (b : Bool). b && grants (entry_at entries k).perm.bits want) inside ∙ granted;
  }

  -- the byte at the address
  pub byte_there : (bytes : List ℕ) → byte_at (pages_of entries bytes) address ≡ get_or bytes (4096 * k + address % 4096) 0
  unfolding pages_of
  byte_there bytes = byte_in_page 4096 (address % 4096) (omega arith) entries bytes (page_of address) k rising place

  -- the memory with that byte set
  pub put_there : (bytes : List ℕ) (byte : ℕ) → put_byte (pages_of entries bytes) address byte ≡ pages_of entries (set bytes (4096 * k + address % 4096) byte)
  unfolding pages_of
  put_there bytes byte = put_in_page 4096 (address % 4096) byte (omega arith) entries bytes (page_of address) k rising place

-- an address below the last is followed by the number after it
next_is : (address : ℕ) → address + 1 < 2 ^ 64 → next_address address ≡ address + 1
next_is address below = mod-eq_of_lt below

module _ (entries : List PageEntry) (rising : IsRising entries) (bytes : List ℕ) (page k : ℕ) (place : IsPlaceOf entries page k) where
  -- the byte at an offset on the page at a place
  byte_on_page : (offset address : ℕ) → address ≡ page * 4096 + offset → offset < 4096 → byte_at (pages_of entries bytes) address ≡ get_or bytes (4096 * k + offset) 0
  byte_on_page offset address same below =
      let on : address / 4096 ≡ page = rw same (div-mul-add page 4096 offset below) in
      let off : address % 4096 ≡ offset = rw same (mod-mul-add page 4096 offset below) in
      let P : ℕ → Type 0 = λ n. IsPlaceOf entries n k in
      byte_there entries rising address k (subst P (sym on) place) bytes ∙ ap (λ (n : ℕ). get_or bytes (4096 * k + n) 0) off

  -- the bytes from an offset on, as far as the page goes
  pub bytes_on_page : (count offset address : ℕ) → address ≡ page * 4096 + offset → offset + count ≤ 4096 → address + count ≤ 2 ^ 64 → 4096 * k + offset + count ≤ length bytes → bytes_at (pages_of entries bytes) address count ≡ take count (drop (4096 * k + offset) bytes)
  bytes_on_page zero offset address same within fits long = refl
  bytes_on_page (suc zero) offset address same within fits long =
      rw (drop-cons bytes (4096 * k + offset) 0 (omega arith)) (ap (λ (b : ℕ). b ∷ []) (byte_on_page offset address same (omega arith)))
  bytes_on_page (suc (suc count)) offset address same within fits long =
      let rest : bytes_at (pages_of entries bytes) (address + 1) (suc count) ≡ take (suc count) (drop (4096 * k + (offset + 1)) bytes) = bytes_on_page (suc count) (offset + 1) (address + 1) (omega arith) (omega arith) (omega arith) (omega arith) in
      let shifted : 4096 * k + (offset + 1) ≡ suc (4096 * k + offset) = omega arith in
      let next : next_address address ≡ address + 1 = next_is address (omega arith) in
      rw (drop-cons bytes (4096 * k + offset) 0 (omega arith))
      (ap (λ (b : ℕ). b ∷ bytes_at (pages_of entries bytes) (next_address address) (suc count)) (byte_on_page offset address same (omega arith))
      ∙ ap (λ (a : ℕ). get_or bytes (4096 * k + offset) 0 ∷ bytes_at (pages_of entries bytes) a (suc count)) next
      ∙ ap (λ (bs : List ℕ). get_or bytes (4096 * k + offset) 0 ∷ bs) (rest ∙ ap (λ (n : ℕ). take (suc count) (drop n bytes)) shifted))

module _ (entries : List PageEntry) (rising : IsRising entries) (page k : ℕ) (place : IsPlaceOf entries page k) where
  -- the memory with the byte at an offset on the page at a place set
  put_one : (bytes : List ℕ) (value offset address : ℕ) → address ≡ page * 4096 + offset → offset < 4096 → put_byte (pages_of entries bytes) address value ≡ pages_of entries (set bytes (4096 * k + offset) value)
  put_one bytes value offset address same below =
      let on : address / 4096 ≡ page = rw same (div-mul-add page 4096 offset below) in
      let off : address % 4096 ≡ offset = rw same (mod-mul-add page 4096 offset below) in
      let P : ℕ → Type 0 = λ n. IsPlaceOf entries n k in
      put_there entries rising address k (subst P (sym on) place) bytes value ∙ ap (λ (n : ℕ). pages_of entries (set bytes (4096 * k + n) value)) off

  -- the memory with the bytes from an offset on set, as far as the page goes
  pub put_on_page : (values bytes : List ℕ) (offset address : ℕ) → address ≡ page * 4096 + offset → offset + length values ≤ 4096 → address + length values ≤ 2 ^ 64 → 4096 * k + offset + length values ≤ length bytes → put_bytes (pages_of entries bytes) address values ≡ pages_of entries (take (4096 * k + offset) bytes ++ (values ++ drop (4096 * k + offset + length values) bytes))
  put_on_page [] bytes offset address same within fits long =
      ap (pages_of entries) (sym (take-append-drop (4096 * k + offset) bytes) ∙ ap (λ (n : ℕ). take (4096 * k + offset) bytes ++ drop n bytes) (sym (add-zero (4096 * k + offset))))
  put_on_page (value ∷ []) bytes offset address same within fits long =
      let i = 4096 * k + offset in
      let whole : set bytes i value ≡ take (i + 1) (set bytes i value) ++ drop (i + 1 + 0) (set bytes i value) =
      sym (take-append-drop (i + 1) (set bytes i value)) ∙ ap (λ (n : ℕ). take (i + 1) (set bytes i value) ++ drop n (set bytes i value)) (sym (add-zero (i + 1))) in
      put_one bytes value offset address same (omega arith)
      ∙ ap (pages_of entries) (whole ∙ put_next bytes [] value i (omega arith))
  put_on_page (value ∷ next ∷ values) bytes offset address same within fits long =
      let i = 4096 * k + offset in
      let after : next_address address ≡ address + 1 = next_is address (omega arith) in
      let shifted : 4096 * k + (offset + 1) ≡ i + 1 = omega arith in
      let rest = put_on_page (next ∷ values) (set bytes i value) (offset + 1) (address + 1) (omega arith) (omega arith) (omega arith) (omega (arith, length-set bytes i value)) in
      ap (λ (m : Memory). put_bytes m (next_address address) (next ∷ values)) (put_one bytes value offset address same (omega arith))
      ∙ ap (λ (a : ℕ). put_bytes (pages_of entries (set bytes i value)) a (next ∷ values)) after
      ∙ rest
      ∙ ap (λ (n : ℕ). pages_of entries (take n (set bytes i value) ++ ((next ∷ values) ++ drop (n + length (next ∷ values)) (set bytes i value)))) shifted
      ∙ ap (pages_of entries) (put_next bytes (next ∷ values) value i (omega arith))

-- an access whose address is a multiple of its width ends on its page, and below the last address
pub ends_on_page : (width address : ℕ) → IsTrue (is_access_width width) → address % width ≡ 0 → address < 2 ^ 64 → (address % 4096 + width ≤ 4096) × (address + width ≤ 2 ^ 64)
ends_on_page width address is aligned below = grind (arith, is, aligned, below)

-- a test that isn't false is true
not_false : (b : Bool) → (b ≡ false → ⊥) → b ≡ true
not_false true differs = refl
not_false false differs = absurd (differs refl)

-- both of two tests that are true together are true
both_true : (a b : Bool) → (a && b) ≡ true → (a ≡ true) × (b ≡ true)
both_true true b both = (refl, both)
both_true false b both = absurd (false≢true both)

-- addresses of one page are let through alike
permits_alike : (memory : Memory) (a b : ℕ) (want : Want) → a / 4096 ≡ b / 4096 → permits memory a want ≡ permits memory b want
permits_alike memory a b want same =
    let upper : a / 2 ^ 38 ≡ b / 2 ^ 38 = sym (shr-shr a 12 26) ∙ ap (λ (q : ℕ). q / 2 ^ 26) same ∙ shr-shr b 12 26 in
    rw (upper, same) refl

-- the number of a page is no less than its place
number-from : (entries : List PageEntry) → IsRising entries → (k : ℕ) → k < length entries → k ≤ (entry_at entries k).page
number-from entries rising zero within = omega arith
number-from entries rising (suc k) within = omega (arith, number-from entries rising k (omega arith), rising k (suc k) (omega arith) within)

pub place-within : (entries : List PageEntry) → IsRising entries → (address k : ℕ) → IsPlaceOf entries (page_of address) k → k ≤ address / 4096
place-within entries rising address k place =
    let same : (entry_at entries k).page ≡ address / 4096 = place.same in
    omega (arith, number-from entries rising k place.within, same)

-- where an address is let through, so is each of its page
pub serves-page : (entries : List PageEntry) → IsRising entries → (want : Want) (address k above : ℕ) → IsGrantedAt entries address want k → above + 4096 * k ≡ 4096 * (address / 4096) → Serves entries want (page_of address) above
serves-page entries rising want address k above granted far other below same =
    let on : other / 4096 ≡ address / 4096 = same in (
      omega (arith, far, on),
      record {
        place = k;
        granted = record {
          place = subst (λ (n : ℕ). IsPlaceOf entries n k) (sym same) granted.place;
          permitted = λ bytes. permits_alike (pages_of entries bytes) other address want same ∙ granted.permitted bytes;
        };
        byte = omega (arith, far, on);
      },
    )

module _ (memory : Memory) (want : Want) (page : ℕ) (granted : permits memory (page * 4096) want ≡ true) where
  -- where one address of a page is let through, each is
  one_on_page : (offset address : ℕ) → address ≡ page * 4096 + offset → offset < 4096 → permits memory address want ≡ true
  one_on_page offset address same below =
      let on : address / 4096 ≡ page * 4096 / 4096 = rw same (div-mul-add page 4096 offset below ∙ sym (div-mul-add page 4096 0 (omega arith)) ∙ ap (λ (n : ℕ). n / 4096) (add-zero (page * 4096))) in
      permits_alike memory address (page * 4096) want on ∙ granted

  -- and so are so many, as far as the page goes
  pub all_on_page : (count offset address : ℕ) → address ≡ page * 4096 + offset → offset + count ≤ 4096 → address + count ≤ 2 ^ 64 → all_permit memory address count want ≡ true
  all_on_page zero offset address same within fits = refl
  all_on_page (suc zero) offset address same within fits = rw (one_on_page offset address same (omega arith)) refl
  all_on_page (suc (suc count)) offset address same within fits =
      rw (one_on_page offset address same (omega arith), next_is address (omega arith))
      (all_on_page (suc count) (offset + 1) (address + 1) (omega arith) (omega arith) (omega arith))

-- the bytes of a range are those of its two parts
pub bytes_join : (memory : Memory) (m n address : ℕ) → address + m + n ≤ 2 ^ 64 → 0 < n → bytes_at memory address (m + n) ≡ bytes_at memory address m ++ bytes_at memory (address + m) n
bytes_join memory zero n address fits some = rw (zero-add n, add-zero address) refl
bytes_join memory (suc m) n address fits some =
    let next : next_address address ≡ address + 1 = next_is address (omega arith) in
    let there : address + 1 + m ≡ address + suc m = omega arith in
    rw (suc-add m n, next)
    (ap (λ (bs : List ℕ). byte_at memory address ∷ bs) (bytes_join memory m n (address + 1) (omega arith) some)
    ∙ ap (λ (a : ℕ). (byte_at memory address ∷ bytes_at memory (address + 1) m) ++ bytes_at memory a n) there)

-- a range is let through where its two parts are
pub all_join : (memory : Memory) (want : Want) (m n address : ℕ) → address + m + n ≤ 2 ^ 64 → 0 < n → all_permit memory address (m + n) want ≡ (all_permit memory address m want && all_permit memory (address + m) n want)
all_join memory want zero n address fits some = rw (zero-add n, add-zero address) refl
all_join memory want (suc m) n address fits some =
    let next : next_address address ≡ address + 1 = next_is address (omega arith) in
    let there : address + 1 + m ≡ address + suc m = omega arith in
    rw (suc-add m n, next)
    (ap (λ (b : Bool). permits memory address want && b) (all_join memory want m n (address + 1) (omega arith) some)
    ∙ ap (λ (a : ℕ). permits memory address want && (all_permit memory (address + 1) m want && all_permit memory a n want)) there
    ∙ sym (and_assoc (permits memory address want) (all_permit memory (address + 1) m want) (all_permit memory (address + suc m) n want)))

module _ (memory : Memory) (want : Want) (address done : ℕ) where
  -- a range that is let through goes on with so many addresses of a page that is
  pub all_more : (count : ℕ) → all_permit memory address done want ≡ true → permits memory (address + done) want ≡ true → 0 < count → (address + done) % 4096 + count ≤ 4096 → address + done + count ≤ 2 ^ 64 → all_permit memory address (done + count) want ≡ true
  all_more count before granted some within fits =
      let at = address + done in
      let page = at / 4096 in
      let start : page * 4096 / 4096 ≡ page = ap (λ (n : ℕ). n / 4096) (sym (add-zero (page * 4096))) ∙ div-mul-add page 4096 0 (omega arith) in
      let first : permits memory (page * 4096) want ≡ true = permits_alike memory (page * 4096) at want start ∙ granted in
      rw (all_join memory want done count address fits some, before)
      (all_on_page memory want page first count (at % 4096) at (omega arith) within fits)

  -- a range is not let through where one of its addresses is not
  pub not_all : (count : ℕ) → done < count → address + count ≤ 2 ^ 64 → permits memory (address + done) want ≡ false → all_permit memory address count want ≡ false
  not_all count below fits denied =
      let rest = count - done - 1 in
      let parts : count ≡ done + suc rest = omega arith in
      rw (parts, all_join memory want done (suc rest) address (omega arith) (omega arith), denied) (and-false (all_permit memory address done want))

  -- each address of a range that is let through is
  pub one_of_all : (count : ℕ) → done < count → address + count ≤ 2 ^ 64 → all_permit memory address count want ≡ true → permits memory (address + done) want ≡ true
  one_of_all count below fits all = not_false (permits memory (address + done) want) (λ denied. cc (not_all count below fits denied, all))

-- a range that can be read ends by the last address, and all of it is let through
pub readable_parts : (memory : Memory) (address count : ℕ) → is_readable memory address count ≡ true → record { fits : address + count ≤ 2 ^ 64; all : all_permit memory address count Load ≡ true }
readable_parts memory address count readable =
    let parts = both_true (leb (address + count) (2 ^ 64)) (all_permit memory address count Load) readable in
    record { fits = leb-true (address + count) (2 ^ 64) parts.0; all = parts.1 }

-- the bytes of a range and those that follow on the next page
pub bytes_more : (entries : List PageEntry) → IsRising entries → (bytes : List ℕ) → length bytes ≡ 4096 * length entries → (address done count k : ℕ) → IsPlaceOf entries (page_of (address + done)) k → 0 < count → (address + done) % 4096 + count ≤ 4096 → address + done + count ≤ 2 ^ 64 → bytes_at (pages_of entries bytes) address (done + count) ≡ bytes_at (pages_of entries bytes) address done ++ take count (drop (4096 * k + (address + done) % 4096) bytes)
bytes_more entries rising bytes whole address done count k place some within fits =
    let inside = place.within in
    bytes_join (pages_of entries bytes) done count address fits some
    ∙ ap (λ (bs : List ℕ). bytes_at (pages_of entries bytes) address done ++ bs)
    (bytes_on_page entries rising bytes (page_of (address + done)) k place count ((address + done) % 4096) (address + done) (omega arith) within fits (omega arith))
