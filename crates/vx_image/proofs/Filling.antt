-- The bytes of a page, segment by segment.
use Rattle.std.proofs.Common.{◌≡◌, ℕ, zero, suc, ◌+◌, ◌-◌, ◌<◌, ◌≤◌, Bool, true, false, ◌&&◌, leb, ltb, if◌then◌else◌, inl, inr, List, [], ◌∷◌, ◌++◌, length, take, drop, get_or, replicate, find, Option, Some, None, refl, sym, ap, ◌∙◌, ◌*◌, length-drop, add-zero, arith}
use Rattle.std.specs.Option.{option_map_or, option_or}
use Rattle.std.proofs.lemmas.Bool.{cases_Bool, false≢true}
use Rattle.std.proofs.lemmas.Bool.Decides.{nat_tests}
use Rattle.std.proofs.lemmas.List.{take_more, get_or-take, get_or_past, get_or_default, length-take, length-take-le, get_or-drop, get_or-replicate, length-replicate, take-append-drop, take_all}
use Rattle.std.proofs.lemmas.List.Folds.{find-append}
use Rattle.vx_elf.specs.declared.segment.Segment.{Segment}
use Rattle.vx_elf.specs.Segments.{ranges_meet, segments_end, IsSegment, IsSegmentList}
use Rattle.vx_image.specs.Mapping.{has_address, segment_byte, byte_of, bytes_from}
use Rattle.vx_base.specs.declared.perm.PageEntry.{PageEntry}
use Rattle.vx_image.specs.Kept.{entry_at}
use Rattle.vx_image.specs.Building.{has_byte, IsLaidOn, bytes_of_entries}

-- where no element passes, nothing is found
find_none : (p : Segment → Bool) (xs : List Segment) → ((k : ℕ) (d : Segment) → k < length xs → p (get_or xs k d) ≡ false) → find p xs ≡ None
find_none p [] fails = refl
find_none p (x ∷ xs) fails = rw (fails 0 x (omega arith)) (find_none p xs (λ k d within. fails (suc k) d (omega arith)))

-- two ranges that have an address in common meet
share : (a m b n address : ℕ) → (leb a address && ltb address (a + m)) ≡ true → (leb b address && ltb address (b + n)) ≡ true → ranges_meet a m b n ≡ true
share a m b n address first second = grind (arith, nat_tests)

module _ (segments : List Segment) (list : IsSegmentList segments) (i : ℕ) (segment : Segment) (within : i < length segments) (item : segment ≡ get_or segments i segment) (address : ℕ) where
  -- no segment before one that has an address has it
  alone : has_address address segment ≡ true → find (has_address address) (take i segments) ≡ None
  alone has =
      find_none (has_address address) (take i segments) (λ k d below.
      let before : k < i = omega (arith, length-take i segments) in
      let there : get_or (take i segments) k segment ≡ get_or segments k segment = get_or-take i segments k segment before in
      let apart : ranges_meet (get_or segments k segment).address (get_or segments k segment).size (get_or segments i segment).address (get_or segments i segment).size ≡ false = list.apart k i segment before within in
      let same : get_or (take i segments) k d ≡ get_or segments k segment = get_or_default (take i segments) k d segment below ∙ there in
      elim (cases_Bool (has_address address (get_or (take i segments) k d))) [
        | inl passes ↦
            let one : has_address address (get_or segments k segment) ≡ true = ap (has_address address) (sym same) ∙ passes in
            let two : has_address address (get_or segments i segment) ≡ true = ap (has_address address) (sym item) ∙ has in
            absurd (false≢true (sym apart ∙ share (get_or segments k segment).address (get_or segments k segment).size (get_or segments i segment).address (get_or segments i segment).size address one two))
        | inr fails ↦ fails
      ])

  -- the byte at an address with one segment more
  pub byte_more : byte_of (take (i + 1) segments) address ≡ (if has_byte address segment then segment_byte address segment else byte_of (take i segments) address)
  unfolding byte_of
  byte_more =
      let one = list.each i segment within in
      let holds : length segment.bytes ≤ segment.size = ap_holds one in
      let more : find (has_address address) (take (i + 1) segments) ≡ option_or (find (has_address address) (take i segments)) (find (has_address address) (segment ∷ [])) =
      ap (λ (xs : List Segment). find (has_address address) xs) (take_more segments i segment within ∙ ap (λ (s : Segment). take i segments ++ s ∷ []) (sym item))
      ∙ find-append (has_address address) (take i segments) (segment ∷ []) in
      ap (λ (o : Option Segment). option_map_or (segment_byte address) o 0) more
      ∙ elim (cases_Bool (has_byte address segment)) [
        | inl has ↦
            let inside : has_address address segment ≡ true = grind (arith, nat_tests) in
            rw (has, alone inside, inside) refl
        | inr lacks ↦ rw lacks (beyond (find (has_address address) (take i segments)) lacks)
      ]
    where
      ap_holds : IsSegment (get_or segments i segment) → length segment.bytes ≤ segment.size
      ap_holds one = rw item one.holds

      -- a segment holds no byte there: what it adds is zero
      beyond : (found : Option Segment) → has_byte address segment ≡ false → option_map_or (segment_byte address) (option_or found (find (has_address address) (segment ∷ []))) 0 ≡ option_map_or (segment_byte address) found 0
      beyond (Some x) lacks = refl
      beyond None lacks =
          elim (cases_Bool (has_address address segment)) [
            | inl has ↦
                let far : length segment.bytes ≤ address - segment.address = grind (arith, nat_tests) in
                rw has (get_or_past segment.bytes (address - segment.address) 0 far)
            | inr fails ↦ rw fails refl
          ]

-- without segments each byte is zero
pub byte_none : (segments : List Segment) (address : ℕ) → byte_of (take 0 segments) address ≡ 0
unfolding byte_of
byte_none segments address = refl

-- bytes that are those of the segments one by one are the list of them
pub bytes_are : (segments : List Segment) (address n : ℕ) (bytes : List ℕ) → length bytes ≡ n → ((j : ℕ) → j < n → get_or bytes j 0 ≡ byte_of segments (address + j)) → bytes ≡ bytes_from segments address n
unfolding bytes_from
bytes_are segments address zero [] long each = refl
bytes_are segments address zero (x ∷ bytes) long each = absurd (omega arith)
bytes_are segments address (suc n) [] long each = absurd (omega arith)
bytes_are segments address (suc n) (x ∷ bytes) long each =
    let first : x ≡ byte_of segments address = each 0 (omega arith) ∙ ap (byte_of segments) (add-zero address) in
    let rest : bytes ≡ bytes_from segments (address + 1) n =
    bytes_are segments (address + 1) n bytes (omega arith) (λ j below. each (suc j) (omega arith) ∙ ap (byte_of segments) (omega arith)) in
    rw (first, rest) refl

pub length-bytes_from : (segments : List Segment) (address n : ℕ) → length (bytes_from segments address n) ≡ n
unfolding bytes_from
length-bytes_from segments address zero = refl
length-bytes_from segments address (suc n) = ap suc (length-bytes_from segments (address + 1) n)

-- a byte of a page with those of a segment laid on
abbrev pub laid_byte : List PageEntry → Segment → List ℕ → ℕ → ℕ → ℕ
laid_byte entries segment old k j =
    if has_byte (4096 * (entry_at entries k).page + j) segment then segment_byte (4096 * (entry_at entries k).page + j) segment
    else get_or old (4096 * k + j) 0

-- the bytes of pages are those of so many of the segments
pub record IsFilled (bytes : List ℕ) (entries : List PageEntry) (segments : List Segment) (i : ℕ) : Type 0 where
  pub size : length bytes ≡ 4096 * length entries
  pub each : (k j : ℕ) → k < length entries → j < 4096 → get_or bytes (4096 * k + j) 0 ≡ byte_of (take i segments) (4096 * (entry_at entries k).page + j)

pub filled_none : (bytes : List ℕ) (entries : List PageEntry) (segments : List Segment) → bytes ≡ replicate (4096 * length entries) 0 → IsFilled bytes entries segments 0
filled_none bytes entries segments blank = record {
  size = ap length blank ∙ length-replicate (4096 * length entries) 0;
  each = λ k j within below.
      ap (λ (bs : List ℕ). get_or bs (4096 * k + j) 0) blank
      ∙ get_or-replicate (4096 * length entries) (4096 * k + j) 0 0 (omega arith)
      ∙ sym (byte_none segments (4096 * (entry_at entries k).page + j));
}

pub filled_more : (bytes new : List ℕ) (entries : List PageEntry) (segments : List Segment) (i : ℕ) (segment : Segment) → IsSegmentList segments → i < length segments → segment ≡ get_or segments i segment → IsFilled bytes entries segments i → IsLaidOn entries bytes new segment → IsFilled new entries segments (i + 1)
filled_more bytes new entries segments i segment list within item filled laid = record {
  size = laid.size ∙ filled.size;
  each = λ k j inside below.
      let address = 4096 * (entry_at entries k).page + j in
      laid.each k j inside below
      ∙ ap (λ (n : ℕ). if has_byte address segment then segment_byte address segment else n) (filled.each k j inside below)
      ∙ sym (byte_more segments list i segment within item address);
}

-- pages that have the bytes of all segments, one after another
joined_pages : (segments : List Segment) (entries : List PageEntry) (bytes : List ℕ) → length bytes ≡ 4096 * length entries → ((k j : ℕ) → k < length entries → j < 4096 → get_or bytes (4096 * k + j) 0 ≡ byte_of segments (4096 * (entry_at entries k).page + j)) → bytes ≡ bytes_of_entries segments entries
unfolding bytes_of_entries
joined_pages segments [] [] long each = refl
joined_pages segments [] (x ∷ bytes) long each = absurd (omega arith)
joined_pages segments (entry ∷ entries) bytes long each =
    let front : length (take 4096 bytes) ≡ 4096 = length-take-le 4096 bytes (omega arith) in
    let first : take 4096 bytes ≡ bytes_from segments (4096 * entry.page) 4096 =
    bytes_are segments (4096 * entry.page) 4096 (take 4096 bytes) front (λ j below.
    let here : 4096 * 0 + j ≡ j = omega arith in
    get_or-take 4096 bytes j 0 below ∙ sym (ap (λ (n : ℕ). get_or bytes n 0) here) ∙ each 0 j (omega arith) below) in
    let rest : drop 4096 bytes ≡ bytes_of_entries segments entries =
    joined_pages segments entries (drop 4096 bytes) (omega (arith, length-drop 4096 bytes)) (λ k j within below.
    let there : 4096 + (4096 * k + j) ≡ 4096 * suc k + j = omega arith in
    get_or-drop 4096 bytes (4096 * k + j) 0
    ∙ ap (λ (n : ℕ). get_or bytes n 0) there
    ∙ each (suc k) j (omega arith) below) in
    sym (take-append-drop 4096 bytes)
    ∙ ap (λ (bs : List ℕ). bs ++ drop 4096 bytes) first
    ∙ ap (λ (bs : List ℕ). bytes_from segments (4096 * entry.page) 4096 ++ bs) rest

pub filled_all : (bytes : List ℕ) (entries : List PageEntry) (segments : List Segment) (i : ℕ) → length segments ≤ i → IsFilled bytes entries segments i → bytes ≡ bytes_of_entries segments entries
filled_all bytes entries segments i done filled =
    joined_pages segments entries bytes filled.size (λ k j within below.
    filled.each k j within below ∙ ap (λ (xs : List Segment). byte_of xs (4096 * (entry_at entries k).page + j)) (take_all i segments done))

-- beyond the last address of segments each byte is zero
byte_beyond : (segments : List Segment) (address : ℕ) → IsSegmentList segments → segments_end ≤ address → byte_of segments address ≡ 0
unfolding byte_of
byte_beyond segments address list beyond =
    rw (find_none (has_address address) segments (λ k d within.
    let one = (list.each k d within).within in
    let no : has_address address (get_or segments k d) ≡ false = grind (arith, nat_tests) in
    no))
    refl

pub zeros_beyond : (segments : List Segment) (address n : ℕ) → IsSegmentList segments → segments_end ≤ address → replicate n 0 ≡ bytes_from segments address n
unfolding bytes_from
zeros_beyond segments address zero list beyond = refl
zeros_beyond segments address (suc n) list beyond =
    let first : byte_of segments address ≡ 0 = byte_beyond segments address list beyond in
    rw (first, zeros_beyond segments (address + 1) n list (omega arith)) refl
