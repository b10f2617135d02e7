-- The segments of headers without a fault are kept as a list of segments is.
use Rattle.std.proofs.Common.{◌≡◌, ℕ, zero, suc, ◌+◌, ◌%◌, ◌<◌, ◌≤◌, Bool, true, false, not, eqb, ◌&&◌, inl, inr, List, [], ◌∷◌, ◌++◌, length, take, drop, get_or, zero-add, suc-add, ◌-◌, Option, Some, None, Err, find, refl, sym, ap, ◌∙◌, add-one, append-nil, arith}
use Rattle.std.proofs.lemmas.Bool.{cases_Bool}
use Rattle.std.proofs.lemmas.List.{length-take}
use Rattle.std.proofs.lemmas.List.Elements.{All-push}
use Rattle.std.proofs.lemmas.List.Quantifiers.{all_pairs_push}
use Rattle.std.proofs.lemmas.List.Sums.{sum_by_push}
use Rattle.std.specs.List.{All}
use Rattle.std.specs.Option.{option_or}
use Rattle.vx_elf.specs.Layout.{header_at}
use Rattle.vx_elf.specs.Segments.{ranges_meet, is_segment_permission, IsSegment, IsSegmentList}
use Rattle.vx_elf.specs.Reading.{is_segment, with_read, meets, segment_of, segments_under, segments_of, header_fault, headers_fault, ReadsHeader, ReadsHeaders}
use Rattle.vx_elf.specs.declared.fault.ElfFault.{ElfFault}
use Rattle.vx_elf.specs.declared.fault.ElfFault.TheVariants.{NoMemory}
use Rattle.vx_elf.specs.declared.header.ProgramHeader.{ProgramHeader}
use Rattle.vx_elf.specs.declared.segment.Segment.{Segment}
use Rattle.vx_elf.proofs.Faults.{none_if, header_taken, IsTaken, under_segment, under_none}

-- both of two tests pass
both : (a b : Bool) → (a && b) ≡ true → (a ≡ true) × (b ≡ true)
both true b h = (refl, h)
both false b h = cc

-- a number that fails the test of being 0 is above it
pub not_zero : (n : ℕ) → not (eqb n 0) ≡ true → 0 < n
not_zero zero h = cc
not_zero (suc n) h = omega arith

-- where nothing is found, no element passes
none_found : (p : Segment → Bool) (xs : List Segment) → find p xs ≡ None → (k : ℕ) (d : Segment) → k < length xs → p (get_or xs k d) ≡ false
none_found p [] none k d lt = absurd (omega arith)
none_found p (x ∷ xs) none zero d lt = (none_if (p x) x (find p xs) none).0
none_found p (x ∷ xs) none (suc k) d lt = none_found p xs (none_if (p x) x (find p xs) none).1 k d (omega arith)

-- the permissions that a segment may have
allowed : (n : ℕ) → n < 8 → 0 < n → is_segment_permission (with_read n) ≡ true
allowed zero below some = absurd (omega arith)
allowed (suc zero) below some = refl
allowed (suc (suc zero)) below some = refl
allowed (suc (suc (suc zero))) below some = refl
allowed (suc (suc (suc (suc zero)))) below some = refl
allowed (suc (suc (suc (suc (suc zero))))) below some = refl
allowed (suc (suc (suc (suc (suc (suc zero)))))) below some = refl
allowed (suc (suc (suc (suc (suc (suc (suc zero))))))) below some = refl
allowed (suc (suc (suc (suc (suc (suc (suc (suc n)))))))) below some = absurd (omega arith)

pub record IsListed (segments : List Segment) (count : ℕ) : Type 0 where
  pub list : IsSegmentList segments
  pub below : All (λ segment. segment.index < count) segments

listed_none : (count : ℕ) → IsListed [] count
listed_none count = record {
  list = record {
    rising = λ i j d before within. absurd (omega arith);
    each = λ k d within. absurd (omega arith);
    room = omega arith;
    apart = λ i j d before within. absurd (omega arith);
  };
  below = λ k d within. absurd (omega arith);
}

-- the segment of a header without a fault
one_segment : (bytes : List ℕ) (before : List Segment) (index : ℕ) (header : ProgramHeader) → IsTaken bytes before header → is_segment header ≡ true → IsSegment (segment_of bytes index header)
unfolding segment_of
one_segment bytes before index header taken is =
    let load = both (eqb header.kind 1) _ is in
    let sizes = both (not (eqb header.memory_size 0)) _ load.1 in
    record {
      some = not_zero header.memory_size sizes.0;
      holds = let long : length (take header.file_size (drop header.offset bytes)) ≤ header.memory_size = omega (arith, length-take header.file_size (drop header.offset bytes), taken.holds) in long;
      within = taken.below;
      permission = allowed (header.flags % 8) (omega arith) (not_zero (header.flags % 8) sizes.1);
    }

-- it stands behind those before it
listed_push : (bytes : List ℕ) (segments : List Segment) (index : ℕ) (header : ProgramHeader) → IsListed segments index → IsTaken bytes segments header → is_segment header ≡ true → IsListed (segments ++ segment_of bytes index header ∷ []) (suc index)
unfolding segment_of
listed_push bytes segments index header listed taken is =
    let segment = segment_of bytes index header in
    record {
      list = record {
        rising = all_pairs_push (λ one later. one.index < later.index) segments segment listed.list.rising listed.below;
        each = All-push IsSegment segments segment listed.list.each (one_segment bytes segments index header taken is);
        room = omega (arith, sum_by_push (λ (s : Segment). s.size) segments segment, taken.room);
        apart = all_pairs_push (λ one later. ranges_meet one.address one.size later.address later.size ≡ false) segments segment listed.list.apart (none_found (meets header) segments taken.apart);
      };
      below = All-push (λ s. s.index < suc index) segments segment (λ k d within. let before = listed.below k d within in omega arith) (omega arith);
    }

listed_more : (bytes : List ℕ) (segments : List Segment) (index : ℕ) (header : ProgramHeader) → IsListed segments index → header_fault bytes segments index header ≡ None → IsListed (segments ++ segments_under bytes index header) (suc index)
listed_more bytes segments index header listed none =
    elim (cases_Bool (is_segment header)) [
      | inl is ↦ rw (under_segment bytes index header is) (listed_push bytes segments index header listed (header_taken bytes segments index header none is) is)
      | inr not_one ↦ rw (under_none bytes index header not_one, append-nil segments) (record { list = listed.list; below = λ k d within. let before = listed.below k d within in omega arith })
    ]

-- where neither of two faults came
or_none : (a b : Option ElfFault) → option_or a b ≡ None → (a ≡ None) × (b ≡ None)
or_none None b none = (refl, none)
or_none (Some x) b none = cc

segments_listed : (bytes : List ℕ) (count : ℕ) → headers_fault bytes count ≡ None → IsListed (segments_of bytes count) count
unfolding segments_of headers_fault
segments_listed bytes zero none = listed_none 0
segments_listed bytes (suc count) none =
    let parts = or_none (headers_fault bytes count) (header_fault bytes (segments_of bytes count) count (header_at bytes count)) none in
    listed_more bytes (segments_of bytes count) count (header_at bytes count) (segments_listed bytes count parts.0) parts.1

-- the segments of headers without a fault
pub is_list : (bytes : List ℕ) (count : ℕ) → headers_fault bytes count ≡ None → IsSegmentList (segments_of bytes count)
is_list bytes count none = (segments_listed bytes count none).list

-- no header, no segment
pub no_headers : (bytes : List ℕ) → record { faultless : headers_fault bytes 0 ≡ None; segments : segments_of bytes 0 ≡ [] }
unfolding segments_of headers_fault
no_headers bytes = record { faultless = refl; segments = refl }

-- one header more without a fault
pub one_more : (bytes : List ℕ) (count : ℕ) → headers_fault bytes count ≡ None → header_fault bytes (segments_of bytes count) count (header_at bytes count) ≡ None → headers_fault bytes (count + 1) ≡ None
unfolding headers_fault
one_more bytes count none next = rw (add-one count, none) next

pub one_more_segments : (bytes : List ℕ) (count : ℕ) → segments_of bytes (count + 1) ≡ segments_of bytes count ++ segments_under bytes count (header_at bytes count)
unfolding segments_of
one_more_segments bytes count = rw (add-one count) refl

-- a fault stays the first, however many headers follow
stays : (bytes : List ℕ) (more count : ℕ) (fault : ElfFault) → headers_fault bytes count ≡ Some fault → headers_fault bytes (more + count) ≡ Some fault
unfolding headers_fault
stays bytes zero count fault found = rw (zero-add count) found
stays bytes (suc more) count fault found = rw (suc-add more count, stays bytes more count fault found) refl

pub first_stays : (bytes : List ℕ) (index count : ℕ) (fault : ElfFault) → headers_fault bytes index ≡ None → header_fault bytes (segments_of bytes index) index (header_at bytes index) ≡ Some fault → index < count → headers_fault bytes count ≡ Some fault
unfolding headers_fault
first_stays bytes index count fault none found before =
    let here : headers_fault bytes (suc index) ≡ Some fault = rw none found in
    let there : count ≡ (count - suc index) + suc index = omega arith in
    rw there (stays bytes (count - suc index) (suc index) fault here)

-- what the reading of a header answers in place of segments is what that of all headers does
pub carries : (bytes : List ℕ) (index count : ℕ) (before after : List Segment) (fault : ElfFault) → before ≡ segments_of bytes index → headers_fault bytes index ≡ None → index < count → ReadsHeader bytes index before after (Err fault) → ReadsHeaders bytes count (Err fault)
carries bytes index count before after NoMemory same none lt read = tt
carries bytes index count before after fault same none lt read =
    first_stays bytes index count fault none (ap (λ (segments : List Segment). header_fault bytes segments index (header_at bytes index)) (sym same) ∙ read) lt
