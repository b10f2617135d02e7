-- What is written of a program is read again as its segments.
use Rattle.std.proofs.Common.{◌≡◌, ℕ, ◌+◌, ◌*◌, ◌%◌, ◌^◌, ◌<◌, ◌≤◌, true, false, eqb, ltb, nat_eq, List, [], ◌∷◌, ◌++◌, length, take, drop, find, Option, None, refl, ap, ◌∙◌, length-append, arith}
use Rattle.std.specs.List.{starts_with}
use Rattle.std.specs.Option.{option_or}
use Rattle.std.proofs.lemmas.Bool.{ne_eqb}
use Rattle.std.proofs.lemmas.Bool.Decides.{nat_tests}
use Rattle.std.proofs.lemmas.List.{drop_at, take_at}
use Rattle.vx_elf.specs.Layout.{number_at, file_type, machine, entry_point, table_place, file_flags, header_size, header_count, header_at}
use Rattle.vx_elf.specs.Segments.{segments_end, segments_room, total_size}
use Rattle.vx_elf.specs.Reading.{magic, kind_fault, table_fault, is_segment, meets, segment_of, segment_fault, header_fault, segments_under, segments_of, headers_fault}
use Rattle.vx_elf.specs.Writing.{file_header}
use Rattle.vx_elf.specs.declared.fault.ElfFault.{ElfFault}
use Rattle.vx_elf.specs.declared.header.ProgramHeader.{ProgramHeader}
use Rattle.vx_elf.specs.declared.segment.Segment.{Segment}
use Rattle.vx_elf.proofs.Faults.{under_segment}
use Rattle.vx_elf.proofs.Placed.{read_back, length-file_header}

-- what is read of the file header
module _ (entry count : ℕ) (rest : List ℕ) where
  magic_there : starts_with nat_eq (file_header entry count ++ rest) magic ≡ true
  unfolding file_header
  magic_there = refl

  machine_there : machine (file_header entry count ++ rest) ≡ 243
  unfolding file_header number_at
  machine_there = refl

  type_there : file_type (file_header entry count ++ rest) ≡ 2
  unfolding file_header number_at
  type_there = refl

  flags_there : file_flags (file_header entry count ++ rest) ≡ 0
  unfolding file_header number_at
  flags_there = refl

  size_there : header_size (file_header entry count ++ rest) ≡ 56
  unfolding file_header number_at
  size_there = refl

  pub place_there : table_place (file_header entry count ++ rest) ≡ 64
  unfolding file_header number_at
  place_there = refl

  pub count_there : count < 65536 → header_count (file_header entry count ++ rest) ≡ count
  unfolding file_header number_at
  count_there few = read_back 2 count few

  pub entry_there : entry < 2 ^ 64 → entry_point (file_header entry count ++ rest) ≡ entry
  unfolding file_header number_at
  entry_there below = read_back 8 entry below

  long_there : 64 + length rest ≡ length (file_header entry count ++ rest)
  long_there = omega (arith, length-append (file_header entry count) rest, length-file_header entry count)

  pub kind_none : kind_fault (file_header entry count ++ rest) ≡ None
  unfolding kind_fault
  kind_none =
      let long : ltb (length (file_header entry count ++ rest)) 64 ≡ false = grind (arith, nat_tests, long_there) in
      rw (long, magic_there, machine_there, type_there, flags_there) refl

  pub table_none : count ≤ 2 → 56 * count ≤ length rest → table_fault (file_header entry count ++ rest) ≡ None
  unfolding table_fault
  table_none few whole =
      let counted = count_there (omega arith) in
      let no : eqb count 65535 ≡ false = ne_eqb count 65535 (λ same. omega arith) in
      let long : ltb (length (file_header entry count ++ rest)) (64 + 56 * count) ≡ false = grind (arith, nat_tests, long_there) in
      rw (size_there, counted, no, place_there, long) refl

-- a program header of a segment that has its bytes in the file and room for its memory
pub record IsLoadable (bytes : List ℕ) (before : List Segment) (header : ProgramHeader) : Type 0 where
  pub kind : header.kind ≡ 1
  pub flags : eqb (header.flags % 8) 0 ≡ false
  pub some : 0 < header.memory_size
  pub holds : header.file_size ≤ header.memory_size
  pub below : header.address + header.memory_size ≤ segments_end
  pub room : total_size before + header.memory_size ≤ segments_room
  pub within : header.offset + header.file_size ≤ length bytes
  pub apart : find (meets header) before ≡ None

module _ (bytes : List ℕ) (before : List Segment) (index : ℕ) (header : ProgramHeader) (loadable : IsLoadable bytes before header) where
  is_one : is_segment header ≡ true
  is_one =
      let some : eqb header.memory_size 0 ≡ false = ne_eqb header.memory_size 0 (λ same. omega (arith, loadable.some)) in
      rw (loadable.kind, some, loadable.flags) refl

  no_fault : header_fault bytes before index header ≡ None
  unfolding header_fault segment_fault
  no_fault =
      let some : eqb header.memory_size 0 ≡ false = ne_eqb header.memory_size 0 (λ same. omega (arith, loadable.some)) in
      let holds : ltb header.memory_size header.file_size ≡ false = grind (arith, nat_tests, loadable.holds) in
      let below : ltb segments_end (header.address + header.memory_size) ≡ false = grind (arith, nat_tests, loadable.below) in
      let room : ltb segments_room (total_size before + header.memory_size) ≡ false = grind (arith, nat_tests, loadable.room) in
      let within : ltb (length bytes) (header.offset + header.file_size) ≡ false = grind (arith, nat_tests, loadable.within) in
      rw (loadable.kind, some, loadable.flags, holds, below, room, within, loadable.apart) refl

  stands : segments_under bytes index header ≡ segment_of bytes index header ∷ []
  stands = under_segment bytes index header is_one

-- a part of a list stands behind what is before it
pub part_there : (before part after : List ℕ) (at : ℕ) → length before ≡ at → take (length part) (drop at (before ++ (part ++ after))) ≡ part
part_there before part after at long =
    ap (take (length part)) (drop_at before (part ++ after) at long) ∙ take_at part after (length part) refl

-- a file without program headers
pub none_read : (bytes : List ℕ) → (headers_fault bytes 0 ≡ None) × (segments_of bytes 0 ≡ [])
unfolding headers_fault segments_of
none_read bytes = (refl, refl)

-- with one
pub one_read : (bytes : List ℕ) (header : ProgramHeader) (segment : Segment) → header_at bytes 0 ≡ header → IsLoadable bytes [] header → segment_of bytes 0 header ≡ segment → (headers_fault bytes 1 ≡ None) × (segments_of bytes 1 ≡ segment ∷ [])
unfolding headers_fault segments_of
one_read bytes header segment same loadable made = (
  ap (header_fault bytes [] 0) same ∙ no_fault bytes [] 0 header loadable,
  ap (segments_under bytes 0) same ∙ stands bytes [] 0 header loadable ∙ ap (λ (s : Segment). s ∷ []) made,
)

-- with two
pub two_read : (bytes : List ℕ) (first second : ProgramHeader) (one two : Segment) → header_at bytes 0 ≡ first → IsLoadable bytes [] first → segment_of bytes 0 first ≡ one → header_at bytes 1 ≡ second → IsLoadable bytes (one ∷ []) second → segment_of bytes 1 second ≡ two → (headers_fault bytes 2 ≡ None) × (segments_of bytes 2 ≡ one ∷ two ∷ [])
unfolding headers_fault segments_of
two_read bytes first second one two same0 loadable0 made0 same1 loadable1 made1 =
    let before = one_read bytes first one same0 loadable0 made0 in
    let listed : segments_under bytes 0 (header_at bytes 0) ≡ one ∷ [] = before.1 in
    let fault : header_fault bytes (segments_under bytes 0 (header_at bytes 0)) 1 (header_at bytes 1) ≡ None =
    ap (λ (segments : List Segment). header_fault bytes segments 1 (header_at bytes 1)) listed
    ∙ ap (header_fault bytes (one ∷ []) 1) same1
    ∙ no_fault bytes (one ∷ []) 1 second loadable1 in (
      ap (λ (o : Option ElfFault). option_or o (header_fault bytes (segments_under bytes 0 (header_at bytes 0)) 1 (header_at bytes 1))) before.0 ∙ fault,
      ap (λ (segments : List Segment). segments ++ segments_under bytes 1 (header_at bytes 1)) listed
          ∙ ap (λ (segments : List Segment). one ∷ segments) (ap (segments_under bytes 1) same1 ∙ stands bytes (one ∷ []) 1 second loadable1 ∙ ap (λ (s : Segment). s ∷ []) made1),
    )
