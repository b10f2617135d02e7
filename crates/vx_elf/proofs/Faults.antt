-- What a program header without a fault keeps.
use Rattle.std.proofs.Common.{◌≡◌, ℕ, ◌+◌, ◌≤◌, Bool, true, false, eqb, ltb, ◌||◌, if◌then◌else◌, List, [], ◌∷◌, ◌++◌, length, Option, Some, None, option_map, find, refl, sym, ap, ◌∙◌, arith}
use Rattle.std.proofs.lemmas.Bool.{ltb-false}
use Rattle.std.proofs.lemmas.List.Sums.{sum_by_push}
use Rattle.vx_elf.specs.Layout.{header_at}
use Rattle.vx_elf.specs.Segments.{segments_end, segments_room, total_size}
use Rattle.vx_elf.specs.Reading.{is_segment, is_bad_range, meets, segment_of, segments_under, segment_fault, header_fault, TakesHeader}
use Rattle.vx_elf.specs.declared.fault.ElfFault.TheVariants.{Short, Interp, BadRange, Overlap}
use Rattle.vx_elf.specs.declared.header.ProgramHeader.{ProgramHeader}
use Rattle.vx_elf.specs.declared.segment.Segment.{Segment}

-- where a choice gives nothing, its test failed and the rest gives nothing
pub none_if : {T : Type 0} → (b : Bool) (x : T) (o : Option T) → (if b then Some x else o) ≡ None → (b ≡ false) × (o ≡ None)
none_if true x o none = cc
none_if false x o none = (refl, none)

-- of two tests neither of which passes
pub neither : (a b : Bool) → (a || b) ≡ false → (a ≡ false) × (b ≡ false)
neither true b h = cc
neither false b h = (refl, h)

-- a search that finds nothing is what its answer says
found_none : (o : Option Segment) (index : ℕ) → option_map (λ (segment : Segment). Overlap segment.index index) o ≡ None → o ≡ None
found_none None index none = refl
found_none (Some x) index none = cc

pub record IsTaken (bytes : List ℕ) (before : List Segment) (header : ProgramHeader) : Type 0 where
  pub holds : header.file_size ≤ header.memory_size
  pub below : header.address + header.memory_size ≤ segments_end
  pub room : total_size before + header.memory_size ≤ segments_room
  pub within : header.offset + header.file_size ≤ length bytes
  pub apart : find (meets header) before ≡ None

segment_taken : (bytes : List ℕ) (before : List Segment) (index : ℕ) (header : ProgramHeader) → segment_fault bytes before index header ≡ None → IsTaken bytes before header
unfolding segment_fault
segment_taken bytes before index header none =
    let first = none_if (is_bad_range (total_size before) header) (BadRange index) _ none in
    let second = none_if (ltb (length bytes) (header.offset + header.file_size)) (Short (header.offset + header.file_size) (length bytes)) _ first.1 in
    let sizes = neither (ltb header.memory_size header.file_size) _ first.0 in
    let ends = neither (ltb segments_end (header.address + header.memory_size)) _ sizes.1 in
    record {
      holds = ltb-false header.memory_size header.file_size sizes.0;
      below = ltb-false segments_end (header.address + header.memory_size) ends.0;
      room = ltb-false segments_room (total_size before + header.memory_size) ends.1;
      within = ltb-false (length bytes) (header.offset + header.file_size) second.0;
      apart = found_none (find (meets header) before) index second.1;
    }

-- a segment's header without a fault
pub header_taken : (bytes : List ℕ) (before : List Segment) (index : ℕ) (header : ProgramHeader) → header_fault bytes before index header ≡ None → is_segment header ≡ true → IsTaken bytes before header
unfolding header_fault
header_taken bytes before index header none is =
    let rest = none_if (eqb header.kind 3) (Interp index) _ none in
    segment_taken bytes before index header (rw is at rest.1)

-- a header that is none stands for nothing
pub under_none : (bytes : List ℕ) (index : ℕ) (header : ProgramHeader) → is_segment header ≡ false → segments_under bytes index header ≡ []
unfolding segments_under
under_none bytes index header not_one = rw not_one refl

-- a header that is a segment stands for that segment
pub under_segment : (bytes : List ℕ) (index : ℕ) (header : ProgramHeader) → is_segment header ≡ true → segments_under bytes index header ≡ segment_of bytes index header ∷ []
unfolding segments_under
under_segment bytes index header is = rw is refl

-- the segment of a header takes the header's memory
pub size_of_segment : (bytes : List ℕ) (index : ℕ) (header : ProgramHeader) → (segment_of bytes index header).size ≡ header.memory_size
unfolding segment_of
size_of_segment bytes index header = refl

-- a segment's header was read, and its segment stands behind those before it
pub takes_segment : (bytes : List ℕ) (index : ℕ) (before after : List Segment) (total : ℕ) (header : ProgramHeader) (segment : Segment) → header ≡ header_at bytes index → header_fault bytes before index header ≡ None → is_segment header ≡ true → segment ≡ segment_of bytes index header → after ≡ before ++ segment ∷ [] → total ≡ total_size before → TakesHeader bytes index before after (total + header.memory_size)
takes_segment bytes index before after total header segment same none is made pushed sum =
    let size : segment.size ≡ header.memory_size = ap (λ (s : Segment). s.size) made ∙ size_of_segment bytes index header in
    record {
      faultless = ap (λ (h : ProgramHeader). header_fault bytes before index h) (sym same) ∙ none;
      segments =
          pushed
          ∙ ap (λ (s : Segment). before ++ s ∷ []) made
          ∙ ap (λ (segments : List Segment). before ++ segments) (sym (under_segment bytes index header is))
          ∙ ap (λ (h : ProgramHeader). before ++ segments_under bytes index h) same;
      total =
          omega (arith, ap total_size pushed, sum_by_push (λ (s : Segment). s.size) before segment);
    }
