-- What is written of a program is read again as its segments.
use Rattle.std.proofs.Common.{◌≡◌, ℕ, ◌+◌, ◌-◌, ◌*◌, ◌^◌, ◌<◌, ◌≤◌, true, false, ltb, inl, inr, List, [], ◌∷◌, ◌++◌, length, take, drop, replicate, find, Option, None, refl, sym, ap, ◌∙◌, append_assoc, append-nil, length-append, arith}
use Rattle.std.specs.List.{flat_map}
use Rattle.std.specs.Option.{option_or}
use Rattle.std.proofs.Math.Bool.{and-false}
use Rattle.std.proofs.lemmas.Bool.{cases_Bool}
use Rattle.std.proofs.lemmas.Bool.Decides.{nat_tests}
use Rattle.std.proofs.lemmas.Grind.{div_ceil_times}
use Rattle.vx_elf.specs.Layout.{entry_point, table_place, header_count, header_from, header_at}
use Rattle.vx_elf.specs.Segments.{segments_end, segments_room, total_size}
use Rattle.vx_elf.specs.Reading.{kind_fault, table_fault, meets, segment_of, segments_of, headers_fault, elf_fault, segments_in}
use Rattle.vx_elf.specs.Writing.{file_header, program_header, headers_of, code_header, vars_header, has_code, has_vars, filled_to, whole_pages, vars_place, vars_address, written_start, written, code_segment, vars_segment, program_list, program_segments, IsWritable}
use Rattle.vx_elf.specs.declared.fault.ElfFault.{ElfFault}
use Rattle.vx_elf.specs.declared.header.ProgramHeader.{ProgramHeader}
use Rattle.vx_elf.specs.declared.program.Program.{Program}
use Rattle.vx_elf.specs.declared.segment.Segment.{Segment}
use Rattle.vx_elf.specs.declared.segments.Segments.{Segments}
use Rattle.vx_elf.proofs.Listed.{not_zero}
use Rattle.vx_elf.proofs.Placed.{length-file_header, length-program_header, length-headers, length-head, length-filled, length-start, Fits, header_there}
use Rattle.vx_elf.proofs.RoundTrip.{place_there, count_there, entry_there, kind_none, table_none, IsLoadable, part_there, none_read, one_read, two_read}

-- the first program header, and the second
first_header : (bytes : List ℕ) (entry count : ℕ) (header : ProgramHeader) (rest : List ℕ) → bytes ≡ file_header entry count ++ (program_header header ++ rest) → Fits header → header_at bytes 0 ≡ header
first_header bytes entry count header rest form fits =
    let all = file_header entry count ++ (program_header header ++ rest) in
    let place : table_place all + 56 * 0 ≡ 64 = omega (arith, place_there entry count (program_header header ++ rest)) in
    ap (λ (bs : List ℕ). header_at bs 0) form
    ∙ ap (header_from all) place
    ∙ header_there (file_header entry count) rest 64 header (length-file_header entry count) fits

second_header : (bytes : List ℕ) (entry count : ℕ) (first header : ProgramHeader) (rest : List ℕ) → bytes ≡ file_header entry count ++ (program_header first ++ (program_header header ++ rest)) → Fits header → header_at bytes 1 ≡ header
second_header bytes entry count first header rest form fits =
    let all = file_header entry count ++ (program_header first ++ (program_header header ++ rest)) in
    let place : table_place all + 56 * 1 ≡ 120 = omega (arith, place_there entry count (program_header first ++ (program_header header ++ rest))) in
    let long : length (file_header entry count ++ program_header first) ≡ 120 = omega (arith, length-append (file_header entry count) (program_header first), length-file_header entry count, length-program_header first) in
    ap (λ (bs : List ℕ). header_at bs 1) form
    ∙ ap (header_from all) place
    ∙ ap (λ (bs : List ℕ). header_from bs 120) (sym (append_assoc (file_header entry count) (program_header first) (program_header header ++ rest)))
    ∙ header_there (file_header entry count ++ program_header first) rest 120 header long fits

as_segments : ℕ → List Segment → Segments
as_segments entry list = record { entry = entry; list = list }

-- a file whose program headers have no fault
file_read : (bytes : List ℕ) (entry count : ℕ) (rest : List ℕ) (list : List Segment) → bytes ≡ file_header entry count ++ rest → entry < 2 ^ 64 → count ≤ 2 → 56 * count ≤ length rest → (headers_fault bytes count ≡ None) × (segments_of bytes count ≡ list) → (elf_fault bytes ≡ None) × (as_segments entry list ≡ segments_in bytes)
unfolding elf_fault segments_in as_segments
file_read bytes entry count rest list form below few whole read =
    let kind : kind_fault bytes ≡ None = ap kind_fault form ∙ kind_none entry count rest in
    let table : table_fault bytes ≡ None = ap table_fault form ∙ table_none entry count rest few whole in
    let counted : header_count bytes ≡ count = ap header_count form ∙ count_there entry count rest (omega arith) in
    let entered : entry_point bytes ≡ entry = ap entry_point form ∙ entry_there entry count rest below in (
      ap (λ (o : Option ElfFault). option_or o (option_or (table_fault bytes) (headers_fault bytes (header_count bytes)))) kind
          ∙ ap (λ (o : Option ElfFault). option_or o (headers_fault bytes (header_count bytes))) table
          ∙ ap (headers_fault bytes) counted
          ∙ read.0,
      sym (ap (λ (n : ℕ). as_segments (entry_point bytes) (segments_of bytes n)) counted
          ∙ ap (as_segments (entry_point bytes)) read.1
          ∙ ap (λ (n : ℕ). as_segments n list) entered),
    )

module _ (program : Program) (writable : IsWritable program) where
  pages_bound : (length program.code ≤ whole_pages (length program.code)) × (whole_pages (length program.code) < length program.code + 4096)
  pages_bound =
      let bounds = div_ceil_times (length program.code) 4096 (omega arith) in
      (omega (arith, bounds.0), omega (arith, bounds.1))

  code_fits : Fits (code_header program)
  unfolding code_header
  code_fits = record {
    kind = omega arith;
    flags = omega arith;
    offset = omega arith;
    address = omega arith;
    file_size = omega arith;
    memory_size = omega arith;
  }

  vars_fits : Fits (vars_header program)
  unfolding vars_header
  vars_fits =
      let bound = pages_bound in
      record {
        kind = omega arith;
        flags = omega arith;
        offset = let low : vars_place program < 256 ^ 8 = omega (arith, bound.1) in low;
        address = let low : vars_address program < 256 ^ 8 = omega (arith, bound.1) in low;
        file_size = omega arith;
        memory_size = omega arith;
      }

  code_loadable : (bytes : List ℕ) → has_code program ≡ true → 4096 + length program.code ≤ length bytes → IsLoadable bytes [] (code_header program)
  unfolding code_header
  code_loadable bytes has within = record {
    kind = refl;
    flags = refl;
    some = not_zero (length program.code) has;
    holds = let same : length program.code ≤ length program.code = omega arith in same;
    below = let low : 0x10000 + length program.code ≤ segments_end = omega arith in low;
    room = let low : 0 + length program.code ≤ segments_room = omega arith in low;
    within = within;
    apart = refl;
  }

  vars_loadable : (bytes : List ℕ) (before : List Segment) → has_vars program ≡ true → vars_place program + length program.vars ≤ length bytes → total_size before ≤ length program.code → find (meets (vars_header program)) before ≡ None → IsLoadable bytes before (vars_header program)
  unfolding vars_header
  vars_loadable bytes before has within few apart =
      let bound = pages_bound in
      record {
        kind = refl;
        flags = refl;
        some = not_zero (length program.vars + program.zero) has;
        holds = let more : length program.vars ≤ length program.vars + program.zero = omega arith in more;
        below = let low : vars_address program + (length program.vars + program.zero) ≤ segments_end = omega (arith, bound.1) in low;
        room = let low : total_size before + (length program.vars + program.zero) ≤ segments_room = omega arith in low;
        within = within;
        apart = apart;
      }

  -- the variables don't meet the code
  apart_from_code : find (meets (vars_header program)) (code_segment program ∷ []) ≡ None
  unfolding vars_header code_segment
  apart_from_code =
      let bound = pages_bound in
      let no : ltb (vars_address program) (0x10000 + length program.code) ≡ false = grind (arith, nat_tests, bound.0) in
      rw (no, and-false (ltb 0x10000 (vars_address program + (length program.vars + program.zero)))) refl

  code_size : total_size (code_segment program ∷ []) ≤ length program.code
  unfolding code_segment
  code_size = let same : 0 + length program.code ≤ length program.code = omega arith in same

  code_made : (bytes : List ℕ) → take (length program.code) (drop 4096 bytes) ≡ program.code → segment_of bytes 0 (code_header program) ≡ code_segment program
  unfolding segment_of code_header code_segment
  code_made bytes there =
      let f : List ℕ → Segment = λ code. record { index = 0; address = 0x10000; bytes = code; size = length program.code; perm = record { bits = 5 } } in
      ap f there

  vars_made : (bytes : List ℕ) (index : ℕ) → take (length program.vars) (drop (vars_place program) bytes) ≡ program.vars → segment_of bytes index (vars_header program) ≡ vars_segment index program
  unfolding segment_of vars_header vars_segment
  vars_made bytes index there =
      let f : List ℕ → Segment = λ vars. record { index = index; address = vars_address program; bytes = vars; size = length program.vars + program.zero; perm = record { bits = 6 } } in
      ap f there

-- the headers of a program, and zeros up to its code
head_of : Program → List ℕ
head_of program = file_header program.entry (length (headers_of program)) ++ flat_map program_header (headers_of program)

-- the file without variables, and with them
without_vars : (program : Program) → has_vars program ≡ false → written program ≡ filled_to 4096 (head_of program) ++ (program.code ++ [])
unfolding written written_start head_of
without_vars program none =
    rw none (ap (λ (code : List ℕ). filled_to 4096 (head_of program) ++ code) (sym (append-nil program.code)))

with_vars : (program : Program) → has_vars program ≡ true → written program ≡ filled_to 4096 (head_of program) ++ (program.code ++ (replicate (vars_place program - length (written_start program)) 0 ++ program.vars))
unfolding written written_start head_of
with_vars program some =
    let before = filled_to 4096 (head_of program) in
    let zeros = replicate (vars_place program - length (before ++ program.code)) 0 in
    rw some
    (append_assoc (before ++ program.code) zeros program.vars ∙ append_assoc before program.code (zeros ++ program.vars))

vars_last : (program : Program) → has_vars program ≡ true → written program ≡ filled_to (vars_place program) (written_start program) ++ (program.vars ++ [])
unfolding written
vars_last program some =
    rw some (ap (λ (vars : List ℕ). filled_to (vars_place program) (written_start program) ++ vars) (sym (append-nil program.vars)))

-- the code of a program stands in bytes that begin as its file does
code_there : (program : Program) (bytes rest : List ℕ) → bytes ≡ filled_to 4096 (head_of program) ++ (program.code ++ rest) → take (length program.code) (drop 4096 bytes) ≡ program.code
unfolding head_of
code_there program bytes rest form =
    ap (λ (bs : List ℕ). take (length program.code) (drop 4096 bs)) form
    ∙ part_there (filled_to 4096 (head_of program)) program.code rest 4096 (length-filled 4096 (head_of program) (omega (arith, length-head program)))

-- so do its headers
headers_there : (program : Program) (bytes rest : List ℕ) → bytes ≡ filled_to 4096 (head_of program) ++ rest → bytes ≡ file_header program.entry (length (headers_of program)) ++ (flat_map program_header (headers_of program) ++ (replicate (4096 - length (head_of program)) 0 ++ rest))
unfolding head_of
headers_there program bytes rest form =
    let file = file_header program.entry (length (headers_of program)) in
    let headers = flat_map program_header (headers_of program) in
    let zeros = replicate (4096 - length (head_of program)) 0 in
    form
    ∙ append_assoc (file ++ headers) zeros rest
    ∙ append_assoc file headers (zeros ++ rest)

module _ (program : Program) (writable : IsWritable program) (below : program.entry < 2 ^ 64) where
  -- how long the file is without variables, and with them
  length-without : has_vars program ≡ false → length (written program) ≡ 4096 + length program.code
  unfolding written
  length-without none = rw none (length-start program)

  length-with : has_vars program ≡ true → length (written program) ≡ vars_place program + length program.vars
  unfolding written
  length-with some =
      let bound = pages_bound program writable in
      rw some
      (length-append (filled_to (vars_place program) (written_start program)) program.vars
      ∙ ap (λ (n : ℕ). n + length program.vars) (length-filled (vars_place program) (written_start program) (omega (arith, length-start program, bound.0))))

  vars_there : has_vars program ≡ true → take (length program.vars) (drop (vars_place program) (written program)) ≡ program.vars
  vars_there some =
      let bound = pages_bound program writable in
      ap (λ (bs : List ℕ). take (length program.vars) (drop (vars_place program) bs)) (vars_last program some)
      ∙ part_there (filled_to (vars_place program) (written_start program)) program.vars [] (vars_place program) (length-filled (vars_place program) (written_start program) (omega (arith, length-start program, bound.0)))

  IsReadAgain : Type 0
  IsReadAgain = (elf_fault (written program) ≡ None) × (program_segments program ≡ segments_in (written program))

  -- a program whose headers and segments are these
  read_as : (headers : List ProgramHeader) (list : List Segment) (rest : List ℕ) → headers_of program ≡ headers → program_list program ≡ list → length headers ≤ 2 → written program ≡ file_header program.entry (length headers) ++ (flat_map program_header headers ++ rest) → (headers_fault (written program) (length headers) ≡ None) × (segments_of (written program) (length headers) ≡ list) → IsReadAgain
  unfolding IsReadAgain program_segments as_segments
  read_as headers list rest those these few form read =
      let whole : 56 * length headers ≤ length (flat_map program_header headers ++ rest) = omega (arith, length-append (flat_map program_header headers) rest, length-headers headers) in
      let again = file_read (written program) program.entry (length headers) (flat_map program_header headers ++ rest) list form below few whole read in
      (again.0, ap (as_segments program.entry) these ∙ again.1)

  headers_none : has_code program ≡ false → has_vars program ≡ false → headers_of program ≡ []
  unfolding headers_of
  headers_none c v = rw (c, v) refl

  headers_code : has_code program ≡ true → has_vars program ≡ false → headers_of program ≡ code_header program ∷ []
  unfolding headers_of
  headers_code c v = rw (c, v) refl

  headers_vars : has_code program ≡ false → has_vars program ≡ true → headers_of program ≡ vars_header program ∷ []
  unfolding headers_of
  headers_vars c v = rw (c, v) refl

  headers_both : has_code program ≡ true → has_vars program ≡ true → headers_of program ≡ code_header program ∷ vars_header program ∷ []
  unfolding headers_of
  headers_both c v = rw (c, v) refl

  -- the file by its headers
  formed : (headers : List ProgramHeader) (rest : List ℕ) → headers_of program ≡ headers → written program ≡ filled_to 4096 (head_of program) ++ rest → written program ≡ file_header program.entry (length headers) ++ (flat_map program_header headers ++ (replicate (4096 - length (head_of program)) 0 ++ rest))
  formed headers rest those form =
      headers_there program (written program) rest form
      ∙ ap (λ (hs : List ProgramHeader). file_header program.entry (length hs) ++ (flat_map program_header hs ++ (replicate (4096 - length (head_of program)) 0 ++ rest))) those

  neither : has_code program ≡ false → has_vars program ≡ false → IsReadAgain
  neither c v =
      read_as [] [] (replicate (4096 - length (head_of program)) 0 ++ (program.code ++ [])) (headers_none c v) (rw (c, v) refl) (omega arith)
      (formed [] (program.code ++ []) (headers_none c v) (without_vars program v)) (none_read (written program))

  only_code : has_code program ≡ true → has_vars program ≡ false → IsReadAgain
  only_code c v =
      let file = written program in
      let header = code_header program in
      let rest = replicate (4096 - length (head_of program)) 0 ++ (program.code ++ []) in
      let form = formed (header ∷ []) (program.code ++ []) (headers_code c v) (without_vars program v) in
      let same : header_at file 0 ≡ header =
      first_header file program.entry 1 header rest (form ∙ ap (λ (bs : List ℕ). file_header program.entry 1 ++ bs) (append_assoc (program_header header) [] rest)) (code_fits program writable) in
      read_as (header ∷ []) (code_segment program ∷ []) rest (headers_code c v) (rw (c, v) refl) (omega arith) form
      (one_read file header (code_segment program) same (code_loadable program writable file c (omega (arith, length-without v))) (code_made program writable file (code_there program file [] (without_vars program v))))

  only_vars : has_code program ≡ false → has_vars program ≡ true → IsReadAgain
  only_vars c v =
      let file = written program in
      let header = vars_header program in
      let body = program.code ++ (replicate (vars_place program - length (written_start program)) 0 ++ program.vars) in
      let rest = replicate (4096 - length (head_of program)) 0 ++ body in
      let form = formed (header ∷ []) body (headers_vars c v) (with_vars program v) in
      let same : header_at file 0 ≡ header =
      first_header file program.entry 1 header rest (form ∙ ap (λ (bs : List ℕ). file_header program.entry 1 ++ bs) (append_assoc (program_header header) [] rest)) (vars_fits program writable) in
      read_as (header ∷ []) (vars_segment 0 program ∷ []) rest (headers_vars c v) (rw (c, v) refl) (omega arith) form
      (one_read file header (vars_segment 0 program) same (vars_loadable program writable file [] v (omega (arith, length-with v)) (omega arith) refl) (vars_made program writable file 0 (vars_there v)))

  both_parts : has_code program ≡ true → has_vars program ≡ true → IsReadAgain
  both_parts c v =
      let file = written program in
      let first = code_header program in
      let second = vars_header program in
      let body = program.code ++ (replicate (vars_place program - length (written_start program)) 0 ++ program.vars) in
      let rest = replicate (4096 - length (head_of program)) 0 ++ body in
      let bound = pages_bound program writable in
      let form = formed (first ∷ second ∷ []) body (headers_both c v) (with_vars program v) in
      let flat : file ≡ file_header program.entry 2 ++ (program_header first ++ (program_header second ++ rest)) =
      form
      ∙ ap (λ (bs : List ℕ). file_header program.entry 2 ++ bs) (append_assoc (program_header first) (program_header second ++ []) rest
      ∙ ap (λ (bs : List ℕ). program_header first ++ bs) (append_assoc (program_header second) [] rest)) in
      let same0 : header_at file 0 ≡ first = first_header file program.entry 2 first (program_header second ++ rest) flat (code_fits program writable) in
      let same1 : header_at file 1 ≡ second = second_header file program.entry 2 first second rest flat (vars_fits program writable) in
      read_as (first ∷ second ∷ []) (code_segment program ∷ vars_segment 1 program ∷ []) rest (headers_both c v) (rw (c, v) refl) (omega arith) form
      (two_read file first second (code_segment program) (vars_segment 1 program) same0
      (code_loadable program writable file c (omega (arith, length-with v, bound.0)))
      (code_made program writable file (code_there program file (replicate (vars_place program - length (written_start program)) 0 ++ program.vars) (with_vars program v)))
      same1
      (vars_loadable program writable file (code_segment program ∷ []) v (omega (arith, length-with v)) (code_size program writable) (apart_from_code program writable))
      (vars_made program writable file 1 (vars_there v)))

  -- the file is read as the program's segments
  pub read_again : (elf_fault (written program) ≡ None) × (program_segments program ≡ segments_in (written program))
  unfolding IsReadAgain
  read_again =
      elim (cases_Bool (has_code program)) [
        | inl c ↦ elim (cases_Bool (has_vars program)) [ inl v ↦ both_parts c v | inr v ↦ only_code c v ]
        | inr c ↦ elim (cases_Bool (has_vars program)) [ inl v ↦ only_vars c v | inr v ↦ neither c v ]
      ]
