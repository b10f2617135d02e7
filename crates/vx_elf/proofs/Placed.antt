-- Where the parts of a written file stand, and what is read there.
use Rattle.std.proofs.Common.{◌≡◌, ℕ, zero, suc, ◌+◌, ◌-◌, ◌*◌, ◌/◌, ◌^◌, ◌<◌, ◌≤◌, Bool, true, false, if◌then◌else◌, List, [], ◌∷◌, ◌++◌, length, take, drop, replicate, refl, sym, ap, ◌∙◌, length-append, arith}
use Rattle.std.specs.List.{flat_map}
use Rattle.std.proofs.Math.Nat.{pow-suc}
use Rattle.std.proofs.lemmas.List.{drop_at, drop-drop, length-replicate}
use Rattle.vx_base.specs.Numbers.{little_endian, from_little_endian}
use Rattle.vx_elf.specs.Layout.{number_at, header_from}
use Rattle.vx_elf.specs.Writing.{file_header, program_header, headers_of, code_header, vars_header, has_code, has_vars, filled_to, written_start}
use Rattle.vx_elf.specs.declared.header.ProgramHeader.{ProgramHeader}
use Rattle.vx_elf.specs.declared.program.Program.{Program}

-- a number that fits its bytes is read back of them
pub read_back : (width n : ℕ) → n < 256 ^ width → from_little_endian (little_endian width n) ≡ n
read_back zero n fits = omega (arith, fits)
read_back (suc width) n fits =
    let limit : 256 ^ suc width ≡ 256 ^ width * 256 = pow-suc 256 width in
    let rest : from_little_endian (little_endian width (n / 256)) ≡ n / 256 = read_back width (n / 256) (omega (arith, limit)) in
    omega (arith, rest)

pub length-file_header : (entry count : ℕ) → length (file_header entry count) ≡ 64
unfolding file_header
length-file_header entry count = refl

pub length-program_header : (header : ProgramHeader) → length (program_header header) ≡ 56
unfolding program_header
length-program_header header = refl

pub length-headers : (headers : List ProgramHeader) → length (flat_map program_header headers) ≡ 56 * length headers
length-headers [] = refl
length-headers (header ∷ headers) =
    omega (arith, length-append (program_header header) (flat_map program_header headers), length-program_header header, length-headers headers)

none_or_one : (b : Bool) (header : ProgramHeader) → length (if b then header ∷ [] else []) ≤ 1
none_or_one true header = omega arith
none_or_one false header = omega arith

pub few_headers : (program : Program) → length (headers_of program) ≤ 2
unfolding headers_of
few_headers program =
    omega (arith, length-append (if has_code program then code_header program ∷ [] else []) (if has_vars program then vars_header program ∷ [] else []), none_or_one (has_code program) (code_header program), none_or_one (has_vars program) (vars_header program))

-- the headers of a program stand before byte 4,096
pub length-head : (program : Program) → length (file_header program.entry (length (headers_of program)) ++ flat_map program_header (headers_of program)) ≤ 176
length-head program =
    omega (arith, length-append (file_header program.entry (length (headers_of program))) (flat_map program_header (headers_of program)), length-file_header program.entry (length (headers_of program)), length-headers (headers_of program), few_headers program)

-- zeros behind bytes make them as long as a place
pub length-filled : (place : ℕ) (bytes : List ℕ) → length bytes ≤ place → length (filled_to place bytes) ≡ place
length-filled place bytes within =
    omega (arith, length-append bytes (replicate (place - length bytes) 0), length-replicate {A = ℕ} (place - length bytes) 0)

pub length-start : (program : Program) → length (written_start program) ≡ 4096 + length program.code
unfolding written_start
length-start program =
    let head = file_header program.entry (length (headers_of program)) ++ flat_map program_header (headers_of program) in
    omega (arith, length-append (filled_to 4096 head) program.code, length-filled 4096 head (omega (arith, length-head program)))

-- the number in bytes behind others
number_behind : (before bytes : List ℕ) (at place width : ℕ) → length before ≡ at → number_at (before ++ bytes) (at + place) width ≡ number_at bytes place width
unfolding number_at
number_behind before bytes at place width long =
    ap (λ (xs : List ℕ). from_little_endian (take width xs)) (sym (drop-drop place at (before ++ bytes)) ∙ ap (drop place) (drop_at before bytes at long))

-- a program header whose numbers fit
pub record Fits (header : ProgramHeader) : Type 0 where
  pub kind : header.kind < 256 ^ 4
  pub flags : header.flags < 256 ^ 4
  pub offset : header.offset < 256 ^ 8
  pub address : header.address < 256 ^ 8
  pub file_size : header.file_size < 256 ^ 8
  pub memory_size : header.memory_size < 256 ^ 8

-- its numbers are read back
module _ (header : ProgramHeader) (rest : List ℕ) where
  kind_there : header.kind < 256 ^ 4 → number_at (program_header header ++ rest) 0 4 ≡ header.kind
  unfolding number_at program_header
  kind_there fits = read_back 4 header.kind fits

  flags_there : header.flags < 256 ^ 4 → number_at (program_header header ++ rest) 4 4 ≡ header.flags
  unfolding number_at program_header
  flags_there fits = read_back 4 header.flags fits

  offset_there : header.offset < 256 ^ 8 → number_at (program_header header ++ rest) 8 8 ≡ header.offset
  unfolding number_at program_header
  offset_there fits = read_back 8 header.offset fits

  address_there : header.address < 256 ^ 8 → number_at (program_header header ++ rest) 16 8 ≡ header.address
  unfolding number_at program_header
  address_there fits = read_back 8 header.address fits

  file_size_there : header.file_size < 256 ^ 8 → number_at (program_header header ++ rest) 32 8 ≡ header.file_size
  unfolding number_at program_header
  file_size_there fits = read_back 8 header.file_size fits

  memory_size_there : header.memory_size < 256 ^ 8 → number_at (program_header header ++ rest) 40 8 ≡ header.memory_size
  unfolding number_at program_header
  memory_size_there fits = read_back 8 header.memory_size fits

-- a program header is read back behind other bytes
pub header_there : (before rest : List ℕ) (at : ℕ) (header : ProgramHeader) → length before ≡ at → Fits header → header_from (before ++ (program_header header ++ rest)) at ≡ header
unfolding header_from
header_there before rest at header long fits =
    let bytes = program_header header ++ rest in
    let first : at + 0 ≡ at = omega arith in
    let kind : number_at (before ++ bytes) at 4 ≡ header.kind = ap (λ (n : ℕ). number_at (before ++ bytes) n 4) (sym first) ∙ number_behind before bytes at 0 4 long ∙ kind_there header rest fits.kind in
    let flags : number_at (before ++ bytes) (at + 4) 4 ≡ header.flags = number_behind before bytes at 4 4 long ∙ flags_there header rest fits.flags in
    let offset : number_at (before ++ bytes) (at + 8) 8 ≡ header.offset = number_behind before bytes at 8 8 long ∙ offset_there header rest fits.offset in
    let address : number_at (before ++ bytes) (at + 16) 8 ≡ header.address = number_behind before bytes at 16 8 long ∙ address_there header rest fits.address in
    let file_size : number_at (before ++ bytes) (at + 32) 8 ≡ header.file_size = number_behind before bytes at 32 8 long ∙ file_size_there header rest fits.file_size in
    let memory_size : number_at (before ++ bytes) (at + 40) 8 ≡ header.memory_size = number_behind before bytes at 40 8 long ∙ memory_size_there header rest fits.memory_size in
    rw (kind, flags, offset, address, file_size, memory_size) refl
