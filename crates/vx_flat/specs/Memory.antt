-- Accesses to memory by page: RISC-V Privileged 1.12, section 4.4 (Sv39: canonical addresses). Addresses are numbers below
-- 2 ^ 64, and an access that passes the last wraps.
use Rattle.std.specs.Prelude.{ℕ, zero, suc, ◌+◌, ◌%◌, ◌^◌, Bool, true, ◌==◌, ◌&&◌, List, [], ◌∷◌, map, if◌then◌else◌, slice_index, slice_set}
use Rattle.std.specs.Option.{option_map_or}
use Rattle.vx_base.specs.Numbers.{little_endian, from_little_endian}
use Rattle.vx_base.specs.declared.machine.Want.{Want}
use Rattle.vx_image.specs.Pages.{MappedPage, Memory, page_numbered, page_of, permits}

abbrev pub offset_of : ℕ → ℕ
offset_of address = address % 4096

-- the byte at an address of a mapped page
abbrev pub byte_at : Memory → ℕ → ℕ
byte_at memory address =
    option_map_or (λ (page : MappedPage). slice_index page.bytes (offset_of address)) (page_numbered (page_of address) memory) 0

-- the address after this one
abbrev pub next_address : ℕ → ℕ
next_address address = (address + 1) % 2 ^ 64

-- the bytes at so many addresses from this one on
abbrev pub bytes_at : Memory → ℕ → ℕ → List ℕ
bytes_at memory address zero = []
bytes_at memory address (suc count) = byte_at memory address ∷ bytes_at memory (next_address address) count

-- each of so many addresses from this one on lies on a page that grants the access
abbrev pub all_permit : Memory → ℕ → ℕ → Want → Bool
all_permit memory address zero want = true
all_permit memory address (suc count) want = permits memory address want && all_permit memory (next_address address) count want

-- the page with the byte at an offset set, where it is the page of that number
abbrev pub with_byte : ℕ → ℕ → ℕ → MappedPage → MappedPage
with_byte number offset byte page =
    if page.number == number then record page { bytes = slice_set page.bytes offset byte } else page

-- the memory with the byte at an address set
abbrev pub put_byte : Memory → ℕ → ℕ → Memory
put_byte memory address byte = map (with_byte (page_of address) (offset_of address) byte) memory

-- the memory with these bytes at the addresses from this one on
abbrev pub put_bytes : Memory → ℕ → List ℕ → Memory
put_bytes memory address [] = memory
put_bytes memory address (byte ∷ bytes) = put_bytes (put_byte memory address byte) (next_address address) bytes

-- the number that so many bytes from an address on are, least first; and the memory with the low bytes of a number there
abbrev pub number_at : Memory → (address width : ℕ) → ℕ
number_at memory address width = from_little_endian (bytes_at memory address width)

abbrev pub put_number : Memory → (address width value : ℕ) → Memory
put_number memory address width value = put_bytes memory address (little_endian width value)
