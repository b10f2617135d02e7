-- Which accesses a vector load or store makes: RISC-V "V" 1.0, sections 7.2 to 7.9. All are in element order, and within an
-- element in the order of its fields; an element that takes no part has none.
use Rattle.std.specs.Prelude.{ℕ, ◌+◌, ◌-◌, ◌*◌, ◌/◌, ◌%◌, ◌^◌, Bool, ◌&&◌, ◌||◌, nat_lt, nat_le, List, [], map, flat_map, Option, Some, None, if◌then◌else◌}
use Rattle.std.specs.List.{range_with_len}
use Rattle.vx_rows.specs.declared.row.Addressing.{Addressing}
use Rattle.vx_rows.specs.declared.row.Addressing.TheVariants.{Unit, FaultOnlyFirst, Whole, MaskBits, Strided, Unordered, Ordered}
use Rattle.vx_rows.specs.Table.{class_of}
use Rattle.vx_rows.specs.declared.row.Class.{Class}
use Rattle.vx_rows.specs.declared.row.Class.TheVariants as class
use Rattle.vx_rows.specs.declared.row.Eew.{Eew}
use Rattle.vx_vstate.specs.Groups.{registers_of_group}
use Rattle.vx_decode.specs.Groups.{bits_of_eew, moved}
use Rattle.vx_decode.specs.declared.instr.Instr.{Instr}
use Rattle.vx_vstate.specs.Registers.{element, with_element}
use Rattle.vx_vstate.specs.State.{SettingView}
use Rattle.vx_vector.specs.Numbers.{is_set}

-- an access: the element and the field that it moves, the address of its first byte, how many bytes it has, and where in the
-- registers they stand: so many bytes behind the first of a register
pub record Access : Type 0 where
  pub element : ℕ
  pub field : ℕ
  pub address : ℕ
  pub width : ℕ
  pub register : ℕ
  pub byte : ℕ

-- the registers with what an access loaded at its place
abbrev pub with_loaded : (vlen : ℕ) → List ℕ → Access → (value : ℕ) → List ℕ
with_loaded vlen words a value = with_element vlen words a.register (8 * a.width) (a.byte / a.width) value

-- what an access stores
abbrev pub value_stored : (vlen : ℕ) → List ℕ → Access → ℕ
value_stored vlen words a = element vlen words a.register (8 * a.width) (a.byte / a.width)

-- a vector load or store, with what it reads of registers
pub record Movement : Type 0 where
  pub addressing : Addressing
  -- the width that it encodes
  pub encoded : Eew
  pub i : Instr
  pub at : SettingView
  -- the numbers in rs1 and in rs2
  pub base : ℕ
  pub stride : ℕ
  pub words : List ℕ

-- the movement of a row with this addressing, which encodes this width
abbrev pub movement : Addressing → Eew → Instr → SettingView → (base stride : ℕ) → (words : List ℕ) → Movement
movement addressing encoded i at base stride words = record {
  addressing = addressing;
  encoded = encoded;
  i = i;
  at = at;
  base = base;
  stride = stride;
  words = words;
}

-- that of an instruction of a class, where it is a vector load or store
abbrev pub movement_as : Class → Instr → SettingView → (base stride : ℕ) → (words : List ℕ) → Option Movement
movement_as class.Arithmetic i at base stride words = None
movement_as class.Multiply i at base stride words = None
movement_as class.Divide i at base stride words = None
movement_as class.Jump i at base stride words = None
movement_as class.Branch i at base stride words = None
movement_as class.Load i at base stride words = None
movement_as class.Store i at base stride words = None
movement_as class.Fence i at base stride words = None
movement_as class.Ecall i at base stride words = None
movement_as class.Ebreak i at base stride words = None
movement_as class.Csr i at base stride words = None
movement_as class.Set i at base stride words = None
movement_as (class.VectorArithmetic family) i at base stride words = None
movement_as (class.VectorLoad addressing encoded) i at base stride words = Some (movement addressing encoded i at base stride words)
movement_as (class.VectorStore addressing encoded) i at base stride words = Some (movement addressing encoded i at base stride words)

abbrev pub movement_of : Instr → SettingView → (base stride : ℕ) → (words : List ℕ) → Option Movement
movement_of i at base stride words = movement_as (class_of i.op) i at base stride words

-- the width of what is moved, in bits, where the group's elements have this EEW: a mask is moved by bytes
abbrev pub moved_width : Addressing → (eew : ℕ) → ℕ
moved_width Unit eew = eew
moved_width FaultOnlyFirst eew = eew
moved_width Whole eew = eew
moved_width MaskBits eew = 8
moved_width Strided eew = eew
moved_width Unordered eew = eew
moved_width Ordered eew = eew

-- how many elements: vl; the bytes of vl bits; or all that so many registers hold
abbrev pub count_by : Addressing → (vl vlen registers width : ℕ) → ℕ
count_by Unit vl vlen registers width = vl
count_by FaultOnlyFirst vl vlen registers width = vl
count_by Whole vl vlen registers width = registers * vlen / width
count_by MaskBits vl vlen registers width = (vl + 7) / 8
count_by Strided vl vlen registers width = vl
count_by Unordered vl vlen registers width = vl
count_by Ordered vl vlen registers width = vl

-- where an element's first field lies behind the base: elements of so many bytes, a stride, or an index
abbrev pub offset_by : Addressing → (i bytes stride index : ℕ) → ℕ
offset_by Unit i bytes stride index = i * bytes
offset_by FaultOnlyFirst i bytes stride index = i * bytes
offset_by Whole i bytes stride index = i * bytes
offset_by MaskBits i bytes stride index = i * bytes
offset_by Strided i bytes stride index = i * stride
offset_by Unordered i bytes stride index = index
offset_by Ordered i bytes stride index = index

module _ (m : Movement) where
  -- the width of an access, in bits and in bytes
  abbrev pub access_bits : ℕ
  access_bits = moved_width m.addressing (moved m.addressing m.encoded m.i m.at).eew

  abbrev pub access_bytes : ℕ
  access_bytes = access_bits / 8

  -- the fields of an element
  abbrev pub fields_of : ℕ
  fields_of = (moved m.addressing m.encoded m.i m.at).fields

  -- the registers from one field's to the next one's
  abbrev pub registers_of_field : ℕ
  registers_of_field = registers_of_group (moved m.addressing m.encoded m.i m.at).emul_eighths

  abbrev pub movement_count : ℕ
  movement_count = count_by m.addressing m.at.vl m.at.vlen registers_of_field access_bits

  -- element i takes part
  abbrev pub takes_part : ℕ → Bool
  takes_part i = nat_le m.at.vstart i && nat_lt i movement_count && (m.i.vm || is_set (element m.at.vlen m.words 0 1 i))

  -- the index of element i, unsigned
  abbrev pub index_of : ℕ → ℕ
  index_of i = element m.at.vlen m.words m.i.rs2 (bits_of_eew m.encoded) i

  -- the address of field f of element i
  abbrev pub address_of : (i f : ℕ) → ℕ
  address_of i f = (m.base + offset_by m.addressing i (fields_of * access_bytes) m.stride (index_of i) + f * access_bytes) % 2 ^ 64

  -- the access of field f of element i
  abbrev pub access_of : (i f : ℕ) → Access
  access_of i f = record {
    element = i;
    field = f;
    address = address_of i f;
    width = access_bytes;
    register = m.i.rd + f * registers_of_field;
    byte = i * access_bytes;
  }

  -- the accesses of element i
  abbrev pub accesses_of_element : ℕ → List Access
  accesses_of_element i = if takes_part i then map (access_of i) (range_with_len 0 fields_of) else []

  -- the accesses of the elements from one on up to another
  abbrev pub accesses_between : (from to : ℕ) → List Access
  accesses_between from to = flat_map accesses_of_element (range_with_len from (to - from))

  -- all accesses
  abbrev pub access_list : List Access
  access_list = accesses_between 0 movement_count
