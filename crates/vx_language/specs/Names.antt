-- The names that a source may use: the integer registers' (RISC-V psABI, integer register convention; RISC-V Unprivileged
-- ISA 20191213, section 2.1), the vector and the control registers' (RISC-V "V" 1.0, section 3), the words of vtype and the
-- rows' mnemonics.
use Rattle.std.specs.Prelude.{ℕ, ℤ, pos, true, List, [], ◌∷◌, find, position, codes, bytes_eq, Option, option_map, is_some, unwrap_or}
use Rattle.std.specs.Option.{option_or}
use Rattle.vx_decode.specs.declared.instr.Instr.{Instr}
use Rattle.vx_rows.specs.Layouts.{layout_of}
use Rattle.vx_rows.specs.Table.{mnemonic, operations, shape_of}
use Rattle.vx_rows.specs.declared.op.Op.{Op}
use Rattle.vx_rows.specs.declared.row.Nf.{Nf}
use Rattle.vx_rows.specs.declared.row.Nf.TheVariants as nf
use Rattle.vx_source.specs.Names.{register_names, vector_names, NamedControl, named_controls}
use Rattle.vx_source.specs.Vtypes.{vtype_words}
use Rattle.vx_source.specs.declared.vtype.VtypeField.{VtypeField}

-- x0 to x31
unfoldable pub numbered_names : List (List ℕ)
numbered_names =
    codes "x0" ∷ codes "x1" ∷ codes "x2" ∷ codes "x3" ∷ codes "x4" ∷ codes "x5" ∷ codes "x6" ∷ codes "x7" ∷
    codes "x8" ∷ codes "x9" ∷ codes "x10" ∷ codes "x11" ∷ codes "x12" ∷ codes "x13" ∷ codes "x14" ∷ codes "x15" ∷
    codes "x16" ∷ codes "x17" ∷ codes "x18" ∷ codes "x19" ∷ codes "x20" ∷ codes "x21" ∷ codes "x22" ∷ codes "x23" ∷
    codes "x24" ∷ codes "x25" ∷ codes "x26" ∷ codes "x27" ∷ codes "x28" ∷ codes "x29" ∷ codes "x30" ∷ codes "x31" ∷
    []

-- the number of the integer register of this name, where one has it
unfoldable pub register_number : List ℕ → Option ℕ
register_number name = option_or (position (bytes_eq name) register_names) (position (bytes_eq name) numbered_names)

-- the number of the vector register of this name, where one has it
unfoldable pub vector_number : List ℕ → Option ℕ
vector_number name = position (bytes_eq name) vector_names

-- the number of which this is the word in a field of vtype, where one has it
unfoldable pub vtype_number : VtypeField → List ℕ → Option ℕ
vtype_number f name = position (bytes_eq name) (vtype_words f).words

-- the number of the control register of this name, where one has it
unfoldable pub control_number : List ℕ → Option ℕ
control_number name = option_map (λ (c : NamedControl). c.number) (find (λ (c : NamedControl). bytes_eq name c.name) named_controls)

-- an operation's instruction with these operands, and no others
abbrev pub scalar_instr : Op → (rd rs1 rs2 : ℕ) → ℤ → Instr
scalar_instr op rd rs1 rs2 imm = record { op = op; rd = rd; rs1 = rs1; rs2 = rs2; imm = imm; vm = true; nf = 0 }

-- an operation's instruction, without operands yet
abbrev pub bare_instr : Op → Instr
bare_instr op = scalar_instr op 0 0 0 (pos 0)

-- the fields nf of an operation's instructions, each with a mnemonic of its own
abbrev pub named_nfs : Nf → List ℕ
named_nfs nf.Absent = 0 ∷ []
named_nfs nf.Any = 0 ∷ 1 ∷ 2 ∷ 3 ∷ 4 ∷ 5 ∷ 6 ∷ 7 ∷ []
named_nfs nf.Registers = 0 ∷ 1 ∷ 3 ∷ 7 ∷ []

-- the field nf with which an operation has this mnemonic, where it has it
abbrev pub nf_named : List ℕ → Op → Option ℕ
nf_named name op = find (λ (n : ℕ). bytes_eq name (mnemonic op n)) (named_nfs (layout_of (shape_of op)).nf)

-- the instruction, without operands yet, of an operation of this mnemonic
abbrev pub named_instr : List ℕ → Op → Instr
named_instr name op = record (bare_instr op) { nf = unwrap_or (nf_named name op) 0 }

-- the instruction, without operands yet, of the row of this mnemonic, where one has it
unfoldable pub instr_named : List ℕ → Option Instr
instr_named name = option_map (named_instr name) (find (λ (op : Op). is_some (nf_named name op)) operations)
