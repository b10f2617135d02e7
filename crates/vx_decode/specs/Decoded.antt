-- What a word means: RISC-V Unprivileged ISA 20191213, sections 2.2 and 2.3 (formats and immediates), and RISC-V "V" 1.0,
-- sections 6, 7.2 and 10.1.
use Rattle.std.specs.Prelude.{ℕ, ◌+◌, ◌*◌, ◌^◌, ℤ, pos, Bool, true, false, if◌then◌else◌, ◌==◌, Option, option_map}
use Rattle.vx_base.specs.Numbers.{field, signed}
use Rattle.vx_rows.specs.Layouts.{layout_of}
use Rattle.vx_rows.specs.Table.{row_of}
use Rattle.vx_rows.specs.declared.op.Op.{Op}
use Rattle.vx_rows.specs.declared.row.Layout.{Layout}
use Rattle.vx_rows.specs.declared.row.Nf.{Nf}
use Rattle.vx_rows.specs.declared.row.Nf.TheVariants as nf
use Rattle.vx_rows.specs.declared.row.Number.{Number}
use Rattle.vx_rows.specs.declared.row.Number.TheVariants.{Absent, Unsigned, Signed, FormatS, FormatB, FormatJ}
use Rattle.vx_rows.specs.declared.row.Row.{Row}
use Rattle.vx_rows.specs.declared.row.Vm.{Vm}
use Rattle.vx_rows.specs.declared.row.Vm.TheVariants as vm
use Rattle.vx_decode.specs.declared.instr.Instr.{Instr}

-- the number of a register, whose field begins at `low`, where the layout has one there
abbrev pub register_at : (low : ℕ) → Bool → (word : ℕ) → ℕ
register_at low has word = if has then field word low 5 else 0

-- the immediates of the formats S, B and J
abbrev pub immediate_s : ℕ → ℤ
immediate_s word = signed 12 (field word 25 7 * 2 ^ 5 + field word 7 5)

abbrev pub immediate_b : ℕ → ℤ
immediate_b word = signed 13 (field word 31 1 * 2 ^ 12 + field word 7 1 * 2 ^ 11 + field word 25 6 * 2 ^ 5 + field word 8 4 * 2)

abbrev pub immediate_j : ℕ → ℤ
immediate_j word = signed 21 (field word 31 1 * 2 ^ 20 + field word 12 8 * 2 ^ 12 + field word 20 1 * 2 ^ 11 + field word 21 10 * 2)

-- the number, which is 0 where the layout has none
abbrev pub number_of : Number → (word : ℕ) → ℤ
number_of Absent word = pos 0
number_of (Unsigned low count) word = pos (field word low count)
number_of (Signed low count) word = signed count (field word low count)
number_of FormatS word = immediate_s word
number_of FormatB word = immediate_b word
number_of FormatJ word = immediate_j word

-- whether the row isn't masked
abbrev pub vm_of : Vm → (word : ℕ) → Bool
vm_of vm.Any word = field word 25 1 == 1
vm_of vm.Zero word = false
vm_of vm.One word = true

-- one less than the number of fields or registers, which is 0 where the layout has none
abbrev pub nf_of : Nf → (word : ℕ) → ℕ
nf_of nf.Absent word = 0
nf_of nf.Any word = field word 29 3
nf_of nf.Registers word = field word 29 3

-- an operation with the operands that a word holds in this layout
abbrev pub with_operands : ℕ → Op → Layout → Instr
with_operands word op layout =
    record {
      op = op;
      rd = register_at 7 layout.rd word;
      rs1 = register_at 15 layout.rs1 word;
      rs2 = register_at 20 layout.rs2 word;
      imm = number_of layout.number word;
      vm = vm_of layout.vm word;
      nf = nf_of layout.nf word;
    }

-- the instruction that a word means, where it means one
abbrev pub decoded : ℕ → Option Instr
decoded word = option_map (λ (r : Row). with_operands word r.op (layout_of r.shape)) (row_of word)
