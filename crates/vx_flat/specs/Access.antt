-- The accesses of scalar loads and stores: RISC-V Unprivileged ISA 20191213, sections 2.6 and 5.3.
use Rattle.std.specs.Prelude.{ℕ, List, slice_index}
use Rattle.vx_base.specs.Numbers.{reduced}
use Rattle.vx_bits.specs.Arithmetic.{sum_at}
use Rattle.vx_decode.specs.declared.instr.Instr.{Instr}
use Rattle.vx_rows.specs.declared.op.Op.{Op}
use Rattle.vx_flat.specs.Scalar.{Work, work}
use Rattle.vx_flat.specs.Scalar.Work.{Acts, Loads, Stores, Asks, Breaks, Controls, Configures, Vectors}

-- the address, of the registers
abbrev pub access_address : Instr → (x : List ℕ) → ℕ
access_address i x = sum_at 64 (slice_index x i.rs1) (reduced 64 i.imm)

-- how many bytes a load or a store moves; no other operation asks for a number
abbrev pub width_of : Work → ℕ
width_of (Loads width value) = width
width_of (Stores width) = width
width_of (Acts effect) = 1
width_of Asks = 1
width_of Breaks = 1
width_of (Controls operand change) = 1
width_of (Configures length vtype) = 1
width_of Vectors = 1

abbrev pub access_width : Op → ℕ
access_width op = width_of (work op 0 0 0 0)

-- the value that a load puts into rd, of the number n that its bytes are
abbrev pub value_of : Work → (n : ℕ) → ℕ
value_of (Loads width value) n = value n
value_of (Stores width) n = n
value_of (Acts effect) n = n
value_of Asks n = n
value_of Breaks n = n
value_of (Controls operand change) n = n
value_of (Configures length vtype) n = n
value_of Vectors n = n

abbrev pub loaded : Op → (n : ℕ) → ℕ
loaded op n = value_of (work op 0 0 0 0) n
