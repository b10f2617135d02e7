-- What the instructions on control registers do: RISC-V Unprivileged ISA 20191213, section 9.1 (Zicsr). The control registers
-- are the seven of vectors (RISC-V "V" 1.0, section 3).
use Rattle.std.specs.Prelude.{ℕ, Bool, true, not, ◌==◌, bit_and, bit_or, if◌then◌else◌, Option, Some, option_map, option_and_then}
use Rattle.std.specs.Int.{bit_not, w64}
use Rattle.vx_vstate.specs.Control.{control_read, control_written}
use Rattle.vx_vstate.specs.State.{VectorState}
use Rattle.vx_flat.specs.declared.control.Change.{Change}
use Rattle.vx_flat.specs.declared.control.Change.TheVariants.{Replace, SetBits, ClearBits}

-- what is written: the operand, or the old value with the operand's bits set, or with them cleared
abbrev pub changed : Change → (old operand : ℕ) → ℕ
changed Replace old operand = operand
changed SetBits old operand = bit_or old operand
changed ClearBits old operand = bit_and old (bit_not w64 operand)

-- whether anything is written: no bits are set or cleared where the field rs1 is 0
abbrev pub writes : Change → (rs1 : ℕ) → Bool
writes Replace rs1 = true
writes SetBits rs1 = not (rs1 == 0)
writes ClearBits rs1 = not (rs1 == 0)

-- the vector state with a value written to the control register of a number, or the state itself where nothing is written; none
-- where the register can only be read
abbrev pub written_if : Bool → VectorState → (number value : ℕ) → Option VectorState
written_if writes v number value = if writes then control_written v number value else Some v

-- what an access to a control register reads, and the vector state that it leaves
pub record Exchange : Type 0 where
  pub read : ℕ
  pub state : VectorState

-- the access to the control register of a number: none where there is no such register, or it would be written and can only be
-- read
abbrev pub exchange : VectorState → (number : ℕ) → Change → (rs1 operand : ℕ) → Option Exchange
exchange v number change rs1 operand =
    option_and_then (λ (old : ℕ).
    option_map (λ (new : VectorState). record { read = old; state = new }) (written_if (writes change rs1) v number (changed change old operand)))
    (control_read v number)
