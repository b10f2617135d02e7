-- What the operations of RV64IM and Zicsr do: RISC-V Unprivileged ISA 20191213, chapters 2 and 5 (RV32I and RV64I), 7 (M)
-- and 9 (Zicsr); and where those that configure vectors have their operands: RISC-V "V" 1.0, section 6. In what follows a and b
-- are the numbers in rs1 and rs2, and n is the immediate, each a number of 64 bits. The operations whose names end in w compute
-- at 32 bits, and sign-extend what they compute.
use Rattle.std.specs.Prelude.{ℕ, ◌+◌, ◌-◌, ◌*◌, ◌%◌, ◌^◌, Bool, not, ◌==◌, nat_lt, int_lt, bit_and, bit_or, bit_xor, List, if◌then◌else◌, slice_index}
use Rattle.vx_base.specs.Numbers.{reduced, signed, truth}
use Rattle.vx_bits.specs.Arithmetic.{sum_at, difference_at, product_at, signed_high_at, unsigned_high_at, mixed_high_at, signed_quotient_at, unsigned_quotient_at, signed_remainder_at, unsigned_remainder_at, shifted_left_at, shifted_right_at, sign_shifted_right_at}
use Rattle.vx_bits.specs.Width.{signed_at}
use Rattle.vx_decode.specs.declared.instr.Instr.{Instr}
use Rattle.vx_rows.specs.declared.op.Op.{Op}
use Rattle.vx_rows.specs.declared.op.Op.TheVariants.{Scalar, Set, Elem, Widen, Fixed, Mask, Perm, Memory}
use Rattle.vx_rows.specs.declared.op.ScalarOp.{ScalarOp}
use Rattle.vx_rows.specs.declared.op.ScalarOp.TheVariants.{Lui, Auipc, Jal, Jalr, Beq, Bne, Blt, Bge, Bltu, Bgeu, Lb, Lh, Lw, Ld, Lbu, Lhu, Lwu, Sb, Sh, Sw, Sd, Addi, Slti, Sltiu, Xori, Ori, Andi, Slli, Srli, Srai, Addiw, Slliw, Srliw, Sraiw, Add, Sub, Sll, Slt, Sltu, Xor, Srl, Sra, Or, And, Mul, Mulh, Mulhsu, Mulhu, Div, Divu, Rem, Remu, Addw, Subw, Sllw, Srlw, Sraw, Mulw, Divw, Divuw, Remw, Remuw, Fence, Ecall, Ebreak, Csrrw, Csrrs, Csrrc, Csrrwi, Csrrsi, Csrrci}
use Rattle.vx_rows.specs.declared.op.SetOp.{SetOp}
use Rattle.vx_rows.specs.declared.op.SetOp.TheVariants.{Vsetvli, Vsetivli, Vsetvl}
use Rattle.vx_flat.specs.declared.control.Change.{Change}
use Rattle.vx_flat.specs.declared.control.Change.TheVariants.{Replace, SetBits, ClearBits}
use Rattle.vx_flat.specs.declared.control.Source.{Source}
use Rattle.vx_flat.specs.declared.control.Source.TheVariants.{Register, Immediate}
use Rattle.vx_flat.specs.declared.effect.Effect.{Effect}
use Rattle.vx_flat.specs.declared.effect.Effect.TheVariants.{Value, Next, Misaligned}

-- the pc of the instruction that follows
abbrev pub next_pc : ℕ → ℕ
next_pc pc = (pc + 4) % 2 ^ 64

-- a number of 32 bits, sign-extended to 64
abbrev pub extended : ℕ → ℕ
extended n = reduced 64 (signed 32 n)

-- an upper immediate: 20 bits moved left by 12, and sign-extended
abbrev pub upper : ℕ → ℕ
upper n = extended (n % 2 ^ 20 * 2 ^ 12)

-- a is less than b, as signed numbers
abbrev pub is_less : (a b : ℕ) → Bool
is_less a b = int_lt (signed 64 a) (signed 64 b)

-- the number without its bit 0
abbrev pub even : ℕ → ℕ
even n = n - n % 2

-- what a jump to a target does, which is to be a multiple of 4
abbrev pub jump : (target : ℕ) → Effect → Effect
jump target done = if target % 4 == 0 then done else Misaligned target

-- what an operation does
pub data Work : Type 0 where
  -- it has this effect, and touches no memory
  Acts : (effect : Effect) → Work
  -- it reads so many bytes, and puts into rd a value of the number that they are
  Loads : (width : ℕ) → (value : ℕ → ℕ) → Work
  -- it writes so many of the low bytes of b
  Stores : (width : ℕ) → Work
  -- it asks for a service
  Asks : Work
  -- it stops at a breakpoint
  Breaks : Work
  -- it reads a control register, and changes it so by an operand that stands there
  Controls : (operand : Source) (change : Change) → Work
  -- it configures vectors by a length and a vtype that stand there
  Configures : (length vtype : Source) → Work
  -- it works on vector registers
  Vectors : Work

-- the effect of a row that puts a value into rd
abbrev pub put : (value pc : ℕ) → Effect
put value pc = Value value (next_pc pc)

-- of one that jumps to a target, and puts the pc of what follows into rd
abbrev pub jumped : (target pc : ℕ) → Effect
jumped target pc = jump target (Value (next_pc pc) target)

-- of one that jumps by n where a comparison holds
abbrev pub branched : Bool → (pc n : ℕ) → Effect
branched holds pc n =
    let target = sum_at 64 pc n in
    if holds then jump target (Next target) else Next (next_pc pc)

abbrev puts : (value pc : ℕ) → Work
puts value pc = Acts (put value pc)

abbrev jump_to : (target pc : ℕ) → Work
jump_to target pc = Acts (jumped target pc)

abbrev branch : Bool → (pc n : ℕ) → Work
branch holds pc n = Acts (branched holds pc n)

-- a fence orders nothing here
abbrev passes : ℕ → Work
passes pc = Acts (Next (next_pc pc))

-- the value of a load: the number, or the number sign-extended from its width
abbrev pub whole : ℕ → ℕ
whole n = n

abbrev pub sign_extended : (width : ℕ) → ℕ → ℕ
sign_extended width n = reduced 64 (signed_at width n)

-- what each scalar operation does, of the pc, a, b and n
abbrev pub scalar_work : ScalarOp → (pc a b n : ℕ) → Work
scalar_work Lui pc a b n = puts (upper n) pc
scalar_work Auipc pc a b n = puts (sum_at 64 pc (upper n)) pc
scalar_work Jal pc a b n = jump_to (sum_at 64 pc n) pc
scalar_work Jalr pc a b n = jump_to (even (sum_at 64 a n)) pc
scalar_work Beq pc a b n = branch (a == b) pc n
scalar_work Bne pc a b n = branch (not (a == b)) pc n
scalar_work Blt pc a b n = branch (is_less a b) pc n
scalar_work Bge pc a b n = branch (not (is_less a b)) pc n
scalar_work Bltu pc a b n = branch (nat_lt a b) pc n
scalar_work Bgeu pc a b n = branch (not (nat_lt a b)) pc n
scalar_work Lb pc a b n = Loads 1 (sign_extended 8)
scalar_work Lh pc a b n = Loads 2 (sign_extended 16)
scalar_work Lw pc a b n = Loads 4 (sign_extended 32)
scalar_work Ld pc a b n = Loads 8 whole
scalar_work Lbu pc a b n = Loads 1 whole
scalar_work Lhu pc a b n = Loads 2 whole
scalar_work Lwu pc a b n = Loads 4 whole
scalar_work Sb pc a b n = Stores 1
scalar_work Sh pc a b n = Stores 2
scalar_work Sw pc a b n = Stores 4
scalar_work Sd pc a b n = Stores 8
scalar_work Addi pc a b n = puts (sum_at 64 a n) pc
scalar_work Slti pc a b n = puts (truth (is_less a n)) pc
scalar_work Sltiu pc a b n = puts (truth (nat_lt a n)) pc
scalar_work Xori pc a b n = puts (bit_xor a n) pc
scalar_work Ori pc a b n = puts (bit_or a n) pc
scalar_work Andi pc a b n = puts (bit_and a n) pc
scalar_work Slli pc a b n = puts (shifted_left_at 64 a n) pc
scalar_work Srli pc a b n = puts (shifted_right_at 64 a n) pc
scalar_work Srai pc a b n = puts (sign_shifted_right_at 64 a n) pc
scalar_work Addiw pc a b n = puts (extended (sum_at 32 a n)) pc
scalar_work Slliw pc a b n = puts (extended (shifted_left_at 32 a n)) pc
scalar_work Srliw pc a b n = puts (extended (shifted_right_at 32 a n)) pc
scalar_work Sraiw pc a b n = puts (extended (sign_shifted_right_at 32 a n)) pc
scalar_work Add pc a b n = puts (sum_at 64 a b) pc
scalar_work Sub pc a b n = puts (difference_at 64 a b) pc
scalar_work Sll pc a b n = puts (shifted_left_at 64 a b) pc
scalar_work Slt pc a b n = puts (truth (is_less a b)) pc
scalar_work Sltu pc a b n = puts (truth (nat_lt a b)) pc
scalar_work Xor pc a b n = puts (bit_xor a b) pc
scalar_work Srl pc a b n = puts (shifted_right_at 64 a b) pc
scalar_work Sra pc a b n = puts (sign_shifted_right_at 64 a b) pc
scalar_work Or pc a b n = puts (bit_or a b) pc
scalar_work And pc a b n = puts (bit_and a b) pc
scalar_work Mul pc a b n = puts (product_at 64 a b) pc
scalar_work Mulh pc a b n = puts (signed_high_at 64 a b) pc
scalar_work Mulhsu pc a b n = puts (mixed_high_at 64 a b) pc
scalar_work Mulhu pc a b n = puts (unsigned_high_at 64 a b) pc
scalar_work Div pc a b n = puts (signed_quotient_at 64 a b) pc
scalar_work Divu pc a b n = puts (unsigned_quotient_at 64 a b) pc
scalar_work Rem pc a b n = puts (signed_remainder_at 64 a b) pc
scalar_work Remu pc a b n = puts (unsigned_remainder_at 64 a b) pc
scalar_work Addw pc a b n = puts (extended (sum_at 32 a b)) pc
scalar_work Subw pc a b n = puts (extended (difference_at 32 a b)) pc
scalar_work Sllw pc a b n = puts (extended (shifted_left_at 32 a b)) pc
scalar_work Srlw pc a b n = puts (extended (shifted_right_at 32 a b)) pc
scalar_work Sraw pc a b n = puts (extended (sign_shifted_right_at 32 a b)) pc
scalar_work Mulw pc a b n = puts (extended (product_at 32 a b)) pc
scalar_work Divw pc a b n = puts (extended (signed_quotient_at 32 a b)) pc
scalar_work Divuw pc a b n = puts (extended (unsigned_quotient_at 32 a b)) pc
scalar_work Remw pc a b n = puts (extended (signed_remainder_at 32 a b)) pc
scalar_work Remuw pc a b n = puts (extended (unsigned_remainder_at 32 a b)) pc
scalar_work Fence pc a b n = passes pc
scalar_work Ecall pc a b n = Asks
scalar_work Ebreak pc a b n = Breaks
scalar_work Csrrw pc a b n = Controls Register Replace
scalar_work Csrrs pc a b n = Controls Register SetBits
scalar_work Csrrc pc a b n = Controls Register ClearBits
scalar_work Csrrwi pc a b n = Controls Immediate Replace
scalar_work Csrrsi pc a b n = Controls Immediate SetBits
scalar_work Csrrci pc a b n = Controls Immediate ClearBits

-- where the length and the vtype stand of those that configure vectors
abbrev pub length_source : SetOp → Source
length_source Vsetvli = Register
length_source Vsetivli = Immediate
length_source Vsetvl = Register

abbrev pub vtype_source : SetOp → Source
vtype_source Vsetvli = Immediate
vtype_source Vsetivli = Immediate
vtype_source Vsetvl = Register

abbrev pub work : Op → (pc a b n : ℕ) → Work
work (Scalar op) pc a b n = scalar_work op pc a b n
work (Set op) pc a b n = Configures (length_source op) (vtype_source op)
work (Elem op) pc a b n = Vectors
work (Widen op) pc a b n = Vectors
work (Fixed op) pc a b n = Vectors
work (Mask op) pc a b n = Vectors
work (Perm op) pc a b n = Vectors
work (Memory op) pc a b n = Vectors

-- the effect of an operation that touches no memory; the step of any other doesn't go by one
abbrev pub effect_of : Work → (pc : ℕ) → Effect
effect_of (Acts effect) pc = effect
effect_of (Loads width value) pc = Next (next_pc pc)
effect_of (Stores width) pc = Next (next_pc pc)
effect_of Asks pc = Next (next_pc pc)
effect_of Breaks pc = Next (next_pc pc)
effect_of (Controls operand change) pc = Next (next_pc pc)
effect_of (Configures length vtype) pc = Next (next_pc pc)
effect_of Vectors pc = Next (next_pc pc)

-- what an instruction does, of the registers and the pc
abbrev pub effect : Instr → (x : List ℕ) → (pc : ℕ) → Effect
effect i x pc = effect_of (work i.op pc (slice_index x i.rs1) (slice_index x i.rs2) (reduced 64 i.imm)) pc
