-- The step of the flat machine: RISC-V Unprivileged ISA 20191213, chapters 2, 5, 7 and 9, and RISC-V "V" 1.0; causes and trap
-- values of RISC-V Privileged 1.12, sections 4.1.8 and 4.1.9. The causes stand in the order in which they are tested.
use Rattle.std.specs.Prelude.{ℕ, Bool, true, not, ◌==◌, Option, Some, None, is_some, if◌then◌else◌}
use Rattle.vx_base.specs.Numbers.{signed}
use Rattle.vx_base.specs.declared.machine.Want.TheVariants.{Fetch, Load, Store}
use Rattle.vx_decode.specs.Decoded.{decoded}
use Rattle.vx_decode.specs.Encoded.{word_of}
use Rattle.vx_decode.specs.Legal.{is_illegal}
use Rattle.vx_decode.specs.declared.instr.Instr.{Instr}
use Rattle.vx_rows.specs.Table.{class_of}
use Rattle.vx_rows.specs.declared.row.Class.{Class}
use Rattle.vx_rows.specs.declared.row.Class.TheVariants as class
use Rattle.vx_vector.specs.Reading.{Reading}
use Rattle.vx_vstate.specs.State.{VectorState, with_setting}
use Rattle.vx_flat.specs.Access.{access_address, access_width, loaded}
use Rattle.vx_flat.specs.Checks.{cause_of, checked}
use Rattle.vx_flat.specs.Configure.{length_asked}
use Rattle.vx_flat.specs.Control.{Exchange, exchange}
use Rattle.vx_image.specs.Pages.{permits}
use Rattle.vx_flat.specs.Memory.{number_at, put_number}
use Rattle.vx_flat.specs.Outcome.{Outcome, faulted}
use Rattle.vx_flat.specs.Outcome.Outcome.{Next, Exited}
use Rattle.vx_flat.specs.Operands.{change_in, source_in, operand_of, vtype_of, control_number}
use Rattle.vx_flat.specs.Scalar.{effect}
use Rattle.vx_flat.specs.Service.{service, answered}
use Rattle.vx_flat.specs.State.{Flat, register, with_register, following}
use Rattle.vx_flat.specs.Transfers.{transfer, transferred}
use Rattle.vx_flat.specs.Transfers.Direction.{Loading, Storing}
use Rattle.vx_flat.specs.Vectors.{setting_at, reading_at, calculated}
use Rattle.vx_flat.specs.declared.effect.Effect.{Effect}
use Rattle.vx_flat.specs.declared.effect.Effect.TheVariants as effect
use Rattle.vx_flat.specs.declared.upcoming.Upcoming.{Upcoming}
use Rattle.vx_flat.specs.declared.upcoming.Upcoming.TheVariants.{Denied, Illegal, Instruction}

-- ---- what stands at the pc

-- the access of an instruction to its control register
abbrev pub exchange_at : Flat → Instr → Option Exchange
exchange_at s i = exchange s.v (control_number i) (change_in i.op) i.rs1 (operand_of i s.x)

-- an instruction of a class is legal in a state
abbrev pub is_legal_as : Class → Flat → Instr → Bool
is_legal_as class.Arithmetic s i = true
is_legal_as class.Multiply s i = true
is_legal_as class.Divide s i = true
is_legal_as class.Jump s i = true
is_legal_as class.Branch s i = true
is_legal_as class.Load s i = true
is_legal_as class.Store s i = true
is_legal_as class.Fence s i = true
is_legal_as class.Ecall s i = true
is_legal_as class.Ebreak s i = true
is_legal_as class.Csr s i = is_some (exchange_at s i)
is_legal_as class.Set s i = true
is_legal_as (class.VectorArithmetic family) s i = not (is_illegal i (setting_at s i))
is_legal_as (class.VectorLoad addressing width) s i = not (is_illegal i (setting_at s i))
is_legal_as (class.VectorStore addressing width) s i = not (is_illegal i (setting_at s i))

abbrev pub is_legal : Flat → Instr → Bool
is_legal s i = is_legal_as (class_of i.op) s i

-- what a word means in a state, as what comes next
abbrev pub meaning : Flat → (word : ℕ) → Option Instr → Upcoming
meaning s word None = Illegal word
meaning s word (Some i) = if is_legal s i then Instruction i else Illegal word

-- the word at the pc
abbrev pub word_at_pc : Flat → ℕ
word_at_pc s = number_at s.memory s.pc 4

-- what stands at the pc
unfoldable pub upcoming : Flat → Upcoming
upcoming s = if permits s.memory s.pc Fetch then meaning s (word_at_pc s) (decoded (word_at_pc s)) else Denied

-- ---- what it does

-- an instruction that touches no memory, of which rd is the destination
abbrev pub affected : Flat → (rd : ℕ) → Effect → Outcome
affected s rd (effect.Value value pc) = Next (record s { pc = pc; x = with_register s.x rd value })
affected s rd (effect.Next pc) = Next (record s { pc = pc })
affected s rd (effect.Misaligned target) = faulted s 0 target

-- an instruction that touches no memory, by its effect
abbrev pub affect : Flat → Instr → Outcome
affect s i = affected s i.rd (effect i s.x s.pc)

-- a load of so many bytes from an address
abbrev pub load_from : Flat → Instr → (address width : ℕ) → Outcome
load_from s i address width =
    checked (cause_of s.memory Load address width) s address
    (record s { pc = following s; x = with_register s.x i.rd (loaded i.op (number_at s.memory address width)) })

abbrev pub load : Flat → Instr → Outcome
load s i = load_from s i (access_address i s.x) (access_width i.op)

-- the low bytes of a number stored at an address
abbrev pub store_at : Flat → (address width value : ℕ) → Outcome
store_at s address width value =
    checked (cause_of s.memory Store address width) s address
    (record s { pc = following s; memory = put_number s.memory address width value })

abbrev pub store : Flat → Instr → Outcome
store s i = store_at s (access_address i s.x) (access_width i.op) (register s i.rs2)

-- a service; number 93 exits with a0
abbrev pub ecall : Flat → Outcome
ecall s =
    if register s 17 == 93 then Exited (signed 64 (register s 10))
    else Next (answered s (service s (register s 17)))

-- an instruction that is illegal: its word is told
abbrev pub refused : Flat → Instr → Outcome
refused s i = faulted s 2 (word_of i)

-- an access to a control register
abbrev pub control_by : Option Exchange → Flat → Instr → Outcome
control_by None s i = refused s i
control_by (Some e) s i = Next (record s { pc = following s; x = with_register s.x i.rd e.read; v = e.state })

-- a configuration of vectors, whose vl is put into rd
abbrev pub configured_at : Flat → Instr → VectorState
configured_at s i = with_setting s.v (length_asked (source_in i.op) i.rd i.rs1 (operand_of i s.x)) (vtype_of i s.x)

abbrev pub configure : Flat → Instr → Outcome
configure s i = Next (record s { pc = following s; x = with_register s.x i.rd (configured_at s i).vl; v = configured_at s i })

-- vector arithmetic
abbrev pub calculate_by : Option Reading → Flat → Instr → Outcome
calculate_by None s i = refused s i
calculate_by (Some r) s i = Next (calculated s i.rd r)

-- an instruction of a class
abbrev pub performed_as : Class → Flat → Instr → Outcome
performed_as class.Arithmetic s i = affect s i
performed_as class.Multiply s i = affect s i
performed_as class.Divide s i = affect s i
performed_as class.Jump s i = affect s i
performed_as class.Branch s i = affect s i
performed_as class.Load s i = load s i
performed_as class.Store s i = store s i
performed_as class.Fence s i = affect s i
performed_as class.Ecall s i = ecall s
performed_as class.Ebreak s i = faulted s 3 0
performed_as class.Csr s i = control_by (exchange_at s i) s i
performed_as class.Set s i = configure s i
performed_as (class.VectorArithmetic family) s i = calculate_by (reading_at s i) s i
performed_as (class.VectorLoad addressing width) s i = transferred (transfer Loading addressing width s i) s
performed_as (class.VectorStore addressing width) s i = transferred (transfer Storing addressing width s i) s

-- what comes next, done
unfoldable pub performed : Flat → Upcoming → Outcome
performed s Denied = faulted s 12 s.pc
performed s (Illegal word) = faulted s 2 word
performed s (Instruction i) = performed_as (class_of i.op) s i

-- the flat step
abbrev pub step : Flat → Outcome
step s = performed s (upcoming s)
