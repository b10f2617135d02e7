-- A state in the middle of a vector load or store: its elements below one are done, and vstart tells that one. It is a state
-- like any other, from which the instruction goes on: RISC-V "V" 1.0, section 3.7.
use Rattle.std.specs.Prelude.{ℕ, ◌==◌, ◌&&◌, nat_le, Option, Some, None, is_none, if◌then◌else◌, option_and_then}
use Rattle.vx_decode.specs.declared.instr.Instr.{Instr}
use Rattle.vx_image.specs.Pages.{Image}
use Rattle.vx_rows.specs.Table.{class_of}
use Rattle.vx_rows.specs.declared.row.Class.{Class}
use Rattle.vx_rows.specs.declared.row.Class.TheVariants as class
use Rattle.vx_vector.specs.Accesses.{accesses_between}
use Rattle.vx_flat.specs.Run.{flat}
use Rattle.vx_flat.specs.State.{Flat}
use Rattle.vx_flat.specs.Step.{upcoming}
use Rattle.vx_flat.specs.Transfers.{Transfer, transfer, first_failure, below_done}
use Rattle.vx_flat.specs.Transfers.Direction.{Loading, Storing}
use Rattle.vx_flat.specs.declared.hart.Hart.{Hart}
use Rattle.vx_flat.specs.declared.upcoming.Upcoming.{Upcoming}
use Rattle.vx_flat.specs.declared.upcoming.Upcoming.TheVariants.{Denied, Illegal, Instruction}

-- the transfer that an instruction of a class is, where it is one
abbrev pub transfer_as : Class → Flat → Instr → Option Transfer
transfer_as class.Arithmetic s i = None
transfer_as class.Multiply s i = None
transfer_as class.Divide s i = None
transfer_as class.Jump s i = None
transfer_as class.Branch s i = None
transfer_as class.Load s i = None
transfer_as class.Store s i = None
transfer_as class.Fence s i = None
transfer_as class.Ecall s i = None
transfer_as class.Ebreak s i = None
transfer_as class.Csr s i = None
transfer_as class.Set s i = None
transfer_as (class.VectorArithmetic family) s i = None
transfer_as (class.VectorLoad addressing width) s i = Some (transfer Loading addressing width s i)
transfer_as (class.VectorStore addressing width) s i = Some (transfer Storing addressing width s i)

-- the transfer that comes next, where one does
abbrev pub transfer_next : Flat → Upcoming → Option Transfer
transfer_next s Denied = None
transfer_next s (Illegal word) = None
transfer_next s (Instruction i) = transfer_as (class_of i.op) s i

-- the elements below k done, where vstart isn't behind k and no access below k fails
abbrev pub prefix_of : Transfer → (k : ℕ) → Flat → Option Flat
prefix_of t k s =
    if nat_le s.v.vstart k && is_none (first_failure t.direction s.memory (accesses_between t.movement 0 k)) then Some (below_done t k s)
    else None

-- the state with the elements below k of what comes next done; at its vstart it is the state itself
abbrev pub prefix_at : (k : ℕ) → Flat → Option Flat
prefix_at k s =
    if k == s.v.vstart then Some s
    else option_and_then (λ (t : Transfer). prefix_of t k s) (transfer_next s (upcoming s))

-- the state after n completed instructions and the elements below k of the next one, where the run comes there
abbrev pub flat_within : Hart → Image → (n k : ℕ) → Option Flat
flat_within hart image n k = option_and_then (prefix_at k) (flat hart image n)
