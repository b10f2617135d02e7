-- The run that goes on past a load or a store that faults, which is taken to complete: those of its accesses that don't fail
-- are done. This project's own.
use Rattle.std.specs.Prelude.{ℕ, zero, suc, filter, is_none}
use Rattle.vx_decode.specs.declared.instr.Instr.{Instr}
use Rattle.vx_rows.specs.Table.{class_of}
use Rattle.vx_rows.specs.declared.row.Class.{Class}
use Rattle.vx_rows.specs.declared.row.Class.TheVariants as class
use Rattle.vx_vector.specs.Accesses.{Access, access_list}
use Rattle.vx_flat.specs.Outcome.{Outcome}
use Rattle.vx_flat.specs.Outcome.Outcome.{Next, Exited, Faulted}
use Rattle.vx_flat.specs.State.{Flat, following, completed}
use Rattle.vx_flat.specs.Step.{step, upcoming}
use Rattle.vx_flat.specs.Transfers.{Transfer, transfer, failure_of, accesses_done}
use Rattle.vx_flat.specs.Transfers.Direction.{Loading, Storing}
use Rattle.vx_flat.specs.declared.upcoming.Upcoming.{Upcoming}
use Rattle.vx_flat.specs.declared.upcoming.Upcoming.TheVariants.{Denied, Illegal, Instruction}

-- a scalar load or store that failed leaves the registers and memory as they were
abbrev pub passed : Flat → Flat
passed s = record s { pc = following s }

-- the accesses of a transfer that don't fail, done; vl stays
abbrev pub good_done : Transfer → Flat → Flat
good_done t s = completed (accesses_done t.direction (filter (λ (a : Access). is_none (failure_of t.direction s.memory a)) (access_list t.movement)) s)

-- what an instruction that faulted is taken to leave: any but a load or a store, the state
abbrev pub passed_as : Class → Flat → Instr → Flat
passed_as class.Arithmetic s i = s
passed_as class.Multiply s i = s
passed_as class.Divide s i = s
passed_as class.Jump s i = s
passed_as class.Branch s i = s
passed_as class.Load s i = passed s
passed_as class.Store s i = passed s
passed_as class.Fence s i = s
passed_as class.Ecall s i = s
passed_as class.Ebreak s i = s
passed_as class.Csr s i = s
passed_as class.Set s i = s
passed_as (class.VectorArithmetic family) s i = s
passed_as (class.VectorLoad addressing width) s i = good_done (transfer Loading addressing width s i) s
passed_as (class.VectorStore addressing width) s i = good_done (transfer Storing addressing width s i) s

abbrev pub passed_over : Flat → Upcoming → Flat
passed_over s Denied = s
passed_over s (Illegal word) = s
passed_over s (Instruction i) = passed_as (class_of i.op) s i

-- the state behind a state whose step leads to this
abbrev pub behind : Flat → Outcome → Flat
behind s (Next t) = t
behind s (Exited code) = s
behind s (Faulted fault t) = passed_over s (upcoming s)

abbrev pub continued : Flat → Flat
continued s = behind s (step s)

-- the same, so many instructions later
abbrev pub continued_by : ℕ → Flat → Flat
continued_by zero s = s
continued_by (suc n) s = continued (continued_by n s)
