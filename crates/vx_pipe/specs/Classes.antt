-- How an engine times instructions without accesses, by class. This project's own.
use Rattle.std.specs.Prelude.{ℕ, Bool, true, false}
use Rattle.vx_decode.specs.declared.instr.Instr.{Instr}
use Rattle.vx_flat.specs.Control.{writes}
use Rattle.vx_flat.specs.Operands.{change_in}
use Rattle.vx_rows.specs.declared.row.Class.{Class}
use Rattle.vx_rows.specs.declared.row.Class.TheVariants as class
use Rattle.vx_episode.specs.Footprint.{divide_latency, multiply_latency}

-- an instruction of the class makes no access and has no beat
abbrev pub is_plain : Class → Bool
is_plain class.Arithmetic = true
is_plain class.Multiply = true
is_plain class.Divide = true
is_plain class.Jump = true
is_plain class.Branch = true
is_plain class.Load = false
is_plain class.Store = false
is_plain class.Fence = true
is_plain class.Ecall = true
is_plain class.Ebreak = true
is_plain class.Csr = true
is_plain class.Set = true
is_plain (class.VectorArithmetic family) = false
is_plain (class.VectorLoad addressing width) = false
is_plain (class.VectorStore addressing width) = false

-- how many cycles after its issue it completes
abbrev pub span_of : Class → ℕ
span_of class.Multiply = multiply_latency
span_of class.Divide = divide_latency
span_of other = 1

-- it is a jump or a branch
abbrev pub jumps_as : Class → Bool
jumps_as class.Jump = true
jumps_as class.Branch = true
jumps_as other = false

-- once it has completed, the vector state has changed
abbrev pub changes_as : Class → Instr → Bool
changes_as class.Csr i = writes (change_in i.op) i.rs1
changes_as class.Set i = true
changes_as other i = false
