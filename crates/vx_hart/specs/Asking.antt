-- What comes next by its class, and whether it asks for a service. This project's own.
use Rattle.std.specs.Prelude.{Bool, true, false, Option, Some, None}
use Rattle.vx_flat.specs.declared.upcoming.Upcoming.{Upcoming}
use Rattle.vx_flat.specs.declared.upcoming.Upcoming.TheVariants.{Denied, Illegal, Instruction}
use Rattle.vx_rows.specs.Table.{class_of}
use Rattle.vx_rows.specs.declared.row.Class.{Class}
use Rattle.vx_rows.specs.declared.row.Class.TheVariants as class

-- the class of what comes next, where it is an instruction
abbrev pub class_next : Upcoming → Option Class
class_next Denied = None
class_next (Illegal word) = None
class_next (Instruction i) = Some (class_of i.op)

-- an instruction of the class asks for a service
abbrev pub is_service_class : Class → Bool
is_service_class class.Arithmetic = false
is_service_class class.Multiply = false
is_service_class class.Divide = false
is_service_class class.Jump = false
is_service_class class.Branch = false
is_service_class class.Load = false
is_service_class class.Store = false
is_service_class class.Fence = false
is_service_class class.Ecall = true
is_service_class class.Ebreak = false
is_service_class class.Csr = false
is_service_class class.Set = false
is_service_class (class.VectorArithmetic family) = false
is_service_class (class.VectorLoad addressing width) = false
is_service_class (class.VectorStore addressing width) = false

-- what comes next, of this class, asks for a service
abbrev pub asks : Option Class → Bool
asks None = false
asks (Some c) = is_service_class c

-- what comes next asks for a service
abbrev pub is_service : Upcoming → Bool
is_service next = asks (class_next next)
