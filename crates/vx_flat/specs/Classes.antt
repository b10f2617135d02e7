-- What the operations of each class do: no row falls through. This project's own.
use Rattle.std.specs.Prelude.{◌≡◌, ℕ, Bool}
use Rattle.vx_rows.specs.declared.row.Class.{Class}
use Rattle.vx_rows.specs.declared.row.Class.TheVariants as class
use Rattle.vx_flat.specs.Scalar.{Work, put, jumped, branched, next_pc}
use Rattle.vx_flat.specs.Scalar.Work.{Acts, Loads, Stores, Asks, Breaks, Controls, Configures, Vectors}
use Rattle.vx_flat.specs.declared.control.Change.{Change}
use Rattle.vx_flat.specs.declared.control.Source.{Source}
use Rattle.vx_flat.specs.declared.effect.Effect.TheVariants.{Next}

-- the work, at a pc, is one of the class
abbrev pub Does : Class → (pc : ℕ) → Work → Type 0
Does class.Arithmetic pc w = (value : ℕ) × (w ≡ Acts (put value pc))
Does class.Multiply pc w = (value : ℕ) × (w ≡ Acts (put value pc))
Does class.Divide pc w = (value : ℕ) × (w ≡ Acts (put value pc))
Does class.Jump pc w = (target : ℕ) × (w ≡ Acts (jumped target pc))
Does class.Branch pc w = (holds : Bool) × (n : ℕ) × (w ≡ Acts (branched holds pc n))
Does class.Load pc w = (width : ℕ) × (value : ℕ → ℕ) × (w ≡ Loads width value)
Does class.Store pc w = (width : ℕ) × (w ≡ Stores width)
Does class.Fence pc w = w ≡ Acts (Next (next_pc pc))
Does class.Ecall pc w = w ≡ Asks
Does class.Ebreak pc w = w ≡ Breaks
Does class.Csr pc w = (operand : Source) × (change : Change) × (w ≡ Controls operand change)
Does class.Set pc w = (length : Source) × (vtype : Source) × (w ≡ Configures length vtype)
Does (class.VectorArithmetic family) pc w = w ≡ Vectors
Does (class.VectorLoad addressing width) pc w = w ≡ Vectors
Does (class.VectorStore addressing width) pc w = w ≡ Vectors
