-- Which length vsetvli, vsetivli and vsetvl ask for: RISC-V "V" 1.0, section 6.2. What they configure by it, and by the vtype
-- that they ask for, is `configured`.
use Rattle.std.specs.Prelude.{ℕ, not, ◌==◌, if◌then◌else◌}
use Rattle.vx_vstate.specs.declared.avl.Avl.{Avl}
use Rattle.vx_vstate.specs.declared.avl.Avl.TheVariants.{Value, Max, Keep}
use Rattle.vx_flat.specs.declared.control.Source.{Source}
use Rattle.vx_flat.specs.declared.control.Source.TheVariants.{Register, Immediate}

-- the application's length, of the fields rd and rs1 and of the operand in the place of rs1
abbrev pub length_asked : Source → (rd rs1 operand : ℕ) → Avl
length_asked Register rd rs1 operand = if not (rs1 == 0) then Value operand else if not (rd == 0) then Max else Keep
length_asked Immediate rd rs1 operand = Value operand
