-- Instructions that only have an effect on the registers and the pc. This project's own.
use Rattle.std.specs.Prelude.{Bool, true, false}
use Rattle.vx_rows.specs.declared.row.Class.{Class}
use Rattle.vx_rows.specs.declared.row.Class.TheVariants as class

-- an instruction of the class does, always
abbrev pub is_effect_class : Class → Bool
is_effect_class class.Arithmetic = true
is_effect_class class.Multiply = true
is_effect_class class.Divide = true
is_effect_class class.Jump = true
is_effect_class class.Branch = true
is_effect_class class.Fence = true
is_effect_class other = false
