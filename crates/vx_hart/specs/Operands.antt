-- What the machine's parts ask of an effect. This project's own.
use Rattle.std.specs.Prelude.{◌≡◌, ◌%◌}
use Rattle.vx_flat.specs.declared.effect.Effect.{Effect}
use Rattle.vx_flat.specs.declared.effect.Effect.TheVariants.{Value, Next, Misaligned}

-- the next pc is a multiple of 4
abbrev pub IsAligned : Effect → Type 0
IsAligned (Value value pc) = pc % 4 ≡ 0
IsAligned (Next pc) = pc % 4 ≡ 0
IsAligned (Misaligned target) = Unit {0}
