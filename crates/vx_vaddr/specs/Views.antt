-- An access pattern as the movement that it was made of, over the words of the registers.
use Rattle.std.specs.Prelude.{ℕ, List}
use Rattle.vx_vstate.specs.Views.{view_of}
use Rattle.vx_vector.specs.Accesses.{Movement, movement}
use Rattle.vx_vaddr.specs.declared.pattern.AccessPattern.{AccessPattern}

abbrev pub movement_with : AccessPattern → (words : List ℕ) → Movement
movement_with p words = movement p.addressing p.encoded p.i (view_of p.at) p.base p.stride words
