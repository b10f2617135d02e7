-- What a range and a reach stand for. This project's own.
use Rattle.std.specs.Prelude.{ℕ, pos}
use Rattle.vx_language.specs.Slots as language
use Rattle.vx_statement.specs.declared.range.Range.{Range}
use Rattle.vx_statement.specs.declared.range.Reach.{Reach}
use Rattle.vx_statement.specs.declared.range.Reach.TheVariants.{Branch, Jump}

abbrev pub range_of : Range → language.Range
range_of range = record { least = range.least; greatest = pos range.greatest }

-- how many bits an offset has
abbrev pub width_of : Reach → ℕ
width_of Branch = 13
width_of Jump = 21
