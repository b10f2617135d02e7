-- The bytes of a section as they are put one behind another. This project's own.
use Rattle.std.specs.Prelude.{◌≡◌, List}
use Rattle.vx_language.specs.Assembly.{bytes_before_zeros, zeros_at_end}
use Rattle.vx_language.specs.Statements.{Chunk}
use Rattle.vx_asm.specs.declared.part.Part.{Part}

-- a part is these chunks
pub record IsPart (chunks : List Chunk) (part : Part) : Type 0 where
  pub bytes : part.bytes.items ≡ bytes_before_zeros chunks
  pub zeros : part.zeros ≡ zeros_at_end chunks
