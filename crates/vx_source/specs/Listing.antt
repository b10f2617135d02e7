-- The listing of a file. This project's own.
use Rattle.std.specs.Prelude.{ℕ, List, [], ◌∷◌, ◌++◌}
use Rattle.vx_base.specs.Numbers.{from_little_endian}
use Rattle.vx_source.specs.Lines.{line_of}

-- the lines of a file's words, least byte first, each with a newline; a rest of one to three bytes is passed over
unfoldable pub listing : List ℕ → List ℕ
listing (a ∷ b ∷ c ∷ d ∷ rest) = line_of (from_little_endian (a ∷ b ∷ c ∷ d ∷ [])) ++ 10 ∷ listing rest
listing rest = []
