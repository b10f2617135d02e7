-- Lines as they are put into the sections. This project's own.
use Rattle.std.specs.Prelude.{◌≡◌, ℕ, ◌+◌, List, [], ◌∷◌, ◌++◌, length}
use Rattle.vx_language.specs.Forms.{Section, OfCode, OfVariables}
use Rattle.vx_language.specs.Places.{Place}
use Rattle.vx_language.specs.Statements.{Chunk}
use Rattle.vx_asm.specs.Parts.{IsPart}
use Rattle.vx_asm.specs.declared.part.Part.{Part}
use Rattle.vx_asm.specs.declared.parts.Parts.{Parts}

abbrev pub part_size : Part → ℕ
part_size part = length part.bytes.items + part.zeros

-- the sections have as many bytes as stand before a place
pub record AreSized (place : Place) (parts : Parts) : Type 0 where
  pub code : part_size parts.code ≡ place.code
  pub variables : part_size parts.variables ≡ place.variables

-- the sections are these chunks
pub record AreParts (of_code of_variables : List Chunk) (parts : Parts) : Type 0 where
  pub code : IsPart of_code parts.code
  pub variables : IsPart of_variables parts.variables

-- a chunk of a section as one of a section, or none
abbrev pub chunk_in : Section → Section → Chunk → List Chunk
chunk_in OfCode OfCode chunk = chunk ∷ []
chunk_in OfCode OfVariables chunk = []
chunk_in OfVariables OfCode chunk = []
chunk_in OfVariables OfVariables chunk = chunk ∷ []

-- a chunk is put into a section
abbrev pub Puts : Section → Chunk → Parts → Parts → Type 0
Puts section chunk old new =
    (code variables : List Chunk) → AreParts code variables old → AreParts (code ++ chunk_in OfCode section chunk) (variables ++ chunk_in OfVariables section chunk) new
