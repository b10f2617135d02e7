-- The sections of a source as the assembler puts them. This project's own.
use Rattle.std.specs.Prelude.{◌≡◌, ℕ, ◌+◌, ◌≤◌, ℤ, pos, ◌-ℤ◌, List, [], ◌++◌, replicate, None, option_map, unwrap_or}
use Rattle.vx_elf.specs.declared.program.Program.{Program}
use Rattle.vx_language.specs.Assembly.{layout, plain_faults, reach_faults, chunks}
use Rattle.vx_language.specs.Faults.{first_of}
use Rattle.vx_language.specs.Forms.{OfCode, OfVariables}
use Rattle.vx_language.specs.Lexemes.{Piece}
use Rattle.vx_language.specs.Lines.{lines, label_names}
use Rattle.vx_language.specs.Places.{Place, address_of, first_place, end_from}
use Rattle.vx_statement.specs.Labels.{Label, place_of, place_in}
use Rattle.vx_asm.specs.Emitting.{part_size, AreParts}
use Rattle.vx_asm.specs.Laying.{Stand}
use Rattle.vx_asm.specs.declared.emit.Emitted.{Emitted}
use Rattle.vx_asm.specs.declared.parts.Parts.{Parts}
use Rattle.vx_asm.specs.declared.placing.Laid.{Laid}

-- how far a label is from a place, where the labels stand so and the code has so many bytes
abbrev pub aim_from : List Label → ℕ → Place → Piece → ℤ
aim_from labels code place label =
    pos (unwrap_or (option_map (address_of code) (place_in label.text labels)) 0) -ℤ pos (address_of code place)

-- the first label out of reach, and the chunks of both sections where there is none
pub record IsEmitted (source : List ℕ) (emitted : Emitted) : Type 0 where
  pub fault : emitted.fault ≡ first_of (reach_faults (layout source))
  pub parts : emitted.fault ≡ None → AreParts (chunks (layout source) OfCode) (chunks (layout source) OfVariables) emitted.parts
  pub room : part_size emitted.parts.code + part_size emitted.parts.variables ≤ 8388608

-- a source has no fault but those of offsets, and its lines are laid out so
pub record IsLaid (source : List ℕ) (laid : Laid) : Type 0 where
  pub plain : plain_faults source ≡ []
  pub end : place_of laid.end ≡ end_from (label_names (lines source)) first_place (lines source)
  pub labels : Stand laid.labels (layout source).lines

-- a program is sections: the code with all of its zeros, and the variables
pub record IsProgramOf (first : ℕ) (parts : Parts) (program : Program) : Type 0 where
  pub entry : program.entry ≡ first
  pub code : program.code ≡ parts.code.bytes.items ++ replicate parts.code.zeros 0
  pub vars : program.vars ≡ parts.variables.bytes.items
  pub zero : program.zero ≡ parts.variables.zeros
