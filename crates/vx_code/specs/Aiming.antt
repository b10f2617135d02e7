-- How far labels are, as the assembler knows it. This project's own.
use Rattle.std.specs.Prelude.{ℤ, pos, ◌-ℤ◌, option_map, unwrap_or}
use Rattle.vx_language.specs.Lexemes.{Piece}
use Rattle.vx_language.specs.Places.{address_of}
use Rattle.vx_statement.specs.Labels.{place_of, place_in}
use Rattle.vx_code.specs.declared.aim.Aim.{Aim}
use Rattle.vx_code.specs.declared.aim.Aim.TheVariants.{Nowhere, From}

abbrev pub aim_of : Aim → Piece → ℤ
aim_of Nowhere label = pos 0
aim_of (From labels code place) label =
    pos (unwrap_or (option_map (address_of code) (place_in label.text labels.now)) 0) -ℤ pos (address_of code (place_of place))
