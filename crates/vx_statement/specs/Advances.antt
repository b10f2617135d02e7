-- The ways that go on with a token. This project's own.
use Rattle.std.specs.Prelude.{◌≡◌, List, [], ◌∷◌, map, filter, drop, Option, Some, None, option_map}
use Rattle.vx_language.specs.Lexemes.{Piece}
use Rattle.vx_language.specs.Slots as slots
use Rattle.vx_language.specs.Statements.{go_on_with}
use Rattle.vx_statement.specs.Slots.{slot_of}
use Rattle.vx_statement.specs.Ways.{commas_in, way_slots}
use Rattle.vx_statement.specs.declared.slot.Slot.{Slot}
use Rattle.vx_statement.specs.declared.way.Way.{Way}

-- the first slot of the first list that has one
abbrev pub heads : List (List slots.Slot) → Option slots.Slot
heads [] = None
heads ([] ∷ more) = heads more
heads ((slot ∷ later) ∷ more) = Some slot

-- those of the ways that go on with a token, where these tokens stand behind it
abbrev pub going_on : Piece → List Piece → List Way → List (List slots.Slot)
going_on piece rest going = filter (go_on_with piece) (map (way_slots (commas_in (piece ∷ rest))) going)

-- the slot is the first of theirs, and the ways are what is behind it in each
pub record Advances (piece : Piece) (rest : List Piece) (going : List Way) (slot : Option Slot) (ways : List Way) : Type 0 where
  pub taken : option_map slot_of slot ≡ heads (going_on piece rest going)
  pub behind : map (way_slots (commas_in rest)) ways ≡ map (drop 1) (going_on piece rest going)
