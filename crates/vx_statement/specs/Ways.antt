-- What a way to go on and a form stand for. This project's own.
use Rattle.std.specs.Prelude.{◌≡◌, ℕ, Bool, true, false, List, ◌∷◌, map, drop, count_by, codes, Option, Some, None}
use Rattle.vx_language.specs.Forms as language
use Rattle.vx_language.specs.Code as code
use Rattle.vx_language.specs.Lexemes.{Piece}
use Rattle.vx_language.specs.Lines.{is_the_mark}
use Rattle.vx_language.specs.Slots as slots
use Rattle.vx_language.specs.Statements.{go_on_with}
use Rattle.vx_statement.specs.Ranges.{range_of}
use Rattle.vx_statement.specs.Slots.{slot_of}
use Rattle.vx_statement.specs.declared.form.Action.{Action}
use Rattle.vx_statement.specs.declared.form.Action.TheVariants as action
use Rattle.vx_statement.specs.declared.form.Expansion.{Expansion}
use Rattle.vx_statement.specs.declared.form.Expansion.TheVariants as expansion
use Rattle.vx_statement.specs.declared.form.Form.{Form}
use Rattle.vx_statement.specs.declared.form.NamedForm.{NamedForm}
use Rattle.vx_statement.specs.declared.form.Section.{Section}
use Rattle.vx_statement.specs.declared.form.Section.TheVariants as section
use Rattle.vx_statement.specs.declared.slot.Slot.{Slot}
use Rattle.vx_statement.specs.declared.way.Way.{Way}
use Rattle.vx_statement.specs.declared.way.Way.TheVariants.{Slots, Numbers, More}
use denote.Ref.{Bor}

-- how many commas are among tokens
abbrev pub commas_in : List Piece → ℕ
commas_in pieces = count_by (is_the_mark (codes ",")) pieces

-- the slots of a way, where so many commas are left on the line
abbrev pub way_slots : ℕ → Way → List slots.Slot
way_slots commas (Slots listed) = map slot_of listed.now
way_slots commas (Numbers range) = language.numbers (range_of range) commas
way_slots commas (More range) = drop 1 (language.numbers (range_of range) commas)

-- what a token is for a way, where these stand behind it: the first slot takes it and the way goes on with the rest, or not
abbrev pub Steps : Way → Piece → List Piece → Option (Slot × Way) → Type 0
Steps way piece rest None = go_on_with piece (way_slots (commas_in (piece ∷ rest)) way) ≡ false
Steps way piece rest (Some step) = (way_slots (commas_in (piece ∷ rest)) way ≡ slot_of step.0 ∷ way_slots (commas_in rest) step.1) × (slots.takes (slot_of step.0) piece ≡ true)

abbrev pub section_of : Section → language.Section
section_of section.Code = language.OfCode
section_of section.Variables = language.OfVariables

abbrev pub expansion_of : Expansion → code.Expansion
expansion_of expansion.Alone = code.Alone
expansion_of expansion.LoadsNumber = code.LoadsNumber
expansion_of expansion.LoadsAddress = code.LoadsAddress

abbrev pub action_of : Action → language.Action
action_of (action.Enters section) = language.Enters (section_of section)
action_of (action.PutsNumbers count) = language.PutsNumbers count
action_of action.PutsText = language.PutsText
action_of action.PutsZeros = language.PutsZeros
action_of action.Aligns = language.Aligns
action_of (action.Puts expansion instr) = language.Puts (record { expansion = expansion_of expansion; instr = instr; target = None })
action_of action.Rests = language.Rests

-- an action gives instructions
abbrev pub gives_code : Action → Bool
gives_code (action.Puts expansion instr) = true
gives_code other = false

-- a form of this name, where so many commas stand on the line
abbrev pub form_of : List ℕ → ℕ → Form → language.Form
form_of name commas form = record { name = name; slots = way_slots commas form.way; action = action_of form.action }

abbrev pub named_form : ℕ → NamedForm → language.Form
named_form commas named = form_of named.name.now commas named.form

abbrev pub slots_of : Bor (List Slot) → List slots.Slot
slots_of listed = map slot_of listed.now
