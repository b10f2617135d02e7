-- The words that an instruction of vector arithmetic handles, by its operands alone. How they are found is this project's own.
use Rattle.std.specs.Prelude.{ℕ, ◌+◌, ◌-◌, ◌*◌, ◌/◌, ◌==◌, nat_lt, List, [], ◌∷◌, if◌then◌else◌}
use Rattle.std.specs.List.{range_with_len}
use Rattle.vx_decode.specs.Groups.{width_of}
use Rattle.vx_rows.specs.declared.family.Operand.{Operand}
use Rattle.vx_rows.specs.declared.family.Operand.TheVariants.{Absent, Element, WideElement}
use Rattle.vx_rows.specs.declared.family.Operands.{Operands}
use Rattle.vx_vector.specs.Reading.{whole_registers}
use Rattle.vx_vstate.specs.Registers.{element_word}
use Rattle.vx_vstate.specs.State.{SettingView}
use Rattle.vx_vstate.specs.Vtype.{sew}

-- the operand whose words are handled: the destination; of a row with one result, vs2
abbrev pub handled_by : (destination vs2 : Operand) → Operand
handled_by Absent vs2 = vs2
handled_by Element vs2 = vs2
handled_by WideElement vs2 = vs2
handled_by destination vs2 = destination

abbrev pub handled_operand : Operands → Operand
handled_operand operands = handled_by operands.destination operands.vs2

-- how many elements an instruction has that handles an operand
abbrev pub count_by : Operand → SettingView → ℕ
count_by operand at =
    if whole_registers operand == 0 then at.vl else whole_registers operand * at.vlen / width_of operand (sew at.vtype)

-- the words of the elements of a width from one on, below a count
abbrev pub words_from : (width from count : ℕ) → List ℕ
words_from width from count =
    let first = element_word width from in
    if nat_lt from count then range_with_len first (element_word width (count - 1) + 1 - first) else []

-- the words of an operand that are handled: of a move of element 0 the first, from a vector always, and into one where vstart is
-- below vl
abbrev pub words_of : Operand → SettingView → List ℕ
words_of Element at = 0 ∷ []
words_of Absent at = if nat_lt at.vstart at.vl then 0 ∷ [] else []
words_of operand at = words_from (width_of operand (sew at.vtype)) at.vstart (count_by operand at)
