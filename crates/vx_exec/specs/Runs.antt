-- The words of its destination that an instruction makes are one run. How it is found is this project's own.
use Rattle.std.specs.Prelude.{ℕ, ◌+◌, ◌-◌, ◌*◌, ◌/◌, ◌<◌, ◌≤◌, Bool, ◌==◌, nat_lt, if◌then◌else◌}
use Rattle.vx_decode.specs.Groups.{width_of}
use Rattle.vx_mask.specs.Kinds.{is_element}
use Rattle.vx_rows.specs.declared.family.Operand.{Operand}
use Rattle.vx_vector.specs.Reading.{whole_registers}
use Rattle.vx_vstate.specs.Registers.{element_word}
use Rattle.vx_vstate.specs.State.{SettingView}
use Rattle.vx_vstate.specs.Vtype.{sew}
use Rattle.vx_exec.specs.declared.run.Run.{Run}

abbrev pub IsInRun : Run → (w : ℕ) → Type 0
IsInRun run w = (run.first ≤ w) × (w < run.first + run.count)

-- how many elements an instruction with this destination has
abbrev pub count_by : Operand → SettingView → ℕ
count_by destination at =
    if whole_registers destination == 0 then at.vl else whole_registers destination * at.vlen / width_of destination (sew at.vtype)

-- the words that hold the elements of a width from one on, below a count
abbrev pub words_from : (width from count : ℕ) → Run
words_from width from count =
    record { first = element_word width from; count = element_word width (count - 1) + 1 - element_word width from }

-- the words that are made: of a row with one result, the first; none where there is no element from vstart on
abbrev pub run_of : (is_one : Bool) → (width from count : ℕ) → Run
run_of is_one width from count =
    if nat_lt from count then (if is_one then record { first = 0; count = 1 } else words_from width from count)
    else record { first = 0; count = 0 }

abbrev pub run_by : Operand → SettingView → Run
run_by destination at =
    run_of (is_element destination) (width_of destination (sew at.vtype)) at.vstart (count_by destination at)
