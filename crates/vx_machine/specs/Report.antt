-- The report's bytes. This project's own.
use Rattle.std.specs.Prelude.{ℕ, ◌+◌, List, [], ◌∷◌, ◌++◌, length, Option, Some, None, codes, decimal}
use Rattle.std.specs.Fmt.{signed_decimal}
use Rattle.vx_base.specs.Hex.{hex_digits}
use Rattle.vx_words.specs.Lines.{line}
use Rattle.vx_machine.specs.Accounts.{Account, Standing}
use Rattle.vx_machine.specs.Accounts.Standing.{Exited, Faulted, Stopped}
use Rattle.vx_machine.specs.declared.account.Costs.{Costs}
use Rattle.vx_machine.specs.declared.account.Measure.{Measure}
use Rattle.vx_machine.specs.declared.account.Measure.TheVariants.{Cycles, Instructions}
use Rattle.vx_machine.specs.declared.stop.Stop.{Stop}
use Rattle.vx_machine.specs.declared.stop.Stop.TheVariants.{Done, Spent}

abbrev pub hex : ℕ → List ℕ
hex n = codes "0x" ++ hex_digits 16 n

abbrev pub standing_words : Standing → List (List ℕ)
standing_words (Exited code) = codes "exited " ∷ signed_decimal code ∷ []
standing_words (Faulted fault pc) =
    codes "faulted cause " ∷ decimal fault.cause ∷ codes " pc " ∷ hex pc ∷ codes " tval " ∷ hex fault.tval ∷ codes " vstart " ∷ decimal fault.vstart ∷ []
standing_words (Stopped pc vstart) = codes "stopped pc " ∷ hex pc ∷ codes " vstart " ∷ decimal vstart ∷ []

-- how many instructions a process completed, and what they cost
abbrev pub count_words : ℕ → Option Costs → List (List ℕ)
count_words instructions None = codes "  instructions " ∷ decimal instructions ∷ []
count_words instructions (Some costs) =
    codes "  instructions " ∷ decimal instructions ∷ codes " cycles " ∷ decimal costs.cycles ∷ codes " misses " ∷ decimal costs.misses ∷ []

-- the lines of the process of that number, and what it wrote
abbrev pub process_text : ℕ → Account → List ℕ
process_text number a =
    line (codes "process " ∷ decimal number ∷ codes ": " ∷ standing_words a.standing)
    ++ line (count_words a.instructions a.costs)
    ++ line (codes "  output " ∷ decimal (length a.output) ∷ [])
    ++ line (a.output ∷ [])

abbrev pub processes_text : ℕ → List Account → List ℕ
processes_text number [] = []
processes_text number (a ∷ accounts) = process_text number a ++ processes_text (number + 1) accounts

abbrev pub stop_word : Stop → List ℕ
stop_word Done = codes "done"
stop_word Spent = codes "spent"

-- what a total counts
abbrev pub measure_word : Measure → List ℕ
measure_word Cycles = codes "cycles"
measure_word Instructions = codes "instructions"

-- the report of the processes in their order, of the total and of the stop
abbrev pub report : List Account → ℕ → Measure → Stop → List ℕ
report accounts total measure stop =
    processes_text 0 accounts ++ line (codes "total " ∷ decimal total ∷ codes " " ∷ measure_word measure ∷ codes ", " ∷ stop_word stop ∷ [])
