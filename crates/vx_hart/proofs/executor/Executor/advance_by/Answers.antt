-- A legal instruction is done, and an illegal one tells its word.
use Rattle.std.proofs.Common.{◌≡◌, ◌∙◌, ℕ, Some, true, false, refl, sym, ap}
use Rattle.vx_flat.specs.Outcome.{faulted}
use Rattle.vx_flat.specs.State.{Flat}
use Rattle.vx_flat.specs.Step.{is_legal_as}
use Rattle.vx_hart.specs.Outcomes.{flat_of, outcome_next}
use Rattle.vx_hart.proofs.Calls.{meaning-illegal, meaning-legal, outcome-illegal, outcome-instruction}
use Rattle.vx_hart.proofs.executor.Executor.advance_by.Goals as goal

pub returns-in_default-clause-performed : goal.returns-in_default-clause-performed
returns-in_default-clause-performed g c output =
    let known = c.args.known.now in
    let s : Flat = flat_of c.args.arch.now (g.M.Memory.state c.args.memory.now c.args.physical.now) output in
    let left : Flat = flat_of c.perform.new.arch (g.M.Memory.state c.perform.new.memory c.perform.new.physical) output in
    let illegal : (is_legal_as known.class s known.instr) ≡ false = sym (c.in_default.ensures.legal output) in
    c.fault.ensures (g.M.Memory.state c.perform.new.memory c.perform.new.physical) output
    ∙ ap (λ (n : ℕ). Some (faulted left 2 n)) c.from.ensures
    ∙ ap (λ (t : Flat). Some (faulted t 2 c.args.word)) (c.in_default.ensures.illegal refl output)
    ∙ sym (outcome-illegal s c.args.word)
    ∙ ap (outcome_next s) (sym (meaning-illegal s c.args.word known.instr known.class known.class_is illegal))

pub returns-clause-performed : goal.returns-clause-performed
returns-clause-performed g c output =
    let known = c.args.known.now in
    let s : Flat = flat_of c.args.arch.now (g.M.Memory.state c.args.memory.now c.args.physical.now) output in
    let legal : (is_legal_as known.class s known.instr) ≡ true = sym (c.in-Some.ensures.legal output) in
    c.in-Some.ensures.performed output
    ∙ outcome-instruction s known.instr known.class known.class_is
    ∙ ap (outcome_next s) (sym (meaning-legal s c.args.word known.instr known.class known.class_is legal))
