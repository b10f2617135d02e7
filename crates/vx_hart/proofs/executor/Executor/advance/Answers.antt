-- What stands at the pc is done.
use Rattle.std.proofs.Common.{◌∙◌, Some, sym, ap}
use Rattle.vx_flat.specs.Outcome.{faulted}
use Rattle.vx_flat.specs.State.{Flat}
use Rattle.vx_hart.specs.Outcomes.{flat_of, outcome_next}
use Rattle.vx_hart.proofs.Calls.{outcome-denied, outcome-illegal}
use Rattle.vx_hart.proofs.executor.Executor.advance.Goals as goal

pub returns-in-Denied-clause-performed : goal.returns-in-Denied-clause-performed
returns-in-Denied-clause-performed g c output =
    let s : Flat = flat_of c.args.arch.now (g.M.Memory.state c.args.memory.now c.args.physical.now) output in
    c.fault.ensures (g.M.Memory.state c.find.new.memory c.find.new.physical) output
    ∙ (λ j. Some (faulted (flat_of c.args.arch.now (c.in-Denied.ensures.memory j) output) 12 c.args.arch.now.pc))
    ∙ sym (outcome-denied s)
    ∙ ap (outcome_next s) (sym (c.in-Denied.ensures.found output))

pub returns-in-Unknown-clause-performed : goal.returns-in-Unknown-clause-performed
returns-in-Unknown-clause-performed g c output =
    let s : Flat = flat_of c.args.arch.now (g.M.Memory.state c.args.memory.now c.args.physical.now) output in
    c.fault-in-Unknown.ensures (g.M.Memory.state c.find.new.memory c.find.new.physical) output
    ∙ (λ j. Some (faulted (flat_of c.args.arch.now (c.in-Unknown.ensures.memory j) output) 2 (c.from.ensures j)))
    ∙ sym (outcome-illegal s c.in-Unknown.word)
    ∙ ap (outcome_next s) (sym (c.in-Unknown.ensures.found output))

pub returns-in-Known-clause-waits : goal.returns-in-Known-clause-waits
returns-in-Known-clause-waits g c asks output =
    c.advance_by.ensures.waits asks output ∙ (λ j. flat_of c.args.arch.now (c.in-Known.ensures.memory j) output)
