-- By the law of instructions without accesses, of which those with an effect alone are some.
use Rattle.std.proofs.Common.{◌≡◌, ℕ, ◌≤◌, true, refl, sym, subst, ap, ◌∙◌, arith}
use Rattle.std.proofs.lemmas.Bool.{false≢true}
use Rattle.vx_base.specs.declared.machine.Fault.{Fault}
use Rattle.vx_flat.specs.State.{Flat}
use Rattle.vx_hart.specs.Effects.{is_effect_class}
use Rattle.vx_hart.specs.Outcomes.{outcome_of}
use Rattle.vx_hart.specs.declared.progress.Progress.TheVariants as progress
use Rattle.vx_rows.specs.declared.row.Class.{Class}
use Rattle.vx_rows.specs.declared.row.Class.TheVariants as class
use Rattle.vx_pipe.specs.Classes.{is_plain}
use Rattle.vx_pipe.specs.Left.{registers_of}
use Rattle.vx_pipe.specs.Playing.{shown_state}
use Rattle.vx_pipe.specs.Turning.{caches_of, course_of, machine_of}
use Rattle.vx_pipe.proofs.Bounds.{issued-tables}
use Rattle.vx_pipe.proofs.Outputs.{issued-next}
use Rattle.vx_pipe.proofs.PlainArm.{span-small, retiring-plain, retired-early, fetched-soon, issued-early, completed-early}
use Rattle.vx_pipe.proofs.effects.do_effect.Goals as goal

plain-effect : (c : Class) → is_effect_class c ≡ true → is_plain c ≡ true
plain-effect class.Arithmetic is = refl
plain-effect class.Multiply is = refl
plain-effect class.Divide is = refl
plain-effect class.Jump is = refl
plain-effect class.Branch is = refl
plain-effect class.Fence is = refl
plain-effect other is = absurd (false≢true is)

pub retire-requires-clause-tables : goal.retire-requires-clause-tables
retire-requires-clause-tables g c = issued-tables _ _ _ _ _ _ _ _ _ _ _ c.requires.issued

pub retire-requires-clause-completed : goal.retire-requires-clause-completed
retire-requires-clause-completed g c =
    let early = retired-early _ _ _ _ _ _ _ _ _ _ _ c.requires.issued c.requires.until c.args.engine.now.bank_time_in_range in
    let soon = fetched-soon _ _ _ _ _ _ _ _ _ _ _ c.requires.issued c.requires.until c.args.engine.now.bank_time_in_range in
    completed-early (course_of c.args.engine.now.course) c.args.fetched c.issue-issued.result early soon c.issue-issued.ensures c.span_of.result
    (subst (λ (n : ℕ). n ≤ 20) (sym c.span_of.ensures) (span-small c.args.class))

pub overflow_add-result : goal.overflow_add-result
overflow_add-result g c =
    let early = retired-early _ _ _ _ _ _ _ _ _ _ _ c.requires.issued c.requires.until c.args.engine.now.bank_time_in_range in
    let soon = fetched-soon _ _ _ _ _ _ _ _ _ _ _ c.requires.issued c.requires.until c.args.engine.now.bank_time_in_range in
    let by = issued-early (course_of c.args.engine.now.course) c.args.fetched c.issue-issued.result early soon c.issue-issued.ensures in
    omega (arith, by)

pub unreachable-requires : goal.unreachable-requires
unreachable-requires g c = c.affect.ensures.never_asks c.in-Asks.is

pub returns-in-Completed-clause-turned : goal.returns-in-Completed-clause-turned
returns-in-Completed-clause-turned g c start from first output on issuing =
    let t = c.requires.issued in
    let cells = g.C.Cells.state c.args.cells.now in
    let u : Flat = shown_state (registers_of c.args.arch.now) c.args.memory.now cells output in
    let v : Flat = shown_state (registers_of c.affect.new.arch) c.args.memory.now cells output in
    let next = issued-next _ _ _ _ _ _ _ _ _ c.args.word c.args.i.now t output in
    let retiring = retiring-plain c.plain_instructions_are_done.ensures.completes (machine_of c.args.engine.now) c.args.root c.args.until c.args.memory.now start from first (course_of c.args.engine.now.course) c.args.fetched (caches_of c.args.engine.now)
    cells cells u v c.args.word c.args.i.now c.args.class c.issue-issued.result c.span_of.result c.affect.new.self c.jumps_as-jumps.result c.changes_as-changes.result c.args.memory.now on t.kept issuing
    c.requires.class (plain-effect c.args.class c.requires.effect) next c.issue-issued.ensures refl refl (c.in-Completed.ensures.performed c.args.word u.memory output) c.span_of.ensures c.jumps_as-jumps.ensures c.changes_as-changes.ensures in
    c.retire.ensures.retired c.args.memory.now start from first (registers_of c.affect.new.arch) output on t.kept retiring refl

pub returns-in-Faulted-clause-turned : goal.returns-in-Faulted-clause-turned
returns-in-Faulted-clause-turned g c start from first output on issuing =
    let t = c.requires.issued in
    let cells = g.C.Cells.state c.args.cells.now in
    let u : Flat = shown_state (registers_of c.args.arch.now) c.args.memory.now cells output in
    let v : Flat = shown_state (registers_of c.affect.new.arch) c.args.memory.now cells output in
    let next = issued-next _ _ _ _ _ _ _ _ _ c.args.word c.args.i.now t output in
    c.plain_instructions_are_done.ensures.faults (machine_of c.args.engine.now) c.args.root c.args.until c.args.memory.now start from first (course_of c.args.engine.now.course) c.args.fetched (caches_of c.args.engine.now)
    cells cells u v c.args.word c.args.i.now c.args.class c.issue-issued.result c.fault-engine.result on t.kept issuing c.requires.class (plain-effect c.args.class c.requires.effect) next c.issue-issued.ensures refl
    (ap (λ (f : Fault). outcome_of progress.Faulted f v) c.fault-engine.ensures ∙ c.in-Faulted.ensures.performed c.args.word u.memory output)
