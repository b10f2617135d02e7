-- Each arm is a step more, the end, or a service.
use Rattle.std.proofs.Common.{ℕ, ◌+◌, ◌-◌, ◌^◌, min, refl, sym, ap, ◌∙◌, arith}
use Rattle.vx_flat.specs.Process.{Process}
use Rattle.vx_flat.specs.State.{Flat}
use Rattle.vx_hart.specs.Outcomes.{flat_of, outcome_of}
use Rattle.vx_alone.specs.Settled.{process_of}
use Rattle.vx_alone.proofs.Steps.{ends, faults, more, starts, waits}
use Rattle.vx_alone.proofs.alone.advance_on.Goals as goal

pub loop-done-init : goal.loop-done-init
loop-done-init c = record {
  within = omega arith;
  counted = refl;
  running = c.requires.running;
  way = λ output.
      let s : Flat = flat_of c.args.arch.now c.args.memory.now output in
      starts s c.args.count.now (min (c.args.count.now + 0) (2 ^ 64 - 1)) c.args.over.now c.requires.running (omega (arith, c.has_64_bits.ensures));
}

pub loop-done-preserved : goal.loop-done-preserved
loop-done-preserved c = record {
  within = omega arith;
  counted = c.loop-done.invariant.counted;
  running = c.loop-done.invariant.running;
  way = λ output.
      let before : Process = process_of (flat_of c.args.arch.now c.args.memory.now output) c.args.count.now c.args.over.now in
      let s : Flat = flat_of c.loop-done.arch c.loop-done.memory output in
      let t : Flat = flat_of c.advance.new.arch c.advance.new.memory output in
      let n : ℕ = min (c.args.count.now + c.loop-done.done) (2 ^ 64 - 1) in
      more before c.loop-done.done s t n c.advance.new.self (c.loop-done.invariant.way output) (min (c.args.count.now + (c.loop-done.done + 1)) (2 ^ 64 - 1)) (omega arith)
      (ap (λ p. outcome_of p c.advance.new.self t) (sym c.in-Completed.is) ∙ c.advance.ensures.performed output);
}

pub returns-in-Asks : goal.returns-in-Asks
returns-in-Asks c output =
    let before : Process = process_of (flat_of c.args.arch.now c.args.memory.now output) c.args.count.now c.args.over.now in
    let s : Flat = flat_of c.loop-done.arch c.loop-done.memory output in
    let t : Flat = flat_of c.advance.new.arch c.advance.new.memory output in
    let n : ℕ = min (c.args.count.now + c.loop-done.done) (2 ^ 64 - 1) in
    waits before c.loop-done.done s t n c.advance.new.self (c.loop-done.invariant.way output) c.args.most c.saturating_add.result c.loop-done.over c.advance.result.class (omega arith) (omega (arith, c.saturating_add.ensures, c.loop-done.invariant.counted)) c.loop-done.invariant.running
    (ap (λ p. outcome_of p c.advance.new.self t) (sym c.in-Asks.is) ∙ c.advance.ensures.performed output)
    (c.advance.ensures.class output) (λ asking. c.advance.ensures.waits asking output)

pub returns-in-Faulted : goal.returns-in-Faulted
returns-in-Faulted c output =
    let before : Process = process_of (flat_of c.args.arch.now c.args.memory.now output) c.args.count.now c.args.over.now in
    let s : Flat = flat_of c.loop-done.arch c.loop-done.memory output in
    let t : Flat = flat_of c.advance.new.arch c.advance.new.memory output in
    let n : ℕ = min (c.args.count.now + c.loop-done.done) (2 ^ 64 - 1) in
    faults before c.loop-done.done s t n c.fault.result (c.loop-done.invariant.way output) c.args.most c.saturating_add-in-Faulted.result (omega arith) (omega (arith, c.saturating_add-in-Faulted.ensures, c.loop-done.invariant.counted))
    ((λ i. outcome_of (sym c.in-Faulted.is i) (c.fault.ensures i) t) ∙ c.advance.ensures.performed output)

pub returns : goal.returns
returns c output =
    let before : Process = process_of (flat_of c.args.arch.now c.args.memory.now output) c.args.count.now c.args.over.now in
    let s : Flat = flat_of c.loop-done.arch c.loop-done.memory output in
    let n : ℕ = min (c.args.count.now + c.loop-done.done) (2 ^ 64 - 1) in
    ends before c.loop-done.done s s n c.loop-done.executor (c.loop-done.invariant.way output) c.args.most c.saturating_add-2.result c.loop-done.over (omega arith) (omega arith) (omega (arith, c.saturating_add-2.ensures, c.loop-done.invariant.counted)) c.loop-done.invariant.running
