-- Each step so far completed an instruction.
use Rattle.std.proofs.Common.{◌≡◌, ◌+◌, ◌-◌, ◌^◌, ◌≤◌, ℕ, List, None, min}
use Rattle.vx_hart.specs.Outcomes.{flat_of}
use Rattle.vx_alone.specs.Settled.{process_of}
use Rattle.vx_alone.proofs.Steps.{IsOnItsWay}
use Rattle.vx_alone.proofs.alone.advance_on.Given as goal

abbrev pub invariant-loop-done : goal.invariant-loop-done
invariant-loop-done l = record {
  within : l.done ≤ l.most;
  counted : l.count ≡ l.fn.count;
  running : l.over ≡ None;
  way : (output : List ℕ) → IsOnItsWay (process_of (flat_of l.fn.arch l.fn.memory output) l.fn.count l.fn.over) l.done (process_of (flat_of l.arch l.memory output) (min (l.fn.count + l.done) (2 ^ 64 - 1)) None);
}

abbrev pub decreases-loop-done : goal.decreases-loop-done
decreases-loop-done l = l.most - l.done
