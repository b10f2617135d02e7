-- What the rest makes of the latest so far is what the whole makes of the cycle.
use Rattle.std.proofs.Common.{◌≡◌, Some, drop}
use Rattle.vx_serve.specs.Queue.{latest_of}
use Rattle.vx_serve.proofs.queue.latest_of.Given as goal

abbrev pub invariant-loop-l : goal.invariant-loop-l
invariant-loop-l l = latest_of l.word l.latest (drop l.l-index l.lower) ≡ latest_of l.word (Some l.cycle) l.lower
