-- The rest of the fates makes of the queue what all make of an empty one.
use Rattle.std.proofs.Common.{◌≡◌, drop}
use Rattle.vx_serve.specs.Queue.{judged_all}
use Rattle.vx_serve.proofs.queue.judged.Given as goal

abbrev pub invariant-loop-fate : goal.invariant-loop-fate
invariant-loop-fate l = (judged_all l.queue (drop l.fate-index l.fates) ≡ judged_all l.initial.queue l.fates) × (l.queue.count ≡ l.fate-index)
