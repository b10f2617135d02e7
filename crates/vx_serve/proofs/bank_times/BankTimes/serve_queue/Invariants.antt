-- Serving the rest makes of the stamps so far what serving all makes of the first ones. Each serve takes less than 2^32 cycles.
use Rattle.std.proofs.Common.{◌≡◌, ◌+◌, ◌*◌, ◌^◌, drop}
use Rattle.vx_serve.specs.Stamps.{AreBy, AreOfSame}
use Rattle.vx_serve.specs.Turns.{served_all, done_all}
use Rattle.vx_serve.proofs.bank_times.BankTimes.serve_queue.Given as goal

abbrev pub invariant-loop-w : goal.invariant-loop-w
invariant-loop-w l =
    (served_all l.self (drop l.w-index l.queue) ≡ served_all l.initial.self l.queue)
    × (done_all l.self l.done (drop l.w-index l.queue) ≡ done_all l.initial.self 0 l.queue)
    × AreBy (2 ^ 62 + 1 + l.w-index * 2 ^ 32) l.self.stamps
    × AreOfSame l.initial.self l.self
