use Rattle.std.proofs.Common.{◌∙◌, ◌+◌, ◌*◌, ◌^◌, ◌<◌, ◌≤◌, arith, get_or, ap}
use Rattle.vx_serve.proofs.Bounds.{step-served, step-done}
use Rattle.vx_serve.specs.Stamps.{BankStamps}
use Rattle.vx_serve.specs.declared.queue.Waiting.{Waiting}
use Rattle.vx_serve.proofs.bank_times.BankTimes.serve_queue.Goals as goal

pub loop-w-preserved : goal.loop-w-preserved
loop-w-preserved c =
    let none : Waiting = record { word = 0; queued = 0 } in
    let queued : (get_or c.args.queue.now c.loop-w.w-index none).queued ≤ 2 ^ 62 = c.requires.queued c.loop-w.w-index none c.loop-w-test.true in
    let before : (get_or c.args.queue.now c.loop-w.w-index none).queued < 2 ^ 62 + 1 + c.loop-w.w-index * 2 ^ 32 = omega arith in (
      step-served c.loop-w.self c.serve.new.self c.args.queue.now c.loop-w.w-index none c.loop-w-test.true c.serve.ensures.served ∙ c.loop-w.invariant.0,
      step-done c.loop-w.self c.serve.new.self c.loop-w.done c.serve.result c.max-done.result c.args.queue.now c.loop-w.w-index none c.loop-w-test.true c.serve.ensures.served c.serve.ensures.done c.max-done.ensures
          ∙ c.loop-w.invariant.1,
      λ bank. (let each = c.serve.ensures.by (2 ^ 62 + 1 + c.loop-w.w-index * 2 ^ 32) c.loop-w.invariant.2 before bank in omega (arith, each)),
      (
        ap (λ (v : BankStamps). v.banks) c.serve.ensures.served ∙ c.loop-w.invariant.3.0,
        ap (λ (v : BankStamps). v.bank_time) c.serve.ensures.served ∙ c.loop-w.invariant.3.1,
      ),
    )
