use Rattle.std.proofs.Common.{◌≡◌, ◌^◌, ◌≤◌, ap, ◌∙◌, sym, subst, arith, List, length}
use Rattle.std.proofs.Math.Nat.{mul-le-mul_right}
use Rattle.vx_serve.proofs.Batch.{batch-served}
use Rattle.vx_serve.specs.declared.served.Served.{Served}
use Rattle.vx_serve.proofs.Bounds.{empty, queue-by, queue-count, stamps-by, done-soon}
use Rattle.vx_serve.specs.Queue.{QueueView, judged_all}
use Rattle.vx_serve.specs.Stamps.{AreBy, BankStamps}
use Rattle.vx_serve.specs.Turns.{AreQueuedBy, done_all}
use Rattle.vx_serve.specs.declared.queue.Waiting.{Waiting}
use Rattle.vx_serve.proofs.bank_times.BankTimes.serve_all.Goals as goal

pub serve_queue-requires-clause-queued : goal.serve_queue-requires-clause-queued
serve_queue-requires-clause-queued c =
    let is : c.order.result.now ≡ (judged_all empty c.args.fates.now).order = c.order.ensures ∙ ap (λ (q : QueueView). q.order) c.judged-queue.ensures in
    subst (λ (queue : List Waiting). AreQueuedBy (2 ^ 62) queue) (sym is) (queue-by (2 ^ 62) c.args.fates.now c.requires.known)

pub returns-clause-serves : goal.returns-clause-serves
returns-clause-serves c machine earlier accesses fate_of stands are =
    let served : Served = record { done = c.serve_queue.result; missing = c.missing.result; failing = c.failing.result } in
    batch-served c.args.self.now c.serve_queue.new.self machine earlier fate_of accesses c.args.fates.now c.order.result.now served
    stands are (c.order.ensures ∙ ap (λ (q : QueueView). q.order) c.judged-queue.ensures)
    c.serve_queue.ensures.served c.serve_queue.ensures.done
    (c.missing.ensures ∙ ap (λ (q : QueueView). q.missing) c.judged-queue.ensures)
    (c.failing.ensures ∙ ap (λ (q : QueueView). q.failing) c.judged-queue.ensures)

pub returns-clause-by : goal.returns-clause-by
returns-clause-by c last by lt =
    let done : done_all c.args.self.now 0 c.order.result.now ≤ last = omega (arith, c.serve_queue.ensures.done) in
    subst (λ (now : BankStamps). AreBy last now.stamps) (sym c.serve_queue.ensures.served) (stamps-by last c.args.self.now 0 c.order.result.now by done)

pub returns-clause-soon : goal.returns-clause-soon
returns-clause-soon c last by known =
    let is : c.order.result.now ≡ (judged_all empty c.args.fates.now).order = c.order.ensures ∙ ap (λ (q : QueueView). q.order) c.judged-queue.ensures in
    let queued : AreQueuedBy last c.order.result.now = subst (λ (queue : List Waiting). AreQueuedBy last queue) (sym is) (queue-by last c.args.fates.now known) in
    let most = done-soon last c.args.self.now 0 c.order.result.now (λ bank. (let each = by bank in omega (arith, each))) queued (omega arith) in
    let few : length c.order.result.now ≤ length c.args.fates.now = rw is (queue-count c.args.fates.now) in
    omega (arith, c.serve_queue.ensures.done, most, mul-le-mul_right c.args.self.now.bank_time few)
