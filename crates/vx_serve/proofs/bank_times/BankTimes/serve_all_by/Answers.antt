use Rattle.std.proofs.Common.{◌≡◌, ◌+◌, ◌*◌, ◌^◌, ◌≤◌, List, length, min, ap, ◌∙◌, sym, subst, take, arith}
use Rattle.std.proofs.Math.Nat.{mul-le-mul_right}
use Rattle.std.proofs.lemmas.List.{length-take}
use Rattle.std.proofs.lemmas.List.Elements.{All-take}
use Rattle.vx_serve.proofs.Batch.{batch-by}
use Rattle.vx_serve.proofs.Bounds.{empty, queue-by, queue-count, done-soon, IsQueuedBy}
use Rattle.vx_serve.specs.Queue.{QueueView, judged_all}
use Rattle.vx_serve.specs.Turns.{AreQueuedBy, done_all}
use Rattle.vx_serve.specs.declared.queue.Waiting.{Waiting}
use Rattle.vx_serve.proofs.bank_times.BankTimes.serve_all_by.Goals as goal

pub serve_queue-requires-clause-queued : goal.serve_queue-requires-clause-queued
serve_queue-requires-clause-queued c =
    let is : c.order-order.result.now ≡ (judged_all empty c.args.fates.now).order = c.order-order.ensures ∙ ap (λ (q : QueueView). q.order) c.judged-queue.ensures in
    All-take (IsQueuedBy (2 ^ 62)) c.queued_by-count.result c.order-order.result.now
    (subst (λ (queue : List Waiting). AreQueuedBy (2 ^ 62) queue) (sym is) (queue-by (2 ^ 62) c.args.fates.now c.requires.known))

pub returns-clause-done : goal.returns-clause-done
returns-clause-done c machine earlier accesses fate_of stands are =
    batch-by c.args.self.now machine earlier fate_of accesses c.args.fates.now c.order-order.result.now c.args.last c.serve_queue.result stands are
    (c.order-order.ensures ∙ ap (λ (q : QueueView). q.order) c.judged-queue.ensures)
    (c.serve_queue.ensures.done ∙ ap (λ n. done_all c.args.self.now 0 (take n c.order-order.result.now)) c.queued_by-count.ensures.value)

pub returns-clause-soon : goal.returns-clause-soon
returns-clause-soon c known by all =
    let is : c.order-order.result.now ≡ (judged_all empty c.args.fates.now).order = c.order-order.ensures ∙ ap (λ (q : QueueView). q.order) c.judged-queue.ensures in
    let some : List Waiting = take c.queued_by-count.result c.order-order.result.now in
    let queued : AreQueuedBy known (take c.queued_by-count.result c.order-order.result.now) =
    All-take (IsQueuedBy known) c.queued_by-count.result c.order-order.result.now (subst (λ (queue : List Waiting). AreQueuedBy known queue) (sym is) (queue-by known c.args.fates.now all)) in
    let most = done-soon known c.args.self.now 0 (take c.queued_by-count.result c.order-order.result.now) (λ bank. (let each = by bank in omega (arith, each))) queued (omega arith) in
    let fewer : length c.order-order.result.now ≤ length c.args.fates.now = rw is (queue-count c.args.fates.now) in
    let few : length (take c.queued_by-count.result c.order-order.result.now) ≤ length c.args.fates.now = omega (arith, length-take c.queued_by-count.result c.order-order.result.now, fewer) in
    omega (arith, c.serve_queue.ensures.done, most, mul-le-mul_right c.args.self.now.bank_time few)
