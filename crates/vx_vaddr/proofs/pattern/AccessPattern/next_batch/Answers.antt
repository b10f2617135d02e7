-- A batch of one element.
use Rattle.std.proofs.Common.{◌∙◌, arith}
use Rattle.vx_vaddr.specs.Views.{movement_with}
use Rattle.vx_vector.specs.Accesses.{Movement}
use Rattle.vx_vector.specs.Batches.{batch_at}
use Rattle.vx_vaddr.proofs.Offsets.{one-element}
use Rattle.vx_vaddr.proofs.pattern.AccessPattern.next_batch.Goals as goal

pub returns-clause-accesses : goal.returns-clause-accesses
returns-clause-accesses g c =
    let m : Movement = movement_with c.args.self.now (g.S.WordFile.words c.args.file.now) in
    let runs = c.batches_are_longest_runs.ensures in
    c.fill.ensures
    ∙ one-element m c.args.from (batch_at m c.args.lanes 1 c.args.from).after (runs.some m c.args.lanes 1 c.args.from) (runs.elements m c.args.lanes 1 c.args.from (omega arith))

pub returns-clause-after : goal.returns-clause-after
returns-clause-after g c =
    let m : Movement = movement_with c.args.self.now (g.S.WordFile.words c.args.file.now) in
    let runs = c.batches_are_longest_runs.ensures in
    let low = runs.some m c.args.lanes 1 c.args.from in
    let high = runs.elements m c.args.lanes 1 c.args.from (omega arith) in
    omega arith
