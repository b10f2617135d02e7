-- The pattern is that of the movement.
use Rattle.std.proofs.Common.{◌<◌, ◌≤◌, sym, ap, ◌∙◌, subst}
use Rattle.vx_vstate.specs.Registers.{words_of_all}
use Rattle.vx_vstate.specs.Views.{view_of}
use Rattle.vx_vector.specs.Accesses.{Movement, movement_count, movement}
use Rattle.vx_vector.specs.Batches.{accesses_of_batch, batch_at, most_of_batch}
use Rattle.vx_vector.specs.Movements.{IsSoundMovement}
use Rattle.vx_vaddr.proofs.instruction.known_accesses.Goals as goal

pub next_batch-requires-clause-same : goal.next_batch-requires-clause-same
next_batch-requires-clause-same g c =
    c.requires.same ∙ ap (λ (m : Movement). m.at.vlen) (sym (c.new-pattern.ensures (g.S.WordFile.words c.args.file.now)))

pub next_batch-requires-clause-sound : goal.next_batch-requires-clause-sound
next_batch-requires-clause-sound g c =
    let words = g.S.WordFile.words c.args.file.now in
    let m : Movement = movement c.args.addressing c.args.encoded c.args.i.now (view_of c.args.at.now) c.args.base c.args.stride words in
    subst IsSoundMovement (sym (c.new-pattern.ensures words)) (c.legal_movements_are_sound.ensures.sound m c.requires.legal (c.word-first.ensures.all ∙ ap words_of_all c.requires.same))

pub next_batch-requires-clause-started : goal.next_batch-requires-clause-started
next_batch-requires-clause-started g c =
    subst (λ (m : Movement). m.at.vstart ≤ c.args.from) (sym (c.new-pattern.ensures (g.S.WordFile.words c.args.file.now))) c.requires.started

pub next_batch-requires-clause-among : goal.next_batch-requires-clause-among
next_batch-requires-clause-among g c =
    subst (λ (m : Movement). c.args.from < movement_count m) (sym (c.new-pattern.ensures (g.S.WordFile.words c.args.file.now))) c.requires.among

pub returns-clause-accesses : goal.returns-clause-accesses
returns-clause-accesses g c =
    c.next_batch.ensures.accesses
    ∙ ap (λ (m : Movement). accesses_of_batch m (batch_at m c.args.lanes most_of_batch c.args.from)) (c.new-pattern.ensures (g.S.WordFile.words c.args.file.now))

pub returns-clause-after : goal.returns-clause-after
returns-clause-after g c =
    c.next_batch.ensures.after
    ∙ ap (λ (m : Movement). (batch_at m c.args.lanes most_of_batch c.args.from).after) (c.new-pattern.ensures (g.S.WordFile.words c.args.file.now))
