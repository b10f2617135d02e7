-- The movement of the row's class.
use Rattle.std.proofs.Common.{sym, ap}
use Rattle.vx_rows.specs.declared.row.Class.{Class}
use Rattle.vx_vstate.specs.Views.{view_of}
use Rattle.vx_vector.specs.Accesses.{movement, movement_as}
use Rattle.vx_vaddr.proofs.instruction.accesses.Goals as goal

pub known_accesses-requires-clause-legal : goal.known_accesses-requires-clause-legal
known_accesses-requires-clause-legal g c =
    let words = g.S.WordFile.words c.args.file.now in
    c.requires.legal (movement c.in-VectorLoad.addressing c.in-VectorLoad.encoded c.args.i.now (view_of c.args.at.now) c.args.base c.args.stride words)
    (ap (λ (k : Class). movement_as k c.args.i.now (view_of c.args.at.now) c.args.base c.args.stride words) (sym c.in-VectorLoad.ensures))

pub known_accesses-requires-clause-among : goal.known_accesses-requires-clause-among
known_accesses-requires-clause-among g c =
    let words = g.S.WordFile.words c.args.file.now in
    c.requires.among (movement c.in-VectorLoad.addressing c.in-VectorLoad.encoded c.args.i.now (view_of c.args.at.now) c.args.base c.args.stride words)
    (ap (λ (k : Class). movement_as k c.args.i.now (view_of c.args.at.now) c.args.base c.args.stride words) (sym c.in-VectorLoad.ensures))

pub known_accesses-requires-in-VectorStore-clause-legal : goal.known_accesses-requires-in-VectorStore-clause-legal
known_accesses-requires-in-VectorStore-clause-legal g c =
    let words = g.S.WordFile.words c.args.file.now in
    c.requires.legal (movement c.in-VectorStore.addressing c.in-VectorStore.encoded c.args.i.now (view_of c.args.at.now) c.args.base c.args.stride words)
    (ap (λ (k : Class). movement_as k c.args.i.now (view_of c.args.at.now) c.args.base c.args.stride words) (sym c.in-VectorStore.ensures))

pub known_accesses-requires-in-VectorStore-clause-among : goal.known_accesses-requires-in-VectorStore-clause-among
known_accesses-requires-in-VectorStore-clause-among g c =
    let words = g.S.WordFile.words c.args.file.now in
    c.requires.among (movement c.in-VectorStore.addressing c.in-VectorStore.encoded c.args.i.now (view_of c.args.at.now) c.args.base c.args.stride words)
    (ap (λ (k : Class). movement_as k c.args.i.now (view_of c.args.at.now) c.args.base c.args.stride words) (sym c.in-VectorStore.ensures))
