-- By the words that are handled.
use Rattle.std.proofs.Common.{◌∙◌, ◌-◌, ap}
use Rattle.vx_rows.specs.Table.{class_of, shape_of}
use Rattle.vx_vector.specs.Instructions.{places_of}
use Rattle.vx_flat.specs.Vectors.{setting_at}
use Rattle.vx_vstate.specs.Views.{view_of}
use Rattle.vx_beats.specs.Words.{handled_operand}
use Rattle.vx_beats.proofs.Readings.{beats-are, reads-as}
use Rattle.vx_beats.proofs.count.beat_count.Goals as goal

pub returns-clause-reading : goal.returns-clause-reading
returns-clause-reading c r family at =
    beats-are r c.args.family (view_of c.args.at.now) c.handled_operand.result c.args.lanes c.words_of.result.first (c.words_of.result.after - c.words_of.result.first) c.groups_in.result family at (c.handled_operand.ensures ∙ ap handled_operand c.operands.ensures) c.words_of.ensures.words c.groups_in.ensures.groups

pub returns-clause-state : goal.returns-clause-state
returns-clause-state c s i r class at reads =
    let parts = reads-as (class_of i.op) (shape_of i.op) c.args.family (setting_at s i) (places_of i) s.v.words r class reads in
    returns-clause-reading c r parts.0 (parts.1 ∙ at)
