-- One word more.
use Rattle.vx_vstate.specs.Views.{view_of}
use Rattle.std.proofs.Common.{◌*◌, arith}
use Rattle.vx_operands.specs.Forms.{reading}
use Rattle.vx_perm.proofs.Facts.{passing_none, passing_more, passing_stops, passing_ends, passing_small}
use Rattle.vx_perm.proofs.packs.pass_words.Goals as goal

pub loop-v-init : goal.loop-v-init
loop-v-init g c =
    let r = reading c.args.form (view_of c.args.at.now) c.args.regs.now (g.S.WordFile.words c.args.file.now) in
    passing_none r c.args.target

pub overflow_add-chosen : goal.overflow_add-chosen
overflow_add-chosen g c =
    let r = reading c.args.form (view_of c.args.at.now) c.args.regs.now (g.S.WordFile.words c.args.file.now) in
    let small = passing_small r c.args.target (c.loop-v.v * 64) c.loop-v.chosen c.loop-v.invariant in
    let few = c.chosen_in_word-more.ensures.few in
    omega (arith, small, few)

pub overflow_add-chosen-in-loop-v : goal.overflow_add-chosen-in-loop-v
overflow_add-chosen-in-loop-v g c =
    let r = reading c.args.form (view_of c.args.at.now) c.args.regs.now (g.S.WordFile.words c.args.file.now) in
    let small = passing_small r c.args.target (c.loop-v.v * 64) c.loop-v.chosen c.loop-v.invariant in
    let few = c.chosen_in_word-more.ensures.few in
    omega (arith, small, few)

pub loop-v-preserved : goal.loop-v-preserved
loop-v-preserved g c =
    let r = reading c.args.form (view_of c.args.at.now) c.args.regs.now (g.S.WordFile.words c.args.file.now) in
    passing_more r c.args.target c.loop-v.v c.loop-v.chosen c.chosen_in_word-more.result c.loop-v.invariant c.chosen_in_word-more.ensures.value (omega arith)

pub returns-then-target-chosen : goal.returns-then-target-chosen
returns-then-target-chosen g c =
    let r = reading c.args.form (view_of c.args.at.now) c.args.regs.now (g.S.WordFile.words c.args.file.now) in
    passing_stops r c.args.target (c.loop-v.v * 64) c.loop-v.chosen c.loop-v.invariant (omega arith)

pub returns : goal.returns
returns g c =
    let r = reading c.args.form (view_of c.args.at.now) c.args.regs.now (g.S.WordFile.words c.args.file.now) in
    passing_ends r c.args.target (c.loop-v.v * 64) c.loop-v.chosen c.loop-v.invariant (omega arith)
