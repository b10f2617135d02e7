-- The elements from vstart up to vl whose mask lets them in.
use Rattle.vx_vstate.specs.Views.{view_of}
use Rattle.vx_operands.specs.Forms.{reading}
use Rattle.vx_operands.proofs.Even.{masked}
use Rattle.vx_operands.proofs.ByIndex.{active_at, count_is}
use Rattle.vx_operands.proofs.active.active_word.Goals as goal

pub returns : goal.returns
returns g c k l =
    let words = g.S.WordFile.words c.args.file.now in
    let r = reading c.args.form (view_of c.args.at.now) c.args.regs.now words in
    active_at r c.args.w c.args.count c.let_in.result c.mask_word-mask.result c.active_lanes.result k l c.requires.few (count_is r c.requires.elements) c.active_lanes.ensures (c.let_in.ensures.all (view_of c.args.at.now) words) (c.let_in.ensures.some (view_of c.args.at.now) words) (λ u. c.mask_word-mask.ensures.bits (masked r u))
