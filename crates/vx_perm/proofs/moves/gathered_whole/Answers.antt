-- The indices are lanes of one word.
use Rattle.vx_vstate.specs.Views.{view_of}
use Rattle.std.proofs.Common.{◌+◌, ◌*◌, ◌/◌, ◌%◌, ◌^◌, ap, ◌∙◌, arith}
use Rattle.vx_operands.specs.Forms.{reading}
use Rattle.vx_packed.specs.Joined.{lane}
use Rattle.vx_operands.proofs.ByIndex.{element_width}
use Rattle.vx_vector.specs.Lists.{element_or_zero, gather_index}
use Rattle.vx_vector.specs.Reading.{lists_of}
use Rattle.vx_perm.proofs.Joining.{count_some, index_lane, index_word}
use Rattle.vx_perm.proofs.moves.gathered_whole.Goals as goal

pub group_word-indices-requires-clause-within : goal.group_word-indices-requires-clause-within
group_word-indices-requires-clause-within g c =
    let r = reading c.args.form (view_of c.args.at.now) c.args.regs.now (g.S.WordFile.words c.args.file.now) in
    let some = count_some c.args.sew c.requires.width in
    let below = c.requires.below in
    index_word r c.args.w c.args.sew c.requires.sound.setting c.requires.group c.requires.family c.requires.register c.requires.sew c.requires.width c.requires.sound.vs1 (omega (arith, some, below))

pub returns : goal.returns
returns g c =
    let r = reading c.args.form (view_of c.args.at.now) c.args.regs.now (g.S.WordFile.words c.args.file.now) in
    let s = lists_of r in
    let below = c.requires.below in
    c.gathered_lanes.ensures
    ∙ c.joined_by_elements.ensures.same c.args.sew (64 / c.args.sew) (λ k. element_or_zero s (lane c.args.sew c.group_word-indices.result k)) (λ k. element_or_zero s (gather_index s (c.args.w * (64 / c.args.sew) + k)))
    (λ k l.
    ap (λ n. element_or_zero s n % 2 ^ c.args.sew)
    (index_lane c.elements_are_lanes.ensures.lane r c.args.w c.args.sew c.group_word-indices.result k c.requires.sound.setting c.requires.group c.requires.family c.requires.register c.requires.sew (element_width c.args.sew c.requires.width) c.group_word-indices.ensures l (omega (arith, below, l))))
