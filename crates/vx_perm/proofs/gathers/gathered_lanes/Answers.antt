-- The indices are lanes of one word.
use Rattle.vx_vstate.specs.Views.{view_of}
use Rattle.std.proofs.Common.{◌≡◌, ℕ, ◌+◌, ◌*◌, ◌/◌, ◌%◌, ◌^◌, ◌<◌, length, slice_index, ap, ◌∙◌, arith, rules}
use Rattle.vx_operands.specs.Forms.{reading}
use Rattle.vx_packed.specs.Joined.{lane}
use Rattle.vx_operands.proofs.ByIndex.{element_width}
use Rattle.vx_rows.specs.declared.family.Family.TheVariants.{Vrgather}
use Rattle.vx_rows.specs.declared.row.First.TheVariants.{Vector}
use Rattle.vx_vector.specs.Lists.{element_or_zero, gather_index}
use Rattle.vx_vector.specs.Reading.{lists_of}
use Rattle.vx_vstate.specs.Registers.{place_of, words_of_all}
use Rattle.vx_perm.proofs.Joining.{count_some, index_lane, index_word}
use Rattle.vx_perm.proofs.gathers.gathered_lanes.Goals as goal

pub word_in-word-requires : goal.word_in-word-requires
word_in-word-requires c =
    let r = reading c.args.form (view_of c.args.at.now) c.args.regs.now c.args.words.now in
    let family : c.args.form.family ≡ Vrgather = c.requires.family ∙ c.in-Vrgather.is in
    let register : c.args.form.first ≡ Vector = c.requires.registers (search rules) in
    let some = count_some c.args.sew c.requires.width in
    let there : place_of c.args.at.now.vlen c.args.regs.now.vs1 c.args.w < words_of_all c.args.at.now.vlen = index_word r c.args.w c.args.sew c.requires.sound.setting c.requires.group family register c.requires.sew c.requires.width c.requires.sound.vs1 (omega (arith, some, c.requires.below)) in
    omega (arith, there, c.requires.indices, c.requires.sound.count)

pub returns-in-Vrgather : goal.returns-in-Vrgather
returns-in-Vrgather c =
    let r = reading c.args.form (view_of c.args.at.now) c.args.regs.now c.args.words.now in
    let s = lists_of r in
    let family : c.args.form.family ≡ Vrgather = c.requires.family ∙ c.in-Vrgather.is in
    let register : c.args.form.first ≡ Vector = c.requires.registers (search rules) in
    let at : c.args.indices + c.args.w ≡ place_of c.args.at.now.vlen c.args.regs.now.vs1 c.args.w = omega (arith, c.requires.indices) in
    c.even_lanes.ensures
    ∙ c.joined_by_elements.ensures.same c.args.sew (64 / c.args.sew) (λ k. element_or_zero s (lane c.args.sew c.word_in-word.result k)) (λ k. element_or_zero s (gather_index s (c.args.w * (64 / c.args.sew) + k)))
    (λ k l.
    ap (λ n. element_or_zero s n % 2 ^ c.args.sew)
    (index_lane c.elements_are_lanes.ensures.lane r c.args.w c.args.sew c.word_in-word.result k c.requires.sound.setting c.requires.group family register c.requires.sew (element_width c.args.sew c.requires.width) (c.word_in-word.ensures.is ∙ ap (slice_index c.args.words.now) at) l (omega (arith, c.requires.below, l))))
