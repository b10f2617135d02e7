-- One lane more.
use Rattle.vx_vstate.specs.Views.{view_of}
use Rattle.std.proofs.Common.{◌≡◌, ℕ, ◌+◌, ◌*◌, ◌/◌, ◌<◌, sym, ap, subst, ◌∙◌, arith}
use Rattle.vx_operands.specs.Forms.{reading}
use Rattle.vx_packed.specs.Joined.{joined}
use Rattle.vx_vector.specs.Lists.{element_or_zero, gather_index}
use Rattle.vx_vector.specs.Reading.{element_of, lists_of}
use Rattle.vx_vstate.specs.Registers.{element_word, place_of, words_of_all}
use Rattle.vx_perm.proofs.Facts.{index_is, index_place}
use Rattle.vx_perm.proofs.Joining.{first_more, first_none}
use Rattle.vx_perm.proofs.gathers.narrow_lanes.Goals as goal

pub loop-k-init : goal.loop-k-init
loop-k-init c =
    let s = lists_of (reading c.args.form (view_of c.args.at.now) c.args.regs.now c.args.words.now) in
    first_none c.args.sew (λ k. element_or_zero s (gather_index s (c.args.w * (64 / c.args.sew) + k)))

pub element_in-index-requires-clause-within : goal.element_in-index-requires-clause-within
element_in-index-requires-clause-within c =
    let r = reading c.args.form (view_of c.args.at.now) c.args.regs.now c.args.words.now in
    let i : ℕ = c.args.w * (64 / c.args.sew) + c.loop-k.k in
    subst (λ n. place_of c.args.at.now.vlen c.args.regs.now.vs1 (element_word n i) < words_of_all c.args.at.now.vlen) (sym c.requires.index)
    (index_place r i c.requires.sound.setting c.requires.group c.requires.register c.requires.sound.vs1 (omega (arith, c.requires.below, c.loop-k-test.true)))

pub loop-k-preserved : goal.loop-k-preserved
loop-k-preserved c =
    let r = reading c.args.form (view_of c.args.at.now) c.args.regs.now c.args.words.now in
    let s = lists_of r in
    let i : ℕ = c.args.w * (64 / c.args.sew) + c.loop-k.k in
    let f : ℕ → ℕ = λ k. element_or_zero s (gather_index s (c.args.w * (64 / c.args.sew) + k)) in
    let below : i < c.args.at.now.vl = omega (arith, c.requires.below, c.loop-k-test.true) in
    first_more c.args.sew c.loop-k.k c.loop-k.value c.source_in-next.result c.low.result c.beside-value.result f c.loop-k.invariant
    (c.source_in-next.ensures ∙ ap (λ n. element_or_zero s n) (c.element_in-index.ensures ∙ ap (λ n. element_of r c.args.regs.now.vs1 n i) c.requires.index ∙ index_is r i c.requires.sound.setting c.requires.group c.requires.register below))
    c.low.ensures.value
    c.beside-value.ensures.value
    c.beside-value.ensures.below

pub returns : goal.returns
returns c =
    let s = lists_of (reading c.args.form (view_of c.args.at.now) c.args.regs.now c.args.words.now) in
    let end : c.loop-k.k ≡ 64 / c.args.sew = omega arith in
    c.loop-k.invariant.is ∙ ap (λ n. joined c.args.sew n (λ k. element_or_zero s (gather_index s (c.args.w * (64 / c.args.sew) + k)))) end
