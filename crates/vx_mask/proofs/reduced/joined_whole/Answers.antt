-- One word more, all of whose elements are active.
use Rattle.vx_vstate.specs.Views.{view_of}
use Rattle.std.proofs.Common.{◌≡◌, ℕ, suc, ◌+◌, ◌*◌, ◌/◌, ◌<◌, ◌≤◌, ◌∙◌, IsTrue, true, sym, ap, subst, arith, mul-le-mul_right}
use Rattle.vx_bits.specs.Width.{is_width}
use Rattle.vx_packed.specs.Joined.{lane}
use Rattle.vx_rows.specs.Families.{operands_of}
use Rattle.vx_operands.specs.Forms.{reading}
use Rattle.vx_operands.specs.Rising.{joined_below}
use Rattle.vx_vector.specs.Reading.{element_of, is_active}
use Rattle.vx_operands.proofs.Even.{placed_word}
use Rattle.vx_operands.proofs.Groups.{count_some}
use Rattle.vx_operands.proofs.ByIndex.{element_width}
use Rattle.vx_operands.proofs.Counts.{joined_none, joined_sum, joined_alike}
use Rattle.vx_mask.proofs.reduced.joined_whole.Goals as goal

pub loop-w-init : goal.loop-w-init
loop-w-init g c h e =
    let r = reading c.args.form (view_of c.args.at.now) c.args.regs.now (g.S.WordFile.words c.args.file.now) in
    let z : 0 * (64 / c.args.sew) ≡ 0 = omega arith in
    sym (ap (λ n. joined_below h c.args.start (is_active r) (element_of r c.args.regs.now.vs2 c.args.sew) n) z ∙ joined_none h c.args.start (is_active r) (element_of r c.args.regs.now.vs2 c.args.sew))

pub group_word-word-requires-clause-within : goal.group_word-word-requires-clause-within
group_word-word-requires-clause-within g c =
    let r = reading c.args.form (view_of c.args.at.now) c.args.regs.now (g.S.WordFile.words c.args.file.now) in
    let below : suc c.loop-w.w ≤ c.args.words = omega arith in
    let rows = mul-le-mul_right (64 / c.args.sew) below in
    let some = count_some c.args.sew c.requires.width in
    let most = c.requires.most in
    let early : c.loop-w.w * (64 / c.args.sew) < c.args.at.now.vl = omega (arith, rows, some, most) in
    placed_word r c.requires.sound.setting (operands_of c.args.form.family).vs2 c.args.regs.now.vs2 c.loop-w.w c.requires.vs2 c.requires.sound.vs2 (subst (λ n. IsTrue (is_width n)) c.requires.sew c.requires.width) (subst (λ n. c.loop-w.w * (64 / n) < c.args.at.now.vl) c.requires.sew early)

pub loop-w-preserved : goal.loop-w-preserved
loop-w-preserved g c h e =
    let r = reading c.args.form (view_of c.args.at.now) c.args.regs.now (g.S.WordFile.words c.args.file.now) in
    let per = 64 / c.args.sew in
    let f : ℕ → ℕ = element_of r c.args.regs.now.vs2 c.args.sew in
    let next : c.loop-w.w * per + per ≡ (c.loop-w.w + 1) * per = omega arith in
    let below : suc c.loop-w.w ≤ c.args.words = omega arith in
    let rows = mul-le-mul_right per below in
    c.folded_word-sum.ensures h e
    ∙ ap (λ p. joined_below h p (λ k. true) (λ k. lane c.args.sew c.group_word-word.result k) per) (c.loop-w.invariant h e)
    ∙ joined_alike h (joined_below h c.args.start (is_active r) f (c.loop-w.w * per)) (λ k. true) (λ k. is_active r (c.loop-w.w * per + k)) (λ k. lane c.args.sew c.group_word-word.result k) (λ k. f (c.loop-w.w * per + k)) per
    (λ k l. sym (c.requires.active (c.loop-w.w * per + k) (omega (arith, rows, l))))
    (λ k l. ap (λ x. lane c.args.sew x k) c.group_word-word.ensures ∙ sym (c.elements_are_lanes.ensures.lane c.args.at.now.vlen (g.S.WordFile.words c.args.file.now) c.args.regs.now.vs2 c.args.sew c.loop-w.w k (element_width c.args.sew c.requires.width) l))
    ∙ sym (joined_sum h c.args.start (is_active r) f (c.loop-w.w * per) per)
    ∙ ap (λ n. joined_below h c.args.start (is_active r) f n) next

pub returns : goal.returns
returns g c h e =
    let r = reading c.args.form (view_of c.args.at.now) c.args.regs.now (g.S.WordFile.words c.args.file.now) in
    let end : c.loop-w.w ≡ c.args.words = omega arith in
    c.loop-w.invariant h e
    ∙ ap (λ n. joined_below h c.args.start (is_active r) (element_of r c.args.regs.now.vs2 c.args.sew) (n * (64 / c.args.sew))) end
