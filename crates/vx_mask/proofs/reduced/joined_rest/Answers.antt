-- One word more.
use Rattle.vx_vstate.specs.Views.{view_of}
use Rattle.std.proofs.Common.{◌≡◌, ℕ, ◌+◌, ◌*◌, ◌/◌, ◌%◌, ◌<◌, ◌≤◌, ◌∙◌, IsTrue, nat_eq, sym, ap, subst, arith, min, mul-le-mul_right}
use Rattle.std.proofs.lemmas.Grind.{div_ceil_times}
use Rattle.vx_bits.specs.Width.{is_width}
use Rattle.vx_packed.specs.Joined.{lane}
use Rattle.vx_rows.specs.Families.{operands_of}
use Rattle.vx_operands.specs.Forms.{reading}
use Rattle.vx_operands.specs.Rising.{joined_below}
use Rattle.vx_vector.specs.Reading.{element_of, is_active}
use Rattle.vx_operands.proofs.Even.{placed_word}
use Rattle.vx_operands.proofs.Merging.{behind}
use Rattle.vx_operands.proofs.Groups.{count_some}
use Rattle.vx_operands.proofs.ByIndex.{count_is, element_width}
use Rattle.vx_operands.proofs.Counts.{joined_sum, joined_alike, joined_front, word_begins}
use Rattle.vx_mask.proofs.reduced.joined_rest.Goals as goal

begins : (n count w words : ℕ) → 0 < count → words ≡ n / count + min 1 (n % count) → w < words → w * count < n
begins n count w words some e l =
    let most = div_ceil_times n count some in
    word_begins n count w words (subst (λ m. m * count < n + count) (sym e) most.1) l

ends : (n count words : ℕ) → 0 < count → words ≡ n / count + min 1 (n % count) → n ≤ words * count
ends n count words some e = subst (λ m. n ≤ m * count) (sym e) (div_ceil_times n count some).0

pub loop-w-init : goal.loop-w-init
loop-w-init g c h e x is = is

pub active_word-active-requires-clause-begins : goal.active_word-active-requires-clause-begins
active_word-active-requires-clause-begins g c = begins c.args.at.now.vl (64 / c.args.sew) c.loop-w.w c.div_ceil-w-end.result (count_some c.args.sew c.requires.width) c.div_ceil-w-end.ensures (omega arith)

pub group_word-word-requires-clause-within : goal.group_word-word-requires-clause-within
group_word-word-requires-clause-within g c =
    let r = reading c.args.form (view_of c.args.at.now) c.args.regs.now (g.S.WordFile.words c.args.file.now) in
    let early = begins c.args.at.now.vl (64 / c.args.sew) c.loop-w.w c.div_ceil-w-end.result (count_some c.args.sew c.requires.width) c.div_ceil-w-end.ensures (omega arith) in
    placed_word r c.requires.sound.setting (operands_of c.args.form.family).vs2 c.args.regs.now.vs2 c.loop-w.w c.requires.vs2 c.requires.sound.vs2 (subst (λ n. IsTrue (is_width n)) c.requires.sew c.requires.width) (subst (λ n. c.loop-w.w * (64 / n) < c.args.at.now.vl) c.requires.sew early)

pub loop-w-preserved : goal.loop-w-preserved
loop-w-preserved g c h e x is =
    let r = reading c.args.form (view_of c.args.at.now) c.args.regs.now (g.S.WordFile.words c.args.file.now) in
    let per = 64 / c.args.sew in
    let f : ℕ → ℕ = element_of r c.args.regs.now.vs2 c.args.sew in
    let next : c.loop-w.w * per + per ≡ (c.loop-w.w + 1) * per = omega arith in
    c.joined_word-sum.ensures h e
    ∙ ap (λ p. joined_below h p (λ k. nat_eq (lane 1 c.active_word-active.result k) 1) (λ k. lane c.args.sew c.group_word-word.result k) per) (c.loop-w.invariant h e x is)
    ∙ joined_alike h (joined_below h x (is_active r) f (c.loop-w.w * per)) (λ k. nat_eq (lane 1 c.active_word-active.result k) 1) (λ k. is_active r (c.loop-w.w * per + k)) (λ k. lane c.args.sew c.group_word-word.result k) (λ k. f (c.loop-w.w * per + k)) per
    c.active_word-active.ensures
    (λ k l. ap (λ x. lane c.args.sew x k) c.group_word-word.ensures ∙ sym (c.elements_are_lanes.ensures.lane c.args.at.now.vlen (g.S.WordFile.words c.args.file.now) c.args.regs.now.vs2 c.args.sew c.loop-w.w k (element_width c.args.sew c.requires.width) l))
    ∙ sym (joined_sum h x (is_active r) f (c.loop-w.w * per) per)
    ∙ ap (λ n. joined_below h x (is_active r) f n) next

pub returns : goal.returns
returns g c h e x is =
    let r = reading c.args.form (view_of c.args.at.now) c.args.regs.now (g.S.WordFile.words c.args.file.now) in
    let per = 64 / c.args.sew in
    let f : ℕ → ℕ = element_of r c.args.regs.now.vs2 c.args.sew in
    let count = count_is r c.requires.elements in
    let late : c.div_ceil-w-end.result ≤ c.loop-w.w = omega arith in
    let rows = mul-le-mul_right per late in
    let all = ends c.args.at.now.vl per c.div_ceil-w-end.result (count_some c.args.sew c.requires.width) c.div_ceil-w-end.ensures in
    let most : c.args.at.now.vl ≤ c.loop-w.w * per = omega (arith, rows, all) in
    c.loop-w.invariant h e x is
    ∙ joined_front h x (is_active r) f c.args.at.now.vl (c.loop-w.w * per) most (λ k late. behind r k (omega (arith, late, count)))
