-- One word more.
use Rattle.vx_vstate.specs.Views.{view_of}
use Rattle.std.proofs.Common.{◌≡◌, ℕ, ◌+◌, ◌*◌, ◌/◌, ◌<◌, ◌≤◌, ◌∙◌, Bool, ◌&&◌, ltb, sym, ap, arith}
use Rattle.vx_operands.specs.Forms.{reading}
use Rattle.vx_operands.specs.Rising.{count_below, mark}
use Rattle.vx_operands.proofs.Counts.{count_zero, count_sum, count_alike, count_most, count_front}
use Rattle.vx_mask.proofs.Bitwise.{set}
use Rattle.vx_mask.proofs.marks.count_marks.Goals as goal

pub loop-v-init : goal.loop-v-init
loop-v-init g c =
    let r = reading c.args.form (view_of c.args.at.now) c.args.regs.now (g.S.WordFile.words c.args.file.now) in
    let h : ℕ → Bool = λ i. ltb i c.args.n && mark r i in
    let z : 0 * 64 ≡ 0 = omega arith in
    sym (ap (λ n. count_below h n) z ∙ count_zero h)

pub overflow_add-total : goal.overflow_add-total
overflow_add-total g c =
    let r = reading c.args.form (view_of c.args.at.now) c.args.regs.now (g.S.WordFile.words c.args.file.now) in
    let h : ℕ → Bool = λ i. ltb i c.args.n && mark r i in
    let most = count_most h (c.loop-v.v * 64) in
    let is : c.loop-v.total ≡ count_below h (c.loop-v.v * 64) = c.loop-v.invariant in
    let few = c.ones_before-total.ensures.few in
    omega (arith, most, is, few)

pub loop-v-preserved : goal.loop-v-preserved
loop-v-preserved g c =
    let r = reading c.args.form (view_of c.args.at.now) c.args.regs.now (g.S.WordFile.words c.args.file.now) in
    let h : ℕ → Bool = λ i. ltb i c.args.n && mark r i in
    let is : c.loop-v.total ≡ count_below h (c.loop-v.v * 64) = c.loop-v.invariant in
    let new : c.ones_before-total.result ≡ count_below (λ k. h (c.loop-v.v * 64 + k)) 64 =
    c.ones_before-total.ensures.value
    ∙ count_alike (λ k. ltb (c.loop-v.v * 64 + k) c.args.n && set c.marks_word-marks.result k) (λ k. h (c.loop-v.v * 64 + k)) 64 (λ k l. ap (λ b. ltb (c.loop-v.v * 64 + k) c.args.n && b) (c.marks_word-marks.ensures k l)) in
    let next : (c.loop-v.v + 1) * 64 ≡ c.loop-v.v * 64 + 64 = omega arith in
    (λ i. is i + new i) ∙ sym (ap (λ n. count_below h n) next ∙ count_sum h (c.loop-v.v * 64) 64)

pub returns-clause-value : goal.returns-clause-value
returns-clause-value g c =
    let r = reading c.args.form (view_of c.args.at.now) c.args.regs.now (g.S.WordFile.words c.args.file.now) in
    let is : c.loop-v.total ≡ count_below (λ i. ltb i c.args.n && mark r i) (c.loop-v.v * 64) = c.loop-v.invariant in
    is ∙ count_front (mark r) c.args.n (c.loop-v.v * 64) (omega arith)

pub returns-clause-few : goal.returns-clause-few
returns-clause-few g c =
    let r = reading c.args.form (view_of c.args.at.now) c.args.regs.now (g.S.WordFile.words c.args.file.now) in
    let is : c.loop-v.total ≡ count_below (λ i. ltb i c.args.n && mark r i) (c.loop-v.v * 64) = c.loop-v.invariant in
    let e = is ∙ count_front (mark r) c.args.n (c.loop-v.v * 64) (omega arith) in
    let most = count_most (mark r) c.args.n in
    omega (arith, e, most)
