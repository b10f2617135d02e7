-- One word more, and at the end all of them.
use Rattle.std.proofs.Common.{◌≡◌, ◌<◌, ◌+◌, ◌∙◌, arith, ap, sym, subst, length, slice_set}
use Rattle.vx_packed.specs.Joined.{some_below}
use Rattle.vx_exec.specs.Executed.{reads}
use Rattle.vx_vector.specs.Arithmetic.{words_after}
use Rattle.vx_vector.specs.Laws.{word_saturates}
use Rattle.vx_vstate.specs.Registers.{word_at}
use Rattle.vx_vstate.specs.Views.{view_of}
use Rattle.vx_exec.proofs.Puts.{IsMadeBelow, made-before, made-more}
use Rattle.vx_exec.proofs.calculator.make_of.Goals as goal

pub loop-k-init : goal.loop-k-init
loop-k-init c =
    let r = reads c.args.i.now (view_of c.args.at.now) c.args.v.now.words in
    made-before (λ k. word_at c.args.at.now.vlen (words_after r) c.args.i.now.rd (c.args.run.first + k)) (λ k. word_saturates r (c.args.run.first + k)) c.args.done c.args.made.now c.requires.made c.requires.unsaturated

pub word_by-word-requires-clause-within : goal.word_by-word-requires-clause-within
word_by-word-requires-clause-within c = c.requires.within c.loop-k.k c.loop-k-test.true

pub loop-k-preserved : goal.loop-k-preserved
loop-k-preserved c =
    let r = reads c.args.i.now (view_of c.args.at.now) c.args.v.now.words in
    let less : c.loop-k.k < length c.args.made.now = omega (arith, c.requires.room, c.loop-k-test.true) in
    subst (λ s. IsMadeBelow (λ k. word_at c.args.at.now.vlen (words_after r) c.args.i.now.rd (c.args.run.first + k)) (λ k. word_saturates r (c.args.run.first + k)) (length c.args.made.now) (c.loop-k.k + 1) (slice_set c.loop-k.made c.loop-k.k c.word_by-word.result.value) s) (sym c.either-sat.ensures) (made-more _ _ (length c.args.made.now) c.loop-k.k c.word_by-word.result.value c.word_by-word.result.sat c.loop-k.made c.loop-k.sat c.loop-k.invariant less c.word_by-word.ensures.value c.word_by-word.ensures.sat)

pub returns-clause-sat : goal.returns-clause-sat
returns-clause-sat c =
    let r = reads c.args.i.now (view_of c.args.at.now) c.args.v.now.words in
    let end : c.loop-k.k ≡ c.args.run.count = omega arith in
    c.loop-k.invariant.sat ∙ ap (λ n. some_below n (λ k. word_saturates r (c.args.run.first + k))) end
