-- A row that tells a number.
use Rattle.std.proofs.Common.{◌≡◌, true, refl, sym, ap, ◌∙◌}
use Rattle.vx_mask.specs.Kinds.{is_telling}
use Rattle.vx_operands.specs.Forms.{family_in}
use Rattle.vx_vstate.specs.Views.{view_of}
use Rattle.vx_exec.specs.Executed.{reads}
use Rattle.vx_exec.proofs.Executes.{told-done}
use Rattle.vx_exec.proofs.calculator.Calculator.execute.Goals as goal

pub returns-then-is_telling-clause-done : goal.returns-then-is_telling-clause-done
returns-then-is_telling-clause-done c =
    let r = reads c.args.i.now (view_of c.args.at.now) c.args.v.now.words in
    let tells : is_telling r.family ≡ true = ap (λ k. is_telling (family_in k)) c.requires.class ∙ sym c.is_telling.ensures ∙ c.if-is_telling.true in
    told-done r c.args.v.now c.finish.new.self tells (c.other_words_stay.ensures.telling r c.scalar_of-number.result c.scalar_of-number.ensures) refl c.finish.ensures
