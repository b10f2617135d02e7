-- What isn't refused is legal.
use Rattle.std.proofs.Common.{sym, ◌∙◌}
use Rattle.vx_decode.specs.Legal.{is_illegal}
use Rattle.vx_vstate.specs.Views.{view_of}
use Rattle.vx_hart.proofs.Calculated.{not-true}
use Rattle.vx_hart.proofs.arithmetic.calculation.Goals as goal

pub returns-clause-accepted : goal.returns-clause-accepted
returns-clause-accepted c = not-true (is_illegal c.args.i.now (view_of c.setting-at.result)) (sym c.legal.ensures ∙ c.if-not-legal.false)
