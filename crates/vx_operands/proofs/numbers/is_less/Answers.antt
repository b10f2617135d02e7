-- The order stays.
use Rattle.std.proofs.Common.{◌∙◌}
use Rattle.std.specs.Prelude.{int_lt}
use Rattle.vx_base.specs.Numbers.{signed}
use Rattle.vx_operands.proofs.Signs.{raised_order}
use Rattle.vx_operands.proofs.numbers.is_less.Goals as goal

pub returns : goal.returns
returns c =
    c.is_less_word.ensures
    ∙ (λ i. int_lt (signed 64 (c.raised.ensures i)) (signed 64 (c.raised-2.ensures i)))
    ∙ raised_order c.args.width c.args.a c.args.b c.requires
