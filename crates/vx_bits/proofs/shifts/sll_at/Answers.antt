use Rattle.std.proofs.Common.{◌*◌, ◌%◌, ◌^◌, ◌∙◌, sym, ap}
use Rattle.std.proofs.lemmas.Nat.{mul-mod_first}
use Rattle.vx_bits.proofs.Readings.{mod-narrow, width_bounds}
use Rattle.vx_bits.proofs.shifts.sll_at.Goals as goal

pub returns-clause-value : goal.returns-clause-value
returns-clause-value c =
    let width = c.args.width in
    let power = 2 ^ c.amount.result in
    let bounds = width_bounds width c.requires in
    c.low.ensures.value ∙ mod-narrow (c.args.a * power) 64 width bounds.1 ∙ sym (mul-mod_first c.args.a power (2 ^ width)) ∙ ap (λ k. c.args.a % 2 ^ width * 2 ^ k % 2 ^ width) c.amount.ensures.value
