-- The old field is taken away, and the new one added.
use Rattle.std.proofs.Common.{◌≡◌, ◌+◌, ◌-◌, ◌*◌, ◌%◌, ◌^◌, ◌∙◌, arith}
use Rattle.vx_vstate.specs.Registers.{with_field}
use Rattle.vx_vaddr.proofs.Fields.{field-set, field-below, shifted}
use Rattle.vx_vaddr.proofs.values.with_field.Goals as goal

is : (c : goal.After-low-new) → c.args.word - c.low-old.result * 2 ^ c.args.first % 2 ^ 64 + c.low-new.result * 2 ^ c.args.first % 2 ^ 64 ≡ with_field c.args.word c.args.first c.args.count c.args.value
is c =
    let old = shifted c.low-old.result c.args.first c.args.count c.low-old.ensures.below c.requires.fits in
    let new = shifted c.low-new.result c.args.first c.args.count c.low-new.ensures.below c.requires.fits in
    (λ j. c.args.word - old j + new j)
    ∙ (λ j. c.args.word - c.low-old.ensures.value j * 2 ^ c.args.first + c.low-new.ensures.value j * 2 ^ c.args.first)
    ∙ field-set c.args.word c.args.first c.args.count c.args.value

pub overflow_add-result : goal.overflow_add-result
overflow_add-result c =
    let same = is c in
    let below = field-below c.args.word c.args.first c.args.count c.args.value c.requires.fits c.ranges.word.fits in
    omega arith

pub returns : goal.returns
returns c = is c
