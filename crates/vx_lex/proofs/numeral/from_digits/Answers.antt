use Rattle.std.proofs.Common.{◌≡◌, ◌^◌, ◌+◌, ◌*◌, get_or, min, arith, sym, ◌∙◌, ap}
use Rattle.std.proofs.Math.Nat.{min-eq_left}
use Rattle.vx_language.specs.Numerals.{from_digits, digit_value}
use Rattle.vx_lex.proofs.Digits.{digits_behind-more, digits_behind-end}
use Rattle.vx_lex.proofs.numeral.from_digits.Goals as goal

pub loop-digit-preserved : goal.loop-digit-preserved
loop-digit-preserved c =
    let next : c.min-value.result ≡ min (c.loop-digit.value * c.args.base + digit_value (get_or c.args.digits.now c.loop-digit.digit-index 0)) (2 ^ 64) = cc in (
      omega (arith, c.min-value.ensures),
      digits_behind-more c.args.base (2 ^ 64) c.loop-digit.value c.min-value.result c.args.digits.now c.loop-digit.digit-index c.requires.some (omega arith) next
          ∙ c.loop-digit.invariant.1,
    )

pub returns : goal.returns
unfolding from_digits
returns c =
    let rest = digits_behind-end c.args.base c.loop-digit.value c.args.digits.now c.loop-digit.digit-index (omega arith) in
    sym (min-eq_left c.loop-digit.invariant.0) ∙ (sym (ap (λ v. min v (2 ^ 64)) rest) ∙ c.loop-digit.invariant.1)
