use Rattle.std.proofs.Common.{◌≡◌, ◌^◌, ◌≤◌, min, drop}
use Rattle.vx_lex.proofs.Digits.{digits_behind}
use Rattle.vx_lex.proofs.numeral.from_digits.Given as goal

-- the digits that are left, behind the value so far, give the number

abbrev pub invariant-loop-digit : goal.invariant-loop-digit
invariant-loop-digit l =
    (l.value ≤ 2 ^ 64) × (min (digits_behind l.base l.value (drop l.digit-index l.digits)) (2 ^ 64) ≡ min (digits_behind l.base 0 l.digits) (2 ^ 64))
