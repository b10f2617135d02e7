use Rattle.std.proofs.Common.{◌≡◌, sym, ap, ◌∙◌, arith}
use Rattle.std.proofs.lemmas.Bool.{false≢true}
use Rattle.std.proofs.lemmas.Fmt.{decimal_injective}
use Rattle.vx_words.specs.Words.{row_of}
use Rattle.vx_read.specs.Settings.{option_of, given_to}
use Rattle.vx_read.proofs.Heads.{small}
use Rattle.vx_read.proofs.digits.number_for.Goals as goal

pub returns-in_default : goal.returns-in_default
returns-in_default c = λ number in_range is. c.in_default.ensures number (small (given_to c.args.setting number) in_range) is

pub returns-then-number-row : goal.returns-then-number-row
returns-then-number-row c = λ number in_range is.
    let same : number ≡ c.in-Some.number = decimal_injective number c.in-Some.number (small (given_to c.args.setting number) in_range) (omega arith) (sym is ∙ c.in-Some.ensures) in
    absurd (omega (arith, in_range.0))

pub returns-then-row-number : goal.returns-then-row-number
returns-then-row-number c = λ number in_range is.
    let same : number ≡ c.in-Some.number = decimal_injective number c.in-Some.number (small (given_to c.args.setting number) in_range) (omega arith) (sym is ∙ c.in-Some.ensures) in
    absurd (omega (arith, in_range.1))

pub returns-then-not-takes : goal.returns-then-not-takes
returns-then-not-takes c = λ number in_range is.
    let same : number ≡ c.in-Some.number = decimal_injective number c.in-Some.number (small (given_to c.args.setting number) in_range) (omega arith) (sym is ∙ c.in-Some.ensures) in
    false≢true (c.if-not-takes.ensures ∙ ap (row_of (option_of c.args.setting)).takes (sym same) ∙ in_range.2)
