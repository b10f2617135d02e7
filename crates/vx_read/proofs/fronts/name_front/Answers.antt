use Rattle.std.proofs.Common.{sym, map, string_bytes}
use Rattle.vx_read.specs.Settings.{option_of, given_to}
use Rattle.vx_read.proofs.First.{bad_other_name, bad_second_name, bad_end, bad_number, given_in_two}
use Rattle.vx_read.proofs.fronts.name_front.Goals as goal

pub returns-then-not-is_for : goal.returns-then-not-is_for
returns-then-not-is_for c = λ word is. bad_other_name c.args.job c.args.numbers.now word (map string_bytes c.args.rest.now) (option_of c.args.setting) is (sym c.if-not-is_for.ensures)

pub returns-then-has : goal.returns-then-has
returns-then-has c = λ word is. bad_second_name c.args.job c.args.numbers.now word (map string_bytes c.args.rest.now) (option_of c.args.setting) is (sym c.if-has.ensures)

pub returns-in_default : goal.returns-in_default
returns-in_default c = λ word is. rw c.in_default.ensures (bad_end c.args.job c.args.numbers.now word (option_of c.args.setting) is (sym c.if-not-is_for.ensures) (sym c.if-has.ensures))

pub returns-in-Some-number_for : goal.returns-in-Some-number_for
returns-in-Some-number_for c = λ word is.
    rw c.in-Some.ensures (given_in_two c.args.job c.args.numbers.now word c.in-Some.text.now (map string_bytes c.in-Some.behind.now) (given_to c.args.setting c.in-Some-number_for.number) is c.in-Some-number_for.ensures.1 (sym c.if-not-is_for.ensures, c.in-Some-number_for.ensures.0) (sym c.if-has.ensures))

pub returns-in-None : goal.returns-in-None
returns-in-None c = λ word is.
    rw c.in-Some.ensures (bad_number c.args.job c.args.numbers.now word c.in-Some.text.now (map string_bytes c.in-Some.behind.now) (option_of c.args.setting) is (sym c.if-not-is_for.ensures) (sym c.if-has.ensures) c.in-None.ensures)
