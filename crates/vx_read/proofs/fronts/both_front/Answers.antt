use Rattle.std.proofs.Common.{sym, map, string_bytes}
use Rattle.vx_read.specs.Settings.{option_of, given_to}
use Rattle.vx_read.proofs.First.{bad_other_both, bad_second_both, bad_both_number, given_in_one}
use Rattle.vx_read.proofs.fronts.both_front.Goals as goal

pub returns-then-not-is_for : goal.returns-then-not-is_for
returns-then-not-is_for c = λ word is. bad_other_both c.args.job c.args.numbers.now word (map string_bytes c.args.rest.now) (option_of c.args.setting) c.args.text.now is (sym c.if-not-is_for.ensures)

pub returns-then-has : goal.returns-then-has
returns-then-has c = λ word is. bad_second_both c.args.job c.args.numbers.now word (map string_bytes c.args.rest.now) (option_of c.args.setting) c.args.text.now is (sym c.if-has.ensures)

pub returns-in-Some : goal.returns-in-Some
returns-in-Some c = λ word is. given_in_one c.args.job c.args.numbers.now word c.args.text.now (map string_bytes c.args.rest.now) (given_to c.args.setting c.in-Some.number) is c.in-Some.ensures.1 (sym c.if-not-is_for.ensures, c.in-Some.ensures.0) (sym c.if-has.ensures)

pub returns-in-None : goal.returns-in-None
returns-in-None c = λ word is. bad_both_number c.args.job c.args.numbers.now word c.args.text.now (map string_bytes c.args.rest.now) (option_of c.args.setting) is c.in-None.ensures
