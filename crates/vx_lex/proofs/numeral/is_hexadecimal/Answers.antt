use Rattle.std.proofs.Common.{◌≡◌, true}
use Rattle.vx_lex.proofs.Digits.{hex_digit_is_there}
use Rattle.vx_lex.proofs.numeral.is_hexadecimal.Goals as goal

pub returns-then-byte_at-eq120-clause-long : goal.returns-then-byte_at-eq120-clause-long
returns-then-byte_at-eq120-clause-long c is = hex_digit_is_there c.args.bytes.now 2 (let is : c.is_hex_digit.result ≡ true = is in cc)
