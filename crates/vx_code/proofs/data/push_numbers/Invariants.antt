use Rattle.std.proofs.Common.{◌≡◌, ◌++◌, ◌*◌, drop, flat_map}
use Rattle.vx_base.specs.Numbers.{reduced, little_endian}
use Rattle.vx_language.specs.Statements.{numbers_in}
use Rattle.vx_statement.specs.Lexemes.{pieces_of}
use Rattle.vx_code.proofs.Filling.{FillRest}
use Rattle.vx_code.proofs.data.push_numbers.Given as goal

abbrev pub invariant-loop-token : goal.invariant-loop-token
invariant-loop-token l = record {
  filled : FillRest l.tokens l.token-index l.rest;
  bytes : l.out.items ++ flat_map (λ value. little_endian l.count (reduced (8 * l.count) value)) (numbers_in (pieces_of (drop l.token-index l.tokens))) ≡ l.fn.out.items ++ flat_map (λ value. little_endian l.count (reduced (8 * l.count) value)) (numbers_in (pieces_of l.tokens));
}
