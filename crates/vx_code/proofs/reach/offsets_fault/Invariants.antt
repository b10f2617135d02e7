use Rattle.std.proofs.Common.{◌≡◌, drop}
use Rattle.vx_language.specs.Faults.{first_of, earliest}
use Rattle.vx_language.specs.Places.{offset_faults}
use Rattle.vx_statement.specs.Lexemes.{pieces_of}
use Rattle.vx_statement.specs.Ways.{commas_in, way_slots}
use Rattle.vx_code.specs.Aiming.{aim_of}
use Rattle.vx_code.proofs.Filling.{FillRest}
use Rattle.vx_code.proofs.reach.offsets_fault.Given as goal

abbrev pub invariant-loop-token : goal.invariant-loop-token
invariant-loop-token l = record {
  filled : FillRest l.tokens l.token-index l.rest;
  judged : earliest l.found (first_of (offset_faults (aim_of l.aim) (way_slots (commas_in (pieces_of (drop l.token-index l.tokens))) l.rest) (pieces_of (drop l.token-index l.tokens)))) ≡ first_of (offset_faults (aim_of l.aim) (way_slots (commas_in (pieces_of l.tokens)) l.way) (pieces_of l.tokens));
}
