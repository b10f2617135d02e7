use Rattle.std.proofs.Common.{◌≡◌}
use Rattle.vx_language.specs.Code.{Code}
use Rattle.vx_code.specs.Aiming.{aim_of}
use Rattle.vx_code.specs.Filling.{seen}
use Rattle.vx_code.proofs.Filling.{FillRest, Going}
use Rattle.vx_code.proofs.fill.fill_all.Given as goal

-- what is filled in so far, and what the rest fills in, is what all tokens do
abbrev pub invariant-loop-token : goal.invariant-loop-token
invariant-loop-token l = record {
  filled : FillRest l.tokens l.token-index l.rest;
  going : (code : Code) → l.fn.start ≡ seen (aim_of l.aim) code → Going (aim_of l.aim) l.tokens l.token-index l.way l.rest l.now code;
}
