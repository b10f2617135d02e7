-- What stands at the pc, and its instruction.
use Rattle.std.proofs.Common.{Some, None, sym}
use Rattle.vx_hart.proofs.finding.find.Goals as goal
use Rattle.vx_hart.specs.Outcomes.{flat_of}
use Rattle.vx_hart.proofs.Calls.{upcoming-denied, upcoming-word}

pub returns-in_default : goal.returns-in_default
returns-in_default g c = record {
  fits = c.word.ensures.fits;
  rest = c.word.ensures.rest;
  memory = c.word.ensures.memory;
  valid = tt;
  found = λ output. upcoming-denied (flat_of c.args.arch.now (g.M.Memory.state c.args.memory.now c.args.physical.now) output) c.in_default.ensures.word;
}

pub returns-in_default-lookup : goal.returns-in_default-lookup
returns-in_default-lookup g c = record {
  fits = c.word.ensures.fits;
  rest = c.word.ensures.rest;
  memory = c.word.ensures.memory;
  valid = tt;
  found = λ output. upcoming-word (flat_of c.args.arch.now (g.M.Memory.state c.args.memory.now c.args.physical.now) output) c.in-Some.word None
      c.in-Some.ensures.word.0 c.in-Some.ensures.word.1 c.in_default-lookup.ensures;
}

pub returns : goal.returns
returns g c = record {
  fits = c.word.ensures.fits;
  rest = c.word.ensures.rest;
  memory = c.word.ensures.memory;
  valid = c.decoded_is_valid.ensures c.in-Some.word c.in-Some-lookup.known.now.instr (sym c.in-Some-lookup.ensures);
  found = λ output. upcoming-word (flat_of c.args.arch.now (g.M.Memory.state c.args.memory.now c.args.physical.now) output) c.in-Some.word (Some c.in-Some-lookup.known.now.instr)
      c.in-Some.ensures.word.0 c.in-Some.ensures.word.1 c.in-Some-lookup.ensures;
}
