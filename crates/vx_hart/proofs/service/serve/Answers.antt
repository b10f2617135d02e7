-- A service other than exit.
use Rattle.std.proofs.Common.{◌≡◌, ◌∙◌, ◌==◌, false, ap, arith}
use Rattle.std.proofs.lemmas.Bool.Decides.{nat_tests}
use Rattle.vx_flat.specs.Outcome.Outcome.{Next}
use Rattle.vx_flat.specs.State.{Flat}
use Rattle.vx_hart.specs.Outcomes.{flat_of}
use Rattle.vx_hart.proofs.Written.{ecall-other}
use Rattle.vx_hart.proofs.service.serve.Goals as goal

pub returns-clause-served : goal.returns-clause-served
returns-clause-served g c =
    let s : Flat = flat_of c.args.arch.now (g.M.Memory.state c.args.memory.now c.args.physical.now) c.args.output.now.items in
    let other : (c.read-number.result == 93) ≡ false = grind (arith, nat_tests, c.if-number-eq93.false) in
    ap Next (c.serve_other.ensures.answered) ∙ ecall-other s c.read-number.result c.read-number.ensures other
