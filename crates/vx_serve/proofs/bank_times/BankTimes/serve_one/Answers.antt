use Rattle.std.proofs.Common.{◌∙◌, ap}
use Rattle.vx_serve.proofs.Stamped.{one-served}
use Rattle.vx_serve.specs.Fates.{told}
use Rattle.vx_serve.proofs.bank_times.BankTimes.serve_one.Goals as goal

pub returns-in-Good-clause-serves : goal.returns-in-Good-clause-serves
returns-in-Good-clause-serves c machine earlier access fate_of stands is =
    one-served c.args.self.now c.serve.new.self machine earlier access fate_of c.in-Good.cycle c.in-Good.word c.serve.result stands (is ∙ ap told c.in-Good.is) c.serve.ensures.done c.serve.ensures.served
