use Rattle.std.proofs.Common.{subst, rules}
use Rattle.vx_flat.specs.Process.{Process}
use Rattle.vx_system.specs.Runs.{settings_of}
use Rattle.vx_system.specs.Solo.{RunsAlone}
use Rattle.vx_top.proofs.Headlined.{AccountsAreTrue, HeadlineAlone-from}
use Rattle.vx_top.proofs.run.run_flat.Goals as goal

pub returns : goal.returns
returns c =
    let law : AccountsAreTrue = record { told = c.accounts_are_true.ensures.told; boot = c.accounts_are_true.ensures.boot; alone = c.accounts_are_true.ensures.alone } in
    let runs = subst (λ (p : Process). RunsAlone c.args.options.now.budget p c.run_alone-stop.new.process c.run_alone-stop.result) c.in_ok-process.ensures c.run_alone-stop.ensures in
    HeadlineAlone-from law (settings_of c.args.options.now) c.args.image.now c.run_alone-stop.new.process c.run_alone-stop.result c.in_ok-text.text (search rules) runs c.in_ok-text.ensures
