use Rattle.vx_cells.specs.Cells.{CellsState}
use Rattle.vx_top.proofs.Headlined.{AccountsAreTrue, Headline-from, system-from}
use Rattle.vx_top.proofs.run.run_machine.Goals as goal

pub run-stop-requires : goal.run-stop-requires
run-stop-requires g c = record { stands = system-from c.args.options.now c.args.image.now _ _ c.in_ok-system.system c.in_ok-system.ensures.booted }

pub returns-clause-ran : goal.returns-clause-ran
returns-clause-ran g c =
    let law : AccountsAreTrue = record { told = c.accounts_are_true.ensures.told; boot = c.accounts_are_true.ensures.boot; alone = c.accounts_are_true.ensures.alone } in
    let booted = c.in_ok-system.ensures.booted in
    (booted.room, Headline-from law c.args.options.now c.args.image.now _ _ _ _ _ c.run-stop.result c.in_ok-text.text booted c.run-stop.ensures c.in_ok-text.ensures)
