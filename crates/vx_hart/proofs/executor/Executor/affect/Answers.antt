-- What an effect leads to is what the instruction's meaning does.
use Rattle.std.proofs.Common.{[], ◌∙◌, refl}
use Rattle.vx_flat.specs.State.{Flat}
use Rattle.vx_flat.specs.Step.{affect}
use Rattle.vx_rows.specs.Table.{class_of}
use Rattle.vx_hart.specs.Outcomes.{flat_of}
use Rattle.vx_hart.proofs.Calls.{asks-nothing, outcome-affect}
use Rattle.vx_hart.proofs.executor.Executor.affect.Goals as goal

pub returns-clause-performed : goal.returns-clause-performed
returns-clause-performed c word memory output =
    let i = c.args.i.now in
    c.affect.ensures memory output ∙ outcome-affect (flat_of c.args.arch.now memory output) word i (class_of i.op) refl c.requires.class

pub returns-clause-never_asks : goal.returns-clause-never_asks
returns-clause-never_asks c =
    let i = c.args.i.now in
    let s : Flat = flat_of c.args.arch.now [] [] in
    asks-nothing c.affect.result c.affect.new.last (flat_of c.affect.new.arch [] []) (affect s i) (c.affect.ensures [] [])
