-- A walk that begins has read nothing.
use Rattle.std.proofs.Common.{[], sym, subst}
use Rattle.vx_tables.specs.Walking.{IsWalk}
use Rattle.vx_tables.specs.declared.stage.Stage.{Stage}
use Rattle.vx_walk.proofs.walker.Walker.begin.Goals as goal

pub returns-clause-walk : goal.returns-clause-walk
returns-clause-walk c residency listed =
    subst (λ (s : Stage). IsWalk residency c.args.root (record { address = c.args.address; want = c.args.want; port = c.args.port; stage = s }) []) (sym c.first_stage.ensures.value)
    (c.steps_follow_the_tables.ensures.begins residency c.args.root c.args.address c.args.want c.args.port listed)
