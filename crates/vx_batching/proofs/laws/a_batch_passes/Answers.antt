use Rattle.vx_batching.proofs.Passing.{passes, trims-off}
use Rattle.vx_batching.proofs.laws.a_batch_passes.Goals as goal

pub returns-clause-passes : goal.returns-clause-passes
returns-clause-passes c start history retired issued f own b rest looked committed before done next so none missing is =
    passes start history retired issued f own b rest looked committed before done next so is none missing

pub returns-clause-trimmed : goal.returns-clause-trimmed
returns-clause-trimmed c start history retired issued f own b rest looked committed before done next so trimmed is =
    trims-off start history retired issued f own b rest looked committed before done next so is trimmed
