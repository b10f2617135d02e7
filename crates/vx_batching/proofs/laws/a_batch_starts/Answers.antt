use Rattle.std.proofs.Common.{◌+◌, max, ◌++◌, ap}
use Rattle.vx_episode.specs.Batches.{batch_started}
use Rattle.vx_episode.specs.Cycles.Cycle.{At}
use Rattle.vx_episode.specs.History.{batches_of}
use Rattle.vx_batching.proofs.Started.{times-looked}
use Rattle.vx_batching.proofs.Starting.{starts}
use Rattle.vx_batching.proofs.laws.a_batch_starts.Goals as goal

pub returns-clause-starts : goal.returns-clause-starts
returns-clause-starts c start history retired issued f own b rest looked committed before done so = starts start history retired issued f own b rest looked committed before done so

pub returns-clause-times : goal.returns-clause-times
returns-clause-times c start history retired issued f own b rest looked committed before done so =
    ap (batch_started start history (own ++ batches_of history) f b) (starts start history retired issued f own b rest looked committed before done so)

pub returns-clause-looks_up : goal.returns-clause-looks_up
returns-clause-looks_up c start history retired issued f own b rest looked committed before done so =
    let up = times-looked start history (own ++ batches_of history) (At issued) f b (max looked before + 1) (starts start history retired issued f own b rest looked committed before done so) in
    (up.looked, (up.is, up.started_so.from))
