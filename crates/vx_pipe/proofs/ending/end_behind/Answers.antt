-- The fetch takes the engine's bank time.
use Rattle.std.proofs.Common.{sym, ◌∙◌}
use Rattle.vx_pipe.proofs.ending.end_behind.Goals as goal

pub returns-clause-kept : goal.returns-clause-kept
returns-clause-kept g c start history first root_is time stands kept =
    c.fetch_behind.ensures.kept start history first root_is (time ∙ sym c.from-bank_time.ensures) stands kept
