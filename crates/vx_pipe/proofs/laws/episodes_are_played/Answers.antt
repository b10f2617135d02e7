use Rattle.vx_pipe.proofs.Playing.{begins, plays}
use Rattle.vx_pipe.proofs.laws.episodes_are_played.Goals as goal

pub returns-clause-begins : goal.returns-clause-begins
returns-clause-begins c = begins c.courses_go_on.ensures.begins c.shown_memory_is_alike.ensures.there

pub returns-clause-plays : goal.returns-clause-plays
returns-clause-plays c machine root until placement start from first cells registers why clock course output on kept over =
    plays c.shown_memory_is_alike.ensures.back c.walks_leave_pages.ensures.placed c.walks_leave_pages.ensures.alone machine root until placement start from first cells registers why clock course output on kept over
