use Rattle.std.specs.Prelude.{string_bytes}
use Rattle.vx_top.proofs.Claimed.{Answers-from}
use Rattle.vx_top.proofs.tell.tell_refusal.Goals as goal

pub returns-in-TooFewFrames : goal.returns-in-TooFewFrames
returns-in-TooFewFrames g c =
    rw c.in-TooFewFrames.is (Answers-from string_bytes c.too_few_frames.result _ _ _ _ _ c.too_few_frames.ensures c.tell-in-TooFewFrames.ensures)
