use Rattle.std.proofs.Common.{append_assoc}
use Rattle.vx_top.proofs.fault_notes.entry_not_code.Goals as goal

pub returns : goal.returns
returns c =
    rw c.in_ok-push_str.ensures.bytes
    (rw c.in_ok-push_hex.ensures
    (rw c.in_ok-text.ensures.ok
    (simp append_assoc)))
