use Rattle.std.proofs.Common.{append_assoc}
use Rattle.vx_system.proofs.report.push_stopped.Goals as goal

pub returns : goal.returns
returns c =
    rw c.in_ok-extend_from_slice-2.ensures.items
    (rw c.as_bytes-2.ensures.value
    (rw c.in_ok-end.ensures.ok
    (rw c.in_ok-push_number.ensures
    (rw c.in_ok-extend_from_slice.ensures.items
    (rw c.as_bytes.ensures.value
    (rw c.in_ok-start.ensures.ok
    (simp append_assoc)))))))
