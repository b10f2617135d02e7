-- The bytes so far have been appended, and there is room for the rest.
use Rattle.std.proofs.Common.{◌≡◌, ◌+◌, ◌-◌, ◌≤◌, ◌++◌, vec_len, vec_capacity}
use Rattle.vx_flat.specs.Memory.{bytes_at}
use Rattle.vx_image.specs.Kept.{pages_of}
use Rattle.vx_alone.proofs.memory.append_readable.Given as goal

abbrev pub invariant-loop-done : goal.invariant-loop-done
invariant-loop-done l = record {
  within : l.done ≤ l.count;
  appended : l.out.items ≡ l.initial.out.items ++ bytes_at (pages_of l.entries l.bytes) l.address l.done;
  room : vec_len l.out + l.count ≤ vec_capacity l.out + l.done;
  capacity : vec_capacity l.initial.out ≤ vec_capacity l.out;
}

abbrev pub decreases-loop-done : goal.decreases-loop-done
decreases-loop-done l = l.count - l.done
