use Rattle.std.proofs.Common.{◌≡◌, ◌++◌, ◌-◌, ◌≤◌}
use Rattle.vx_base.specs.Numbers.{little_endian}
use Rattle.vx_code.proofs.data.push_bytes.Given as goal

-- the bytes so far, and those of the rest, are the number's
abbrev pub invariant-loop : goal.invariant-loop
invariant-loop l = record {
  bytes : l.out.items ++ little_endian (l.count - l.counter) l.rest ≡ l.fn.out.items ++ little_endian l.fn.count l.fn.number;
  within : l.counter ≤ l.count;
}
