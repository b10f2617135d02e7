-- What the fields of a system keep: its engine is that of its options, and the bounds of its numbers. This project's own.
use Rattle.std.specs.Prelude.{◌≡◌, ◌≤◌, ◌^◌, vec_len, vec_capacity}
use Rattle.std.specs.Option.{ForSome}
use Rattle.vx_pipe.specs.Left.{organisation_of}
use Rattle.vx_system.specs.declared.system.System.TheInside.{Inside}

pub record IsKept (s : Inside) : Type 0 where
  pub machine : s.pipe.machine ≡ organisation_of s.options
  pub reserved : 2 ^ 20 ≤ vec_capacity s.output
  pub within : vec_len s.output ≤ 2 ^ 20
  pub clock : s.clock ≤ 2 ^ 44
  pub cycles : s.cycles ≤ s.clock
  pub count : s.count ≤ s.clock
  pub slice_end : ForSome s.slice_end (λ end. end ≤ 2 ^ 41)
