-- How long vector arithmetic takes. This project's own.
use Rattle.std.specs.Prelude.{ℕ, zero, suc, ◌+◌, ◌*◌}
use Rattle.vx_rows.specs.declared.family.Unit.{Unit}
use Rattle.vx_episode.specs.History.{latency_of, step_of}

-- the cycles from the issue until an instruction completes that has so many beats on a unit
abbrev pub beats_span : Unit → (beats : ℕ) → ℕ
beats_span u zero = 1
beats_span u (suc n) = 1 + n * step_of u + latency_of u
