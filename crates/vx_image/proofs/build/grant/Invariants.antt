-- The entries before the place have the permissions, and the others are as they were.
use Rattle.std.proofs.Common.{◌≡◌, ℕ, ◌<◌, ◌≤◌, ltb, if◌then◌else◌, length, get_or}
use Rattle.vx_base.specs.declared.perm.PageEntry.{PageEntry}
use Rattle.vx_image.specs.Building.{granted}
use Rattle.vx_image.proofs.build.grant.Given as goal

abbrev pub invariant-loop-place : goal.invariant-loop-place
invariant-loop-place l = record {
  order : l.initial.place ≤ l.place;
  size : length l.entries ≡ length l.initial.entries;
  each : (k : ℕ) (d : PageEntry) → k < length l.initial.entries → get_or l.entries k d ≡ (if ltb k l.place then granted l.segment (get_or l.initial.entries k d) else get_or l.initial.entries k d);
}
