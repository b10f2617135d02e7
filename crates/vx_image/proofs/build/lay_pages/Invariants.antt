-- The pages before the place have the segment's bytes, and the others are as they were.
use Rattle.std.proofs.Common.{◌≡◌, ℕ, ◌+◌, ◌*◌, ◌<◌, ◌≤◌, ltb, if◌then◌else◌, length, get_or}
use Rattle.vx_image.proofs.Filling.{laid_byte}
use Rattle.vx_image.proofs.build.lay_pages.Given as goal

abbrev pub invariant-loop-place : goal.invariant-loop-place
invariant-loop-place l = record {
  order : l.initial.place ≤ l.place;
  size : length l.bytes ≡ length l.initial.bytes;
  each : (k j : ℕ) → k < length l.entries → j < 4096 → get_or l.bytes (4096 * k + j) 0 ≡ (if ltb k l.place then laid_byte l.entries l.segment l.initial.bytes k j else get_or l.initial.bytes (4096 * k + j) 0);
}
