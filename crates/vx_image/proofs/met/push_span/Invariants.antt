-- The pages so far are those from the first to below the next.
use Rattle.std.proofs.Common.{◌≡◌, ℕ, ◌≤◌, ◌||◌, ◌&&◌, leb, ltb}
use Rattle.vx_image.specs.Building.{is_among}
use Rattle.vx_image.proofs.met.push_span.Given as goal

abbrev pub invariant-loop-page : goal.invariant-loop-page
invariant-loop-page l = record {
  order : l.initial.page ≤ l.page;
  met : (number : ℕ) → is_among l.pages.items number ≡ (is_among l.initial.pages.items number || (leb l.initial.page number && ltb number l.page));
}
