-- What a search finds among entries whose pages rise.
use Rattle.std.proofs.Common.{◌≡◌, ℕ, ◌<◌, ◌≤◌, true, false, ltb, List, length, Result, Ok, Err, MatchOption, sym, ap, arith}
use Rattle.std.specs.List.Sorted.{IsSearchInRange, IsBinarySearchResult, IsNonDecreasingBy, IsPartitionedBy, IsPartitionPoint}
use Rattle.std.specs.Result.{result_ok}
use Rattle.std.specs.declared.cmp.Ordering.TheVariants.{Less, Greater}
use Rattle.std.specs.Ordering.{nat_cmp, ordering_index}
use Rattle.std.proofs.lemmas.Cmp.{ranked}
use Rattle.std.proofs.lemmas.List.Sorted.{IsNonDecreasingBy-from_default, IsPartitionedBy-ltb}
use Rattle.std.proofs.lemmas.Bool.{ltb-true, ltb-false}
use Rattle.std.proofs.lemmas.Bool.Decides.{nat_tests}
use Rattle.vx_base.specs.declared.perm.PageEntry.{PageEntry}
use Rattle.vx_image.specs.Kept.{entry_at, IsRising, IsPlaceOf, IsPlaceFrom, Lacks}

module _ (entries : List PageEntry) (rising : IsRising entries) (page : ℕ) where
  -- the comparisons with the page rise along the list, as a binary search asks
  comparisons_rise : IsNonDecreasingBy (λ (entry : PageEntry). ordering_index (nat_cmp entry.page page)) entries
  comparisons_rise = IsNonDecreasingBy-from_default (λ (entry : PageEntry). ordering_index (nat_cmp entry.page page)) entries (record { page = 0; perm = record { bits = 0 } }) (λ i j le within.
      let pages_rise : (entry_at entries i).page ≤ (entry_at entries j).page = grind (arith, rising i j, λ (same : i ≡ j). ap (λ (n : ℕ). (entry_at entries n).page) same) in
      grind (arith, nat_tests))

  -- no entry has the page where it would stand between two places
  absent : (k : ℕ) → IsPartitionPoint (λ (entry : PageEntry). nat_cmp entry.page page ≡ Less) (λ (entry : PageEntry). nat_cmp entry.page page ≡ Greater) entries k → Lacks entries page
  absent k parted i below same =
      let d : PageEntry = record { page = 0; perm = record { bits = 0 } } in
      let before : i < k → (entry_at entries i).page < page = λ lt. ranked _ page _ (sym (parted.0 i d (omega arith) lt)) in
      let after : k ≤ i → page < (entry_at entries i).page = λ le. ranked _ page _ (sym (parted.1 i d le below)) in
      grind (arith, before, after)

  -- a binary search by page ends at the page's entry, or no entry has it
  pub searched : (r : Result ℕ ℕ) → IsSearchInRange r (length entries) → IsBinarySearchResult (λ (entry : PageEntry). nat_cmp entry.page page) entries r → MatchOption (result_ok r) (Lacks entries page) (IsPlaceOf entries page)
  searched (Ok k) within equal = record { within = within; same = ranked _ page _ (sym (equal (record { page = 0; perm = record { bits = 0 } }))) }
  searched (Err k) within parted = absent k (parted comparisons_rise)

-- the pages of entries before one that is below a page are below it
pub pages_partitioned : (entries : List PageEntry) → IsRising entries → (page : ℕ) → IsPartitionedBy (λ (entry : PageEntry). ltb entry.page page) entries
pages_partitioned entries rising page =
    IsPartitionedBy-ltb (λ (entry : PageEntry). entry.page) entries page
    (IsNonDecreasingBy-from_default (λ (entry : PageEntry). entry.page) entries (record { page = 0; perm = record { bits = 0 } }) (λ i j le within.
    grind (arith, rising i j, λ (same : i ≡ j). ap (λ (n : ℕ). (entry_at entries n).page) same)))

-- where the entries part, the page's and those above it begin
pub partition_is : (entries : List PageEntry) (page k : ℕ) → k ≤ length entries → IsPartitionPoint (λ (entry : PageEntry). ltb entry.page page ≡ true) (λ (entry : PageEntry). ltb entry.page page ≡ false) entries k → IsPlaceFrom entries page k
partition_is entries page k within parted =
    let d : PageEntry = record { page = 0; perm = record { bits = 0 } } in
    record {
      within = within;
      below = λ i lt. ltb-true _ _ (parted.0 i d (omega arith) lt);
      above = λ i le inside. ltb-false _ _ (parted.1 i d le inside);
    }
