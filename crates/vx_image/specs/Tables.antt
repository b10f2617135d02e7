-- How many frames the page tables of an image take: RISC-V Privileged 1.12, section 4.4 (Sv39). The root, a table for each
-- region of 1 GiB and one for each region of 2 MiB that has a page.
use Rattle.std.specs.Prelude.{ℕ, ◌+◌, ◌/◌, ◌^◌, ◌==◌, List, [], ◌∷◌, map, if◌then◌else◌}
use Rattle.std.specs.List.{list_any}
use Rattle.vx_image.specs.Pages.{MappedPage, Memory}

-- how many different numbers a list has
abbrev pub distinct_count : List ℕ → ℕ
distinct_count [] = 0
distinct_count (n ∷ ns) = (if list_any (λ m. m == n) ns then 0 else 1) + distinct_count ns

-- how many regions of so many pages have one of the pages
abbrev pub region_count : ℕ → Memory → ℕ
region_count size pages = distinct_count (map (λ (page : MappedPage). page.number / size) pages)

abbrev pub table_frames : Memory → ℕ
table_frames pages = 1 + region_count (2 ^ 18) pages + region_count (2 ^ 9) pages
