-- Lists of mapped pages. This project's own, within the lower half of Sv39 (RISC-V Privileged 1.12, section 4.4).
use Rattle.std.specs.Prelude.{ℕ, ◌<◌, ◌≤◌, Bool, ◌==◌, ◌||◌, List, All, AllPairs, IsTrue}
use Rattle.vx_base.specs.declared.perm.PageEntry.{PageEntry}

-- among R 4, W 2 and X 1, with W only beside R and never beside X: none, X, R, R X and R W
abbrev pub is_page_permission : ℕ → Bool
is_page_permission bits = bits == 0 || bits == 1 || bits == 4 || bits == 5 || bits == 6

-- a page below address 2 ^ 38 with such permissions
pub record IsMapped (entry : PageEntry) : Type 0 where
  pub page : entry.page ≤ 67108863
  pub permission : IsTrue (is_page_permission entry.perm.bits)

-- mapped pages in rising order, each once
pub record IsPageList (entries : List PageEntry) : Type 0 where
  pub rising : AllPairs (λ one later. one.page < later.page) entries
  pub mapped : All IsMapped entries
