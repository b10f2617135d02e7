-- Memory by page, which accesses it lets through, and where a process begins: RISC-V Privileged 1.12, section 4.4 (Sv39: pages
-- of 4,096 bytes, canonical addresses).
use Rattle.std.specs.Prelude.{ℕ, ◌-◌, ◌/◌, ◌^◌, Bool, false, ◌==◌, ◌&&◌, ◌||◌, List, [], ◌∷◌, Option, Some, None, if◌then◌else◌}
use Rattle.std.specs.Option.{option_map_or}
use Rattle.vx_base.specs.Permissions.{grants}
use Rattle.vx_base.specs.declared.machine.Want.{Want}

pub record MappedPage : Type 0 where
  -- its address divided by 4,096
  pub number : ℕ
  -- R 4, W 2 and X 1
  pub permissions : ℕ
  -- its 4,096 bytes
  pub bytes : List ℕ

-- the mapped pages, in rising order of their numbers
abbrev pub Memory : Type 0
Memory = List MappedPage

-- the mapped page of that number
abbrev pub page_numbered : ℕ → Memory → Option MappedPage
page_numbered number [] = None
page_numbered number (page ∷ memory) = if page.number == number then Some page else page_numbered number memory

-- the number of an address's page
abbrev pub page_of : ℕ → ℕ
page_of address = address / 4096

-- bits 63 to 39 equal bit 38
abbrev pub is_canonical : ℕ → Bool
is_canonical address = address / 2 ^ 38 == 0 || address / 2 ^ 38 == 2 ^ 26 - 1

-- the page of an address is mapped and grants an access
abbrev pub is_granted : Memory → (address : ℕ) → Want → Bool
is_granted memory address want =
    option_map_or (λ (page : MappedPage). grants page.permissions want) (page_numbered (page_of address) memory) false

-- the address is canonical, and its page is mapped and grants the access
abbrev pub permits : Memory → (address : ℕ) → Want → Bool
permits memory address want = is_canonical address && is_granted memory address want

-- where a process begins, and its memory then
pub record Image : Type 0 where
  pub entry : ℕ
  pub pages : Memory
