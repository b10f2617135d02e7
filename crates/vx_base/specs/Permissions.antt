-- What a page's permissions let an access do. Their numbers are those of a program header's flags (ELF64), R 4, W 2 and
-- X 1, and not those of a page-table entry's bits.
use Rattle.std.specs.Prelude.{ℕ, Bool, bit_and, ◌==◌}
use Rattle.vx_base.specs.declared.machine.Want.{Want}
use Rattle.vx_base.specs.declared.machine.Want.TheVariants.{Fetch, Load, Store}

-- the permission that an access wants: X 1 for a fetch, R 4 for a load, W 2 for a store
abbrev pub permission_for : Want → ℕ
permission_for Fetch = 1
permission_for Load = 4
permission_for Store = 2

-- the set of permissions holds the wanted one
abbrev pub grants : ℕ → Want → Bool
grants bits want = bit_and bits (permission_for want) == permission_for want
