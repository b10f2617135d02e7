-- Entries of page tables: RISC-V Privileged 1.12, section 4.4.1 (Sv39). Bits V 1, R 2, W 4, X 8, U 16, G 32, A 64 and D 128,
-- bits 9:8 for software, the frame from bit 10 on.
use Rattle.std.specs.Prelude.{ℕ, ◌+◌, ◌*◌, ◌/◌, ◌%◌, Bool, ◌&&◌, ◌||◌, not, ◌==◌, bit_and, bit_or, Option, Some, None, if◌then◌else◌}
use Rattle.vx_base.specs.Permissions.{grants}
use Rattle.vx_base.specs.declared.machine.Want.{Want}
use Rattle.vx_base.specs.declared.machine.Want.TheVariants.{Fetch, Load, Store}
use Rattle.vx_tables.specs.Residency.{Place, is_store}
use Rattle.vx_tables.specs.Residency.Place.{Away, Present}
use Rattle.vx_tables.specs.declared.walked.Walked.{Walked}
use Rattle.vx_tables.specs.declared.walked.Walked.TheVariants as walked

-- an entry that leads to the table in a frame: V alone
abbrev pub pointer : (frame : ℕ) → ℕ
pointer frame = 1024 * frame + 1

-- the entry of a page that is away: V is 0, and bit 8 is set. This project's own
abbrev pub away_entry : ℕ
away_entry = 0x100

-- the bits of a page with these permissions: V, U, those of R, W and X that it has, A and D
abbrev pub page_bits : (permissions : ℕ) (accessed dirty : Bool) → ℕ
page_bits permissions accessed dirty =
    17 + (if grants permissions Load then 2 else 0) + (if grants permissions Store then 4 else 0) + (if grants permissions Fetch then 8 else 0)
    + (if accessed then 64 else 0) + (if dirty then 128 else 0)

-- the entry of a page with these permissions at a place
abbrev pub page_entry : (permissions : ℕ) → Place → ℕ
page_entry permissions Away = away_entry
page_entry permissions (Present frame accessed dirty) = 1024 * frame + page_bits permissions accessed dirty

-- the frame and the ten low bits of an entry
abbrev pub frame_in : (value : ℕ) → ℕ
frame_in value = value / 1024

abbrev pub bits_in : (value : ℕ) → ℕ
bits_in value = value % 1024

-- all of those bits are set
abbrev pub has : (bits wanted : ℕ) → Bool
has bits wanted = bit_and bits wanted == wanted

-- an entry leads to a table: V is set, and none of R, W and X
abbrev pub is_pointer : (value : ℕ) → Bool
is_pointer value = bit_and (bits_in value) 15 == 1

-- the permissions that the bits R, W and X give: R 4, W 2 and X 1
abbrev pub permissions_in : (bits : ℕ) → ℕ
permissions_in bits = (if has bits 2 then 4 else 0) + (if has bits 4 then 2 else 0) + (if has bits 8 then 1 else 0)

-- the bits of a leaf let an access of user mode through: V, U, and the permission for it
abbrev pub lets : (bits : ℕ) → Want → Bool
lets bits want = has bits 17 && grants (permissions_in bits) want

-- what a leaf says of an access
abbrev pub leaf_answer : Want → (value : ℕ) → Walked
leaf_answer want value =
    if value == away_entry then walked.Away
    else if lets (bits_in value) want
    then walked.Leaf (frame_in value) (record { bits = permissions_in (bits_in value) }) (has (bits_in value) 128 || is_store want)
    else walked.Denied

-- a leaf with A set, and for a store D
abbrev pub leaf_touched : Want → (value : ℕ) → ℕ
leaf_touched want value = 1024 * frame_in value + bit_or (bits_in value) (if is_store want then 192 else 64)

-- what is written to a leaf that lets the access through: A and D where they are to be set and aren't
abbrev pub leaf_written : Want → (value : ℕ) → Option ℕ
leaf_written want value =
    if not (value == away_entry) && lets (bits_in value) want && not (leaf_touched want value == value) then Some (leaf_touched want value) else None
