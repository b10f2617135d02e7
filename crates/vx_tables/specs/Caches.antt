-- Caches of translations, as look-ups in what was filled. This project's own.
use Rattle.std.specs.Prelude.{ℕ, ◌%◌, Bool, ◌&&◌, not, ◌==◌, List, ◌∷◌, find, Option, Some, None, if◌then◌else◌}
use Rattle.vx_base.specs.Permissions.{grants}
use Rattle.vx_base.specs.declared.machine.Want.{Want}
use Rattle.vx_base.specs.declared.perm.Perm.{Perm}
use Rattle.vx_tables.specs.Residency.{is_store}
use Rattle.vx_tables.specs.declared.look.Look.{Look}
use Rattle.vx_tables.specs.declared.look.Look.TheVariants.{Hit, Denied, Miss}
use Rattle.vx_tables.specs.declared.walked.Walked.{Walked}
use Rattle.vx_tables.specs.declared.walked.Walked.TheVariants as walked

-- a page that was filled: its frame, its permissions, and whether D was set then
pub record Fill : Type 0 where
  pub page : ℕ
  pub frame : ℕ
  pub perm : Perm
  pub dirty : Bool

-- the last fill at a place of a cache of so many entries, of the fills since it was emptied, the newest first
abbrev pub last_fill : (entries place : ℕ) → List Fill → Option Fill
last_fill entries place fills = find (λ (f : Fill). f.page % entries == place) fills

-- what a look says of a fill of its page
abbrev pub look_at : Want → Fill → Look
look_at want f = if grants f.perm.bits want then (if is_store want && not f.dirty then Miss else Hit f.frame) else Denied

-- what a look for a page says of the fill at its place
abbrev pub look_for : (page : ℕ) → Want → Option Fill → Look
look_for page want None = Miss
look_for page want (Some f) = if f.page == page then look_at want f else Miss

-- a look into a cache of so many entries
abbrev pub look_up : (entries : ℕ) → List Fill → (page : ℕ) → Want → Look
look_up entries fills page want = look_for page want (last_fill entries (page % entries) fills)

-- the fills once a walk answered: a page that it found is filled, and no other
abbrev pub filled_by : (page : ℕ) → Walked → List Fill → List Fill
filled_by page (walked.Leaf frame perm dirty) fills = record { page = page; frame = frame; perm = perm; dirty = dirty } ∷ fills
filled_by page walked.Away fills = fills
filled_by page walked.Denied fills = fills
