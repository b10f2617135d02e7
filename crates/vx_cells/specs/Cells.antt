-- Physical memory: what it tells, and what accesses do to it. This project's own.
use Rattle.std.specs.Prelude.{◌≡◌, ℕ, ◌*◌, ◌≤◌, Bool, true, false, List, [], ◌∷◌, ◌++◌, length, replicate, slice_index, slice_set, Option, IfSome, IsSomeAnd, if◌then◌else◌}
use Rattle.vx_cells.specs.Merging.{merged}
use Rattle.vx_cells.specs.declared.access.Access.{Access}
use Rattle.vx_cells.specs.declared.access.Port.{Port}

pub record CellsState : Type 0 where
  pub frames : ℕ
  -- the current cycle
  pub cycle : ℕ
  -- the words of 64 bits, frame f's from 512 * f on
  pub contents : List ℕ
  -- the accesses so far, the first of them first, where they are told
  pub log : Option (List Access)

-- each frame has its words, and there are at most 16,384
pub record IsMemory (state : CellsState) : Type 0 where
  pub whole : length state.contents ≡ 512 * state.frames
  pub limit : state.frames ≤ 16384

-- the words of so many frames that nothing was written to
unfoldable pub zeros : ℕ → List ℕ
zeros frames = replicate (512 * frames) 0

-- a read of a word, and a write of some bytes of one, at the current cycle: the log has a read's whole word, and a write's
-- value with every byte that isn't written made 0
abbrev pub read_at : CellsState → Port → (word : ℕ) → Access
read_at state port word =
    record { cycle = state.cycle; port = port; word = word; written = false; bytes = 255; value = slice_index state.contents word }

abbrev pub write_at : CellsState → Port → (word value bytes : ℕ) → Access
write_at state port word value bytes =
    record { cycle = state.cycle; port = port; word = word; written = true; bytes = bytes; value = merged bytes 0 value }

-- the contents after an access, and after several in turn
abbrev pub with_access : List ℕ → Access → List ℕ
with_access contents access =
    if access.written then slice_set contents access.word (merged access.bytes (slice_index contents access.word) access.value) else contents

abbrev pub with_accesses : List ℕ → List Access → List ℕ
with_accesses contents [] = contents
with_accesses contents (access ∷ accesses) = with_accesses (with_access contents access) accesses

-- a log that is told afterwards was told before, and has these accesses more
abbrev pub IsLogged : (before after : Option (List Access)) → List Access → Type 0
IsLogged before after accesses = IfSome after (λ told. IsSomeAnd before (λ earlier. told ≡ earlier ++ accesses))

-- exactly these accesses were made, in this order, and no cycle passed
pub record Makes (before after : CellsState) (accesses : List Access) : Type 0 where
  pub frames : after.frames ≡ before.frames
  pub cycle : after.cycle ≡ before.cycle
  pub contents : after.contents ≡ with_accesses before.contents accesses
  pub log : IsLogged before.log after.log accesses
