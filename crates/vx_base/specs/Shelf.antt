-- What a shelf of files tells, and what a fetch does to it. This project's own.
use Rattle.std.specs.Prelude.{◌≡◌, ℕ, ◌<◌, ◌≤◌, List, [], ◌∷◌, ◌++◌, length, Option, Some, IfSome, IsSomeAnd, Result, Ok, Err}
use Rattle.std.specs.declared.alloc.AllocError.{AllocError}
use Rattle.vx_base.specs.Faults.{Rises}
use Rattle.vx_base.specs.declared.shelf.Fetched.{Fetched}
use Rattle.vx_base.specs.declared.shelf.Fetched.TheVariants.{Got, Failed, TooLong}

-- what is told of the files: the bytes under a name, or that there are none
abbrev pub Files : Type 0
Files = List ℕ → Option (List ℕ)

pub record ShelfState : Type 0 where
  -- the names and their bytes, where the shelf tells them
  pub files : Option Files
  -- the names that were fetched so far, the first of them first
  pub asked : List (List ℕ)
  -- how many bytes the last fetch took
  pub received : ℕ
  -- how many faults there have been
  pub faults : ℕ

-- the name was asked for, and the files stay
pub record AsksFor (before after : ShelfState) (name : List ℕ) : Type 0 where
  pub files : after.files ≡ before.files
  pub asked : after.asked ≡ before.asked ++ name ∷ []
  pub faults : before.faults ≤ after.faults

-- the file was read whole, and these are its bytes
pub record Reads (before after : ShelfState) (name : List ℕ) (limit : ℕ) (bytes : List ℕ) : Type 0 where
  pub asks : AsksFor before after name
  pub within : length bytes ≤ limit
  pub received : after.received ≡ length bytes
  pub named : IfSome before.files (λ files. files name ≡ Some bytes)

-- a fault came; a name that no file has is one
pub record FailsToRead (before after : ShelfState) (name : List ℕ) : Type 0 where
  pub asks : AsksFor before after name
  pub cause : Rises before.faults after.faults

-- the file has more bytes than the limit
pub record IsTooLong (before after : ShelfState) (name : List ℕ) (limit : ℕ) : Type 0 where
  pub asks : AsksFor before after name
  pub received : limit < after.received
  pub named : IfSome before.files (λ files. IsSomeAnd (files name) (λ bytes. limit < length bytes))

-- memory was wanting: nothing was asked for
pub record IsUnasked (before after : ShelfState) : Type 0 where
  pub files : after.files ≡ before.files
  pub asked : after.asked ≡ before.asked
  pub faults : before.faults ≤ after.faults

-- what each answer to a fetch says
abbrev pub Fetches : ShelfState → ShelfState → List ℕ → ℕ → Result Fetched AllocError → Type 0
Fetches before after name limit (Ok (Got bytes)) = Reads before after name limit bytes
Fetches before after name limit (Ok Failed) = FailsToRead before after name
Fetches before after name limit (Ok TooLong) = IsTooLong before after name limit
Fetches before after name limit (Err e) = IsUnasked before after
