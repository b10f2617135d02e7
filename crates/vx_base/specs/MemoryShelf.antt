-- Shelves of files in memory: what they keep, and what each fetch does. This project's own.
use Rattle.std.specs.Prelude.{◌≡◌, ℕ, ◌<◌, ◌≤◌, List, [], ◌∷◌, ◌++◌, length, Option, Some, None, IsSomeAnd, if◌then◌else◌, Result, Ok, Err}
use Rattle.std.specs.declared.alloc.AllocError.{AllocError}
use Rattle.vx_base.specs.Faults.{one_more, is_listed_next}
use Rattle.vx_base.specs.NamedFiles.{bytes_under, bytes_or_none}
use Rattle.vx_base.specs.Shelf.{ShelfState}
use Rattle.vx_base.specs.declared.memory_shelf.NamedFile.{NamedFile}
use Rattle.vx_base.specs.declared.shelf.Fetched.{Fetched}
use Rattle.vx_base.specs.declared.shelf.Fetched.TheVariants.{Got, Failed, TooLong}

pub record MemShelfView : Type 0 where
  pub files : List NamedFile
  -- the numbers of the fetches that fail, counted from 1
  pub fails : List ℕ
  -- the names that were fetched so far, the first of them first
  pub asked : List (List ℕ)
  -- how many bytes the last fetch took
  pub received : ℕ
  -- how many fetches and how many faults there have been
  pub calls : ℕ
  pub faults : ℕ

-- a shelf that never fails
pub record SureShelfView : Type 0 where
  pub files : List NamedFile
  pub asked : List (List ℕ)
  pub received : ℕ

-- what they tell: all of it, and of the one that never fails no fault
abbrev pub shelf_told : MemShelfView → ShelfState
shelf_told shelf = record {
  files = Some (bytes_under shelf.files);
  asked = shelf.asked;
  received = shelf.received;
  faults = shelf.faults;
}

abbrev pub sure_shelf_told : SureShelfView → ShelfState
sure_shelf_told shelf = record {
  files = Some (bytes_or_none shelf.files);
  asked = shelf.asked;
  received = shelf.received;
  faults = 0;
}

-- the bytes that the next fetch of the name finds: none where its number fails, or no file has the name
abbrev pub found_next : MemShelfView → List ℕ → Option (List ℕ)
found_next shelf name =
    if is_listed_next shelf.calls shelf.fails then None else bytes_under shelf.files name

-- the answer to a fetch that finds these bytes, or none
abbrev pub Answers : Option (List ℕ) → ℕ → Fetched → Type 0
Answers found limit (Got bytes) = (found ≡ Some bytes) × (length bytes ≤ limit)
Answers found limit Failed = found ≡ None
Answers found limit TooLong = IsSomeAnd found (λ bytes. limit < length bytes)

-- how many bytes a fetch takes that finds these, or none
abbrev pub taken : Option (List ℕ) → ℕ
taken None = 0
taken (Some bytes) = length bytes

-- one more where a fetch found nothing
abbrev pub faults_after : Option (List ℕ) → ℕ → ℕ
faults_after None faults = one_more faults
faults_after (Some bytes) faults = faults

-- the shelf after the next fetch, of this name
abbrev pub after_fetch : MemShelfView → List ℕ → MemShelfView
after_fetch shelf name = record shelf {
  asked = shelf.asked ++ name ∷ [];
  received = taken (found_next shelf name);
  calls = one_more shelf.calls;
  faults = faults_after (found_next shelf name) shelf.faults;
}

abbrev pub sure_after_fetch : SureShelfView → List ℕ → SureShelfView
sure_after_fetch shelf name = record shelf {
  asked = shelf.asked ++ name ∷ [];
  received = taken (bytes_or_none shelf.files name);
}

-- what each answer to a fetch of the name says: want of memory changes nothing
abbrev pub FetchesInMemory : MemShelfView → MemShelfView → List ℕ → ℕ → Result Fetched AllocError → Type 0
FetchesInMemory before after name limit (Ok fetched) =
    Answers (found_next before name) limit fetched × (after ≡ after_fetch before name)
FetchesInMemory before after name limit (Err e) = after ≡ before

-- the same of the shelf that never fails
abbrev pub FetchesSurely : SureShelfView → SureShelfView → List ℕ → ℕ → Result Fetched AllocError → Type 0
FetchesSurely before after name limit (Ok fetched) =
    Answers (bytes_or_none before.files name) limit fetched × (after ≡ sure_after_fetch before name)
FetchesSurely before after name limit (Err e) = after ≡ before
