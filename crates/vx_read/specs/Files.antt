-- One file, as the words behind a command's, and words that don't fit. This project's own.
use Rattle.std.specs.Prelude.{◌≡◌, ℕ, ◌+◌, ◌<◌, ◌≤◌, List, [], ◌∷◌, ◌++◌, length, take}
use Rattle.vx_words.specs.Words.{IsFile}

-- the words are one file of this name
abbrev pub IsOneFile : List (List ℕ) → List ℕ → Type 0
IsOneFile words name = (words ≡ name ∷ []) × IsFile name

-- the words are one file
abbrev pub AreOneFile : List (List ℕ) → Type 0
AreOneFile words = (name : List ℕ) × IsOneFile words name

-- the words don't fit, and this is the index of the first bad one: those before it begin some that fit, and with it none
pub record AreBad (Fit : List (List ℕ) → Type 0) (words : List (List ℕ)) (index : ℕ) : Type 0 where
  pub outside : Fit words → ⊥
  pub begun : (rest : List (List ℕ)) × Fit (take index words ++ rest)
  pub within : index ≤ length words
  pub bad : index < length words → (rest : List (List ℕ)) → Fit (take (index + 1) words ++ rest) → ⊥
