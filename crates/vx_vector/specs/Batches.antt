-- Batches: the elements of a vector load or store whose accesses are looked up together. This project's own. A batch is the
-- longest run of next whole elements, active or not, with at most so many accesses as there are lanes; and one element at
-- least, however many fields it has.
use Rattle.std.specs.Prelude.{ℕ, zero, suc, ◌+◌, ◌-◌, ◌*◌, ◌/◌, min, max, Bool, true, false, nat_lt, nat_le, List, [], ◌∷◌, ◌++◌, length, map, flat_map, if◌then◌else◌}
use Rattle.std.specs.List.{range_with_len}
use Rattle.vx_rows.specs.declared.row.Addressing.{Addressing}
use Rattle.vx_rows.specs.declared.row.Addressing.TheVariants.{Unit, FaultOnlyFirst, Whole, MaskBits, Strided, Unordered, Ordered}
use Rattle.vx_decode.specs.Groups.{bits_of_eew}
use Rattle.vx_vstate.specs.Registers.{place_of, element_word}
use Rattle.vx_vector.specs.Accesses.{Access, Movement, movement_count, accesses_between, access_of, fields_of}

-- the elements from one on, up to another
pub record Batch : Type 0 where
  pub from : ℕ
  pub after : ℕ

-- how many elements a batch may have: one, until elements share a batch
abbrev pub most_of_batch : ℕ
most_of_batch = 1

-- how many accesses so many elements have, from one on
abbrev pub accesses_in : Movement → (from n : ℕ) → ℕ
accesses_in m from n = length (accesses_between m from (from + n))

-- the longest run from an element on, of n elements at the most, with at most so many accesses
unfoldable pub longest_run : Movement → (lanes from n : ℕ) → ℕ
longest_run m lanes from zero = 0
longest_run m lanes from (suc n) = if nat_le (accesses_in m from (suc n)) lanes then suc n else longest_run m lanes from n

-- the batch that begins at an element
abbrev pub batch_at : Movement → (lanes most from : ℕ) → Batch
batch_at m lanes most from = record {
  from = from;
  after = from + max 1 (longest_run m lanes from (min most (movement_count m - from)));
}

-- the next n batches, or as many as there are, from an element on
abbrev pub next_batches : Movement → (lanes most n from : ℕ) → List Batch
next_batches m lanes most zero from = []
next_batches m lanes most (suc n) from =
    if nat_lt from (movement_count m) then batch_at m lanes most from ∷ next_batches m lanes most n (batch_at m lanes most from).after else []

-- all batches: there are no more than elements
abbrev pub batches : Movement → (lanes most : ℕ) → List Batch
batches m lanes most = next_batches m lanes most (movement_count m) m.at.vstart

abbrev pub accesses_of_batch : Movement → Batch → List Access
accesses_of_batch m b = accesses_between m b.from b.after

-- ---- the words of registers that a batch needs, by their places in the list of all

-- the place of the word in which an access lies
abbrev pub place_of_access : (vlen : ℕ) → Access → ℕ
place_of_access vlen a = place_of vlen a.register (element_word (8 * a.width) (a.byte / a.width))

-- the row has indices
abbrev pub has_indices : Addressing → Bool
has_indices Unit = false
has_indices FaultOnlyFirst = false
has_indices Whole = false
has_indices MaskBits = false
has_indices Strided = false
has_indices Unordered = true
has_indices Ordered = true

module _ (m : Movement) where
  -- that with the index of element i
  abbrev pub index_words : (i : ℕ) → List ℕ
  index_words i = if has_indices m.addressing then place_of m.at.vlen m.i.rs2 (element_word (bits_of_eew m.encoded) i) ∷ [] else []

  -- that with its bit of the mask, of a row that is masked
  abbrev pub mask_words : (i : ℕ) → List ℕ
  mask_words i = if m.i.vm then [] else place_of m.at.vlen 0 (element_word 1 i) ∷ []

  -- those with what is stored of it, one a field
  abbrev pub data_words : (stores : Bool) → (i : ℕ) → List ℕ
  data_words stores i = if stores then map (λ f. place_of_access m.at.vlen (access_of m i f)) (range_with_len 0 (fields_of m)) else []

  -- those of an element, active or not
  abbrev pub words_of_element : (stores : Bool) → (i : ℕ) → List ℕ
  words_of_element stores i = index_words i ++ mask_words i ++ data_words stores i

  -- those of a batch: of its elements, and that with the mask's bit of the element after them, where there is one
  abbrev pub batch_words : (stores : Bool) → Batch → List ℕ
  batch_words stores b =
      flat_map (words_of_element stores) (range_with_len b.from (b.after - b.from))
      ++ (if nat_lt b.after (movement_count m) then mask_words b.after else [])
