-- What depends on elements at other indices than an element's own: RISC-V "V" 1.0, sections 14 (reductions), 15.2 to 15.8
-- (masks) and 16 (permutations).
use Rattle.std.specs.Prelude.{ℕ, ◌+◌, ◌-◌, Bool, true, false, ◌==◌, ◌&&◌, nat_lt, List, [], ◌∷◌, map, fold, take, get_or, if◌then◌else◌, Option, Some, None}

-- the operands as lists
pub record Lists : Type 0 where
  -- SEW
  pub sew : ℕ
  pub vl : ℕ
  -- the elements of vs2, of which there are VLMAX, or one
  pub vs2 : List ℕ
  -- those of vs1, where a register stands in its place
  pub vs1 : List ℕ
  -- the number in the integer register, of 64 bits, or in the word
  pub x : ℕ
  -- for each element up to vl, whether it is active
  pub active : List Bool

-- the element of vs2, or 0 past the last
abbrev pub element_or_zero : Lists → ℕ → ℕ
element_or_zero s i = get_or s.vs2 i 0

-- the index that a gather takes for element i: the element of vs1, or x where no register stands there (vs1 is empty then)
abbrev pub gather_index : Lists → ℕ → ℕ
gather_index s i = get_or s.vs1 i s.x

-- element i of a slide up by n: below n it is unchanged
abbrev pub slid_up : Lists → (n i : ℕ) → Option ℕ
slid_up s n i = if nat_lt i n then None else Some (element_or_zero s (i - n))

-- the elements of those that are chosen
abbrev pub chosen : List ℕ → List Bool → List ℕ
chosen [] flags = []
chosen (x ∷ xs) [] = []
chosen (x ∷ xs) (flag ∷ flags) = if flag then x ∷ chosen xs flags else chosen xs flags

-- the active elements of vs2
abbrev pub active_elements : Lists → List ℕ
active_elements s = chosen s.vs2 s.active

-- element 0 of vs1 joined with each active element of vs2 in turn
abbrev pub joined_with : (sum_with : ℕ → ℕ → ℕ) → Lists → ℕ
joined_with sum_with s = fold sum_with (get_or s.vs1 0 0) (active_elements s)

-- whether each bit is set and its flag true
abbrev pub marked : List ℕ → List Bool → List Bool
marked [] flags = []
marked (bit ∷ bits) [] = []
marked (bit ∷ bits) (flag ∷ flags) = (bit == 1 && flag) ∷ marked bits flags

-- for each element up to vl, whether it is active and its bit of the mask in vs2 is set
abbrev pub marks : Lists → List Bool
marks s = marked (take s.vl s.vs2) s.active

-- how many are true
abbrev pub count_true : List Bool → ℕ
count_true [] = 0
count_true (flag ∷ flags) = (if flag then 1 else 0) + count_true flags

-- the place of the first that is true
abbrev pub first_true : List Bool → Option ℕ
first_true [] = None
first_true (true ∷ flags) = Some 0
first_true (false ∷ flags) = elim (first_true flags) [ None ↦ None | Some i ↦ Some (i + 1) ]

-- how many of the first n are true
abbrev pub marks_below : Lists → ℕ → ℕ
marks_below s n = count_true (take n (marks s))

-- the elements of vs2 below vl whose bits of the mask in vs1 are set
abbrev pub packed : Lists → List ℕ
packed s = chosen (take s.vl s.vs2) (map (λ bit. bit == 1) s.vs1)
