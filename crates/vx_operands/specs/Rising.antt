-- What the elements at other indices come to, taken in rising order.
use Rattle.std.specs.Prelude.{◌≡◌, ℕ, zero, suc, ◌+◌, ◌%◌, ◌^◌, ◌<◌, ◌≤◌, Bool, true, false, ◌==◌, ◌&&◌, if◌then◌else◌, Option, Some, None}
use Rattle.vx_vector.specs.Lists.{Lists, joined_with}
use Rattle.vx_vector.specs.Reading.{Reading, sew_of, lists_of, element_of, is_active}
use Rattle.vx_vector.specs.Rules.{Rule}
use Rattle.vx_vector.specs.Rules.Rule.{Index, Permute, Reduce, Put}

-- how many of the first n hold
unfoldable pub count_below : (holds : ℕ → Bool) → (n : ℕ) → ℕ
count_below holds zero = 0
count_below holds (suc n) = count_below holds n + (if holds n then 1 else 0)

-- x joined in turn with f of each of the first n that holds
unfoldable pub joined_below : (sum_with : ℕ → ℕ → ℕ) → (x : ℕ) → (holds : ℕ → Bool) → (f : ℕ → ℕ) → (n : ℕ) → ℕ
joined_below sum_with x holds f zero = x
joined_below sum_with x holds f (suc n) =
    if holds n then sum_with (joined_below sum_with x holds f n) (f n) else joined_below sum_with x holds f n

-- m is the first below n that holds, or n where none does
pub record IsFirstBelow (holds : ℕ → Bool) (n m : ℕ) : Type 0 where
  pub most : m ≤ n
  pub before : (i : ℕ) → i < m → holds i ≡ false
  pub holds_there : m < n → holds m ≡ true

-- an active element becomes something of its index and of elements at others
abbrev pub is_by_index : Rule → Bool
is_by_index (Index f) = true
is_by_index (Permute f) = true
is_by_index other = false

-- what it becomes, where it becomes anything
abbrev pub moved_by : Rule → Lists → (i : ℕ) → Option ℕ
moved_by (Index f) s i = Some (f s.sew i)
moved_by (Permute f) s i = f s i
moved_by other s i = None

-- a row writes element 0 alone
abbrev pub is_first_alone : Rule → Bool
is_first_alone (Reduce f) = true
is_first_alone Put = true
is_first_alone other = false

-- what it becomes
abbrev pub first_by : Rule → Reading → ℕ
first_by (Reduce f) r = joined_with (f (sew_of r)) (lists_of r)
first_by Put r = r.at.scalar % 2 ^ sew_of r
first_by other r = 0

-- element i is active and its bit of the mask in vs2 is set
abbrev pub mark : Reading → (i : ℕ) → Bool
mark r i = element_of r r.places.vs2 1 i == 1 && is_active r i

-- how an active element is joined with what was before it
abbrev pub is_reduce : Rule → Bool
is_reduce (Reduce f) = true
is_reduce other = false

abbrev pub reduced_by : Rule → (sew sum x : ℕ) → ℕ
reduced_by (Reduce f) sew sum x = f sew sum x
reduced_by other sew sum x = 0
