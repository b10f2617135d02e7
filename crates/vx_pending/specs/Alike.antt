-- Memories that differ from a flat state's in its pending bytes alone: a store that was cut off may have written those, and the next
-- instruction writes them again before anything reads them. This project's own.
use Rattle.std.specs.Prelude.{◌≡◌, ℕ, Bool, true, false, map, length, Option, Some, None}
use Rattle.vx_flat.specs.Memory.{byte_at}
use Rattle.vx_flat.specs.Outcome.{Outcome}
use Rattle.vx_flat.specs.Outcome.Outcome.{Next, Exited, Faulted}
use Rattle.vx_flat.specs.State.{Flat}
use Rattle.vx_flat.specs.Step.{upcoming}
use Rattle.vx_flat.specs.declared.upcoming.Upcoming.{Upcoming}
use Rattle.vx_flat.specs.declared.upcoming.Upcoming.TheVariants.{Denied, Illegal, Instruction}
use Rattle.vx_image.specs.Images.{entry_of_page}
use Rattle.vx_image.specs.Pages.{MappedPage, Memory}
use Rattle.vx_rows.specs.Table.{class_of}
use Rattle.vx_rows.specs.declared.row.Class.{Class}
use Rattle.vx_rows.specs.declared.row.Class.TheVariants as class
use Rattle.vx_episode.specs.Show.{is_pending}

-- a memory has the pages of another, with their permissions and as many bytes of each
pub record HaveSamePages (m n : Memory) : Type 0 where
  pub entries : map entry_of_page m ≡ map entry_of_page n
  pub lengths : map (λ (p : MappedPage). length p.bytes) m ≡ map (λ (p : MappedPage). length p.bytes) n

-- a memory differs from a state's in pending bytes alone
pub record AreAlike (s : Flat) (m : Memory) : Type 0 where
  pub pages : HaveSamePages m s.memory
  pub bytes : (address : ℕ) → is_pending s address ≡ false → byte_at m address ≡ byte_at s.memory address

-- the state with this memory in place of its own
abbrev pub with_memory : Memory → Flat → Flat
with_memory m s = record s { memory = m }

-- a state stands for another: it is that one but for pending bytes
pub record StandsFor (shown s : Flat) : Type 0 where
  pub is : shown ≡ with_memory shown.memory s
  pub alike : AreAlike s shown.memory

-- a state stands for another, and no byte differs
pub record StandsExactlyFor (shown s : Flat) : Type 0 where
  pub is : shown ≡ with_memory shown.memory s
  pub pages : HaveSamePages shown.memory s.memory
  pub bytes : (address : ℕ) → byte_at shown.memory address ≡ byte_at s.memory address

-- the same comes of two steps: where the instruction completes, no byte differs any more; where it faults, pending ones may still
abbrev pub OutcomesAlike : (shown outcome : Outcome) → Type 0
OutcomesAlike (Next u) (Next t) = StandsExactlyFor u t
OutcomesAlike (Exited a) (Exited b) = a ≡ b
OutcomesAlike (Faulted f u) (Faulted g t) = (f ≡ g) × StandsFor u t
OutcomesAlike shown outcome = ⊥

-- two states within an instruction, where there are some, are the same but for pending bytes
abbrev pub PrefixesAlike : (shown prefix : Option Flat) → Type 0
PrefixesAlike None None = Unit {0}
PrefixesAlike (Some u) (Some t) = StandsFor u t
PrefixesAlike shown prefix = ⊥

-- an instruction of a class writes memory
abbrev pub writes_memory : Class → Bool
writes_memory class.Store = true
writes_memory (class.VectorStore addressing width) = true
writes_memory other = false

abbrev pub writes_next : Upcoming → Bool
writes_next Denied = false
writes_next (Illegal word) = false
writes_next (Instruction i) = writes_memory (class_of i.op)

-- a store comes next
abbrev pub is_at_store : Flat → Bool
is_at_store s = writes_next (upcoming s)
