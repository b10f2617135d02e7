-- What a hart and physical memory show of a flat state: its registers, and the bytes of the pages that are present. This project's
-- own. A store that was cut off may have written bytes of elements that aren't committed: those that the next instruction writes
-- again before anything reads them are pending, and may differ.
use Rattle.std.specs.Prelude.{◌≡◌, ◌⊎◌, ℕ, ◌+◌, ◌*◌, ◌<◌, ◌≤◌, Bool, false, ◌&&◌, nat_lt, nat_le, List, [], ◌∷◌, map, filter, is_none, Option, Some, None}
use Rattle.std.specs.List.{list_any}
use Rattle.vx_base.specs.Page.{byte_of_words}
use Rattle.vx_base.specs.declared.machine.Want.TheVariants.{Store}
use Rattle.vx_cells.specs.Cells.{CellsState}
use Rattle.vx_decode.specs.declared.instr.Instr.{Instr}
use Rattle.vx_flat.specs.Access.{access_address, access_width}
use Rattle.vx_flat.specs.Checks.{cause_of}
use Rattle.vx_image.specs.Pages.{page_of}
use Rattle.vx_flat.specs.Memory.{offset_of, byte_at}
use Rattle.vx_flat.specs.State.{Flat}
use Rattle.vx_flat.specs.Step.{upcoming}
use Rattle.vx_flat.specs.Transfers.{Transfer, transfer, failure_of}
use Rattle.vx_flat.specs.Transfers.Direction.{Storing}
use Rattle.vx_flat.specs.declared.upcoming.Upcoming.{Upcoming}
use Rattle.vx_flat.specs.declared.upcoming.Upcoming.TheVariants.{Denied, Illegal, Instruction}
use Rattle.vx_rows.specs.Table.{class_of}
use Rattle.vx_rows.specs.declared.row.Class.{Class}
use Rattle.vx_rows.specs.declared.row.Class.TheVariants as class
use Rattle.vx_tables.specs.Residency.{Residency, PlacedPage, pages_of, placed, IsOf}
use Rattle.vx_tables.specs.Residency.Place.{Present}
use Rattle.vx_tables.specs.Tables.{AreHeld, table_count}
use Rattle.vx_vector.specs.Accesses.{Access, access_list}
use Rattle.vx_vstate.specs.State.{VectorState}

-- ---- pending bytes

-- so many bytes from an address on
pub record Span : Type 0 where
  pub address : ℕ
  pub width : ℕ

-- those of a scalar store, where it doesn't fail
abbrev pub span_unless : Option ℕ → (address width : ℕ) → List Span
span_unless (Some cause) address width = []
span_unless None address width = record { address = address; width = width } ∷ []

abbrev pub scalar_span : Flat → (address width : ℕ) → List Span
scalar_span s address width = span_unless (cause_of s.memory Store address width) address width

-- those of a vector store: of its elements from vstart on, by each access that doesn't fail
abbrev pub transfer_spans : Flat → Transfer → List Span
transfer_spans s t =
    map (λ (a : Access). record { address = a.address; width = a.width })
    (filter (λ (a : Access). is_none (failure_of t.direction s.memory a)) (access_list t.movement))

-- those that an instruction of a class stores
abbrev pub spans_as : Class → Flat → Instr → List Span
spans_as class.Store s i = scalar_span s (access_address i s.x) (access_width i.op)
spans_as (class.VectorStore addressing width) s i = transfer_spans s (transfer Storing addressing width s i)
spans_as other s i = []

abbrev pub spans_of : Flat → Upcoming → List Span
spans_of s Denied = []
spans_of s (Illegal word) = []
spans_of s (Instruction i) = spans_as (class_of i.op) s i

abbrev pub is_in : (address : ℕ) → Span → Bool
is_in address span = nat_le span.address address && nat_lt address (span.address + span.width)

-- the byte at an address is pending: the next instruction stores it
unfoldable pub is_pending : Flat → (address : ℕ) → Bool
is_pending s address = list_any (is_in address) (spans_of s (upcoming s))

-- ---- show

-- what a hart holds of a process
pub record Registers : Type 0 where
  pub pc : ℕ
  pub x : List ℕ
  pub v : VectorState

-- a page in a frame is there alone, and no table is
abbrev pub IsAlone : (first : ℕ) → Residency → (number frame : ℕ) → Type 0
IsAlone first residency number frame =
    ((frame < first) ⊎ (first + table_count (pages_of residency) ≤ frame))
    × ((other : ℕ) (p : PlacedPage) (accessed dirty : Bool) → placed other residency ≡ Some p → p.place ≡ Present frame accessed dirty → other ≡ number)

-- registers and physical memory show a flat state whose pages are where a residency says, with tables from frame `first` on that
-- stand for it. Pages that are away aren't looked at
pub record Shows (registers : Registers) (cells : CellsState) (first : ℕ) (residency : Residency) (s : Flat) : Type 0 where
  pub pc_is : registers.pc ≡ s.pc
  pub x_is : registers.x ≡ s.x
  pub v_is : registers.v ≡ s.v
  pub pages : IsOf residency s.memory
  pub tables : AreHeld cells first residency
  pub alone : (number : ℕ) (p : PlacedPage) (frame : ℕ) (accessed dirty : Bool) → placed number residency ≡ Some p → p.place ≡ Present frame accessed dirty → IsAlone first residency number frame
  pub bytes : (address : ℕ) (p : PlacedPage) (frame : ℕ) (accessed dirty : Bool) → placed (page_of address) residency ≡ Some p → p.place ≡ Present frame accessed dirty
      → is_pending s address ≡ false → byte_of_words cells.contents (4096 * frame + offset_of address) ≡ byte_at s.memory address
