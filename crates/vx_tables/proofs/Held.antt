-- Cells that hold tables, and what accesses leave of them.
use Rattle.std.proofs.Common.{◌≡◌, ℕ, zero, suc, ◌*◌, Bool, true, false, eqb, inl, inr, List, [], ◌∷◌, length, get_or, set, Some, None, refl, sym, ap, subst, ◌∙◌, arith, length-set}
use Rattle.std.specs.Prelude.{Option, if◌then◌else◌}
use Rattle.std.specs.Option.{option_map_or}
use Rattle.std.proofs.lemmas.Bool.{cases_Bool}
use Rattle.vx_base.specs.declared.machine.Want.{Want}
use Rattle.vx_base.specs.Permissions.{grants}
use Rattle.vx_cells.specs.Cells.{CellsState, IsMemory, Makes, with_access, with_accesses}
use Rattle.vx_cells.specs.Merging.{merged}
use Rattle.vx_cells.specs.declared.access.Access.{Access}
use Rattle.vx_image.specs.Pages.{page_of}
use Rattle.vx_tables.specs.Residency.{Place, PlacedPage, Residency, pages_of, placed, with_place, touched, after_walk, IsBelow, AreBelow}
use Rattle.vx_tables.specs.Residency.Place.{Away, Present}
use Rattle.vx_tables.specs.Tables.{Stand, AreHeld, table_count}
use Rattle.vx_tables.proofs.Moving.{pages_of-with_place}

-- a page that moves to a frame below stays below
AreBelow-with_place : (frames number : ℕ) (place : Place) (residency : Residency) → IsBelow frames place → AreBelow frames residency → AreBelow frames (with_place number place residency)
AreBelow-with_place frames number place [] is all k d within = absurd (omega arith)
AreBelow-with_place frames number place (p ∷ residency) is all zero d within =
    elim (cases_Bool (eqb p.entry.page number)) [
      | inl same ↦ rw same is
      | inr differs ↦ rw differs (all 0 p (omega arith))
    ]
AreBelow-with_place frames number place (p ∷ residency) is all (suc k) d within =
    AreBelow-with_place frames number place residency is (λ j e lt. all (suc j) e (omega arith)) k d (omega arith)

pub IsBelow-touched : (frames bits : ℕ) (want : Want) (place : Place) → IsBelow frames place → IsBelow frames (touched bits want place)
IsBelow-touched frames bits want Away is = tt
IsBelow-touched frames bits want (Present frame a d) is =
    elim (cases_Bool (grants bits want)) [
      | inl granted ↦ rw granted is
      | inr fails ↦ rw fails is
    ]

pub placed-below : (frames number : ℕ) (residency : Residency) (p : PlacedPage) → AreBelow frames residency → placed number residency ≡ Some p → IsBelow frames p.place
placed-below frames number [] p all is = absurd (cc is)
placed-below frames number (q ∷ residency) p all is =
    elim (cases_Bool (eqb q.entry.page number)) [
      | inl same ↦
          let found = rw same at is in
          let e : q ≡ p = cc found in
          subst (λ (x : PlacedPage). IsBelow frames x.place) e (all 0 q (omega arith))
      | inr differs ↦ let rest = rw differs at is in placed-below frames number residency p (λ j e lt. all (suc j) e (omega arith)) rest
    ]

pub AreBelow-after_walk : (frames address : ℕ) (want : Want) (residency : Residency) → AreBelow frames residency → AreBelow frames (after_walk residency address want)
unfolding after_walk
AreBelow-after_walk frames address want residency all = go (placed (page_of address) residency) refl
  where
    go : (o : Option PlacedPage) → placed (page_of address) residency ≡ o → AreBelow frames (option_map_or (λ (p : PlacedPage). with_place (page_of address) (touched p.entry.perm.bits want p.place) residency) o residency)
    go None none = all
    go (Some p) is =
        AreBelow-with_place frames (page_of address) (touched p.entry.perm.bits want p.place) residency
        (IsBelow-touched frames p.entry.perm.bits want p.place (placed-below frames (page_of address) residency p all is)) all

pub pages_of-after_walk : (address : ℕ) (want : Want) (residency : Residency) → pages_of (after_walk residency address want) ≡ pages_of residency
unfolding after_walk
pages_of-after_walk address want residency = go (placed (page_of address) residency)
  where
    go : (o : Option PlacedPage) → pages_of (option_map_or (λ (p : PlacedPage). with_place (page_of address) (touched p.entry.perm.bits want p.place) residency) o residency) ≡ pages_of residency
    go None = refl
    go (Some p) = pages_of-with_place (page_of address) (touched p.entry.perm.bits want p.place) residency

-- the contents keep their length
pub length-with_accesses : (accesses : List Access) (contents : List ℕ) → length (with_accesses contents accesses) ≡ length contents
length-with_accesses [] contents = refl
length-with_accesses (a ∷ accesses) contents = length-with_accesses accesses (with_access contents a) ∙ one a.written
  where
    one : (w : Bool) → length (if w then set contents a.word (merged a.bytes (get_or contents a.word 0) a.value) else contents) ≡ length contents
    one true = length-set contents a.word (merged a.bytes (get_or contents a.word 0) a.value)
    one false = refl

pub IsMemory-after : (before after : CellsState) (accesses : List Access) → Makes before after accesses → IsMemory before → IsMemory after
IsMemory-after before after accesses makes memory = record {
  whole = ap length makes.contents ∙ length-with_accesses accesses before.contents ∙ memory.whole ∙ ap (λ (n : ℕ). 512 * n) (sym makes.frames);
  limit = omega (arith, memory.limit, makes.frames);
}

-- tables that stand in other contents of the same size
pub AreHeld-after : (before after : CellsState) (accesses : List Access) (root : ℕ) (residency later : Residency) → Makes before after accesses → AreHeld before root residency → Stand after.contents root later → pages_of later ≡ pages_of residency → AreBelow before.frames later → AreHeld after root later
AreHeld-after before after accesses root residency later makes held stand same below = record {
  memory = IsMemory-after before after accesses makes held.memory;
  stand = stand;
  tables = omega (arith, held.tables, makes.frames, ap table_count same);
  pages = subst (λ (frames : ℕ). AreBelow frames later) (sym makes.frames) below;
}
