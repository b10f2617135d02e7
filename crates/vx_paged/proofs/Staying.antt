-- Words outside of the pages' frames stay, and so do the tables.
use Rattle.std.proofs.Common.{◌≡◌, ℕ, ◌+◌, ◌/◌, ◌<◌, ◌≤◌, false, eqb, List, length, get_or, refl, sym, ap, subst, ◌∙◌, inl, inr, zero-add, arith}
use Rattle.std.proofs.lemmas.Bool.{ne_eqb}
use Rattle.std.proofs.lemmas.List.Folds.{list_any_none}
use Rattle.vx_cells.specs.Cells.{CellsState, IsMemory}
use Rattle.vx_hart.specs.Rest.{Rest}
use Rattle.vx_tables.specs.Residency.{Residency, pages_of, AreBelow}
use Rattle.vx_tables.specs.Tables.{AreHeld, table_count}
use Rattle.vx_paged.specs.Framed.{IsPlacement}
use Rattle.vx_paged.specs.Left.{is_framed, rest_of, blanked}
use Rattle.vx_paged.specs.Placed.{AreAlone, IsPlacedAs}
use Rattle.vx_paged.specs.declared.placement.FramedPage.{FramedPage}
use Rattle.vx_paged.proofs.Found.{framed_at}
use Rattle.vx_paged.proofs.Joined.{present_there}
use Rattle.vx_paged.proofs.Left.{blanked-get, length-blanked}
use Rattle.vx_paged.proofs.Shown.{rising}

pub words_stay : (placement : List FramedPage) (before after : CellsState) → rest_of placement after ≡ rest_of placement before → (word : ℕ) → is_framed placement (word / 512) ≡ false → get_or after.contents word 0 ≡ get_or before.contents word 0
words_stay placement before after same word other =
    let out : is_framed placement ((0 + word) / 512) ≡ false = ap (λ (n : ℕ). is_framed placement (n / 512)) (zero-add word) ∙ other in
    sym (blanked-get placement after.contents 0 word out) ∙ ap (λ (r : Rest). get_or r.words word 0) same ∙ blanked-get placement before.contents 0 word out

memory_stays : (placement : List FramedPage) (before after : CellsState) → rest_of placement after ≡ rest_of placement before → IsMemory before → IsMemory after
memory_stays placement before after same memory =
    let frames : after.frames ≡ before.frames = ap (λ (r : Rest). r.frames) same in
    let long : length (blanked placement 0 after.contents) ≡ length (blanked placement 0 before.contents) = ap (λ (r : Rest). length r.words) same in
    record {
      whole = omega (arith, frames, long, length-blanked placement after.contents 0, length-blanked placement before.contents 0, memory.whole);
      limit = omega (arith, frames, memory.limit);
    }

-- no page is in a frame of the tables
module _ (placement : List FramedPage) (kept : IsPlacement placement) (first : ℕ) (residency : Residency) (is : IsPlacedAs placement residency) (alone : AreAlone first residency) where
  pub not_framed : (frame : ℕ) → first ≤ frame → frame < first + table_count (pages_of residency) → is_framed placement frame ≡ false
  not_framed frame from to =
      list_any_none (λ (p : FramedPage). eqb p.frame frame) placement (λ k d below.
      let p = get_or placement k d in
      let found = framed_at placement (rising placement kept) p.entry.page k d below refl in
      let there = present_there placement residency p.entry.page p is found in
      let apart = (alone p.entry.page there.page p.frame there.accessed there.dirty there.found there.present).0 in
      ne_eqb p.frame frame (λ here. elim apart [ inl low ↦ omega arith | inr high ↦ omega arith ]))

pub held_stays : (placement : List FramedPage) (before after : CellsState) (first : ℕ) (residency : Residency) → IsPlacement placement → IsPlacedAs placement residency → AreAlone first residency → AreHeld before first residency → rest_of placement after ≡ rest_of placement before → AreHeld after first residency
held_stays placement before after first residency kept is alone held same =
    let frames : after.frames ≡ before.frames = ap (λ (r : Rest). r.frames) same in
    record {
      memory = memory_stays placement before after same held.memory;
      stand = record {
        listed = held.stand.listed;
        each = λ word from to.
            words_stay placement before after same word (not_framed placement kept first residency is alone (word / 512) (omega arith) (omega arith))
            ∙ held.stand.each word from to;
      };
      tables = omega (arith, frames, held.tables);
      pages = subst (λ (n : ℕ). AreBelow n residency) (sym frames) held.pages;
    }
