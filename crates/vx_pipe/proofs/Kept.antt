-- What is kept of physical memory while a process's memory is written.
use Rattle.std.proofs.Common.{◌≡◌, ℕ, ◌/◌, Bool, false, List, [], ◌∷◌, Some, map, ap, ◌∙◌, arith}
use Rattle.std.specs.Prelude.{◌≢◌, slice_index}
use Rattle.std.proofs.lemmas.List.Elements.{All-cons}
use Rattle.vx_cells.specs.Cells.{CellsState}
use Rattle.vx_hart.specs.Rest.{Rest}
use Rattle.vx_episode.specs.History.{Walk, after_walks}
use Rattle.vx_episode.specs.Organisation.{Start}
use Rattle.vx_paged.specs.Framed.{IsPlacement}
use Rattle.vx_paged.specs.Left.{is_framed, rest_of}
use Rattle.vx_paged.specs.Placed.{AreAlone, IsPlacedAs, frame_of}
use Rattle.vx_paged.specs.declared.placement.FramedPage.{FramedPage}
use Rattle.vx_tables.specs.Residency.{Place, PlacedPage, Residency, placed}
use Rattle.vx_tables.specs.Residency.Place.{Away, Present}
use Rattle.vx_tables.specs.Tables.{AreHeld}
use Rattle.vx_pipe.specs.Going.{AreKept}
use Rattle.vx_pipe.specs.Present.{ArePresent, IsPresent}

-- what vx_paged says of memory that is written, and of walks
pub record PagedLaws : Type 0 where
  pub words : (placement : List FramedPage) (before after : CellsState) → rest_of placement after ≡ rest_of placement before
      → (word : ℕ) → is_framed placement (word / 512) ≡ false → slice_index after.contents word ≡ slice_index before.contents word
  pub held : (placement : List FramedPage) (before after : CellsState) (first : ℕ) (residency : Residency) → IsPlacement placement → IsPlacedAs placement residency
      → AreAlone first residency → AreHeld before first residency → rest_of placement after ≡ rest_of placement before → AreHeld after first residency
  pub is_placed : (placement : List FramedPage) (residency : Residency) (walks : List Walk) → IsPlacement placement → IsPlacedAs placement residency → IsPlacedAs placement (after_walks residency walks)
  pub alone : (placement : List FramedPage) (first : ℕ) (residency : Residency) (walks : List Walk) → IsPlacement placement → IsPlacedAs placement residency → AreAlone first residency → AreAlone first (after_walks residency walks)
  pub elsewhere : (placement : List FramedPage) (residency : Residency) (frame : ℕ) → IsPlacement placement → IsPlacedAs placement residency
      → ((number : ℕ) (p : PlacedPage) (accessed dirty : Bool) → placed number residency ≡ Some p → p.place ≢ Present frame accessed dirty) → is_framed placement frame ≡ false

pub kept-through : (laws : PagedLaws) (placement : List FramedPage) (start : Start) (walks : List Walk) (first before after : CellsState) → IsPlacement placement → IsPlacedAs placement start.residency → AreAlone start.root start.residency
    → rest_of placement after ≡ rest_of placement before → AreKept start (after_walks start.residency walks) first before → AreKept start (after_walks start.residency walks) first after
kept-through laws placement start walks first before after kept placed alone same k = record {
  held = laws.held placement before after start.root (after_walks start.residency walks) kept (laws.is_placed placement start.residency walks kept placed) (laws.alone placement start.root start.residency walks kept placed alone) k.held same;
  frames = ap (λ (r : Rest). r.frames) same ∙ k.frames;
  cycle = ap (λ (r : Rest). r.cycle) same ∙ k.cycle;
  others = λ word elsewhere. laws.words placement before after same word (laws.elsewhere placement start.residency (word / 512) kept placed elsewhere.no_page) ∙ k.others word elsewhere;
}

-- ---- pages that are placed are present

present-by : (place : Place) (frame : ℕ) → frame_of place ≡ Some frame → IsPresent place
present-by Away frame is = cc
present-by (Present f accessed dirty) frame is = tt

pub present : (placement : List FramedPage) (residency : Residency) → map (λ (p : PlacedPage). frame_of p.place) residency ≡ map (λ (p : FramedPage). Some p.frame) placement → ArePresent residency
present placement [] is = λ k d below. absurd (omega arith)
present [] (q ∷ residency) is = cc
present (p ∷ placement) (q ∷ residency) is =
    let head : frame_of q.place ≡ Some p.frame = cc in
    let rest : map (λ (p : PlacedPage). frame_of p.place) residency ≡ map (λ (p : FramedPage). Some p.frame) placement = cc in
    All-cons (λ (p : PlacedPage). IsPresent p.place) q residency (present-by q.place p.frame head) (present placement residency rest)
