-- How late an instruction is issued, and what physical memory holds while it is done.
use Rattle.std.proofs.Common.{◌≡◌, ℕ, ◌+◌, ◌^◌, ◌≤◌, max, List, [], ◌∷◌, ◌++◌, sym, ap, subst, ◌∙◌, arith}
use Rattle.std.specs.Prelude.{Option}
use Rattle.vx_base.specs.declared.machine.Want.{Want}
use Rattle.vx_cells.specs.Cells.{CellsState}
use Rattle.vx_decode.specs.declared.instr.Instr.{Instr}
use Rattle.vx_tables.specs.Residency.{Residency}
use Rattle.vx_tables.specs.Tables.{AreHeld}
use Rattle.vx_tables.specs.Walking.{HaveTables}
use Rattle.vx_tlb.specs.declared.tlb.Kept.{Kept}
use Rattle.vx_episode.specs.Batches.{walks_of}
use Rattle.vx_episode.specs.Commits.{entry_of}
use Rattle.vx_episode.specs.Footprint.{Access}
use Rattle.vx_episode.specs.History.{Entry, Walk, after_walks, batches_of, data_walks, fetch_walks, walks_of_batches}
use Rattle.vx_episode.specs.Organisation.{Organisation}
use Rattle.vx_episode.specs.Show.{Registers}
use Rattle.vx_course.specs.Course.{Course}
use Rattle.vx_look.specs.LookUps.{AreLookedUp, AreReady}
use Rattle.vx_paged.specs.Framed.{IsWithin}
use Rattle.vx_paged.specs.Left.{Fits, rest_of}
use Rattle.vx_paged.specs.declared.placement.FramedPage.{FramedPage}
use Rattle.vx_serve.specs.Fates.{IsKnownBy}
use Rattle.vx_serve.specs.declared.fate.Fate.{Fate as Known}
use Rattle.vx_serve.specs.declared.fate.Fate.TheVariants as known
use Rattle.vx_pipe.specs.Going.{Caches, fetches_with}
use Rattle.vx_pipe.specs.Turning.{IsIssued}
use Rattle.vx_pipe.proofs.Bounds.{issued-bounds, issued-fetched}
use Rattle.vx_pipe.proofs.Kept.{PagedLaws}

-- what is known by a cycle is known later
pub later-known : (k l : ℕ) (f : Known) → k ≤ l → IsKnownBy k f → IsKnownBy l f
later-known k l (known.Good cycle word) few h = omega arith
later-known k l (known.Fails cycle is_away) few h = omega arith
later-known k l known.Unknown few h = tt

module _ (machine : Organisation) (root until : ℕ) (placement : List FramedPage) (course : Course) (fetched : ℕ) (caches : Caches) (cells : CellsState) (registers : Registers) (word : ℕ) (i : Instr)
    (d : IsIssued machine root until placement course fetched caches cells registers word i) where
  -- it is issued soon behind the last retire
  pub issued-soon : machine.bank_time ≤ 16 → (issued : ℕ) → issued ≡ max fetched (course.retired + 1) → issued ≤ course.retired + 65
  issued-soon short issued is =
      let near = issued-fetched machine root until placement course fetched caches cells registers word i d in
      omega (arith, short, is, near, d.issuing.on.soon)

  pub issued-small : machine.bank_time ≤ 16 → until ≤ 2 ^ 42 → (issued : ℕ) → issued ≡ max fetched (course.retired + 1) → issued ≤ 2 ^ 42 + 65
  issued-small short to issued is =
      let bounds = issued-bounds machine root until placement course fetched caches cells registers word i d to in
      let soon = issued-soon short issued is in
      omega (arith, soon, bounds.retired)

  -- the pages' frames are there once an access was looked up
  pub fits-looked : (middle : CellsState) → HaveTables middle root → middle.frames ≡ cells.frames → Fits placement middle
  fits-looked middle tables frames = record {
    memory = record { whole = tables.held.memory.whole; limit = tables.held.memory.limit };
    within = subst (λ (n : ℕ). IsWithin n placement) (sym (frames ∙ d.issuing.cells_are.frames)) d.within;
  }

  abbrev residency-now : Residency
  residency-now = after_walks d.start.residency (fetches_with (entry_of d.start d.issuing.history d.issuing.now.state) d.issuing.history ++ data_walks d.issuing.history)

  held-now : AreHeld cells root residency-now
  held-now = subst (λ (r : ℕ). AreHeld cells r residency-now) d.on.root_is d.issuing.cells_are.held

  -- and so are the tables once the instruction was done
  pub tables-done : PagedLaws → (new : List (Option Kept)) (want : Want) (started : ℕ) (a : Access) (middle after : CellsState) (other : List FramedPage) (known : Known) (looked : ℕ)
      → (AreReady d.start (entry_of d.start d.issuing.history d.issuing.now.state ∷ d.issuing.history) (batches_of d.issuing.history) root caches.loads cells
      → AreLookedUp d.start (entry_of d.start d.issuing.history d.issuing.now.state ∷ d.issuing.history) (batches_of d.issuing.history) want started (a ∷ []) root new cells middle (known ∷ []) looked)
      → rest_of other after ≡ rest_of placement middle → other ≡ placement → HaveTables after root
  tables-done paged new want started a middle after other known looked looks same placed =
      let e : Entry = entry_of d.start d.issuing.history d.issuing.now.state in
      let ready : AreReady d.start (e ∷ d.issuing.history) (batches_of d.issuing.history) root caches.loads cells = record { kept = d.issuing.loads; held = held-now } in
      let walks : List Walk = fetch_walks (e ∷ d.issuing.history) ++ walks_of d.start (e ∷ d.issuing.history) (batches_of d.issuing.history) want started [] (a ∷ []) ++ walks_of_batches (batches_of d.issuing.history) in
      record {
        residency = after_walks d.start.residency walks;
        held = paged.held placement middle after root (after_walks d.start.residency walks) d.kept (paged.is_placed placement d.start.residency walks d.kept d.on.placed)
            (paged.alone placement root d.start.residency walks d.kept d.on.placed d.on.alone) (looks ready).held
            (ap (λ (p : List FramedPage). rest_of p after) (sym placed) ∙ same);
      }
