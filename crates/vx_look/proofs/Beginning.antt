-- A fetch with its look-up, and with its walk.
use Rattle.std.proofs.Common.{◌≡◌, ℕ, ◌+◌, ◌<◌, true, false, List, ◌++◌, refl, sym, ap, subst, ◌∙◌}
use Rattle.std.specs.Prelude.{Option, Bool, ◌&&◌, if◌then◌else◌}
use Rattle.std.proofs.lemmas.Bool.{false≢true}
use Rattle.vx_base.specs.declared.machine.Want.TheVariants.{Fetch}
use Rattle.vx_cells.specs.Cells.{CellsState}
use Rattle.vx_image.specs.Pages.{is_canonical, page_of}
use Rattle.vx_episode.specs.Cycles.Cycle.{At}
use Rattle.vx_episode.specs.History.{History, Walk, FetchTimes, data_walks, fetch_walks, fills_of}
use Rattle.vx_episode.specs.Instructions.{walk_time, residency_now, fetch_walk, fetch_at, fetch_walked, fetch_by, fetch_times}
use Rattle.vx_episode.specs.Organisation.{Start, fetch_entries}
use Rattle.vx_look.proofs.Going.{others-start}
use Rattle.vx_look.specs.Fates.{is_miss}
use Rattle.vx_look.specs.Fetches.{is_away, IsFetchedAs, IsFetched}
use Rattle.vx_look.specs.declared.fetching.Fetched.{Fetched}
use Rattle.vx_tables.specs.Caches.{Fill, filled_by, look_up}
use Rattle.vx_tables.specs.Tables.{AreHeld}
use Rattle.vx_tables.specs.Walking.{Walks}
use Rattle.vx_tables.specs.declared.look.Look.{Look}
use Rattle.vx_tables.specs.declared.look.Look.TheVariants.{Hit, Denied, Miss}
use Rattle.vx_tables.specs.declared.walked.Walked.{Walked}
use Rattle.vx_tlb.specs.Kept.{StandsFor}
use Rattle.vx_tlb.specs.declared.tlb.Kept.{Kept}

module _ (start : Start) (history : History) (pc begun : ℕ) where
  abbrev pub seen : Look
  seen = look_up fetch_entries (fills_of (fetch_walks history)) (page_of pc) Fetch

  quiet-by : (canonical : Bool) (l : Look) → (canonical && is_miss l) ≡ false → (if canonical then fetch_by start history pc begun l else fetch_at start begun) ≡ fetch_at start begun
  quiet-by false l quiet = refl
  quiet-by true (Hit frame) quiet = refl
  quiet-by true Denied quiet = refl
  quiet-by true Miss quiet = absurd (false≢true (sym quiet))

  walked-by : (canonical : Bool) (l : Look) → (canonical && is_miss l) ≡ true → (if canonical then fetch_by start history pc begun l else fetch_at start begun) ≡ fetch_walked start (fetch_walk start history pc begun)
  walked-by false l walks = absurd (false≢true walks)
  walked-by true (Hit frame) walks = absurd (false≢true walks)
  walked-by true Denied walks = absurd (false≢true walks)
  walked-by true Miss walks = refl

  quiet-times : (is_canonical pc && is_miss seen) ≡ false → fetch_times start history pc (At begun) ≡ fetch_at start begun
  quiet-times quiet = quiet-by (is_canonical pc) seen quiet

  walked-times : (is_canonical pc && is_miss seen) ≡ true → fetch_times start history pc (At begun) ≡ fetch_walked start (fetch_walk start history pc begun)
  walked-times walks = walked-by (is_canonical pc) seen walks

  pub fetched-quiet : (root : ℕ) (places now : List (Option Kept)) (cells : CellsState) (f : Fetched) → (is_canonical pc && is_miss seen) ≡ false → now ≡ places → f.ended ≡ begun → f.is_away ≡ false
      → StandsFor places (fills_of (fetch_walks history)) → AreHeld cells root (residency_now start history) → IsFetched start history pc begun root now cells cells f
  fetched-quiet root places now cells f quiet same ends near kept held =
      let made : IsFetchedAs start history (fetch_at start begun) root now cells cells f = record {
        ended = ap At (sym ends);
        away = near;
        kept = subst (λ (ps : List (Option Kept)). StandsFor ps (fills_of (fetch_walks history))) (sym same) kept;
        held = held;
        frames = refl;
        cycle = refl;
        others = λ word out. refl;
      } in
      subst (λ (t : FetchTimes). IsFetchedAs start history t root now cells cells f) (sym (quiet-times quiet)) made

  pub fetched-walked : (root : ℕ) (places now : List (Option Kept)) (before after : CellsState) (answered : Walked) (f : Fetched) → (is_canonical pc && is_miss seen) ≡ true → f.ended ≡ begun + walk_time start.machine → f.is_away ≡ is_away answered
      → StandsFor places (fills_of (fetch_walks history)) → Walks before after (residency_now start history) root pc Fetch answered
      → ((fills : List Fill) → StandsFor places fills → StandsFor now (filled_by (page_of pc) answered fills)) → IsFetched start history pc begun root now before after f
  fetched-walked root places now before after answered f walks ends away kept walk learned =
      let w : Walk = fetch_walk start history pc begun in
      let answer : answered ≡ w.answer = walk.answer in
      let made : IsFetchedAs start history (fetch_walked start w) root now before after f = record {
        ended = ap At (sym ends);
        away = away ∙ ap is_away answer;
        kept = subst (λ (x : Walked). StandsFor now (filled_by (page_of pc) x (fills_of (fetch_walks history)))) answer (learned (fills_of (fetch_walks history)) kept);
        held = walk.held;
        frames = walk.makes.frames;
        cycle = walk.makes.cycle;
        others = others-start start.residency (fetch_walks history ++ data_walks history) root before.contents after.contents walk.others;
      } in
      subst (λ (t : FetchTimes). IsFetchedAs start history t root now before after f) (sym (walked-times walks)) made
