-- A fetch goes from an instruction's beginning to its issue.
use Rattle.std.proofs.Common.{◌≡◌, ℕ, ◌+◌, ◌*◌, ◌/◌, ◌<◌, ◌≤◌, Bool, true, false, ◌&&◌, leb, ltb, List, ◌++◌, None, refl, sym, ap, subst, ◌∙◌, inl, inr, arith}
use Rattle.std.specs.Prelude.{Option, ◌⊎◌, if◌then◌else◌, option_to_list}
use Rattle.std.proofs.lemmas.Bool.{lt-leb, le-ltb}
use Rattle.std.proofs.Math.Bool.{and-false}
use Rattle.vx_cells.specs.Cells.{CellsState}
use Rattle.vx_image.specs.Pages.{is_canonical, page_of}
use Rattle.vx_base.specs.declared.machine.Want.TheVariants.{Fetch}
use Rattle.vx_flat.specs.Process.{Process}
use Rattle.vx_flat.specs.State.{Flat}
use Rattle.vx_tables.specs.Caches.{look_up}
use Rattle.vx_tables.specs.Residency.{Residency, pages_of}
use Rattle.vx_tables.specs.Tables.{AreHeld, SameBut, table_count}
use Rattle.vx_tables.specs.declared.look.Look.{Look}
use Rattle.vx_tables.specs.declared.look.Look.TheVariants.{Hit, Denied, Miss}
use Rattle.vx_tlb.specs.Kept as tlb
use Rattle.vx_tlb.specs.declared.tlb.Kept.{Kept}
use Rattle.vx_episode.specs.Commits.{entry_of}
use Rattle.vx_episode.specs.Cycles.{Cycle}
use Rattle.vx_episode.specs.Cycles.Cycle.{At}
use Rattle.vx_episode.specs.History.{History, FetchTimes, data_walks, fetch_walks, fills_of, after_walks}
use Rattle.vx_episode.specs.Instructions.{fetch_begin, fetch_by, fetch_times, residency_now, walk_time}
use Rattle.vx_episode.specs.Organisation.{Start, fetch_entries}
use Rattle.vx_course.specs.Course.{Course}
use Rattle.vx_look.specs.Fetches.{IsFetchedAs, IsFetched}
use Rattle.vx_look.specs.declared.fetching.Fetched.{Fetched}
use Rattle.vx_serve.specs.Stamps.{BankStamps}
use Rattle.vx_pipe.specs.Going.{AreKept, AreLeft, IsGoing, IsIssuing}

-- ---- words that are in no table

outside : (first count word : ℕ) → (word / 512 < first) ⊎ (first + count ≤ word / 512) → (leb (512 * first) word && ltb word (512 * (first + count))) ≡ false
outside first count word (inl below) = rw (lt-leb (512 * first) word (omega (arith, below))) refl
outside first count word (inr behind) = rw (le-ltb word (512 * (first + count)) (omega (arith, behind))) (and-false (leb (512 * first) word))

pub left-by : (start : Start) (first before after : CellsState) → AreLeft start first before → SameBut start.root (table_count (pages_of start.residency)) before.contents after.contents → AreLeft start first after
left-by start first before after left same word elsewhere =
    same word (outside start.root (table_count (pages_of start.residency)) word elsewhere.no_table) ∙ left word elsewhere

-- what is kept once walks have written the tables
pub kept-by : (start : Start) (residency next : Residency) (first before after : CellsState) → AreKept start residency first before → AreHeld after start.root next → after.frames ≡ before.frames → after.cycle ≡ before.cycle
    → SameBut start.root (table_count (pages_of start.residency)) before.contents after.contents → AreKept start next first after
kept-by start residency next first before after kept held frames cycle same = record {
  held = held;
  frames = frames ∙ kept.frames;
  cycle = cycle ∙ kept.cycle;
  others = left-by start first before after kept.others same;
}

-- ---- when a fetch ends

by-look : (start : Start) (history : History) (pc begun fetched : ℕ) (look : Look) → (fetch_by start history pc begun look).ended ≡ At fetched → fetched ≤ begun + walk_time start.machine
by-look start history pc begun fetched (Hit frame) ends = let same : begun ≡ fetched = cc in omega (arith, same)
by-look start history pc begun fetched Denied ends = let same : begun ≡ fetched = cc in omega (arith, same)
by-look start history pc begun fetched Miss ends = let same : begun + walk_time start.machine ≡ fetched = cc in omega (arith, same)

by-choice : (start : Start) (history : History) (pc begun fetched : ℕ) (look : Look) (b : Bool) → (if b then fetch_by start history pc begun look else record { begun = At begun; ended = At begun; walk = None }).ended ≡ At fetched → fetched ≤ begun + walk_time start.machine
by-choice start history pc begun fetched look true ends = by-look start history pc begun fetched look ends
by-choice start history pc begun fetched look false ends = by-look start history pc begun fetched Denied ends

pub fetch-ends : (start : Start) (history : History) (pc begun fetched : ℕ) → (fetch_times start history pc (At begun)).ended ≡ At fetched → fetched ≤ begun + walk_time start.machine
fetch-ends start history pc begun fetched ends = by-choice start history pc begun fetched (look_up fetch_entries (fills_of (fetch_walks history)) (page_of pc) Fetch) (is_canonical pc) ends

-- ---- from going to issuing

module _ (start : Start) (until : ℕ) (from : Process) (first : CellsState) (course : Course) (loads fetches new : List (Option Kept)) (stamps : BankStamps) (before after : CellsState) (u : Flat) (g : IsGoing start until from first course (record { loads = loads; fetches = fetches; stamps = stamps }) before u) (f : Fetched) where
  times : FetchTimes
  times = fetch_times start g.history g.now.state.pc (fetch_begin start g.history)

  issuing-as : (t : FetchTimes) → (entry_of start g.history g.now.state).fetch ≡ t → f.ended ≤ course.begun + walk_time start.machine → IsFetchedAs start g.history t start.root new before after f
      → IsIssuing start until from first course f.ended (record { loads = loads; fetches = new; stamps = stamps }) after u
  issuing-as t is near fetched = record {
    history = g.history;
    now = g.now;
    on = g.on;
    ended = ap (λ (t : FetchTimes). t.ended) is ∙ fetched.ended;
    loads = g.loads;
    fetches = subst (λ (t : FetchTimes). tlb.StandsFor new (fills_of (option_to_list t.walk ++ fetch_walks g.history))) (sym is) fetched.kept;
    banks = g.banks;
    stamps = g.stamps;
    cells_are = kept-by start (residency_now start g.history) _ first before after g.cells_are
        (subst (λ (t : FetchTimes). AreHeld after start.root (after_walks start.residency (option_to_list t.walk ++ fetch_walks g.history ++ data_walks g.history))) (sym is) fetched.held)
        fetched.frames fetched.cycle fetched.others;
    stands = g.stands;
    formed = g.formed;
    few = g.few;
    near = near;
  }

  pub issuing : (pc : ℕ) → u.pc ≡ pc → IsFetched start g.history pc course.begun start.root new before after f → IsIssuing start until from first course f.ended (record { loads = loads; fetches = new; stamps = stamps }) after u
  issuing pc at fetched =
      let here : pc ≡ g.now.state.pc = sym at ∙ ap (λ (s : Flat). s.pc) g.stands.is in
      let same : (entry_of start g.history g.now.state).fetch ≡ fetch_times start g.history pc (At course.begun) =
      ap (λ (c : Cycle). fetch_times start g.history g.now.state.pc c) g.on.fetch ∙ ap (λ (n : ℕ). fetch_times start g.history n (At course.begun)) (sym here) in
      issuing-as (fetch_times start g.history pc (At course.begun)) same (fetch-ends start g.history pc course.begun f.ended fetched.ended) fetched
