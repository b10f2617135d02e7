-- An episode begins where registers and physical memory show a process, and shows one again where it is over.
use Rattle.std.proofs.Common.{◌≡◌, ℕ, List, [], None, refl, sym, ap, subst, ◌∙◌, arith}
use Rattle.vx_cells.specs.Cells.{CellsState}
use Rattle.vx_flat.specs.Process.{Process}
use Rattle.vx_flat.specs.Splits.{IsWellFormed}
use Rattle.vx_flat.specs.State.{Flat}
use Rattle.vx_tables.specs.Residency.{Residency}
use Rattle.vx_tables.specs.Tables.{AreHeld}
use Rattle.vx_tlb.specs.Kept as tlb
use Rattle.vx_episode.specs.Episode.{EpisodeEnd}
use Rattle.vx_episode.specs.History.{Walk, after_walks}
use Rattle.vx_episode.specs.Organisation.{Organisation, Start}
use Rattle.vx_episode.specs.Played.{Plays}
use Rattle.vx_episode.specs.Show.{Registers, Shows}
use Rattle.vx_episode.specs.declared.ended.Ended.{Ended}
use Rattle.vx_course.specs.Course.{Course, IsOnCourse, begun_course}
use Rattle.vx_paged.specs.Framed.{IsPlacement, shown}
use Rattle.vx_paged.specs.Placed.{AreAlone, IsPlacedAs, IsWhole}
use Rattle.vx_paged.specs.declared.placement.FramedPage.{FramedPage}
use Rattle.vx_pending.specs.Alike.{AreAlike, StandsFor}
use Rattle.vx_serve.specs.Stamps as banks
use Rattle.vx_serve.specs.Stamps.{AreBy, BankStamps}
use Rattle.vx_pipe.specs.Going.{Caches, IsEpisodeOn, IsGoing, IsOver}
use Rattle.vx_pipe.specs.Playing.{shown_state}

pub begins : ((start : Start) (until : ℕ) (from : Process) → from.over ≡ None → IsOnCourse start until from (begun_course start) [] from)
    → ((placement : List FramedPage) (registers : Registers) (cells : CellsState) (first : ℕ) (residency : Residency) (s : Flat) → IsWhole s.memory → IsPlacedAs placement residency → Shows registers cells first residency s → AreAlike s (shown placement cells.contents))
    → (machine : Organisation) (root until : ℕ) (placement : List FramedPage) (start : Start) (from : Process) (cells : CellsState) (registers : Registers) (caches : Caches) → IsEpisodeOn machine root placement start → start.cycle ≡ cells.cycle → from.over ≡ None
    → IsWhole from.state.memory → IsWellFormed from.state → Shows registers cells root start.residency from.state
    → tlb.StandsFor caches.loads [] → tlb.StandsFor caches.fetches [] → banks.StandsFor caches.stamps start.machine [] → AreBy 0 caches.stamps.stamps
    → IsGoing start until from cells (begun_course start) caches cells (shown_state registers placement cells from.state.output)
begins begin there machine root until placement start from cells registers caches on cycle over whole formed shows loads fetches stamps by = record {
  history = [];
  now = from;
  on = begin start until from over;
  loads = loads;
  fetches = fetches;
  banks = stamps;
  stamps = λ bank. omega (arith, by bank);
  cells_are = record {
    held = subst (λ (r : ℕ). AreHeld cells r start.residency) (sym on.root_is) shows.tables;
    frames = refl;
    cycle = refl;
    others = λ word elsewhere. refl;
  };
  stands = record {
    is = λ i. record { pc = shows.pc_is i; x = shows.x_is i; v = shows.v_is i; memory = shown placement cells.contents; output = from.state.output };
    alike = there placement registers cells root start.residency from.state whole on.placed shows;
  };
  formed = formed;
  few = omega arith;
}

held-later : (cells : CellsState) (root cycle : ℕ) (residency : Residency) → AreHeld cells root residency → AreHeld (record cells { cycle = cycle }) root residency
held-later cells root cycle residency held = record { memory = record { whole = held.memory.whole; limit = held.memory.limit }; stand = held.stand; tables = held.tables; pages = held.pages }

module _ (back : (placement : List FramedPage) (registers : Registers) (cells : CellsState) (first : ℕ) (residency : Residency) (s : Flat) → IsPlacedAs placement residency
    → registers.pc ≡ s.pc → registers.x ≡ s.x → registers.v ≡ s.v → AreHeld cells first residency → AreAlone first residency
    → AreAlike s (shown placement cells.contents) → Shows registers cells first residency s)
    (is_placed : (placement : List FramedPage) (residency : Residency) (walks : List Walk) → IsPlacement placement → IsPlacedAs placement residency → IsPlacedAs placement (after_walks residency walks))
    (is_alone : (placement : List FramedPage) (first : ℕ) (residency : Residency) (walks : List Walk) → IsPlacement placement → IsPlacedAs placement residency → AreAlone first residency → AreAlone first (after_walks residency walks))
    (machine : Organisation) (root until : ℕ) (placement : List FramedPage) (start : Start) (from : Process) (first cells : CellsState) (registers : Registers) (why : Ended) (clock : ℕ) (course : Course) (output : List ℕ)
    (on : IsEpisodeOn machine root placement start) (kept : IsPlacement placement) (o : IsOver start until from first why clock course cells (shown_state registers placement cells output)) where
  pub plays : Plays start until from first (record cells { cycle = clock }) registers why course.commits course.completed course.changed
  plays =
      let result : EpisodeEnd = o.ends.result in
      let walked : after_walks start.residency o.walks ≡ o.ends.result.residency = sym o.walked ∙ sym o.ends.residency in
      let is : StandsFor (shown_state registers placement cells output) o.ends.result.process.state = subst (λ (p : Process). StandsFor (shown_state registers placement cells output) p.state) (sym o.ends.process) o.stands in
      record {
        result = o.ends.result;
        is = o.ends.is;
        answer = o.ended_is ∙ sym o.ends.ended;
        cycle = o.clock_is ∙ sym o.ends.clock;
        committed = o.commits_are ∙ sym o.ends.commits;
        completed_are = o.completed_are ∙ sym o.ends.completed;
        changed = o.changed_is ∙ sym o.ends.changed_vectors;
        shows = back placement registers (record cells { cycle = clock }) start.root o.ends.result.residency o.ends.result.process.state
            (subst (λ (x : Residency). IsPlacedAs placement x) walked (is_placed placement start.residency o.walks kept on.placed))
            (ap (λ (s : Flat). s.pc) is.is) (ap (λ (s : Flat). s.x) is.is) (ap (λ (s : Flat). s.v) is.is)
            (held-later cells start.root clock o.ends.result.residency (subst (λ (x : Residency). AreHeld cells start.root x) (sym o.ends.residency) o.cells_are.held))
            (subst (λ (x : Residency). AreAlone start.root x) walked (is_alone placement start.root start.residency o.walks kept on.placed (subst (λ (r : ℕ). AreAlone r start.residency) (sym on.root_is) on.alone)))
            is.alike;
        frames = o.cells_are.frames;
        others = o.cells_are.others;
      }
