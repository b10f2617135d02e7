-- A whole episode: where it begins, and what it leaves.
use Rattle.std.proofs.Common.{◌≡◌, ℕ, ◌+◌, ◌^◌, ◌≤◌, true, false, List, [], ◌∷◌, length, map, Some, None, refl, sym, ap, subst, ◌∙◌}
use Rattle.std.specs.Prelude.{Option}
use Rattle.std.proofs.lemmas.List.Elements.{All-nil, All-cons, All-head, All-tail}
use Rattle.vx_cells.specs.Cells.{CellsState}
use Rattle.vx_flat.specs.Process.{Process}
use Rattle.vx_flat.specs.Splits.{IsWellFormed}
use Rattle.vx_flat.specs.State.{Flat}
use Rattle.vx_image.specs.Pages.{MappedPage, Memory}
use Rattle.vx_tables.specs.Residency.{Residency}
use Rattle.vx_tlb.specs.Kept as tlb
use Rattle.vx_episode.specs.Episode.{EpisodeEnd}
use Rattle.vx_episode.specs.History.{Walk, after_walks}
use Rattle.vx_episode.specs.Organisation.{Organisation, Start}
use Rattle.vx_episode.specs.Played.{Plays}
use Rattle.vx_episode.specs.Show.{Registers, Shows}
use Rattle.vx_episode.specs.declared.ended.Ended.{Ended}
use Rattle.vx_course.specs.Course.{Course, begun_course}
use Rattle.vx_paged.specs.Framed.{IsPlacement, IsWithin, shown}
use Rattle.vx_paged.specs.Placed.{IsPlacedAs, IsWhole}
use Rattle.vx_paged.specs.declared.placement.FramedPage.{FramedPage}
use Rattle.vx_pending.specs.Alike.{StandsFor}
use Rattle.vx_serve.specs.Stamps as banks
use Rattle.vx_serve.specs.Stamps.{AreBy, BankStamps}
use Rattle.vx_pipe.specs.Going.{Caches, IsEpisodeOn, IsGoing, IsOver}
use Rattle.vx_pipe.specs.Left.{HasCome, IsLeft, IsPlayable, IsShown, PlaysPlaced}
use Rattle.vx_pipe.specs.Playing.{shown_state}
use Rattle.vx_pipe.specs.Turning.{IsTurning}
use Rattle.vx_pipe.specs.declared.counts.Counts.{Counts}

-- what an episode begins with
abbrev pub start_at : Organisation → (cycle root : ℕ) → Residency → Start
start_at machine cycle root residency = record { machine = machine; cycle = cycle; residency = residency; root = root; has_vectors = true }

pub on-at : (machine engine : Organisation) (cycle root : ℕ) (residency : Residency) (placement : List FramedPage) (registers : Registers) (cells : CellsState) (s : Flat) → machine ≡ engine → engine.window ≡ 1 → engine.batch_limit ≡ 1
    → Shows registers cells root residency s → IsPlacedAs placement residency → IsEpisodeOn engine root placement (start_at machine cycle root residency)
on-at machine engine cycle root residency placement registers cells s is window limit shows placed = record {
  machine_is = is;
  window = window;
  limit = limit;
  root_is = refl;
  vectors = refl;
  placed = placed;
  alone = shows.alone;
}

-- ---- where it begins

abbrev pub BeginsLaw : Type 0
BeginsLaw = (machine : Organisation) (root until : ℕ) (placement : List FramedPage) (start : Start) (from : Process) (cells : CellsState) (registers : Registers) (caches : Caches) → IsEpisodeOn machine root placement start → start.cycle ≡ cells.cycle → from.over ≡ None
    → IsWhole from.state.memory → IsWellFormed from.state → Shows registers cells root start.residency from.state
    → tlb.StandsFor caches.loads [] → tlb.StandsFor caches.fetches [] → banks.StandsFor caches.stamps start.machine [] → AreBy 0 caches.stamps.stamps
    → IsGoing start until from cells (begun_course start) caches cells (shown_state registers placement cells from.state.output)

module _ (begins : BeginsLaw) (machine engine : Organisation) (root until now : ℕ) (placement : List FramedPage) (cells : CellsState) (registers : Registers) (caches : Caches) (course : Course)
    (is : machine ≡ engine) (window : engine.window ≡ 1) (limit : engine.batch_limit ≡ 1) (at : now ≡ cells.cycle) (course-is : course ≡ record { retired = now; begun = now + 1; commits = 0; completed = 0; changed = false })
    (loads : tlb.StandsFor caches.loads []) (fetches : tlb.StandsFor caches.fetches []) (stamps : banks.StandsFor caches.stamps machine []) (by : AreBy 0 caches.stamps.stamps) where
  pub going-at : (residency : Residency) (process : Process) → Shows registers cells root residency process.state → IsPlacedAs placement residency → IsPlayable process
      → IsGoing (start_at machine cells.cycle root residency) until process cells course caches cells (shown_state registers placement cells process.state.output)
  going-at residency process shows placed playable =
      let here : course ≡ begun_course (start_at machine cells.cycle root residency) =
      course-is ∙ ap (λ (n : ℕ). record { retired = n; begun = n + 1; commits = 0; completed = 0; changed = false }) at in
      subst (λ (k : Course). IsGoing (start_at machine cells.cycle root residency) until process cells k caches cells (shown_state registers placement cells process.state.output)) (sym here)
      (begins engine root until placement (start_at machine cells.cycle root residency) process cells registers caches (on-at machine engine cells.cycle root residency placement registers cells process.state is window limit shows placed)
      refl playable.running playable.whole playable.formed shows loads fetches stamps by)

  pub turning-at : IsShown registers cells root placement → IsPlacement placement → IsWithin cells.frames placement → cells.cycle ≤ 2 ^ 42 → IsTurning engine root until placement course caches cells registers
  turning-at s kept within early = record {
    start = start_at machine cells.cycle root s.residency;
    from = s.process;
    first = cells;
    output = s.process.state.output;
    on = on-at machine engine cells.cycle root s.residency placement registers cells s.process.state is window limit s.shows s.placed;
    kept = kept;
    within = within;
    cycle = early;
    going = going-at s.residency s.process s.shows s.placed s.playable;
  }

-- ---- what it leaves

abbrev length-of : MappedPage → ℕ
length-of p = length p.bytes

whole-by : (m n : Memory) → map length-of m ≡ map length-of n → IsWhole m → IsWhole n
whole-by m [] is whole = All-nil (λ (page : MappedPage). length page.bytes ≡ 4096)
whole-by [] (q ∷ n) is whole = absurd (let never : [] ≡ length-of q ∷ map length-of n = is in cc)
whole-by (p ∷ m) (q ∷ n) is whole =
    let both : length-of p ∷ map length-of m ≡ length-of q ∷ map length-of n = is in
    let head : length-of p ≡ length-of q = cc in
    let rest : map length-of m ≡ map length-of n = cc in
    All-cons (λ (page : MappedPage). length page.bytes ≡ 4096) q n (sym head ∙ All-head (λ (page : MappedPage). length page.bytes ≡ 4096) p m whole)
    (whole-by m n rest (All-tail (λ (page : MappedPage). length page.bytes ≡ 4096) p m whole))

same-end : (a b : EpisodeEnd) (o : Option EpisodeEnd) → o ≡ Some a → o ≡ Some b → a ≡ b
same-end a b o one other = let both : Some a ≡ Some b = sym one ∙ other in cc

module _ (machine : Organisation) (root until : ℕ) (placement : List FramedPage) (start : Start) (from : Process) (first cells after : CellsState) (registers : Registers) (why : Ended) (clock : ℕ) (course : Course) (counts : Counts)
    (on : IsEpisodeOn machine root placement start) (kept : IsPlacement placement) (o : IsOver start until from first why clock course cells (shown_state registers placement cells from.state.output)) where
  left-as : IsWhole (shown placement cells.contents) → (p : Process) → p ≡ o.ending.process → counts.retired ≡ course.completed → IsLeft from p why counts.retired
  left-as whole p is completed =
      let stands : StandsFor (shown_state registers placement cells from.state.output) p.state = subst (λ (q : Process). StandsFor (shown_state registers placement cells from.state.output) q.state) (sym is) o.stands in
      record {
        come = subst (λ (n : ℕ). HasCome from p why n) (sym completed) (subst (λ (q : Process). HasCome from q why course.completed) (sym is) o.come);
        output = sym (ap (λ (s : Flat). s.output) stands.is);
        whole = whole-by (shown placement cells.contents) p.state.memory stands.alike.pages.lengths whole;
      }

  pub plays-placed : ((placement : List FramedPage) (residency : Residency) (walks : List Walk) → IsPlacement placement → IsPlacedAs placement residency → IsPlacedAs placement (after_walks residency walks))
      → IsWhole (shown placement cells.contents) → counts.retired ≡ course.completed
      → Plays start until from first after registers why counts.commits counts.retired counts.dirtied
      → PlaysPlaced start until from first after registers why counts placement
  plays-placed is_placed whole completed plays =
      let same : plays.result ≡ o.ends.result = same-end plays.result o.ends.result _ plays.is o.ends.is in
      record {
        plays = plays;
        placed = subst (λ (x : Residency). IsPlacedAs placement x) (sym o.walked ∙ sym o.ends.residency ∙ ap (λ (e : EpisodeEnd). e.residency) (sym same)) (is_placed placement start.residency o.walks kept on.placed);
        left = left-as whole plays.result.process (ap (λ (e : EpisodeEnd). e.process) same ∙ o.ends.process) completed;
      }
