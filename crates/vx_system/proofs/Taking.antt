-- A process is taken: it goes on in its slice, or is given one.
use Rattle.std.proofs.Common.{◌≡◌, ℕ, ◌+◌, refl, sym, ap, ◌∙◌, subst}
use Rattle.std.specs.Prelude.{Option, Some, None, if◌then◌else◌}
use Rattle.vx_cells.specs.Cells.{CellsState}
use Rattle.vx_machine.specs.Machine.{Machine, given_slice, switch_cycles, taken}
use Rattle.vx_system.specs.Runs.{SystemState, StandsFor, Moves, slice_given}
use Rattle.vx_system.proofs.Timed.{at_cycle, fits-at, shows-at}

-- nothing changes
pub Moves-none : (s : SystemState) (c : CellsState) (m : Machine) → StandsFor s c m → Moves s s c m m
Moves-none s c m h = record { settings = refl; stands = h; of_run = λ hart image runnable of. of }

abbrev slice : SystemState → Machine → Option ℕ → Machine
slice s m o = elim o as (λ _. Machine) [ Some end ↦ m | None ↦ given_slice s.settings m (m.clock + (if m.has_run then 0 else switch_cycles)) ]

-- it has a slice
pub Moves-going : (s : SystemState) (c : CellsState) (m : Machine) (end : ℕ) → s.slice_end ≡ Some end → StandsFor s c m → Moves s s c m (taken s.settings m)
Moves-going s c m end has h =
    let same : taken s.settings m ≡ m = ap (slice s m) (sym h.slice_end ∙ has) in
    let To : Machine → Type 0 = λ n. Moves s s c m n in
    subst To (sym same) (Moves-none s c m h)

-- it is given one
pub Moves-given : (s : SystemState) (c : CellsState) (m : Machine) → s.slice_end ≡ None → StandsFor s c m → Moves s (slice_given s) (at_cycle (slice_given s).clock c) m (taken s.settings m)
Moves-given s c m none h =
    let clock = m.clock + (if m.has_run then 0 else switch_cycles) in
    let given = given_slice s.settings m clock in
    let same : taken s.settings m ≡ given = ap (slice s m) (sym h.slice_end ∙ none) in
    let clocks : (slice_given s).clock ≡ clock = λ j. h.clock j + (if h.has_run j then 0 else switch_cycles) in
    let after = at_cycle (slice_given s).clock c in
    let To : Machine → Type 0 = λ n. Moves s (slice_given s) after m n in
    subst To (sym same) (record {
      settings = refl;
      of_run = λ hart image runnable of. of;
      stands = record {
        shows = shows-at s.registers c (slice_given s).clock 0 m.residency m.process.state h.shows;
        placed = h.placed;
        kept = h.kept;
        fits = fits-at s.placement c (slice_given s).clock h.fits;
        formed = h.formed;
        whole = h.whole;
        output = h.output;
        count = h.count;
        over = h.over;
        cycles = h.cycles;
        clock = clocks;
        cycle = refl;
        slice_end = ap (λ (n : ℕ). Some (n + s.settings.slice)) clocks;
        has_run = refl;
      };
    })

-- ways go on one behind the other
pub Moves-join : (s t u : SystemState) (c d : CellsState) (k m n : Machine) → Moves s t c k m → Moves t u d m n → Moves s u d k n
Moves-join s t u c d k m n one two = record {
  settings = two.settings ∙ one.settings;
  stands = two.stands;
  of_run = λ hart image runnable of. two.of_run hart image runnable (one.of_run hart image runnable of);
}
