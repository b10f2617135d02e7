-- A service, done on the registers and the memory that physical memory shows.
use Rattle.std.proofs.Common.{◌≡◌, ℕ, ◌+◌, ◌-◌, ◌^◌, ◌<◌, Bool, true, false, List, [], ◌++◌, length, map, get_or, refl, sym, ap, subst, ◌∙◌, arith}
use Rattle.std.proofs.lemmas.Bool.{eqb-true, false≢true}
use Rattle.std.proofs.lemmas.List.{append-nil, length-append, length-map, get_or-map}
use Rattle.std.specs.Prelude.{ℤ, ◌==◌, Option, Some, None, IfSome, option_map, slice_index, if◌then◌else◌}
use Rattle.vx_base.specs.Faults.{one_more}
use Rattle.vx_base.specs.Numbers.{signed}
use Rattle.vx_cells.specs.Cells.{CellsState}
use Rattle.vx_decode.specs.declared.instr.Instr.{Instr}
use Rattle.vx_episode.specs.Show.{Registers, Shows}
use Rattle.vx_flat.specs.Outcome.Outcome.{Next, Exited}
use Rattle.vx_flat.specs.Process.{Process, after, stepped}
use Rattle.vx_flat.specs.Service.{service, answered}
use Rattle.vx_flat.specs.Splits.{IsRunnable, IsWellFormed}
use Rattle.vx_flat.specs.State.{Flat, register}
use Rattle.vx_flat.specs.Step.{upcoming, performed, performed_as, ecall, step}
use Rattle.vx_flat.specs.declared.end.End.{End}
use Rattle.vx_flat.specs.declared.end.End.TheVariants as end
use Rattle.vx_flat.specs.declared.hart.Hart.{Hart}
use Rattle.vx_flat.specs.declared.upcoming.Upcoming.{Upcoming}
use Rattle.vx_flat.specs.declared.upcoming.Upcoming.TheVariants.{Denied, Illegal, Instruction}
use Rattle.vx_hart.specs.Asking.{is_service, is_service_class}
use Rattle.vx_hart.specs.Writing as writing
use Rattle.vx_image.specs.Pages.{Image, MappedPage, Memory}
use Rattle.vx_machine.specs.Accounts.{IsOfRun}
use Rattle.vx_machine.specs.Machine.{Machine, passed, served, service_cycles, words_held, words_moved}
use Rattle.vx_paged.specs.Framed.{IsPlacement, shown}
use Rattle.vx_paged.specs.Left.{Fits, rest_of}
use Rattle.vx_paged.specs.Placed.{AreAlone, IsPlacedAs, IsWhole}
use Rattle.vx_paged.specs.declared.placement.FramedPage.{FramedPage}
use Rattle.vx_pending.specs.Alike.{AreAlike, HaveSamePages, StandsExactlyFor, with_memory}
use Rattle.vx_pending.specs.Alike as alike
use Rattle.vx_rows.specs.Table.{class_of}
use Rattle.vx_rows.specs.declared.row.Class.{Class}
use Rattle.vx_rows.specs.declared.row.Class.TheVariants as class
use Rattle.vx_system.proofs.Timed.{at_cycle, fits-at, shows-at}
use Rattle.vx_system.specs.Runs.{SystemState, StandsFor, Moves, IsAsking}
use Rattle.vx_tables.specs.Residency.{Residency}
use Rattle.vx_tables.specs.Tables.{AreHeld}

-- ---- the step of a process that asks for a service

class-ecall : (c : Class) (s : Flat) (i : Instr) → is_service_class c ≡ true → performed_as c s i ≡ ecall s
class-ecall class.Ecall s i asks = refl
class-ecall c s i asks = absurd (false≢true asks)

upcoming-ecall : (s : Flat) (u : Upcoming) → is_service u ≡ true → performed s u ≡ ecall s
unfolding performed
upcoming-ecall s Denied asks = absurd (false≢true asks)
upcoming-ecall s (Illegal word) asks = absurd (false≢true asks)
upcoming-ecall s (Instruction i) asks = class-ecall (class_of i.op) s i asks

-- exit writes nothing
exit-writes : (s : Flat) (n : ℕ) → n ≡ 93 → (service s n).written ≡ []
exit-writes s n e = subst (λ (k : ℕ). (service s k).written ≡ []) (sym e) refl

output-after : (p : Process) (exits : Bool) (code : ℤ) (t : Flat) (written : List ℕ) → (exits ≡ true → written ≡ []) → t.output ≡ p.state.output ++ written → (after p (if exits then Exited code else Next t)).state.output ≡ p.state.output ++ written
output-after p true code t written h e = sym (append-nil p.state.output) ∙ ap (λ (w : List ℕ). p.state.output ++ w) (sym (h refl))
output-after p false code t written h e = e

output-served : (p : Process) → (after p (ecall p.state)).state.output ≡ p.state.output ++ (service p.state (register p.state 17)).written
output-served p =
    let s = p.state in
    let n = register s 17 in
    output-after p (n == 93) (signed 64 (register s 10)) (answered s (service s n)) (service s n).written (λ e. exit-writes s n (eqb-true n 93 e)) refl

stepped-by : (p : Process) (o : Option End) → o ≡ None → (elim o as (λ _. Process) [ None ↦ after p (step p.state) | Some e ↦ p ]) ≡ after p (step p.state)
stepped-by p None e = refl
stepped-by p (Some x) e = absurd (cc)

stepped-is : (p : Process) → p.over ≡ None → stepped p ≡ after p (step p.state)
stepped-is p running = stepped-by p p.over running

-- how much longer the output is once the service is done
written-served : (p q : Process) → IsAsking p → q ≡ stepped p → length q.state.output - length p.state.output ≡ length (service p.state (register p.state 17)).written
written-served p q asking e =
    let s = p.state in
    let w = (service s (register s 17)).written in
    let stepped-to : q ≡ after p (ecall s) = e ∙ (stepped-is p asking.running ∙ ap (after p) (upcoming-ecall s (upcoming s) asking.service)) in
    let grown : q.state.output ≡ s.output ++ w = ap (λ (r : Process). r.state.output) stepped-to ∙ output-served p in
    let long : length q.state.output ≡ length s.output + length w = ap length grown ∙ length-append s.output w in
    omega arith

-- ---- laws of the crates below

pub record Laws : Type 0 where
  pub there : (placement : List FramedPage) (registers : Registers) (cells : CellsState) (first : ℕ) (residency : Residency) (s : Flat) → IsWhole s.memory
      → IsPlacedAs placement residency → Shows registers cells first residency s → AreAlike s (shown placement cells.contents)
  pub back : (placement : List FramedPage) (registers : Registers) (cells : CellsState) (first : ℕ) (residency : Residency) (s : Flat) → IsPlacedAs placement residency
      → registers.pc ≡ s.pc → registers.x ≡ s.x → registers.v ≡ s.v → AreHeld cells first residency → AreAlone first residency
      → AreAlike s (shown placement cells.contents) → Shows registers cells first residency s
  pub whole : (placement : List FramedPage) (contents : List ℕ) → IsWhole (shown placement contents)
  pub held : (placement : List FramedPage) (before after : CellsState) (first : ℕ) (residency : Residency) → IsPlacement placement → IsPlacedAs placement residency
      → AreAlone first residency → AreHeld before first residency → rest_of placement after ≡ rest_of placement before → AreHeld after first residency
  pub upcomes : (s : Flat) (m : Memory) → IsWellFormed s → AreAlike s m → upcoming (with_memory m s) ≡ upcoming s
  pub next : (s : Flat) (m : Memory) (u : Flat) → IsWellFormed s → AreAlike s m → step (with_memory m s) ≡ Next u → (t : Flat) × (step s ≡ Next t) × StandsExactlyFor u t
  pub exited : (s : Flat) (m : Memory) (code : ℤ) → IsWellFormed s → AreAlike s m → step (with_memory m s) ≡ Exited code → step s ≡ Exited code
  pub exact : (u t : Flat) → StandsExactlyFor u t → alike.StandsFor u t
  pub formed : (s t : Flat) → IsWellFormed s → step s ≡ Next t → IsWellFormed t
  pub stepped : (hart : Hart) (image : Image) (p : Process) → IsRunnable hart image → p.count < 2 ^ 64 - 1 → IsOfRun hart image p → IsOfRun hart image (stepped p)

-- ---- a service of the system

-- the state that registers and a memory are
abbrev pub flat_by : Registers → Memory → List ℕ → Flat
flat_by registers memory output = record { pc = registers.pc; x = registers.x; v = registers.v; memory = memory; output = output }

abbrev pub state_of : SystemState → CellsState → Flat
state_of s c = flat_by s.registers (shown s.placement c.contents) s.output

-- what was served, of the system before and after, and physical memory before the clock goes on
pub record IsServed (s t : SystemState) (c d : CellsState) (exit : Option ℤ) : Type 0 where
  pub settings : t.settings ≡ s.settings
  pub placement : t.placement ≡ s.placement
  pub fits : Fits s.placement d
  pub rest : rest_of s.placement d ≡ rest_of s.placement c
  pub led : writing.served exit (state_of t d) ≡ ecall (state_of s c)
  pub stays : IfSome exit (λ code. state_of t d ≡ state_of s c)
  pub few : s.count < 2 ^ 63
  pub count : t.count ≡ s.count + 1
  pub over : t.over ≡ option_map end.Exited exit
  pub slice_end : t.slice_end ≡ s.slice_end
  pub has_run : t.has_run ≡ s.has_run

-- and the cycles that it took
abbrev pub cycles_of : SystemState → SystemState → ℕ
cycles_of s t = words_held (register (flat_by s.registers [] []) 11) (length t.output - length s.output) + service_cycles

pub record IsTimed (s t : SystemState) : Type 0 where
  pub cycles : t.cycles ≡ s.cycles + cycles_of s t
  pub clock : t.clock ≡ s.clock + cycles_of s t

-- pages that have as many bytes are whole
lengths-whole : (m n : Memory) → map (λ (p : MappedPage). length p.bytes) m ≡ map (λ (p : MappedPage). length p.bytes) n → IsWhole m → IsWhole n
lengths-whole m n e w k d small =
    let long : MappedPage → ℕ = λ p. length p.bytes in
    let as-many : length m ≡ length n = sym (length-map m long) ∙ ap length e ∙ length-map n long in
    let below : k < length m = omega (arith, small, as-many) in
    sym (get_or-map long n k d (long d) small) ∙ ap (λ (l : List ℕ). get_or l k (long d)) (sym e) ∙ get_or-map long m k d (long d) below ∙ w k d below

abbrev process : Flat → ℕ → Option End → Process
process q count over = record { state = q; count = count; over = over }

module _ (L : Laws) (s t : SystemState) (c d : CellsState) (exit : Option ℤ) (m : Machine) (is : IsServed s t c d exit) (h : StandsFor s c m) (asking : IsAsking m.process) where
  abbrev memory : Memory
  memory = shown s.placement c.contents

  same : state_of s c ≡ with_memory memory m.process.state
  same = λ j. record { pc = h.shows.pc_is j; x = h.shows.x_is j; v = h.shows.v_is j; memory = memory; output = h.output j }

  alike-before : AreAlike m.process.state memory
  alike-before = L.there s.placement s.registers c 0 m.residency m.process.state h.whole h.placed h.shows

  steps-so : step (with_memory memory m.process.state) ≡ writing.served exit (state_of t d)
  steps-so =
      let p = m.process.state in
      let u = with_memory memory p in
      let comes : upcoming u ≡ upcoming p = L.upcomes p memory (h.formed asking.running) alike-before in
      let asks : is_service (upcoming u) ≡ true = ap is_service comes ∙ asking.service in
      upcoming-ecall u (upcoming u) asks ∙ ap ecall (sym same) ∙ sym is.led

  -- physical memory shows what the service led to
  shows-then : (q : Flat) → t.registers.pc ≡ q.pc → t.registers.x ≡ q.x → t.registers.v ≡ q.v → AreAlike q (shown t.placement d.contents) → Shows t.registers (at_cycle t.clock d) 0 m.residency q
  shows-then q pc x v a =
      let held = L.held s.placement c d 0 m.residency h.kept h.placed h.shows.alone h.shows.tables is.rest in
      let Alike : List FramedPage → Type 0 = λ l. AreAlike q (shown l d.contents) in
      shows-at t.registers d t.clock 0 m.residency q (L.back s.placement t.registers d 0 m.residency q h.placed pc x v held h.shows.alone (subst Alike is.placement a))

  -- the machine that the system stands for then
  to-machine : (q : Flat) (over : Option End) → stepped m.process ≡ process q (one_more m.process.count) over
      → Shows t.registers (at_cycle t.clock d) 0 m.residency q → t.output ≡ q.output → t.over ≡ over → (over ≡ None → IsWellFormed q) → IsWhole q.memory
      → IsTimed s t → Moves s t (at_cycle t.clock d) m (served m)
  to-machine q over led shows output ends formed whole timed =
      let p = m.process in
      let r = process q (one_more p.count) over in
      let long : length q.output - length p.state.output ≡ length (service p.state (register p.state 17)).written = written-served p r asking (sym led) in
      let cycles = words_moved p.state + service_cycles in
      let lengths : length t.output - length s.output ≡ length (service p.state (register p.state 17)).written = (λ j. length (output j) - length (h.output j)) ∙ long in
      let took : cycles_of s t ≡ cycles = λ j. words_held (slice_index (h.shows.x_is j) 11) (lengths j) + service_cycles in
      let count : s.count ≡ p.count = h.count in
      let more : s.count + 1 ≡ one_more p.count = omega (arith, count, is.few) in
      let small : p.count < 2 ^ 64 - 1 = omega (arith, count, is.few) in
      let To : Process → Type 0 = λ x. Moves s t (at_cycle t.clock d) m (passed m x cycles) in
      let On : List FramedPage → Type 0 = λ l. Fits l (at_cycle t.clock d) in
      let Placed : List FramedPage → Type 0 = λ l. IsPlacedAs l m.residency in
      subst To (sym led) (record {
        settings = is.settings;
        of_run = λ hart image runnable of. subst (λ (x : Process). IsOfRun hart image x) led (L.stepped hart image p runnable small of);
        stands = record {
          shows = shows;
          placed = subst Placed (sym is.placement) h.placed;
          kept = subst (λ (l : List FramedPage). IsPlacement l) (sym is.placement) h.kept;
          fits = subst On (sym is.placement) (fits-at s.placement d t.clock is.fits);
          formed = formed;
          whole = whole;
          output = output;
          count = is.count ∙ more;
          over = ends;
          cycles = timed.cycles ∙ (λ j. h.cycles j + took j);
          clock = timed.clock ∙ (λ j. h.clock j + took j);
          cycle = refl;
          slice_end = is.slice_end ∙ h.slice_end;
          has_run = is.has_run ∙ h.has_run;
        };
      })

  -- the process goes on, or it exits
  by-exit : (o : Option ℤ) → exit ≡ o → IsTimed s t → Moves s t (at_cycle t.clock d) m (served m)
  by-exit None e timed =
      let p = m.process.state in
      let u = state_of t d in
      let stepped-to : step (with_memory memory p) ≡ Next u = steps-so ∙ ap (λ (x : Option ℤ). writing.served x u) e in
      let led = L.next p memory u (h.formed asking.running) alike-before stepped-to in
      let q = led.0 in
      let after-it = L.exact u q led.2 in
      let pc : t.registers.pc ≡ q.pc = ap (λ (f : Flat). f.pc) after-it.is in
      let x : t.registers.x ≡ q.x = ap (λ (f : Flat). f.x) after-it.is in
      let v : t.registers.v ≡ q.v = ap (λ (f : Flat). f.v) after-it.is in
      let output : t.output ≡ q.output = ap (λ (f : Flat). f.output) after-it.is in
      let whole : IsWhole q.memory = lengths-whole (shown t.placement d.contents) q.memory led.2.pages.lengths (L.whole t.placement d.contents) in
      let process-is : stepped m.process ≡ process q (one_more m.process.count) m.process.over = stepped-is m.process asking.running ∙ ap (after m.process) led.1 in
      let ends : t.over ≡ m.process.over = is.over ∙ ap (option_map end.Exited) e ∙ sym asking.running in
      to-machine q m.process.over process-is (shows-then q pc x v after-it.alike) output ends (λ running. L.formed p q (h.formed asking.running) led.1) whole timed
  by-exit (Some code) e timed =
      let p = m.process.state in
      let u = state_of t d in
      let stepped-to : step (with_memory memory p) ≡ Exited code = steps-so ∙ ap (λ (x : Option ℤ). writing.served x u) e in
      let led : step p ≡ Exited code = L.exited p memory code (h.formed asking.running) alike-before stepped-to in
      let Stays : Option ℤ → Type 0 = λ o. IfSome o (λ code. u ≡ state_of s c) in
      let stayed : u ≡ state_of s c = subst Stays e is.stays in
      let stays : u ≡ with_memory memory p = stayed ∙ same in
      let pc : t.registers.pc ≡ p.pc = ap (λ (f : Flat). f.pc) stays in
      let x : t.registers.x ≡ p.x = ap (λ (f : Flat). f.x) stays in
      let v : t.registers.v ≡ p.v = ap (λ (f : Flat). f.v) stays in
      let output : t.output ≡ p.output = ap (λ (f : Flat). f.output) stays in
      let Alike : Memory → Type 0 = λ l. AreAlike p l in
      let alike-then : AreAlike p (shown t.placement d.contents) = subst Alike (sym (ap (λ (f : Flat). f.memory) stays)) alike-before in
      let process-is : stepped m.process ≡ process p (one_more m.process.count) (Some (end.Exited code)) = stepped-is m.process asking.running ∙ ap (after m.process) led in
      let ends : t.over ≡ Some (end.Exited code) = is.over ∙ ap (option_map end.Exited) e in
      to-machine p (Some (end.Exited code)) process-is (shows-then p pc x v alike-then) output ends (λ over. absurd (cc)) h.whole timed

pub Moves-served : Laws → (s t : SystemState) (c d : CellsState) (exit : Option ℤ) (m : Machine) → IsServed s t c d exit → IsTimed s t → StandsFor s c m → IsAsking m.process → Moves s t (at_cycle t.clock d) m (served m)
Moves-served L s t c d exit m is timed h asking = by-exit L s t c d exit m is h asking exit refl timed
