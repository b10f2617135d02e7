use Rattle.std.proofs.Common.{◌≡◌, ℕ, ◌+◌, ◌-◌, ◌<◌, ◌≤◌, ◌^◌, List, [], length, refl, sym, ap, subst, ◌∙◌, arith, rules}
use Rattle.vx_cells.specs.Cells.{CellsState}
use Rattle.vx_flat.specs.State.{register}
use Rattle.vx_machine.specs.Machine.{served, words_held}
use Rattle.vx_paged.specs.Left.{Fits, rest_of}
use Rattle.vx_paged.specs.declared.placement.FramedPage.{FramedPage}
use Rattle.vx_pipe.specs.Left.{registers_of}
use Rattle.vx_system.proofs.Services.{Laws, IsServed, IsTimed, Moves-served, cycles_of, flat_by}
use Rattle.vx_system.specs.Runs.{SystemState, IsAsking, Moves, StandsFor, settings_of}
use Rattle.vx_system.proofs.system.System.serve.Goals as goal

pub returns-clause-served : goal.returns-clause-served
returns-clause-served g c m h asking =
    let i = c.self.inside in
    let exit = c.serve-exit.result in
    let cells : CellsState = g.C.Cells.state c.args.cells.now in
    let last : CellsState = g.C.Cells.state c.serve-exit.new.physical in
    let s : SystemState = record {
      settings = settings_of i.options;
      registers = registers_of i.arch;
      placement = i.memory;
      output = i.output.items;
      count = i.count;
      over = i.over;
      cycles = i.cycles;
      clock = i.clock;
      slice_end = i.slice_end;
      has_run = i.has_run;
    } in
    let t : SystemState = record {
      settings = settings_of i.options;
      registers = registers_of c.serve-exit.new.arch;
      placement = c.serve-exit.new.memory;
      output = c.serve-exit.new.output.items;
      count = i.count + 1;
      over = c.exited-self-inside.result;
      cycles = i.cycles + (c.words_held-cycles.result + 50);
      clock = i.clock + (c.words_held-cycles.result + 50);
      slice_end = i.slice_end;
      has_run = i.has_run;
    } in
    let laws : Laws = record {
      there = c.shown_memory_is_alike.ensures.there;
      back = c.shown_memory_is_alike.ensures.back;
      whole = c.shown_memory_is_alike.ensures.whole;
      held = c.tables_stay.ensures.held;
      upcomes = c.pending_bytes_are_not_read.ensures.next;
      next = c.steps_are_alike.ensures.next;
      exited = c.steps_are_alike.ensures.exited;
      exact = c.nothing_else_differs.ensures.exact;
      formed = c.runs_are_well_formed.ensures.step;
      stepped = c.accounts_are_true.ensures.stepped;
    } in
    let same : t.placement ≡ s.placement = c.walks_leave_pages.ensures.same s.placement t.placement cells last c.serve-exit.ensures.rest in
    let is : IsServed s t cells last exit = record {
      settings = refl;
      placement = same;
      fits = subst (λ (l : List FramedPage). Fits l last) same c.serve-exit.ensures.fits;
      rest = ap (λ (l : List FramedPage). rest_of l last) (sym same) ∙ c.serve-exit.ensures.rest;
      led = c.serve-exit.ensures.served;
      stays = c.serve-exit.ensures.exits;
      few = omega (arith, c.self.invariant.count, c.self.invariant.clock);
      count = refl;
      over = c.exited-self-inside.ensures;
      slice_end = refl;
      has_run = refl;
    } in
    let written : c.saturating_sub-written.result ≡ length t.output - length s.output = search rules in
    let words : c.words_held-cycles.result ≡ words_held (register (flat_by s.registers [] []) 11) (length t.output - length s.output) =
    c.words_held-cycles.ensures ∙ ap (λ (n : ℕ). words_held (register (flat_by s.registers [] []) 11) n) written in
    let timed : IsTimed s t = record {
      cycles = ap (λ (n : ℕ). i.cycles + (n + 50)) words;
      clock = ap (λ (n : ℕ). i.clock + (n + 50)) words;
    } in
    subst (λ (d : CellsState). Moves c.args.self.now t d m (served m)) (sym c.advance.ensures)
    (subst (λ (x : SystemState). StandsFor x cells m → Moves x t (record last { cycle = t.clock }) m (served m)) c.self.view_is
    (λ (now : StandsFor s cells m). Moves-served laws s t cells last exit m is timed now asking) h)
