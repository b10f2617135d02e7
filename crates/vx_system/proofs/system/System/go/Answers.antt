use Rattle.std.proofs.Common.{◌≡◌, ℕ, ◌+◌, ◌-◌, ◌<◌, ◌≤◌, ◌^◌, refl, sym, ap, subst, ◌∙◌, arith}
use Rattle.std.specs.Prelude.{true, None}
use Rattle.vx_cells.specs.Cells.{CellsState}
use Rattle.vx_episode.specs.Organisation.{Organisation}
use Rattle.vx_pipe.specs.Left.{PlaysPlaced, registers_of}
use Rattle.vx_pipe.specs.declared.counts.Counts.{Counts}
use Rattle.vx_system.proofs.Playing.{AreSmall, IsBehind, PlaysFrom, HasPlayed-from, shown}
use Rattle.vx_system.specs.Runs.{SystemState, HasPlayed, StandsFor, settings_of}
use Rattle.vx_system.proofs.system.System.go.Goals as goal

pub returns-clause-played : goal.returns-clause-played
returns-clause-played g c m h =
    let i = c.self.inside in
    let cells : CellsState = g.C.Cells.state c.args.cells.now in
    let last : CellsState = g.C.Cells.state c.episode-ended.new.cells in
    let ended = c.episode-ended.result in
    let counts = c.episode-ended.new.self.counts in
    let s : SystemState = record {
      settings = settings_of i.options;
      registers = registers_of i.arch;
      placement = i.memory;
      output = i.output.items;
      count = i.count;
      over = i.over;
      cycles = i.cycles;
      clock = i.clock;
      slice_end = i.slice_end;
      has_run = i.has_run;
    } in
    let t : SystemState = record {
      settings = settings_of i.options;
      registers = registers_of c.episode-ended.new.arch;
      placement = c.episode-ended.new.memory;
      output = i.output.items;
      count = i.count + c.counts-counts.result.retired;
      over = c.end_of-self-inside.result;
      cycles = i.cycles + (c.now-clock.result - i.clock);
      clock = c.now-clock.result;
      slice_end = i.slice_end;
      has_run = i.has_run;
    } in
    let behind : IsBehind s t last ended counts = record {
      settings = refl;
      placement = c.episode-ended.ensures.memory;
      output = refl;
      count = ap (λ (n : Counts). i.count + n.retired) c.counts-counts.ensures;
      over = c.end_of-self-inside.ensures;
      cycles = ap (λ (n : ℕ). i.cycles + (n - i.clock)) c.now-clock.ensures;
      clock = c.now-clock.ensures;
      slice_end = refl;
      has_run = refl;
    } in
    let running : s.over ≡ None = ap (λ (x : SystemState). x.over) c.self.view_is ∙ c.requires.running in
    let clock : i.clock ≡ c.args.self.now.clock = ap (λ (x : SystemState). x.clock) c.self.view_is in
    let plays : PlaysFrom s t cells last c.args.until ended counts = λ residency process shows placed playable.
    subst (λ (o : Organisation). PlaysPlaced (record { machine = o; cycle = cells.cycle; residency = residency; root = 0; has_vectors = true }) c.args.until process cells last t.registers ended counts t.placement)
    c.self.invariant.machine (c.episode-ended.ensures.plays residency process shows placed playable) in
    subst (λ (x : SystemState). StandsFor x cells m → HasPlayed x t last c.args.until ended m) c.self.view_is
    (λ (now : StandsFor s cells m).
    let small : AreSmall s cells last counts = record {
      count = c.self.invariant.count;
      later = c.episode-ended.ensures.later;
      bounded = c.episode-ended.ensures.bounded;
    } in
    HasPlayed-from c.accounts_are_true.ensures.episode s t cells last c.args.until ended counts m running small plays behind now)
    h
