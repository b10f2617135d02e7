use Rattle.std.proofs.Common.{◌≡◌, ◌%◌, refl, rules}
use Rattle.std.specs.Prelude.{[], false, None}
use Rattle.vx_cells.specs.Cells.{CellsState}
use Rattle.vx_pipe.specs.Left.{registers_of}
use Rattle.vx_system.proofs.Booting.{Boots-from, first_system}
use Rattle.vx_system.specs.Runs.{SystemState, settings_of}
use Rattle.vx_system.proofs.system.System.boot_in.Goals as goal

pub returns : goal.returns
returns g c =
    let options = c.args.options.now in
    let image = c.args.image.now in
    let before : CellsState = g.C.Cells.state c.args.cells.now in
    let after : CellsState = g.C.Cells.state c.boot_pages.new.cells in
    let placement = c.in_ok-placement.placement in
    let s : SystemState = record {
      settings = settings_of options;
      registers = record { pc = c.entry.result; x = c.first.result.x; v = c.in_ok-v.v };
      placement = c.of.result;
      output = c.in_ok-output.output.items;
      count = 0;
      over = None;
      cycles = 0;
      clock = 0;
      slice_end = None;
      has_run = false;
    } in
    let is : s ≡ first_system options image placement = λ j. record {
      settings = settings_of options;
      registers = record { pc = c.entry.ensures.value j; x = c.first.ensures j; v = c.in_ok-v.ensures j };
      placement = c.of.ensures j;
      output = c.in_ok-output.ensures.items j;
      count = 0;
      over = None;
      cycles = 0;
      clock = 0;
      slice_end = None;
      has_run = false;
    } in
    let aligned : image.entry % 4 ≡ 0 = search rules in
    record {
      booted = Boots-from c.runs_are_well_formed.ensures.boot c.shown_memory_is_alike.ensures.whole options image before after placement s
          c.in_ok-placement.ensures.boots c.requires.cycle options.vlen_in_range aligned c.requires.room is;
    }
