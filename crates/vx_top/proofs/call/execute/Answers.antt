use Rattle.std.proofs.Common.{refl}
use Rattle.vx_machine.specs.Claim.{Devices}
use Rattle.vx_read.specs.Images.{image_of}
use Rattle.vx_words.specs.Words.{name_of}
use Rattle.vx_top.specs.Files.{TellsRefusal}
use Rattle.vx_top.proofs.Claimed.{Claims-report, Claims-refusal}
use Rattle.vx_top.proofs.Settled.{AreFor}
use Rattle.vx_top.proofs.call.execute.Goals as goal

pub returns-in-Ok : goal.returns-in-Ok
returns-in-Ok g c words read =
    let for : AreFor c.options_for-options.result c.args.run.now = record {
      vlen = c.options_for-options.ensures.vlen;
      lanes = c.options_for-options.ensures.lanes;
      banks = c.options_for-options.ensures.banks;
      bank_time = c.options_for-options.ensures.bank_time;
      window = c.options_for-options.ensures.window;
      slice = c.options_for-options.ensures.slice;
      frames = c.options_for-options.ensures.frames;
      budget = c.options_for-options.ensures.budget;
    } in
    let before : Devices = record { shelf = g.F.Shelf.state c.args.shelf.now; out = g.K.Sink.state c.args.out.now; note = g.N.Sink.state c.args.note.now; cells = g.C.Cells.state c.args.cells.now } in
    let after : Devices = record { shelf = g.F.Shelf.state c.run_file.new.shelf; out = g.K.Sink.state c.tell_report.new.out; note = g.N.Sink.state c.tell_report.new.note; cells = g.C.Cells.state c.run_file.new.cells } in
    Claims-report c.args.job words c.args.run.now read c.options_for-options.result for before after c.in-Ok.report c.tell_report.result c.in-Ok.ensures.ran c.tell_report.ensures

pub returns-in-Err : goal.returns-in-Err
returns-in-Err g c words read =
    let for : AreFor c.options_for-options.result c.args.run.now = record {
      vlen = c.options_for-options.ensures.vlen;
      lanes = c.options_for-options.ensures.lanes;
      banks = c.options_for-options.ensures.banks;
      bank_time = c.options_for-options.ensures.bank_time;
      window = c.options_for-options.ensures.window;
      slice = c.options_for-options.ensures.slice;
      frames = c.options_for-options.ensures.frames;
      budget = c.options_for-options.ensures.budget;
    } in
    let before : Devices = record { shelf = g.F.Shelf.state c.args.shelf.now; out = g.K.Sink.state c.args.out.now; note = g.N.Sink.state c.args.note.now; cells = g.C.Cells.state c.args.cells.now } in
    let after : Devices = record { shelf = g.F.Shelf.state c.run_file.new.shelf; out = g.K.Sink.state c.args.out.now; note = g.N.Sink.state c.tell_refusal.new.note; cells = g.C.Cells.state c.run_file.new.cells } in
    let told : TellsRefusal before.note after.note (name_of (image_of c.args.run.now.image)) c.in-Err.refusal c.tell_refusal.result = rw (← c.name_of.ensures) c.tell_refusal.ensures in
    Claims-refusal c.args.job words c.args.run.now read c.options_for-options.result for before after c.in-Err.refusal c.tell_refusal.result refl c.in-Err.ensures.refused told
