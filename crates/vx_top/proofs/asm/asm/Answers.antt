use Rattle.std.proofs.Common.{refl}
use Rattle.vx_base.specs.Shelf.{Reads}
use Rattle.vx_machine.specs.Claim.{Devices}
use Rattle.vx_words.specs.Notes.{file_limit}
use Rattle.vx_top.proofs.Sourced.{Claims-source, Claims-unassembled}
use Rattle.vx_top.proofs.asm.asm.Goals as goal

pub returns-in-Ok : goal.returns-in-Ok
returns-in-Ok g c words cells asks =
    let before : Devices = record { shelf = g.F.Shelf.state c.args.shelf.now; out = g.K.Sink.state c.args.out.now; note = g.N.Sink.state c.args.note.now; cells = cells } in
    let after : Devices = record { shelf = g.F.Shelf.state c.read_file.new.shelf; out = g.K.Sink.state c.tell_source.new.out; note = g.N.Sink.state c.tell_source.new.note; cells = cells } in
    let read : Reads before.shelf after.shelf c.args.name.now file_limit c.slice.result.now = rw c.slice.ensures c.in-Ok.ensures.read in
    Claims-source words c.args.name.now asks before after c.slice.result.now c.tell_source.result refl read c.tell_source.ensures

pub returns-in-Err : goal.returns-in-Err
returns-in-Err g c words cells asks =
    let before : Devices = record { shelf = g.F.Shelf.state c.args.shelf.now; out = g.K.Sink.state c.args.out.now; note = g.N.Sink.state c.args.note.now; cells = cells } in
    let after : Devices = record { shelf = g.F.Shelf.state c.read_file.new.shelf; out = g.K.Sink.state c.args.out.now; note = g.N.Sink.state c.tell_refusal.new.note; cells = cells } in
    Claims-unassembled words c.args.name.now asks before after c.in-Err.refusal c.tell_refusal.result refl refl c.in-Err.ensures.refused c.tell_refusal.ensures
