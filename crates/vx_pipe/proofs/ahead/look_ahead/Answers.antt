use Rattle.std.proofs.Common.{◌^◌, ◌≤◌, ◌∷◌, length, sym, ap, subst, ◌∙◌, arith}
use Rattle.vx_cells.specs.Cells.{CellsState}
use Rattle.vx_vaddr.specs.Items.{accesses_of_items}
use Rattle.vx_vaddr.specs.Views.{movement_with}
use Rattle.vx_vector.specs.Accesses.{Movement, accesses_of_element}
use Rattle.vx_vector.specs.Movements.{IsSoundMovement}
use Rattle.vx_episode.specs.History.{accesses_of}
use Rattle.vx_pipe.specs.Transfers.{element_batch}
use Rattle.vx_pipe.proofs.TransferAhead.{is-ahead, looked-by}
use Rattle.vx_pipe.proofs.TransferBatch.{few-first, few-times, known-later}
use Rattle.vx_pipe.proofs.TransferItems.{batch-of, element-wide}
use Rattle.vx_pipe.proofs.ahead.look_ahead.Goals as goal

pub look_ahead_all-ended-requires-clause-widths : goal.look_ahead_all-ended-requires-clause-widths
look_ahead_all-ended-requires-clause-widths g c =
    element-wide (movement_with c.args.pattern.now (g.S.WordFile.words c.args.file.now)) c.args.i c.slice-items.result.now c.requires.sound.width (ap accesses_of_items c.slice-items.ensures ∙ c.fill.ensures)

pub serve_all_by-requires-clause-known : goal.serve_all_by-requires-clause-known
serve_all_by-requires-clause-known g c =
    known-later c.look_ahead_all-ended.result (2 ^ 62) c.look_ahead_all-ended.new.fates (omega (arith, c.look_ahead_all-ended.ensures.ended, c.requires.cycles, c.requires.time)) c.look_ahead_all-ended.ensures.known

pub returns-clause-soon : goal.returns-clause-soon
returns-clause-soon g c b by late =
    let known = known-later c.look_ahead_all-ended.result b c.look_ahead_all-ended.new.fates (omega (arith, c.look_ahead_all-ended.ensures.ended, c.requires.time, late)) c.look_ahead_all-ended.ensures.known in
    let soon = c.serve_all_by.ensures.soon b by known in
    let most : length c.slice-items.result.now ≤ 8 = omega (arith, ap length c.slice-items.ensures, c.len-few.ensures.is, c.len-few.ensures.in_range) in
    let few : length c.look_ahead_all-ended.new.fates ≤ 8 = few-first (length c.look_ahead_all-ended.new.fates) (length c.slice-items.result.now) _ c.look_ahead_all-ended.ensures.count most in
    let times = few-times (length c.look_ahead_all-ended.new.fates) c.args.banks.now.bank_time few in
    omega (arith, soon, times, c.requires.bank, c.requires.time)

pub returns-clause-ahead : goal.returns-clause-ahead
returns-clause-ahead g c start history e earlier f t bank wanted moved fetched ready stands =
    let before : CellsState = g.C.Cells.state c.args.cells.now in
    let after : CellsState = g.C.Cells.state c.look_ahead_all-ended.new.cells in
    let looked = looked-by c.walks_commute.ensures.front c.walks_commute.ensures.accessed c.what_is_known_is_enough.ensures.agree start history e earlier f t c.args.started c.args.i c.args.last c.args.root c.args.want c.look_ahead_all-ended.new.self before after c.look_ahead_all-ended.new.fates c.look_ahead_all-ended.result c.serve_all_by.result
    wanted fetched
    (c.look_ahead_all-ended.ensures.looked start (e ∷ history) earlier (element_batch t c.args.i).accesses bank
    (batch-of c.accesses_are_of_their_items.ensures t c.args.i c.slice-items.result.now
    (ap accesses_of_items c.slice-items.ensures ∙ c.fill.ensures ∙ ap (λ (m : Movement). accesses_of_element m c.args.i) (sym moved))) ready) in
    is-ahead c.walks_commute.ensures.front c.walks_commute.ensures.accessed c.what_is_known_is_enough.ensures.agree start history e earlier f t c.args.started c.args.i c.args.last c.args.root c.args.want c.look_ahead_all-ended.new.self before after c.look_ahead_all-ended.new.fates c.look_ahead_all-ended.result c.serve_all_by.result
    (subst IsSoundMovement (sym moved) c.requires.sound) looked
    (c.serve_all_by.ensures.done start.machine (accesses_of earlier) (element_batch t c.args.i).accesses _ stands (sym looked.looked.fates))
