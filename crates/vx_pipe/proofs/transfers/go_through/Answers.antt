use Rattle.std.proofs.Common.{◌≤◌, ◌^◌, ◌∷◌, length, sym, arith}
use Rattle.vx_episode.specs.History.{accesses_of}
use Rattle.vx_pipe.proofs.TransferBatch.{few-first, known-later, looked-own, has-gone, own-fate, few-times}
use Rattle.vx_pipe.proofs.transfers.go_through.Goals as goal

pub serve_all-served-requires-clause-known : goal.serve_all-served-requires-clause-known
serve_all-served-requires-clause-known g c =
    known-later c.look_all-looked.result (2 ^ 62) c.look_all-looked.new.fates (omega (arith, c.look_all-looked.ensures.ended, c.requires.cycles, c.requires.time)) c.look_all-looked.ensures.known

pub returns-clause-served : goal.returns-clause-served
returns-clause-served g c last by few-last =
    let known = known-later c.look_all-looked.result last c.look_all-looked.new.fates few-last c.look_all-looked.ensures.known in
    let soon = c.serve_all-served.ensures.soon last by known in
    let few : length c.look_all-looked.new.fates ≤ 8 = few-first (length c.look_all-looked.new.fates) (length c.args.items.now) _ c.look_all-looked.ensures.count c.requires.few in
    let times = few-times (length c.look_all-looked.new.fates) c.args.banks.now.bank_time few in
    omega (arith, soon, times)

pub returns-clause-gone : goal.returns-clause-gone
returns-clause-gone g c start history e earlier f b bank wanted of fetched ready stands =
    let before = g.C.Cells.state c.args.cells.now in
    let after = g.C.Cells.state c.look_all-looked.new.cells in
    let fates = c.look_all-looked.new.fates in
    let last = c.look_all-looked.result in
    let looked = looked-own start history e earlier f b c.args.started c.args.root c.look_all-looked.new.self before after fates last
    c.walks_commute.ensures.front c.walks_commute.ensures.accessed c.args.want wanted fetched
    (c.look_all-looked.ensures.looked start (e ∷ history) earlier b.accesses bank of ready) in
    let serves = c.serve_all-served.ensures.serves start.machine (accesses_of earlier) b.accesses (own-fate start history e earlier f b c.args.started c.args.root c.look_all-looked.new.self before after fates last) stands (sym looked.fates) in
    has-gone start history e earlier f b c.args.started c.args.root c.look_all-looked.new.self before after fates last
    c.known_accesses_are_queued.ensures.all c.known_accesses_are_queued.ensures.failure c.serve_all-served.new.self c.serve_all-served.result looked serves
