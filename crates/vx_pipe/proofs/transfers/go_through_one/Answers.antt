use Rattle.std.proofs.Common.{◌∷◌, [], List, map, sym, ap, subst, ◌∙◌}
use Rattle.vx_episode.specs.Footprint.{Access}
use Rattle.vx_episode.specs.History.{accesses_of}
use Rattle.vx_look.specs.LookUps.{AreLookedUp}
use Rattle.vx_serve.specs.Serving.{Serves}
use Rattle.vx_pipe.proofs.TransferBatch.{looked-own, has-gone, own-fate}
use Rattle.vx_pipe.proofs.TransferOne.{one-of, first-of}
use Rattle.vx_pipe.proofs.transfers.go_through_one.Goals as goal

pub returns-clause-gone : goal.returns-clause-gone
returns-clause-gone g c start history e earlier f b bank wanted of fetched ready stands =
    let before = g.C.Cells.state c.args.cells.now in
    let after = g.C.Cells.state c.look_one-looked.new.cells in
    let fates = c.look_one-looked.result.fate ∷ [] in
    let last = c.look_one-looked.result.ended in
    let one = one-of c.args.item b.accesses of in
    let there = subst (λ (l : List Access). AreLookedUp start (e ∷ history) earlier c.args.want c.args.started l c.args.root c.look_one-looked.new.self before after (c.look_one-looked.result.fate ∷ []) last) (sym one.is)
    (c.look_one-looked.ensures.looked start (e ∷ history) earlier one.access bank one.address (one.width ∙ sym c.from-width.ensures) ready) in
    let looked = looked-own start history e earlier f b c.args.started c.args.root c.look_one-looked.new.self before after fates last
    c.walks_commute.ensures.front c.walks_commute.ensures.accessed c.args.want wanted fetched there in
    let fate = own-fate start history e earlier f b c.args.started c.args.root c.look_one-looked.new.self before after fates last in
    let fate-is = first-of _ _ (looked.fates ∙ ap (map fate) one.is) in
    let serves = subst (λ (l : List Access). Serves c.serve_one-served.new.self start.machine (accesses_of earlier) fate l c.serve_one-served.result) (sym one.is)
    (c.serve_one-served.ensures.serves start.machine (accesses_of earlier) one.access fate stands (sym fate-is)) in
    has-gone start history e earlier f b c.args.started c.args.root c.look_one-looked.new.self before after fates last
    c.known_accesses_are_queued.ensures.all c.known_accesses_are_queued.ensures.failure c.serve_one-served.new.self c.serve_one-served.result looked serves
