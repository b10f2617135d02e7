use Rattle.std.proofs.Common.{ℕ, sym, subst}
use Rattle.vx_episode.specs.Instructions.{residency_now}
use Rattle.vx_look.specs.Fetches.{IsFetched}
use Rattle.vx_tables.specs.Tables.{AreHeld}
use Rattle.vx_pipe.proofs.Fetched.{issuing}
use Rattle.vx_pipe.proofs.fetches.fetch_next.Goals as goal

pub returns-clause-issuing : goal.returns-clause-issuing
returns-clause-issuing g c start until from first course loads stamps u root_is time at pc_at going =
    let before = g.C.Cells.state c.args.cells.now in
    let after = g.C.Cells.state c.fetch.new.cells in
    let held : AreHeld before c.args.root (residency_now start going.history) = subst (λ (r : ℕ). AreHeld before r (residency_now start going.history)) root_is going.cells_are.held in
    let fetched = c.fetch.ensures.fetched start going.history time going.fetches held in
    issuing start until from first course loads c.args.fetches.now c.fetch.new.self stamps before after u going c.fetch.result c.args.pc pc_at
    (subst (λ (b : ℕ). IsFetched start going.history c.args.pc b start.root c.fetch.new.self before after c.fetch.result) (sym at)
    (subst (λ (r : ℕ). IsFetched start going.history c.args.pc c.args.begun r c.fetch.new.self before after c.fetch.result) (sym root_is) fetched))
