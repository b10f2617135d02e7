use Rattle.std.proofs.Common.{ℕ, ◌+◌, ◌≤◌, ◌++◌, sym, ap, arith}
use Rattle.vx_episode.specs.History.{fetch_walks, walks_of_batches, after_walks}
use Rattle.vx_look.proofs.Batched.{address-at, going-known, going-more}
use Rattle.vx_look.proofs.batches.walk_missing.Goals as goal
use Rattle.vx_look.specs.LookUps.{no_access}

pub returns-then-not-is_unknown-clause-going : goal.returns-then-not-is_unknown-clause-going
returns-then-not-is_unknown-clause-going g c start history earlier started accesses walks before time of going =
    going-known c.args.items.now accesses of start history earlier c.args.want started c.args.root walks c.args.tlb.now before (g.C.Cells.state c.args.cells.now) c.args.fates.now c.args.ended going c.args.i c.requires.index
    _ (sym c.if-not-is_unknown.ensures)

pub returns-clause-going : goal.returns-clause-going
returns-clause-going g c start history earlier started accesses walks before time of going =
    going-more c.args.items.now accesses of start history earlier c.args.want started c.args.root walks c.args.tlb.now before (g.C.Cells.state c.args.cells.now) c.args.fates.now c.args.ended going c.args.i c.requires.index
    _ _ c.walk-walked.new.self (g.C.Cells.state c.walk-walked.new.cells) c.walk-walked.result c.settle.new.fates (c.args.ended + c.args.time) (sym c.if-not-is_unknown.ensures)
    (address-at c.args.items.now accesses of c.args.i no_access _ c.requires.index)
    (c.walk-walked.ensures.walks (after_walks start.residency (walks ++ fetch_walks history ++ walks_of_batches earlier)) going.walked.held)
    c.walk-walked.ensures.kept (ap (λ (n : ℕ). c.args.ended + n) time) c.settle.ensures.count c.settle.ensures.settled

pub returns-clause-known : goal.returns-clause-known
returns-clause-known g c known =
    let le : c.args.ended ≤ c.args.ended + c.args.time = omega arith in
    c.settle.ensures.known c.args.ended le known
