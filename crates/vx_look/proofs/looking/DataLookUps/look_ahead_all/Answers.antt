use Rattle.std.proofs.Common.{List, sym, subst}
use Rattle.std.specs.Prelude.{Option}
use Rattle.vx_episode.specs.History.{walks_of_batches, fills_of}
use Rattle.vx_look.proofs.looking.DataLookUps.look_ahead_all.Goals as goal
use Rattle.vx_look.specs.LookUps.{AreReady}
use Rattle.vx_tlb.specs.Kept.{StandsFor}
use Rattle.vx_tlb.specs.declared.tlb.Kept.{Kept}

pub returns-clause-looked : goal.returns-clause-looked
returns-clause-looked g c start history earlier accesses bank of ready =
    let kept : StandsFor c.self.inside.tlb (fills_of (walks_of_batches earlier)) =
    subst (λ (ps : List (Option Kept)). StandsFor ps (fills_of (walks_of_batches earlier))) (sym c.self.view_is) ready.kept in
    let begun : AreReady start history earlier c.args.root c.look_each.new.tlb (g.C.Cells.state c.args.cells.now) = record {
      kept = subst (λ (ps : List (Option Kept)). StandsFor ps (fills_of (walks_of_batches earlier))) (sym c.look_each.ensures.same) kept;
      held = ready.held;
    } in
    c.walk_ahead.ensures.walked start history earlier accesses bank of begun (c.look_each.ensures.looked start history earlier accesses of kept)
