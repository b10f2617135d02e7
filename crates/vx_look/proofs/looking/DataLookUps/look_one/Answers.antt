use Rattle.std.proofs.Common.{List, sym, subst}
use Rattle.std.specs.Prelude.{Option}
use Rattle.vx_cells.specs.Cells.{CellsState}
use Rattle.vx_episode.specs.History.{walks_of_batches, fills_of}
use Rattle.vx_look.proofs.Going.{one-known}
use Rattle.vx_look.proofs.looking.DataLookUps.look_one.Goals as goal
use Rattle.vx_tlb.specs.Kept.{StandsFor}
use Rattle.vx_tlb.specs.declared.tlb.Kept.{Kept}

pub returns-then-not-is_unknown-clause-looked : goal.returns-then-not-is_unknown-clause-looked
returns-then-not-is_unknown-clause-looked g c start history earlier a bank_time at width ready =
    let cells : CellsState = g.C.Cells.state c.args.cells.now in
    let kept : StandsFor c.self.inside.tlb (fills_of (walks_of_batches earlier)) =
    subst (λ (ps : List (Option Kept)). StandsFor ps (fills_of (walks_of_batches earlier))) (sym c.self.view_is) ready.kept in
    one-known start history earlier c.args.want c.args.started c.args.root a c.args.self.now cells c.fate_at_last-fate.result
    (c.fate_at_last-fate.ensures.looked (sym c.if-not-is_unknown.ensures) start history earlier a at width kept) (sym c.if-not-is_unknown.ensures) ready
