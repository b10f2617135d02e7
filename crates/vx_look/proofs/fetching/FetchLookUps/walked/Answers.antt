use Rattle.std.proofs.Common.{List, sym, subst}
use Rattle.std.specs.Prelude.{Option}
use Rattle.vx_episode.specs.History.{fetch_walks, fills_of}
use Rattle.vx_episode.specs.Instructions.{residency_now}
use Rattle.vx_look.proofs.Beginning.{fetched-walked}
use Rattle.vx_look.proofs.fetching.FetchLookUps.walked.Goals as goal
use Rattle.vx_tlb.specs.Kept.{StandsFor}
use Rattle.vx_tlb.specs.declared.tlb.Kept.{Kept}

pub returns-clause-fetched : goal.returns-clause-fetched
returns-clause-fetched g c start history begun ends walks kept held =
    fetched-walked start history c.args.pc begun c.args.root c.self.inside.tlb c.walk_and_keep-answer.new.tlb (g.C.Cells.state c.args.cells.now) (g.C.Cells.state c.walk_and_keep-answer.new.cells)
    c.walk_and_keep-answer.result (record { ended = c.args.ended; is_away = c.is_away.result }) walks ends c.is_away.ensures
    (subst (λ (ps : List (Option Kept)). StandsFor ps (fills_of (fetch_walks history))) (sym c.self.view_is) kept)
    (c.walk_and_keep-answer.ensures.walks (residency_now start history) held) c.walk_and_keep-answer.ensures.kept
