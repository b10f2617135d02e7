use Rattle.std.proofs.Common.{rules, tests, sym, ◌∙◌}
use Rattle.std.proofs.lemmas.Iterator.{YieldsList-from_slice}
use Rattle.std.proofs.lemmas.Iterator.Search.{any_from_yields_List}
use Rattle.vx_language.specs.Statements.{is_done}
use Rattle.vx_statement.specs.Ways.{way_slots}
use Rattle.vx_statement.specs.declared.way.Way.{Way}
use Rattle.vx_statement.proofs.Judging.{end-judged}
use Rattle.vx_statement.proofs.operands.end_fault.Goals as goal

pub returns-then-any : goal.returns-then-any
returns-then-any c names =
    let any = any_from_yields_List (λ (w : Way). is_done (way_slots 0 w)) _ _ c.any.result c.any.ensures.ran (YieldsList-from_slice c.args.going.now cc) (λ x b q k. search (rules, tests)) in
    end-judged names c.args.end c.args.going.now _ (sym any ∙ c.if-any.true)

pub returns-else-any : goal.returns-else-any
returns-else-any c names =
    let any = any_from_yields_List (λ (w : Way). is_done (way_slots 0 w)) _ _ c.any.result c.any.ensures.ran (YieldsList-from_slice c.args.going.now cc) (λ x b q k. search (rules, tests)) in
    end-judged names c.args.end c.args.going.now _ (sym any ∙ c.if-any.false)
