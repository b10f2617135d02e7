use Rattle.std.proofs.Common.{rules, tests, bytes_eq, ◌∙◌, sym}
use Rattle.std.proofs.lemmas.Iterator.{YieldsList-from_slice}
use Rattle.std.proofs.lemmas.Iterator.Search.{position_from_yields_List}
use Rattle.vx_statement.proofs.Lookups.{position-map}
use Rattle.vx_statement.proofs.names.place_among.Goals as goal

pub returns-clause-place : goal.returns-clause-place
returns-clause-place c =
    position_from_yields_List (λ other. bytes_eq c.args.name.now other.now) _ _ _ c.position.ensures.ran (YieldsList-from_slice c.args.names.now cc) (λ x b q k. search (rules, tests))
    ∙ sym (position-map (λ other. other.now) (bytes_eq c.args.name.now) c.args.names.now)
