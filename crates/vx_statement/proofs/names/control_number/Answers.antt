use Rattle.std.proofs.Common.{option_map, rules, tests, bytes_eq, ap}
use Rattle.std.proofs.lemmas.Iterator.{YieldsList-from_slice}
use Rattle.std.proofs.lemmas.Iterator.Search.{find_from_yields_List}
use Rattle.vx_language.specs.Names.{control_number}
use Rattle.vx_source.specs.Names.{NamedControl, named_controls}
use Rattle.vx_statement.specs.Controls.{named}
use Rattle.vx_statement.specs.declared.names.Control.{Control}
use Rattle.vx_statement.proofs.Lookups.{found-forth}
use Rattle.vx_statement.proofs.names.control_number.Goals as goal

pub returns-in-Some : goal.returns-in-Some
unfolding control_number
returns-in-Some c =
    let found = find_from_yields_List (λ (r : Control). bytes_eq c.args.name.now r.name.now) _ _ c.find.result c.find.ensures.ran (YieldsList-from_slice c.controls.result.now cc) (λ x b q k. search (rules, tests)) in
    let forth = found-forth named (λ (r : NamedControl). bytes_eq c.args.name.now r.name) _ named_controls _ c.controls.ensures found in
    let whole = ap (option_map (λ (r : NamedControl). r.number)) forth in
    rw c.in-Some.is at whole

pub returns-in-None : goal.returns-in-None
unfolding control_number
returns-in-None c =
    let found = find_from_yields_List (λ (r : Control). bytes_eq c.args.name.now r.name.now) _ _ c.find.result c.find.ensures.ran (YieldsList-from_slice c.controls.result.now cc) (λ x b q k. search (rules, tests)) in
    let forth = found-forth named (λ (r : NamedControl). bytes_eq c.args.name.now r.name) _ named_controls _ c.controls.ensures found in
    let whole = ap (option_map (λ (r : NamedControl). r.number)) forth in
    rw c.in-None.is at whole
