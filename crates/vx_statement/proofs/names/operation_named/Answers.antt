use Rattle.std.proofs.Common.{rules, tests, is_some}
use Rattle.std.proofs.lemmas.Iterator.{YieldsList-from_slice}
use Rattle.std.proofs.lemmas.Iterator.Search.{find_from_yields_List}
use Rattle.vx_language.specs.Names.{nf_named}
use Rattle.vx_rows.specs.declared.op.Op.{Op}
use Rattle.vx_rows.specs.declared.row.Row.{Row}
use Rattle.vx_statement.proofs.Tabled.{found-in-table}
use Rattle.vx_statement.proofs.names.operation_named.Goals as goal

pub returns-in-Some : goal.returns-in-Some
returns-in-Some c =
    let found = find_from_yields_List (λ (r : Row). is_some (nf_named c.args.name.now r.op)) _ _ c.find.result c.find.ensures.ran (YieldsList-from_slice c.rows_beginning_as.result.now cc) (λ x b q k. search (rules, tests)) in
    let back = found-in-table (λ (op : Op). is_some (nf_named c.args.name.now op)) _ _ c.rows_beginning_as.ensures found in
    rw c.in-Some.is at back

pub returns-in-None : goal.returns-in-None
returns-in-None c =
    let found = find_from_yields_List (λ (r : Row). is_some (nf_named c.args.name.now r.op)) _ _ c.find.result c.find.ensures.ran (YieldsList-from_slice c.rows_beginning_as.result.now cc) (λ x b q k. search (rules, tests)) in
    let back = found-in-table (λ (op : Op). is_some (nf_named c.args.name.now op)) _ _ c.rows_beginning_as.ensures found in
    rw c.in-None.is at back
