use Rattle.std.proofs.Common.{find, take, drop, length, ◌-◌, is_some, sym, ap, ◌∙◌}
use Rattle.vx_language.specs.Names.{nf_named}
use Rattle.vx_rows.specs.declared.row.Row.{Row}
use Rattle.vx_statement.proofs.Letters.{vector-found, other-found}
use Rattle.vx_statement.proofs.names.rows_beginning_as.Goals as goal

pub returns-then-begins_with_v : goal.returns-then-begins_with_v
returns-then-begins_with_v c =
    ap (λ rows. find (λ (row : Row). is_some (nf_named c.args.name.now row.op)) (take (length rows - 71) (drop 71 rows))) c.rows-all.ensures
    ∙ vector-found c.args.name.now (sym c.begins_with_v.ensures ∙ c.if-begins_with_v.true)

pub returns-else-begins_with_v : goal.returns-else-begins_with_v
returns-else-begins_with_v c =
    ap (λ rows. find (λ (row : Row). is_some (nf_named c.args.name.now row.op)) (take 71 rows)) c.rows-all.ensures
    ∙ other-found c.args.name.now (sym c.begins_with_v.ensures ∙ c.if-begins_with_v.false)
