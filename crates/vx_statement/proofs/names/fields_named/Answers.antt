use Rattle.std.proofs.Common.{ℕ, sym, ◌∙◌, bytes_eq}
use Rattle.vx_rows.specs.Table.{mnemonic}
use Rattle.vx_statement.proofs.Fields.{field-found, field-passed, no-field}
use Rattle.vx_statement.proofs.names.fields_named.Goals as goal

pub is_named-requires : goal.is_named-requires
is_named-requires c = rw c.requires c.loop-nf-test.true

pub returns-then-is_named : goal.returns-then-is_named
returns-then-is_named c =
    field-found (λ (n : ℕ). bytes_eq c.args.name.now (mnemonic c.args.op n)) _ c.loop-nf.nf c.requires c.loop-nf-test.true (sym c.is_named.ensures ∙ c.if-is_named.true) c.loop-nf.invariant

pub loop-nf-preserved : goal.loop-nf-preserved
loop-nf-preserved c =
    field-passed (λ (n : ℕ). bytes_eq c.args.name.now (mnemonic c.args.op n)) c.loop-nf.nf c.loop-nf-test.true (sym c.is_named.ensures ∙ c.if-is_named.false) c.loop-nf.invariant

pub returns : goal.returns
returns c =
    no-field (λ (n : ℕ). bytes_eq c.args.name.now (mnemonic c.args.op n)) _ c.loop-nf.nf c.requires c.loop-nf-test.false c.loop-nf.invariant
