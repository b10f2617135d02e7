use Rattle.std.proofs.Common.{sym, ap, ◌∙◌, bytes_eq}
use Rattle.vx_statement.proofs.Pushed.{named-pushed}
use Rattle.vx_statement.proofs.forms.push_named.Goals as goal

pub returns-in_ok-push : goal.returns-in_ok-push
returns-in_ok-push c commas =
    let same = ap (bytes_eq c.args.name.now) (sym c.as_bytes.ensures.value) ∙ sym c.eq.ensures ∙ c.if-eq.true in
    named-pushed c.args.name.now c.args.named.now c.args.forms.now.items c.push.new.self.items same c.in_ok-push.ensures.ok commas
