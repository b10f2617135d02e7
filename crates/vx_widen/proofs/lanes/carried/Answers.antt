-- Lane by lane, each family's rule.
use Rattle.std.proofs.Common.{sym, ap, ◌∙◌, rules}
use Rattle.vx_packed.specs.Made.{even_packing, made}
use Rattle.vx_rows.specs.declared.family.Family.{Family}
use Rattle.vx_rows.specs.declared.family.Family.TheVariants.{Vadc, Vsbc}
use Rattle.vx_operands.specs.Lanes.{answer, numbers_of}
use Rattle.vx_widen.proofs.lanes.carried.Goals as goal

pub returns-in-Vadc : goal.returns-in-Vadc
returns-in-Vadc c =
    c.make_even.ensures (λ l. answer Vadc (numbers_of c.args.sew 0 l)) (λ l s w p. search rules)
    ∙ sym (ap (λ (f : Family). made (even_packing c.args.sew) c.args.from (λ l. answer f (numbers_of c.args.sew 0 l))) c.in-Vadc.is)

pub returns-in-Vsbc : goal.returns-in-Vsbc
returns-in-Vsbc c =
    c.make_even-in-Vsbc.ensures (λ l. answer Vsbc (numbers_of c.args.sew 0 l)) (λ l s w p. search rules)
    ∙ sym (ap (λ (f : Family). made (even_packing c.args.sew) c.args.from (λ l. answer f (numbers_of c.args.sew 0 l))) c.in-Vsbc.is)
