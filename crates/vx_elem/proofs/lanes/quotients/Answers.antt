-- Lane by lane, each family's rule.
use Rattle.std.proofs.Common.{sym, ap, ◌∙◌, rules}
use Rattle.vx_packed.specs.Made.{even_packing, made}
use Rattle.vx_rows.specs.declared.family.Family.{Family}
use Rattle.vx_rows.specs.declared.family.Family.TheVariants.{Vdivu, Vdiv, Vremu, Vrem}
use Rattle.vx_operands.specs.Lanes.{answer, numbers_of}
use Rattle.vx_elem.proofs.lanes.quotients.Goals as goal

pub returns-in-Vdivu : goal.returns-in-Vdivu
returns-in-Vdivu c =
    c.make_even.ensures (λ l. answer Vdivu (numbers_of c.args.sew 0 l)) (λ l s w p. search rules)
    ∙ sym (ap (λ (f : Family). made (even_packing c.args.sew) c.args.from (λ l. answer f (numbers_of c.args.sew 0 l))) c.in-Vdivu.is)

pub returns-in-Vdiv : goal.returns-in-Vdiv
returns-in-Vdiv c =
    c.make_even-in-Vdiv.ensures (λ l. answer Vdiv (numbers_of c.args.sew 0 l)) (λ l s w p. search rules)
    ∙ sym (ap (λ (f : Family). made (even_packing c.args.sew) c.args.from (λ l. answer f (numbers_of c.args.sew 0 l))) c.in-Vdiv.is)

pub returns-in-Vremu : goal.returns-in-Vremu
returns-in-Vremu c =
    c.make_even-in-Vremu.ensures (λ l. answer Vremu (numbers_of c.args.sew 0 l)) (λ l s w p. search rules)
    ∙ sym (ap (λ (f : Family). made (even_packing c.args.sew) c.args.from (λ l. answer f (numbers_of c.args.sew 0 l))) c.in-Vremu.is)

pub returns-in-Vrem : goal.returns-in-Vrem
returns-in-Vrem c =
    c.make_even-in-Vrem.ensures (λ l. answer Vrem (numbers_of c.args.sew 0 l)) (λ l s w p. search rules)
    ∙ sym (ap (λ (f : Family). made (even_packing c.args.sew) c.args.from (λ l. answer f (numbers_of c.args.sew 0 l))) c.in-Vrem.is)
