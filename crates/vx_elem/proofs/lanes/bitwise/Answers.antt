-- Lane by lane, each family's rule.
use Rattle.std.proofs.Common.{sym, ap, ◌∙◌, rules}
use Rattle.vx_packed.specs.Made.{even_packing, made}
use Rattle.vx_rows.specs.declared.family.Family.{Family}
use Rattle.vx_rows.specs.declared.family.Family.TheVariants.{Vand, Vor, Vxor, Vmerge, Vsll, Vsrl, Vsra}
use Rattle.vx_operands.specs.Lanes.{answer, numbers_of}
use Rattle.vx_elem.proofs.lanes.bitwise.Goals as goal

pub returns-in-Vand : goal.returns-in-Vand
returns-in-Vand c =
    c.make_even.ensures (λ l. answer Vand (numbers_of c.args.sew 0 l)) (λ l s w p. search rules)
    ∙ sym (ap (λ (f : Family). made (even_packing c.args.sew) c.args.from (λ l. answer f (numbers_of c.args.sew 0 l))) c.in-Vand.is)

pub returns-in-Vor : goal.returns-in-Vor
returns-in-Vor c =
    c.make_even-in-Vor.ensures (λ l. answer Vor (numbers_of c.args.sew 0 l)) (λ l s w p. search rules)
    ∙ sym (ap (λ (f : Family). made (even_packing c.args.sew) c.args.from (λ l. answer f (numbers_of c.args.sew 0 l))) c.in-Vor.is)

pub returns-in-Vxor : goal.returns-in-Vxor
returns-in-Vxor c =
    c.make_even-in-Vxor.ensures (λ l. answer Vxor (numbers_of c.args.sew 0 l)) (λ l s w p. search rules)
    ∙ sym (ap (λ (f : Family). made (even_packing c.args.sew) c.args.from (λ l. answer f (numbers_of c.args.sew 0 l))) c.in-Vxor.is)

pub returns-in-Vmerge : goal.returns-in-Vmerge
returns-in-Vmerge c =
    c.make_even-in-Vmerge.ensures (λ l. answer Vmerge (numbers_of c.args.sew 0 l)) (λ l s w p. search rules)
    ∙ sym (ap (λ (f : Family). made (even_packing c.args.sew) c.args.from (λ l. answer f (numbers_of c.args.sew 0 l))) c.in-Vmerge.is)

pub returns-in-Vsll : goal.returns-in-Vsll
returns-in-Vsll c =
    c.make_even-in-Vsll.ensures (λ l. answer Vsll (numbers_of c.args.sew 0 l)) (λ l s w p. search rules)
    ∙ sym (ap (λ (f : Family). made (even_packing c.args.sew) c.args.from (λ l. answer f (numbers_of c.args.sew 0 l))) c.in-Vsll.is)

pub returns-in-Vsrl : goal.returns-in-Vsrl
returns-in-Vsrl c =
    c.make_even-in-Vsrl.ensures (λ l. answer Vsrl (numbers_of c.args.sew 0 l)) (λ l s w p. search rules)
    ∙ sym (ap (λ (f : Family). made (even_packing c.args.sew) c.args.from (λ l. answer f (numbers_of c.args.sew 0 l))) c.in-Vsrl.is)

pub returns-in-Vsra : goal.returns-in-Vsra
returns-in-Vsra c =
    c.make_even-in-Vsra.ensures (λ l. answer Vsra (numbers_of c.args.sew 0 l)) (λ l s w p. search rules)
    ∙ sym (ap (λ (f : Family). made (even_packing c.args.sew) c.args.from (λ l. answer f (numbers_of c.args.sew 0 l))) c.in-Vsra.is)
