-- Lane by lane, each family's rule.
use Rattle.std.proofs.Common.{true, sym, ap, ◌∙◌, rules}
use Rattle.vx_packed.specs.Made.{made}
use Rattle.vx_rows.specs.declared.family.Family.{Family}
use Rattle.vx_rows.specs.declared.family.Family.TheVariants.{VwadduW, VwaddW, VwsubuW, VwsubW}
use Rattle.vx_operands.specs.Lanes.{answer, numbers_of}
use Rattle.vx_operands.specs.Parts.{doubled_packing}
use Rattle.vx_widen.proofs.lanes.extended.Goals as goal

pub returns-in-VwadduW : goal.returns-in-VwadduW
returns-in-VwadduW c =
    c.make_doubled.ensures (λ l. answer VwadduW (numbers_of c.args.sew 0 l)) (λ l s w p. search rules)
    ∙ sym (ap (λ (f : Family). made (doubled_packing c.args.sew true) c.args.from (λ l. answer f (numbers_of c.args.sew 0 l))) c.in-VwadduW.is)

pub returns-in-VwaddW : goal.returns-in-VwaddW
returns-in-VwaddW c =
    c.make_doubled-in-VwaddW.ensures (λ l. answer VwaddW (numbers_of c.args.sew 0 l)) (λ l s w p. search rules)
    ∙ sym (ap (λ (f : Family). made (doubled_packing c.args.sew true) c.args.from (λ l. answer f (numbers_of c.args.sew 0 l))) c.in-VwaddW.is)

pub returns-in-VwsubuW : goal.returns-in-VwsubuW
returns-in-VwsubuW c =
    c.make_doubled-in-VwsubuW.ensures (λ l. answer VwsubuW (numbers_of c.args.sew 0 l)) (λ l s w p. search rules)
    ∙ sym (ap (λ (f : Family). made (doubled_packing c.args.sew true) c.args.from (λ l. answer f (numbers_of c.args.sew 0 l))) c.in-VwsubuW.is)

pub returns-in-VwsubW : goal.returns-in-VwsubW
returns-in-VwsubW c =
    c.make_doubled-in-VwsubW.ensures (λ l. answer VwsubW (numbers_of c.args.sew 0 l)) (λ l s w p. search rules)
    ∙ sym (ap (λ (f : Family). made (doubled_packing c.args.sew true) c.args.from (λ l. answer f (numbers_of c.args.sew 0 l))) c.in-VwsubW.is)
