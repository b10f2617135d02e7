-- Lane by lane, each family's rule.
use Rattle.std.proofs.Common.{sym, ap, ◌∙◌, rules}
use Rattle.vx_packed.specs.Made.{even_packing, made}
use Rattle.vx_rows.specs.declared.family.Family.{Family}
use Rattle.vx_rows.specs.declared.family.Family.TheVariants.{Vsaddu, Vsadd, Vssubu, Vssub, Vaaddu, Vaadd, Vasubu, Vasub, Vsmul, Vssrl, Vssra}
use Rattle.vx_operands.specs.Lanes.{answer, numbers_of}
use Rattle.vx_fixed.proofs.lanes.lanes.Goals as goal

pub returns-in-Vsaddu : goal.returns-in-Vsaddu
returns-in-Vsaddu c =
    c.make_even.ensures (λ l. answer Vsaddu (numbers_of c.args.sew c.args.vxrm l)) (λ l s w p. search rules)
    ∙ sym (ap (λ (f : Family). made (even_packing c.args.sew) c.args.from (λ l. answer f (numbers_of c.args.sew c.args.vxrm l))) c.in-Vsaddu.is)

pub returns-in-Vsadd : goal.returns-in-Vsadd
returns-in-Vsadd c =
    c.make_even-in-Vsadd.ensures (λ l. answer Vsadd (numbers_of c.args.sew c.args.vxrm l)) (λ l s w p. search rules)
    ∙ sym (ap (λ (f : Family). made (even_packing c.args.sew) c.args.from (λ l. answer f (numbers_of c.args.sew c.args.vxrm l))) c.in-Vsadd.is)

pub returns-in-Vssubu : goal.returns-in-Vssubu
returns-in-Vssubu c =
    c.make_even-in-Vssubu.ensures (λ l. answer Vssubu (numbers_of c.args.sew c.args.vxrm l)) (λ l s w p. search rules)
    ∙ sym (ap (λ (f : Family). made (even_packing c.args.sew) c.args.from (λ l. answer f (numbers_of c.args.sew c.args.vxrm l))) c.in-Vssubu.is)

pub returns-in-Vssub : goal.returns-in-Vssub
returns-in-Vssub c =
    c.make_even-in-Vssub.ensures (λ l. answer Vssub (numbers_of c.args.sew c.args.vxrm l)) (λ l s w p. search rules)
    ∙ sym (ap (λ (f : Family). made (even_packing c.args.sew) c.args.from (λ l. answer f (numbers_of c.args.sew c.args.vxrm l))) c.in-Vssub.is)

pub returns-in-Vaaddu : goal.returns-in-Vaaddu
returns-in-Vaaddu c =
    c.make_even-in-Vaaddu.ensures (λ l. answer Vaaddu (numbers_of c.args.sew c.args.vxrm l)) (λ l s w p. search rules)
    ∙ sym (ap (λ (f : Family). made (even_packing c.args.sew) c.args.from (λ l. answer f (numbers_of c.args.sew c.args.vxrm l))) c.in-Vaaddu.is)

pub returns-in-Vaadd : goal.returns-in-Vaadd
returns-in-Vaadd c =
    c.make_even-in-Vaadd.ensures (λ l. answer Vaadd (numbers_of c.args.sew c.args.vxrm l)) (λ l s w p. search rules)
    ∙ sym (ap (λ (f : Family). made (even_packing c.args.sew) c.args.from (λ l. answer f (numbers_of c.args.sew c.args.vxrm l))) c.in-Vaadd.is)

pub returns-in-Vasubu : goal.returns-in-Vasubu
returns-in-Vasubu c =
    c.make_even-in-Vasubu.ensures (λ l. answer Vasubu (numbers_of c.args.sew c.args.vxrm l)) (λ l s w p. search rules)
    ∙ sym (ap (λ (f : Family). made (even_packing c.args.sew) c.args.from (λ l. answer f (numbers_of c.args.sew c.args.vxrm l))) c.in-Vasubu.is)

pub returns-in-Vasub : goal.returns-in-Vasub
returns-in-Vasub c =
    c.make_even-in-Vasub.ensures (λ l. answer Vasub (numbers_of c.args.sew c.args.vxrm l)) (λ l s w p. search rules)
    ∙ sym (ap (λ (f : Family). made (even_packing c.args.sew) c.args.from (λ l. answer f (numbers_of c.args.sew c.args.vxrm l))) c.in-Vasub.is)

pub returns-in-Vsmul : goal.returns-in-Vsmul
returns-in-Vsmul c =
    c.make_even-in-Vsmul.ensures (λ l. answer Vsmul (numbers_of c.args.sew c.args.vxrm l)) (λ l s w p. search rules)
    ∙ sym (ap (λ (f : Family). made (even_packing c.args.sew) c.args.from (λ l. answer f (numbers_of c.args.sew c.args.vxrm l))) c.in-Vsmul.is)

pub returns-in-Vssrl : goal.returns-in-Vssrl
returns-in-Vssrl c =
    c.make_even-in-Vssrl.ensures (λ l. answer Vssrl (numbers_of c.args.sew c.args.vxrm l)) (λ l s w p. search rules)
    ∙ sym (ap (λ (f : Family). made (even_packing c.args.sew) c.args.from (λ l. answer f (numbers_of c.args.sew c.args.vxrm l))) c.in-Vssrl.is)

pub returns-in-Vssra : goal.returns-in-Vssra
returns-in-Vssra c =
    c.make_even-in-Vssra.ensures (λ l. answer Vssra (numbers_of c.args.sew c.args.vxrm l)) (λ l s w p. search rules)
    ∙ sym (ap (λ (f : Family). made (even_packing c.args.sew) c.args.from (λ l. answer f (numbers_of c.args.sew c.args.vxrm l))) c.in-Vssra.is)
