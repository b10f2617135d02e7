-- Lane by lane, each family's rule.
use Rattle.std.proofs.Common.{sym, ap, ◌∙◌, rules}
use Rattle.vx_packed.specs.Made.{even_packing, made}
use Rattle.vx_rows.specs.declared.family.Family.{Family}
use Rattle.vx_rows.specs.declared.family.Family.TheVariants.{Vmul, Vmulh, Vmulhu, Vmulhsu, Vmadd, Vnmsub, Vmacc, Vnmsac}
use Rattle.vx_operands.specs.Lanes.{answer, numbers_of}
use Rattle.vx_elem.proofs.lanes.products.Goals as goal

pub returns-in-Vmul : goal.returns-in-Vmul
returns-in-Vmul c =
    c.make_even.ensures (λ l. answer Vmul (numbers_of c.args.sew 0 l)) (λ l s w p. search rules)
    ∙ sym (ap (λ (f : Family). made (even_packing c.args.sew) c.args.from (λ l. answer f (numbers_of c.args.sew 0 l))) c.in-Vmul.is)

pub returns-in-Vmulh : goal.returns-in-Vmulh
returns-in-Vmulh c =
    c.make_even-in-Vmulh.ensures (λ l. answer Vmulh (numbers_of c.args.sew 0 l)) (λ l s w p. search rules)
    ∙ sym (ap (λ (f : Family). made (even_packing c.args.sew) c.args.from (λ l. answer f (numbers_of c.args.sew 0 l))) c.in-Vmulh.is)

pub returns-in-Vmulhu : goal.returns-in-Vmulhu
returns-in-Vmulhu c =
    c.make_even-in-Vmulhu.ensures (λ l. answer Vmulhu (numbers_of c.args.sew 0 l)) (λ l s w p. search rules)
    ∙ sym (ap (λ (f : Family). made (even_packing c.args.sew) c.args.from (λ l. answer f (numbers_of c.args.sew 0 l))) c.in-Vmulhu.is)

pub returns-in-Vmulhsu : goal.returns-in-Vmulhsu
returns-in-Vmulhsu c =
    c.make_even-in-Vmulhsu.ensures (λ l. answer Vmulhsu (numbers_of c.args.sew 0 l)) (λ l s w p. search rules)
    ∙ sym (ap (λ (f : Family). made (even_packing c.args.sew) c.args.from (λ l. answer f (numbers_of c.args.sew 0 l))) c.in-Vmulhsu.is)

pub returns-in-Vmadd : goal.returns-in-Vmadd
returns-in-Vmadd c =
    c.make_even-in-Vmadd.ensures (λ l. answer Vmadd (numbers_of c.args.sew 0 l)) (λ l s w p. search rules)
    ∙ sym (ap (λ (f : Family). made (even_packing c.args.sew) c.args.from (λ l. answer f (numbers_of c.args.sew 0 l))) c.in-Vmadd.is)

pub returns-in-Vnmsub : goal.returns-in-Vnmsub
returns-in-Vnmsub c =
    c.make_even-in-Vnmsub.ensures (λ l. answer Vnmsub (numbers_of c.args.sew 0 l)) (λ l s w p. search rules)
    ∙ sym (ap (λ (f : Family). made (even_packing c.args.sew) c.args.from (λ l. answer f (numbers_of c.args.sew 0 l))) c.in-Vnmsub.is)

pub returns-in-Vmacc : goal.returns-in-Vmacc
returns-in-Vmacc c =
    c.make_even-in-Vmacc.ensures (λ l. answer Vmacc (numbers_of c.args.sew 0 l)) (λ l s w p. search rules)
    ∙ sym (ap (λ (f : Family). made (even_packing c.args.sew) c.args.from (λ l. answer f (numbers_of c.args.sew 0 l))) c.in-Vmacc.is)

pub returns-in-Vnmsac : goal.returns-in-Vnmsac
returns-in-Vnmsac c =
    c.make_even-in-Vnmsac.ensures (λ l. answer Vnmsac (numbers_of c.args.sew 0 l)) (λ l s w p. search rules)
    ∙ sym (ap (λ (f : Family). made (even_packing c.args.sew) c.args.from (λ l. answer f (numbers_of c.args.sew 0 l))) c.in-Vnmsac.is)
