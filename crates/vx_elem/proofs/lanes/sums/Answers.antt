-- Lane by lane, each family's rule.
use Rattle.std.proofs.Common.{sym, ap, ◌∙◌, rules}
use Rattle.vx_packed.specs.Made.{even_packing, made}
use Rattle.vx_rows.specs.declared.family.Family.{Family}
use Rattle.vx_rows.specs.declared.family.Family.TheVariants.{Vadd, Vsub, Vrsub, Vminu, Vmin, Vmaxu, Vmax}
use Rattle.vx_operands.specs.Lanes.{answer, numbers_of}
use Rattle.vx_elem.proofs.lanes.sums.Goals as goal

pub returns-in-Vadd : goal.returns-in-Vadd
returns-in-Vadd c =
    c.make_even.ensures (λ l. answer Vadd (numbers_of c.args.sew 0 l)) (λ l s w p. search rules)
    ∙ sym (ap (λ (f : Family). made (even_packing c.args.sew) c.args.from (λ l. answer f (numbers_of c.args.sew 0 l))) c.in-Vadd.is)

pub returns-in-Vsub : goal.returns-in-Vsub
returns-in-Vsub c =
    c.make_even-in-Vsub.ensures (λ l. answer Vsub (numbers_of c.args.sew 0 l)) (λ l s w p. search rules)
    ∙ sym (ap (λ (f : Family). made (even_packing c.args.sew) c.args.from (λ l. answer f (numbers_of c.args.sew 0 l))) c.in-Vsub.is)

pub returns-in-Vrsub : goal.returns-in-Vrsub
returns-in-Vrsub c =
    c.make_even-in-Vrsub.ensures (λ l. answer Vrsub (numbers_of c.args.sew 0 l)) (λ l s w p. search rules)
    ∙ sym (ap (λ (f : Family). made (even_packing c.args.sew) c.args.from (λ l. answer f (numbers_of c.args.sew 0 l))) c.in-Vrsub.is)

pub returns-in-Vminu : goal.returns-in-Vminu
returns-in-Vminu c =
    c.make_even-in-Vminu.ensures (λ l. answer Vminu (numbers_of c.args.sew 0 l)) (λ l s w p. search rules)
    ∙ sym (ap (λ (f : Family). made (even_packing c.args.sew) c.args.from (λ l. answer f (numbers_of c.args.sew 0 l))) c.in-Vminu.is)

pub returns-in-Vmin : goal.returns-in-Vmin
returns-in-Vmin c =
    c.make_even-in-Vmin.ensures (λ l. answer Vmin (numbers_of c.args.sew 0 l)) (λ l s w p. search rules)
    ∙ sym (ap (λ (f : Family). made (even_packing c.args.sew) c.args.from (λ l. answer f (numbers_of c.args.sew 0 l))) c.in-Vmin.is)

pub returns-in-Vmaxu : goal.returns-in-Vmaxu
returns-in-Vmaxu c =
    c.make_even-in-Vmaxu.ensures (λ l. answer Vmaxu (numbers_of c.args.sew 0 l)) (λ l s w p. search rules)
    ∙ sym (ap (λ (f : Family). made (even_packing c.args.sew) c.args.from (λ l. answer f (numbers_of c.args.sew 0 l))) c.in-Vmaxu.is)

pub returns-in-Vmax : goal.returns-in-Vmax
returns-in-Vmax c =
    c.make_even-in-Vmax.ensures (λ l. answer Vmax (numbers_of c.args.sew 0 l)) (λ l s w p. search rules)
    ∙ sym (ap (λ (f : Family). made (even_packing c.args.sew) c.args.from (λ l. answer f (numbers_of c.args.sew 0 l))) c.in-Vmax.is)
