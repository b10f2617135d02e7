-- Lane by lane, each family's rule.
use Rattle.std.proofs.Common.{false, sym, ap, ◌∙◌, rules}
use Rattle.vx_packed.specs.Made.{made}
use Rattle.vx_rows.specs.declared.family.Family.{Family}
use Rattle.vx_rows.specs.declared.family.Family.TheVariants.{Vwaddu, Vwadd, Vwsubu, Vwsub, Vwmulu, Vwmulsu, Vwmul, Vwmaccu, Vwmacc, Vwmaccus, Vwmaccsu}
use Rattle.vx_operands.specs.Lanes.{answer, numbers_of}
use Rattle.vx_operands.specs.Parts.{doubled_packing}
use Rattle.vx_widen.proofs.lanes.doubled.Goals as goal

pub returns-in-Vwaddu : goal.returns-in-Vwaddu
returns-in-Vwaddu c =
    c.make_doubled.ensures (λ l. answer Vwaddu (numbers_of c.args.sew 0 l)) (λ l s w p. search rules)
    ∙ sym (ap (λ (f : Family). made (doubled_packing c.args.sew false) c.args.from (λ l. answer f (numbers_of c.args.sew 0 l))) c.in-Vwaddu.is)

pub returns-in-Vwadd : goal.returns-in-Vwadd
returns-in-Vwadd c =
    c.make_doubled-in-Vwadd.ensures (λ l. answer Vwadd (numbers_of c.args.sew 0 l)) (λ l s w p. search rules)
    ∙ sym (ap (λ (f : Family). made (doubled_packing c.args.sew false) c.args.from (λ l. answer f (numbers_of c.args.sew 0 l))) c.in-Vwadd.is)

pub returns-in-Vwsubu : goal.returns-in-Vwsubu
returns-in-Vwsubu c =
    c.make_doubled-in-Vwsubu.ensures (λ l. answer Vwsubu (numbers_of c.args.sew 0 l)) (λ l s w p. search rules)
    ∙ sym (ap (λ (f : Family). made (doubled_packing c.args.sew false) c.args.from (λ l. answer f (numbers_of c.args.sew 0 l))) c.in-Vwsubu.is)

pub returns-in-Vwsub : goal.returns-in-Vwsub
returns-in-Vwsub c =
    c.make_doubled-in-Vwsub.ensures (λ l. answer Vwsub (numbers_of c.args.sew 0 l)) (λ l s w p. search rules)
    ∙ sym (ap (λ (f : Family). made (doubled_packing c.args.sew false) c.args.from (λ l. answer f (numbers_of c.args.sew 0 l))) c.in-Vwsub.is)

pub returns-in-Vwmulu : goal.returns-in-Vwmulu
returns-in-Vwmulu c =
    c.make_doubled-in-Vwmulu.ensures (λ l. answer Vwmulu (numbers_of c.args.sew 0 l)) (λ l s w p. search rules)
    ∙ sym (ap (λ (f : Family). made (doubled_packing c.args.sew false) c.args.from (λ l. answer f (numbers_of c.args.sew 0 l))) c.in-Vwmulu.is)

pub returns-in-Vwmulsu : goal.returns-in-Vwmulsu
returns-in-Vwmulsu c =
    c.make_doubled-in-Vwmulsu.ensures (λ l. answer Vwmulsu (numbers_of c.args.sew 0 l)) (λ l s w p. search rules)
    ∙ sym (ap (λ (f : Family). made (doubled_packing c.args.sew false) c.args.from (λ l. answer f (numbers_of c.args.sew 0 l))) c.in-Vwmulsu.is)

pub returns-in-Vwmul : goal.returns-in-Vwmul
returns-in-Vwmul c =
    c.make_doubled-in-Vwmul.ensures (λ l. answer Vwmul (numbers_of c.args.sew 0 l)) (λ l s w p. search rules)
    ∙ sym (ap (λ (f : Family). made (doubled_packing c.args.sew false) c.args.from (λ l. answer f (numbers_of c.args.sew 0 l))) c.in-Vwmul.is)

pub returns-in-Vwmaccu : goal.returns-in-Vwmaccu
returns-in-Vwmaccu c =
    c.make_doubled-in-Vwmaccu.ensures (λ l. answer Vwmaccu (numbers_of c.args.sew 0 l)) (λ l s w p. search rules)
    ∙ sym (ap (λ (f : Family). made (doubled_packing c.args.sew false) c.args.from (λ l. answer f (numbers_of c.args.sew 0 l))) c.in-Vwmaccu.is)

pub returns-in-Vwmacc : goal.returns-in-Vwmacc
returns-in-Vwmacc c =
    c.make_doubled-in-Vwmacc.ensures (λ l. answer Vwmacc (numbers_of c.args.sew 0 l)) (λ l s w p. search rules)
    ∙ sym (ap (λ (f : Family). made (doubled_packing c.args.sew false) c.args.from (λ l. answer f (numbers_of c.args.sew 0 l))) c.in-Vwmacc.is)

pub returns-in-Vwmaccus : goal.returns-in-Vwmaccus
returns-in-Vwmaccus c =
    c.make_doubled-in-Vwmaccus.ensures (λ l. answer Vwmaccus (numbers_of c.args.sew 0 l)) (λ l s w p. search rules)
    ∙ sym (ap (λ (f : Family). made (doubled_packing c.args.sew false) c.args.from (λ l. answer f (numbers_of c.args.sew 0 l))) c.in-Vwmaccus.is)

pub returns-in-Vwmaccsu : goal.returns-in-Vwmaccsu
returns-in-Vwmaccsu c =
    c.make_doubled-in-Vwmaccsu.ensures (λ l. answer Vwmaccsu (numbers_of c.args.sew 0 l)) (λ l s w p. search rules)
    ∙ sym (ap (λ (f : Family). made (doubled_packing c.args.sew false) c.args.from (λ l. answer f (numbers_of c.args.sew 0 l))) c.in-Vwmaccsu.is)
