-- Each family by its own function.
use Rattle.std.proofs.Common.{◌≡◌, sym, ap, ◌∙◌, rules}
use Rattle.vx_packed.specs.Made.{made}
use Rattle.vx_rows.specs.declared.family.Family.{Family}
use Rattle.vx_rows.specs.declared.family.Family.TheVariants.{Vmadc, Vmsbc, Vmseq, Vmsne, Vmsltu, Vmslt, Vmsleu, Vmsle, Vmsgtu, Vmsgt}
use Rattle.vx_operands.specs.Lanes.{answer, numbers_of}
use Rattle.vx_operands.specs.Parts.{bit_packing}
use Rattle.vx_widen.proofs.comparisons.compared.Goals as goal

pub compared_by-requires-clause-makes : goal.compared_by-requires-clause-makes
compared_by-requires-clause-makes g c from new p =
    let is : new ≡ made (bit_packing c.args.sew) from (λ l. answer Vmadc (numbers_of c.args.sew 0 l)) = search rules in
    is ∙ sym (ap (λ (f : Family). made (bit_packing c.args.sew) from (λ l. answer f (numbers_of c.args.sew c.args.at.now.vxrm l))) c.in-Vmadc.is)

pub compared_by-requires-in-Vmsbc-clause-makes : goal.compared_by-requires-in-Vmsbc-clause-makes
compared_by-requires-in-Vmsbc-clause-makes g c from new p =
    let is : new ≡ made (bit_packing c.args.sew) from (λ l. answer Vmsbc (numbers_of c.args.sew 0 l)) = search rules in
    is ∙ sym (ap (λ (f : Family). made (bit_packing c.args.sew) from (λ l. answer f (numbers_of c.args.sew c.args.at.now.vxrm l))) c.in-Vmsbc.is)

pub compared_by-requires-in-Vmseq-clause-makes : goal.compared_by-requires-in-Vmseq-clause-makes
compared_by-requires-in-Vmseq-clause-makes g c from new p =
    let is : new ≡ made (bit_packing c.args.sew) from (λ l. answer Vmseq (numbers_of c.args.sew 0 l)) = search rules in
    is ∙ sym (ap (λ (f : Family). made (bit_packing c.args.sew) from (λ l. answer f (numbers_of c.args.sew c.args.at.now.vxrm l))) c.in-Vmseq.is)

pub compared_by-requires-in-Vmsne-clause-makes : goal.compared_by-requires-in-Vmsne-clause-makes
compared_by-requires-in-Vmsne-clause-makes g c from new p =
    let is : new ≡ made (bit_packing c.args.sew) from (λ l. answer Vmsne (numbers_of c.args.sew 0 l)) = search rules in
    is ∙ sym (ap (λ (f : Family). made (bit_packing c.args.sew) from (λ l. answer f (numbers_of c.args.sew c.args.at.now.vxrm l))) c.in-Vmsne.is)

pub compared_by-requires-in-Vmsltu-clause-makes : goal.compared_by-requires-in-Vmsltu-clause-makes
compared_by-requires-in-Vmsltu-clause-makes g c from new p =
    let is : new ≡ made (bit_packing c.args.sew) from (λ l. answer Vmsltu (numbers_of c.args.sew 0 l)) = search rules in
    is ∙ sym (ap (λ (f : Family). made (bit_packing c.args.sew) from (λ l. answer f (numbers_of c.args.sew c.args.at.now.vxrm l))) c.in-Vmsltu.is)

pub compared_by-requires-in-Vmslt-clause-makes : goal.compared_by-requires-in-Vmslt-clause-makes
compared_by-requires-in-Vmslt-clause-makes g c from new p =
    let is : new ≡ made (bit_packing c.args.sew) from (λ l. answer Vmslt (numbers_of c.args.sew 0 l)) = search rules in
    is ∙ sym (ap (λ (f : Family). made (bit_packing c.args.sew) from (λ l. answer f (numbers_of c.args.sew c.args.at.now.vxrm l))) c.in-Vmslt.is)

pub compared_by-requires-in-Vmsleu-clause-makes : goal.compared_by-requires-in-Vmsleu-clause-makes
compared_by-requires-in-Vmsleu-clause-makes g c from new p =
    let is : new ≡ made (bit_packing c.args.sew) from (λ l. answer Vmsleu (numbers_of c.args.sew 0 l)) = search rules in
    is ∙ sym (ap (λ (f : Family). made (bit_packing c.args.sew) from (λ l. answer f (numbers_of c.args.sew c.args.at.now.vxrm l))) c.in-Vmsleu.is)

pub compared_by-requires-in-Vmsle-clause-makes : goal.compared_by-requires-in-Vmsle-clause-makes
compared_by-requires-in-Vmsle-clause-makes g c from new p =
    let is : new ≡ made (bit_packing c.args.sew) from (λ l. answer Vmsle (numbers_of c.args.sew 0 l)) = search rules in
    is ∙ sym (ap (λ (f : Family). made (bit_packing c.args.sew) from (λ l. answer f (numbers_of c.args.sew c.args.at.now.vxrm l))) c.in-Vmsle.is)

pub compared_by-requires-in-Vmsgtu-clause-makes : goal.compared_by-requires-in-Vmsgtu-clause-makes
compared_by-requires-in-Vmsgtu-clause-makes g c from new p =
    let is : new ≡ made (bit_packing c.args.sew) from (λ l. answer Vmsgtu (numbers_of c.args.sew 0 l)) = search rules in
    is ∙ sym (ap (λ (f : Family). made (bit_packing c.args.sew) from (λ l. answer f (numbers_of c.args.sew c.args.at.now.vxrm l))) c.in-Vmsgtu.is)

pub compared_by-requires-in-Vmsgt-clause-makes : goal.compared_by-requires-in-Vmsgt-clause-makes
compared_by-requires-in-Vmsgt-clause-makes g c from new p =
    let is : new ≡ made (bit_packing c.args.sew) from (λ l. answer Vmsgt (numbers_of c.args.sew 0 l)) = search rules in
    is ∙ sym (ap (λ (f : Family). made (bit_packing c.args.sew) from (λ l. answer f (numbers_of c.args.sew c.args.at.now.vxrm l))) c.in-Vmsgt.is)
