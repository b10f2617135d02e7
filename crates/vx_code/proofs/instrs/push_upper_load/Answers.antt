use Rattle.std.proofs.Common.{ℤ, ap, ◌∙◌, rules, SFits, w64}
use Rattle.std.specs.Int.{w128}
use Rattle.std.proofs.lemmas.Int.{to_z-of_z}
use Rattle.vx_language.specs.Code.{upper_part, lower_part}
use Rattle.vx_language.specs.Names.{scalar_instr}
use Rattle.vx_rows.specs.declared.op.Op.TheVariants.{Scalar}
use Rattle.vx_rows.specs.declared.op.ScalarOp.TheVariants.{Lui, Addiw}
use Rattle.vx_code.proofs.Words.{two-loaded}
use Rattle.vx_code.proofs.instrs.push_upper_load.Goals as goal

pub returns : goal.returns
returns c =
    let same = to_z-of_z w128 c.args.value c.ranges.value in
    let high : SFits w64 c.from-upper.result = search rules in
    let low : SFits w64 c.lower_part.result = search rules in
    two-loaded c.push_scalar-2.result _ _ _ _ c.args.out.now.items c.push_scalar.new.out.items c.push_scalar-2.new.out.items
    (ap (λ (z : ℤ). scalar_instr (Scalar Lui) c.args.rd 0 0 z) (to_z-of_z w64 c.from-upper.result high ∙ c.from-upper.ensures ∙ c.upper_part.ensures.value ∙ ap upper_part same))
    (ap (λ (z : ℤ). scalar_instr (Scalar Addiw) c.args.rd c.args.rd 0 z) (to_z-of_z w64 c.lower_part.result low ∙ c.lower_part.ensures.value ∙ ap lower_part same))
    c.in_ok-push_scalar.ensures c.push_scalar-2.ensures
