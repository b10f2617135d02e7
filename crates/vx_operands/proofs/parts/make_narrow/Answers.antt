-- By a width that is known.
use Rattle.std.proofs.Common.{◌≡◌, ap, ◌∙◌, sym, subst, arith}
use Rattle.vx_packed.specs.Made.{Answers, made}
use Rattle.vx_packed.specs.declared.elements.Packing.{Packing}
use Rattle.vx_operands.specs.Parts.{narrow_packing}
use Rattle.vx_operands.proofs.parts.make_narrow.Goals as goal

pub returns-in-8 : goal.returns-in-8
returns-in-8 g c f a =
    let e = c.narrow.ensures.value ∙ ap narrow_packing (sym c.in-8.is) in
    c.make.ensures.value f (subst (λ (p : Packing). Answers (goal.F-post g c.args.f) p f) (sym e) a) ∙ ap (λ (p : Packing). made p c.args.from f) e

pub returns-in_default : goal.returns-in_default
returns-in_default g c f a =
    let rest : c.args.sew ≡ 32 = grind (arith, c.requires) in
    let e = c.narrow-in_default.ensures.value ∙ ap narrow_packing (sym rest) in
    c.make-in_default.ensures.value f (subst (λ (p : Packing). Answers (goal.F-post g c.args.f) p f) (sym e) a) ∙ ap (λ (p : Packing). made p c.args.from f) e
