-- One element more.
use Rattle.vx_vstate.specs.Views.{view_of}
use Rattle.std.proofs.Common.{◌≡◌, ◌∙◌, nat_eq, sym, subst, arith}
use Rattle.std.proofs.lemmas.Bool.{and_parts, eqb-true}
use Rattle.vx_operands.specs.Forms.{reading}
use Rattle.vx_perm.specs.Kinds.{IsPassed}
use Rattle.vx_perm.proofs.Facts.{passed_more, passed_small}
use Rattle.vx_perm.proofs.packs.seek.Goals as goal

pub loop-i-init : goal.loop-i-init
loop-i-init g c = c.requires.passed

pub overflow_add-chosen : goal.overflow_add-chosen
overflow_add-chosen g c =
    let r = reading c.args.form (view_of c.args.at.now) c.args.regs.now (g.S.WordFile.words c.args.file.now) in
    let small = passed_small r c.args.target c.loop-i.i c.loop-i.chosen c.loop-i.invariant in
    grind (arith, small, c.one_where-chosen.ensures, c.requires.few_elements)

pub loop-i-preserved : goal.loop-i-preserved
loop-i-preserved g c =
    let r = reading c.args.form (view_of c.args.at.now) c.args.regs.now (g.S.WordFile.words c.args.file.now) in
    passed_more r c.args.target c.loop-i.i c.loop-i.chosen c.is_chosen-here.result c.one_where-chosen.result c.loop-i.invariant (omega arith) c.is_chosen-here.ensures c.one_where-chosen.ensures (sym c.is_found.ensures ∙ c.if-is_found.false)

pub returns-then-is_found-clause-passed : goal.returns-then-is_found-clause-passed
returns-then-is_found-clause-passed g c = c.loop-i.invariant

pub returns-then-is_found-clause-there : goal.returns-then-is_found-clause-there
returns-then-is_found-clause-there g c l =
    let both = and_parts c.is_chosen-here.result (nat_eq c.loop-i.chosen c.args.target) (sym c.is_found.ensures ∙ c.if-is_found.true) in
    (sym c.is_chosen-here.ensures ∙ both.0, eqb-true c.loop-i.chosen c.args.target both.1)

pub returns-clause-passed : goal.returns-clause-passed
returns-clause-passed g c =
    let r = reading c.args.form (view_of c.args.at.now) c.args.regs.now (g.S.WordFile.words c.args.file.now) in
    let most = c.loop-i.invariant.most in
    let end : c.loop-i.i ≡ c.args.at.now.vl = omega (arith, most) in
    subst (λ n. IsPassed r c.args.target (record { elements = n; chosen = c.loop-i.chosen })) end c.loop-i.invariant

pub returns-clause-there : goal.returns-clause-there
returns-clause-there g c l = absurd (omega (arith, l))
