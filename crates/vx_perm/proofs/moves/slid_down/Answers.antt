-- Past the last element either way.
use Rattle.vx_vstate.specs.Views.{view_of}
use Rattle.std.proofs.Common.{◌+◌, ◌-◌, ◌^◌, ◌≤◌, ◌∙◌, Some, ltb, if◌then◌else◌, ap, subst, arith}
use Rattle.vx_operands.specs.Forms.{reading}
use Rattle.vx_vector.specs.Lists.{element_or_zero}
use Rattle.vx_vector.specs.Reading.{lists_of}
use Rattle.vx_perm.proofs.Facts.{cut_off}
use Rattle.vx_perm.proofs.moves.slid_down.Goals as goal

pub returns : goal.returns
returns g c =
    let r = reading c.args.form (view_of c.args.at.now) c.args.regs.now (g.S.WordFile.words c.args.file.now) in
    let most : c.args.most ≤ 2 ^ 64 - 1 = omega arith in
    ap Some (
    c.source.ensures
    ∙ ap (λ n. element_or_zero (lists_of r) n) (c.behind-place.ensures ∙ ap (λ x. if ltb (c.args.i + x) (2 ^ 64) then c.args.i + x else 2 ^ 64 - 1) (c.number.ensures (g.S.WordFile.words c.args.file.now)))
    ∙ cut_off r (c.args.i + (lists_of r).x) c.requires.vs2 (subst (λ n. n ≤ 2 ^ 64 - 1) c.requires.most most))
