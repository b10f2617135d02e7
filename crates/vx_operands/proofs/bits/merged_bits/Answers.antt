-- The lanes are those of the active elements, and those are new.
use Rattle.vx_vstate.specs.Views.{view_of}
use Rattle.std.proofs.Common.{ℕ, ◌/◌, ◌≤◌, ◌∙◌, sym, ap, subst, arith}
use Rattle.vx_operands.specs.Forms.{reading}
use Rattle.vx_operands.proofs.Merging.{active_are}
use Rattle.vx_operands.proofs.Compared.{merged_bits_value, unsaturated}
use Rattle.vx_operands.proofs.bits.merged_bits.Goals as goal

pub returns-clause-value : goal.returns-clause-value
returns-clause-value c words each width count mask old new =
    let r = reading c.args.form (view_of c.args.at.now) c.args.regs.now words in
    let most : 64 / 1 ≤ 64 = omega arith in
    let active = active_are r c.args.w c.active_lanes-lanes.result c.let_in.result c.args.mask 64 c.args.at.now.vl (ap (λ (d : ℕ). 64 / d) (sym width)) (subst (λ (d : ℕ). 64 / d ≤ 64) (sym width) most) c.active_lanes-lanes.ensures (sym count) (c.let_in.ensures.all (view_of c.args.at.now) words) (c.let_in.ensures.some (view_of c.args.at.now) words) mask in
    c.merge_bits.ensures ∙ merged_bits_value c.joined_by_elements.ensures.same r c.args.w c.active_lanes-lanes.result c.args.old c.args.new each width count active old new

pub returns-clause-sat : goal.returns-clause-sat
returns-clause-sat c words each plain =
    sym (unsaturated (reading c.args.form (view_of c.args.at.now) c.args.regs.now words) c.args.w each plain)
