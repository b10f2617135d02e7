-- The lanes are those of the active elements, and those are new.
use Rattle.vx_vstate.specs.Views.{view_of}
use Rattle.std.proofs.Common.{◌/◌, ◌∙◌, ap, IsTrue, subst}
use Rattle.vx_bits.specs.Width.{is_width}
use Rattle.vx_operands.specs.Forms.{reading}
use Rattle.vx_vector.specs.Reading.{destination_width}
use Rattle.vx_operands.proofs.Places.{per_word-le}
use Rattle.vx_operands.proofs.Merging.{active_are, merged_value, merged_sat}
use Rattle.vx_operands.proofs.merged.merged_word.Goals as goal

pub returns-clause-value : goal.returns-clause-value
returns-clause-value c words each width count mask old new =
    let r = reading c.args.form (view_of c.args.at.now) c.args.regs.now words in
    let is = subst (λ d. IsTrue (is_width d)) width c.requires.width in
    let most = per_word-le (destination_width r) is in
    let active = active_are r c.args.w c.active_lanes-lanes.result c.let_in.result c.args.mask (64 / c.args.width) c.args.count (ap (λ d. 64 / d) width) most c.active_lanes-lanes.ensures count (c.let_in.ensures.all (view_of c.args.at.now) words) (c.let_in.ensures.some (view_of c.args.at.now) words) mask in
    c.merge.ensures.value ∙ merged_value c.joined_by_elements.ensures.same r c.args.w c.args.width c.active_lanes-lanes.result c.args.old c.args.made each is width active old new

pub returns-clause-sat : goal.returns-clause-sat
returns-clause-sat c words each width count mask new =
    let r = reading c.args.form (view_of c.args.at.now) c.args.regs.now words in
    let is = subst (λ d. IsTrue (is_width d)) width c.requires.width in
    let most = per_word-le (destination_width r) is in
    let active = active_are r c.args.w c.active_lanes-lanes.result c.let_in.result c.args.mask (64 / c.args.width) c.args.count (ap (λ d. 64 / d) width) most c.active_lanes-lanes.ensures count (c.let_in.ensures.all (view_of c.args.at.now) words) (c.let_in.ensures.some (view_of c.args.at.now) words) mask in
    c.any_lane.ensures ∙ merged_sat r c.args.w c.args.width c.active_lanes-lanes.result c.args.made each width active new
