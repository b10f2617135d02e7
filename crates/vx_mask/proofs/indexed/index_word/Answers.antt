-- Each element is its index.
use Rattle.vx_vstate.specs.Views.{view_of}
use Rattle.std.proofs.Common.{◌≡◌, ℕ, ◌+◌, ◌*◌, ◌/◌, ◌%◌, ◌^◌, ◌<◌, ◌∙◌, Option, Some, sym, ap, rules}
use Rattle.vx_rows.specs.Families.{operands_of}
use Rattle.vx_rows.specs.declared.family.Family.{Family}
use Rattle.vx_operands.specs.Forms.{reading}
use Rattle.vx_operands.specs.Rising.{is_by_index, moved_by}
use Rattle.vx_vector.specs.Reading.{lists_of}
use Rattle.vx_vector.specs.Rules.{rule_of}
use Rattle.vx_mask.proofs.indexed.index_word.Goals as goal

pub moved_by_index-requires-clause-by_index : goal.moved_by_index-requires-clause-by_index
moved_by_index-requires-clause-by_index g c = ap (λ (f : Family). is_by_index (rule_of f)) c.requires.family

pub moved_by_index-requires-clause-destination : goal.moved_by_index-requires-clause-destination
moved_by_index-requires-clause-destination g c = ap (λ (f : Family). (operands_of f).destination) c.requires.family

pub moved_by_index-requires-clause-moves : goal.moved_by_index-requires-clause-moves
moved_by_index-requires-clause-moves g c k l below o p =
    let r = reading c.args.form (view_of c.args.at.now) c.args.regs.now (g.S.WordFile.words c.args.file.now) in
    let i = c.args.w * (64 / c.args.sew) + k in
    let is : o ≡ Some (i % 2 ^ c.args.sew) = search rules in
    is ∙ ap (λ s. Some (i % 2 ^ s)) c.requires.sew ∙ sym (ap (λ (f : Family). moved_by (rule_of f) (lists_of r) i) c.requires.family)
