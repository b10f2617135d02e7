-- What each takes.
use Rattle.vx_vstate.specs.Views.{view_of}
use Rattle.std.proofs.Common.{◌≡◌, ◌+◌, ◌-◌, ◌%◌, ◌^◌, nat_eq, if◌then◌else◌, Some, sym, ap, ◌∙◌, rules}
use Rattle.vx_rows.specs.declared.family.Family.{Family}
use Rattle.vx_operands.specs.Forms.{reading}
use Rattle.vx_operands.specs.Rising.{moved_by}
use Rattle.vx_vector.specs.Lists.{element_or_zero, slid_up}
use Rattle.vx_vector.specs.Reading.{lists_of}
use Rattle.vx_vector.specs.Rules.{rule_of}
use Rattle.vx_perm.proofs.Facts.{slide_moves}
use Rattle.vx_perm.proofs.moves.slid_by_family.Goals as goal

pub by_index-requires-clause-moves : goal.by_index-requires-clause-moves
by_index-requires-clause-moves g c i l o p =
    let r = reading c.args.form (view_of c.args.at.now) c.args.regs.now (g.S.WordFile.words c.args.file.now) in
    let is : o ≡ slid_up (lists_of r) (lists_of r).x i = search rules in
    is ∙ sym (ap (λ (f : Family). moved_by (rule_of f) (lists_of r) i) c.in-Vslideup.is)

pub by_index-requires-in-Vslidedown-clause-moves : goal.by_index-requires-in-Vslidedown-clause-moves
by_index-requires-in-Vslidedown-clause-moves g c i l o p =
    let r = reading c.args.form (view_of c.args.at.now) c.args.regs.now (g.S.WordFile.words c.args.file.now) in
    let is : o ≡ Some (element_or_zero (lists_of r) (i + (lists_of r).x)) = search rules in
    is ∙ sym (ap (λ (f : Family). moved_by (rule_of f) (lists_of r) i) c.in-Vslidedown.is)

pub by_index-requires-in-Vslide1up-clause-moves : goal.by_index-requires-in-Vslide1up-clause-moves
by_index-requires-in-Vslide1up-clause-moves g c i l o p =
    let r = reading c.args.form (view_of c.args.at.now) c.args.regs.now (g.S.WordFile.words c.args.file.now) in
    let is : o ≡ Some (if nat_eq i 0 then (lists_of r).x % 2 ^ c.args.sew else element_or_zero (lists_of r) (i - 1)) = search rules in
    is ∙ ap (λ s. Some (if nat_eq i 0 then (lists_of r).x % 2 ^ s else element_or_zero (lists_of r) (i - 1))) c.requires.sew ∙ sym (ap (λ (f : Family). moved_by (rule_of f) (lists_of r) i) c.in-Vslide1up.is)

pub by_index-requires-in-Vslide1down-clause-moves : goal.by_index-requires-in-Vslide1down-clause-moves
by_index-requires-in-Vslide1down-clause-moves g c i l o p =
    let r = reading c.args.form (view_of c.args.at.now) c.args.regs.now (g.S.WordFile.words c.args.file.now) in
    let is : o ≡ Some (if nat_eq (i + 1) c.args.at.now.vl then (lists_of r).x % 2 ^ c.args.sew else element_or_zero (lists_of r) (i + 1)) = search rules in
    is ∙ ap (λ s. Some (if nat_eq (i + 1) c.args.at.now.vl then (lists_of r).x % 2 ^ s else element_or_zero (lists_of r) (i + 1))) c.requires.sew ∙ sym (ap (λ (f : Family). moved_by (rule_of f) (lists_of r) i) c.in-Vslide1down.is)

pub by_index-requires-clause-kind : goal.by_index-requires-clause-kind
by_index-requires-clause-kind g c = slide_moves c.args.form.family c.requires.kind

pub by_index-requires-in-Vslidedown-clause-kind : goal.by_index-requires-in-Vslidedown-clause-kind
by_index-requires-in-Vslidedown-clause-kind g c = slide_moves c.args.form.family c.requires.kind

pub by_index-requires-in-Vslide1up-clause-kind : goal.by_index-requires-in-Vslide1up-clause-kind
by_index-requires-in-Vslide1up-clause-kind g c = slide_moves c.args.form.family c.requires.kind

pub by_index-requires-in-Vslide1down-clause-kind : goal.by_index-requires-in-Vslide1down-clause-kind
by_index-requires-in-Vslide1down-clause-kind g c = slide_moves c.args.form.family c.requires.kind
