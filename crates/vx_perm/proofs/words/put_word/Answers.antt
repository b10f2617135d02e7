-- Element 0 is the integer register.
use Rattle.vx_vstate.specs.Views.{view_of}
use Rattle.std.proofs.Common.{◌%◌, ◌^◌, ◌∙◌, IsTrue, not, sym, ap, subst}
use Rattle.std.proofs.Math.Nat.{mod-mod}
use Rattle.vx_bits.specs.Width.{is_width}
use Rattle.vx_decode.specs.Groups.{width_of}
use Rattle.vx_rows.specs.Families.{operands_of}
use Rattle.vx_rows.specs.declared.family.Family.{Family}
use Rattle.vx_operands.specs.Forms.{reading}
use Rattle.vx_operands.specs.Rising.{is_first_alone, first_by}
use Rattle.vx_vstate.specs.Registers.{word_at}
use Rattle.vx_vector.specs.Laws.{is_absent, made_word, word_saturates}
use Rattle.vx_vector.specs.Reading.{destination_width, sew_of}
use Rattle.vx_vector.specs.Rules.{rule_of}
use Rattle.vx_operands.proofs.Even.{destination_place}
use Rattle.vx_operands.proofs.ByIndex.{element_width, first_writes, first_unwritten}
use Rattle.vx_perm.proofs.words.put_word.Goals as goal

pub group_word-old-requires-clause-within : goal.group_word-old-requires-clause-within
group_word-old-requires-clause-within g c =
    let r = reading c.args.form (view_of c.args.at.now) c.args.regs.now (g.S.WordFile.words c.args.file.now) in
    destination_place r c.args.w (ap (λ (f : Family). not (is_absent (operands_of f).destination)) c.requires.family) c.requires.sound.destination c.requires.within

pub returns-then-writes_first-clause-value : goal.returns-then-writes_first-clause-value
returns-then-writes_first-clause-value g c =
    let r = reading c.args.form (view_of c.args.at.now) c.args.regs.now (g.S.WordFile.words c.args.file.now) in
    let both = first_writes c.args.w c.args.at.now.vstart c.args.at.now.vl (sym c.writes_first.ensures ∙ c.if-writes_first.true) in
    let alone = ap (λ (f : Family). is_first_alone (rule_of f)) c.requires.family in
    let d = c.requires.sew ∙ sym (ap (λ (f : Family). width_of (operands_of f).destination (sew_of r)) c.requires.family) in
    let old = c.group_word-old.ensures ∙ ap (λ n. word_at c.args.at.now.vlen (g.S.WordFile.words c.args.file.now) c.args.regs.now.vd n) both.0 in
    let value = sym (mod-mod c.args.at.now.scalar (2 ^ c.args.sew)) ∙ ap (λ s. c.args.at.now.scalar % 2 ^ s % 2 ^ c.args.sew) c.requires.sew ∙ sym (ap (λ (f : Family). first_by (rule_of f) r % 2 ^ c.args.sew) c.requires.family) in
    c.first_set.ensures.value r d alone both.1 old value ∙ ap (λ n. made_word r n) (sym both.0)

pub returns-then-writes_first-clause-sat : goal.returns-then-writes_first-clause-sat
returns-then-writes_first-clause-sat g c =
    let r = reading c.args.form (view_of c.args.at.now) c.args.regs.now (g.S.WordFile.words c.args.file.now) in
    let both = first_writes c.args.w c.args.at.now.vstart c.args.at.now.vl (sym c.writes_first.ensures ∙ c.if-writes_first.true) in
    c.first_set.ensures.sat r (ap (λ (f : Family). is_first_alone (rule_of f)) c.requires.family) ∙ ap (λ n. word_saturates r n) (sym both.0)

pub returns-else-writes_first-clause-value : goal.returns-else-writes_first-clause-value
returns-else-writes_first-clause-value g c =
    let r = reading c.args.form (view_of c.args.at.now) c.args.regs.now (g.S.WordFile.words c.args.file.now) in
    let d = c.requires.sew ∙ sym (ap (λ (f : Family). width_of (operands_of f).destination (sew_of r)) c.requires.family) in
    let width = element_width (destination_width r) (subst (λ n. IsTrue (is_width n)) d c.requires.width) in
    c.unchanged.ensures.value r c.args.w width (first_unwritten r c.args.w width (ap (λ (f : Family). is_first_alone (rule_of f)) c.requires.family) (sym c.writes_first.ensures ∙ c.if-writes_first.false)) c.group_word-old.ensures

pub returns-else-writes_first-clause-sat : goal.returns-else-writes_first-clause-sat
returns-else-writes_first-clause-sat g c =
    let r = reading c.args.form (view_of c.args.at.now) c.args.regs.now (g.S.WordFile.words c.args.file.now) in
    let d = c.requires.sew ∙ sym (ap (λ (f : Family). width_of (operands_of f).destination (sew_of r)) c.requires.family) in
    let width = element_width (destination_width r) (subst (λ n. IsTrue (is_width n)) d c.requires.width) in
    c.unchanged.ensures.sat r c.args.w (first_unwritten r c.args.w width (ap (λ (f : Family). is_first_alone (rule_of f)) c.requires.family) (sym c.writes_first.ensures ∙ c.if-writes_first.false))
