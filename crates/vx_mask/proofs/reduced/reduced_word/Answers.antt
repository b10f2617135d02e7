-- Element 0 is the sum.
use Rattle.vx_vstate.specs.Views.{view_of}
use Rattle.std.proofs.Common.{◌≡◌, ◌%◌, ◌^◌, ◌∙◌, IsTrue, sym, ap, subst}
use Rattle.vx_bits.specs.Width.{is_width}
use Rattle.vx_packed.specs.Joined.{lane}
use Rattle.vx_rows.specs.Families.{operands_of}
use Rattle.vx_rows.specs.declared.family.Operand.{Operand}
use Rattle.vx_operands.specs.Forms.{reading}
use Rattle.vx_operands.specs.Rising.{reduced_by}
use Rattle.vx_vstate.specs.Registers.{word_at}
use Rattle.vx_vector.specs.Laws.{IsPlaced, made_word, word_saturates}
use Rattle.vx_vector.specs.Reading.{destination_width}
use Rattle.vx_vector.specs.Rules.{rule_of}
use Rattle.vx_operands.proofs.Even.{destination_place, vs1_is}
use Rattle.vx_operands.proofs.Groups.{count_some}
use Rattle.vx_operands.proofs.ByIndex.{element_width, first_writes, first_unwritten}
use Rattle.vx_mask.specs.Kinds.{is_element}
use Rattle.vx_mask.proofs.Folds.{element_there, element_whole, first_place, start_is, reduce_alone, reduced_is}
use Rattle.vx_mask.proofs.reduced.reduced_word.Goals as goal

pub group_word-old-requires-clause-within : goal.group_word-old-requires-clause-within
group_word-old-requires-clause-within g c =
    let r = reading c.args.form (view_of c.args.at.now) c.args.regs.now (g.S.WordFile.words c.args.file.now) in
    destination_place r c.args.w (element_there (operands_of c.args.form.family).destination c.requires.elements.destination) c.requires.sound.destination c.requires.within

pub group_word-requires-clause-within : goal.group_word-requires-clause-within
group_word-requires-clause-within g c =
    let r = reading c.args.form (view_of c.args.at.now) c.args.regs.now (g.S.WordFile.words c.args.file.now) in
    let o = c.requires.elements in
    let placed = subst (λ (o : Operand). IsPlaced r o c.args.regs.now.vs1) (vs1_is r c.requires.registers) c.requires.sound.vs1 in
    first_place r (operands_of c.args.form.family).vs1 c.args.regs.now.vs1 (ap is_element o.vs1 ∙ o.destination) placed

pub joined_all-sum-requires-clause-elements : goal.joined_all-sum-requires-clause-elements
joined_all-sum-requires-clause-elements g c = element_whole (operands_of c.args.form.family).destination c.requires.elements.destination

pub joined_all-sum-requires-clause-vs2 : goal.joined_all-sum-requires-clause-vs2
joined_all-sum-requires-clause-vs2 g c = c.requires.elements.vs2

pub returns-then-writes_first-clause-value : goal.returns-then-writes_first-clause-value
returns-then-writes_first-clause-value g c =
    let r = reading c.args.form (view_of c.args.at.now) c.args.regs.now (g.S.WordFile.words c.args.file.now) in
    let both = first_writes c.args.w c.args.at.now.vstart c.args.at.now.vl (sym c.writes_first.ensures ∙ c.if-writes_first.true) in
    let begins : c.lane_at-start.result ≡ lane c.args.width c.group_word.result 0 = c.lane_at-start.ensures in
    let start = begins ∙ start_is c.elements_are_lanes.ensures.lane r c.args.width c.group_word.result c.requires.elements c.requires.registers c.requires.width (element_width c.args.width c.requires.is_width) (count_some c.args.width c.requires.is_width) c.group_word.ensures in
    let sum = reduced_is r c.args.sew c.lane_at-start.result c.joined_all-sum.result c.requires.sound.setting c.requires.reduces c.requires.elements.vs2 c.requires.sew start (c.joined_all-sum.ensures (reduced_by (rule_of c.args.form.family) c.args.sew) c.requires.makes) in
    let old = c.group_word-old.ensures ∙ ap (λ n. word_at c.args.at.now.vlen (g.S.WordFile.words c.args.file.now) c.args.regs.now.vd n) both.0 in
    c.first_set.ensures.value r c.requires.width (reduce_alone (rule_of c.args.form.family) c.requires.reduces) both.1 old (ap (λ n. n % 2 ^ c.args.width) sum)
    ∙ ap (λ n. made_word r n) (sym both.0)

pub returns-then-writes_first-clause-sat : goal.returns-then-writes_first-clause-sat
returns-then-writes_first-clause-sat g c =
    let r = reading c.args.form (view_of c.args.at.now) c.args.regs.now (g.S.WordFile.words c.args.file.now) in
    let both = first_writes c.args.w c.args.at.now.vstart c.args.at.now.vl (sym c.writes_first.ensures ∙ c.if-writes_first.true) in
    c.first_set.ensures.sat r (reduce_alone (rule_of c.args.form.family) c.requires.reduces) ∙ ap (λ n. word_saturates r n) (sym both.0)

pub returns-clause-value : goal.returns-clause-value
returns-clause-value g c =
    let r = reading c.args.form (view_of c.args.at.now) c.args.regs.now (g.S.WordFile.words c.args.file.now) in
    let width = element_width (destination_width r) (subst (λ n. IsTrue (is_width n)) c.requires.width c.requires.is_width) in
    c.unchanged.ensures.value r c.args.w width (first_unwritten r c.args.w width (reduce_alone (rule_of c.args.form.family) c.requires.reduces) (sym c.writes_first.ensures ∙ c.if-writes_first.false)) c.group_word-old.ensures

pub returns-clause-sat : goal.returns-clause-sat
returns-clause-sat g c =
    let r = reading c.args.form (view_of c.args.at.now) c.args.regs.now (g.S.WordFile.words c.args.file.now) in
    let width = element_width (destination_width r) (subst (λ n. IsTrue (is_width n)) c.requires.width c.requires.is_width) in
    c.unchanged.ensures.sat r c.args.w (first_unwritten r c.args.w width (reduce_alone (rule_of c.args.form.family) c.requires.reduces) (sym c.writes_first.ensures ∙ c.if-writes_first.false))
