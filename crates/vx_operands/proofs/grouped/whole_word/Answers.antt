-- All operands are as many registers.
use Rattle.vx_vstate.specs.Views.{view_of}
use Rattle.std.proofs.Common.{◌≡◌, ℕ, ◌+◌, ◌*◌, ◌/◌, ◌<◌, ◌∙◌, sym, ap, IsTrue, subst}
use Rattle.std.proofs.lemmas.Bool.{true≢false}
use Rattle.vx_bits.specs.Width.{is_width}
use Rattle.vx_packed.specs.Joined.{lane}
use Rattle.vx_rows.specs.Families.{operands_of}
use Rattle.vx_operands.specs.Forms.{reading}
use Rattle.vx_operands.specs.Lanes.{AreMade, answer, index_at}
use Rattle.vx_vstate.specs.Registers.{word_at, element}
use Rattle.vx_vector.specs.Laws.{per_word}
use Rattle.vx_vector.specs.Numbers.{plain}
use Rattle.vx_vector.specs.Reading.{Reading, sew_of, destination_width, vs2_width, numbers_at}
use Rattle.vx_vector.specs.Words.{registers_of_operand}
use Rattle.vx_operands.proofs.Places.{in_place, even_element}
use Rattle.vx_operands.proofs.Even.{destination_place, words_of_group}
use Rattle.vx_operands.proofs.Merging.{copied_are}
use Rattle.vx_operands.proofs.Groups.{whole_of, count_of_whole, whole_unmasked, whole_begins}
use Rattle.vx_operands.proofs.grouped.whole_word.Goals as goal

pub group_word-old-requires-clause-within : goal.group_word-old-requires-clause-within
group_word-old-requires-clause-within g c =
    let r = reading c.args.form (view_of c.args.at.now) c.args.regs.now (g.S.WordFile.words c.args.file.now) in
    let whole = whole_of r (operands_of c.args.form.family) c.args.form.vm c.requires.whole in
    destination_place r c.args.w whole.destination.there c.requires.sound.destination c.requires.within

pub group_word-requires-clause-within : goal.group_word-requires-clause-within
group_word-requires-clause-within g c =
    let r = reading c.args.form (view_of c.args.at.now) c.args.regs.now (g.S.WordFile.words c.args.file.now) in
    let whole = whole_of r (operands_of c.args.form.family) c.args.form.vm c.requires.whole in
    let words = words_of_group r (operands_of c.args.form.family).destination c.args.regs.now.vd whole.destination.there in
    let n = registers_of_operand r (operands_of c.args.form.family).vs2 in
    let equal : registers_of_operand r (operands_of c.args.form.family).destination ≡ n = whole.destination.registers ∙ whole.same ∙ sym whole.vs2.registers in
    let below = subst (λ m. c.args.w < m) (words ∙ ap (λ m. m * (c.args.at.now.vlen / 64)) equal) c.requires.within in
    in_place c.args.regs.now.vs2 n c.args.w (c.args.at.now.vlen / 64) c.requires.sound.vs2.room below

pub merged_word-requires-clause-begins : goal.merged_word-requires-clause-begins
merged_word-requires-clause-begins g c =
    let r = reading c.args.form (view_of c.args.at.now) c.args.regs.now (g.S.WordFile.words c.args.file.now) in
    let whole = whole_of r (operands_of c.args.form.family) c.args.form.vm c.requires.whole in
    let words = words_of_group r (operands_of c.args.form.family).destination c.args.regs.now.vd whole.destination.there in
    let below = subst (λ m. c.args.w < m) (words ∙ ap (λ m. m * (c.args.at.now.vlen / 64)) (whole.destination.registers ∙ sym c.requires.registers)) c.requires.within in
    whole_begins c.args.w c.args.registers c.args.at.now.vlen c.args.sew c.requires.width below

made : (r : Reading) (w sew new : ℕ) → sew ≡ sew_of r → IsTrue (is_width sew) → destination_width r ≡ sew_of r → vs2_width r ≡ sew_of r → new ≡ word_at r.at.vlen r.words r.places.vs2 w → ((k : ℕ) → answer r.family (numbers_at r (index_at r w k)) ≡ plain (numbers_at r (index_at r w k)).a) → AreMade r w (record { value = new; sats = 0 })
made r w sew new s width d a is copies =
    let d_width = subst (λ n. IsTrue (is_width n)) (s ∙ sym d) width in
    copied_are r w new (λ k. (numbers_at r (index_at r w k)).a)
    (λ k l. ap (λ x. lane (destination_width r) x k) is ∙ sym (even_element r.at.vlen r.words r.places.vs2 (destination_width r) w k d_width l) ∙ ap (λ n. element r.at.vlen r.words r.places.vs2 n (w * per_word r + k)) (d ∙ sym a))
    copies

pub returns-clause-value : goal.returns-clause-value
returns-clause-value g c =
    let r = reading c.args.form (view_of c.args.at.now) c.args.regs.now (g.S.WordFile.words c.args.file.now) in
    let whole = whole_of r (operands_of c.args.form.family) c.args.form.vm c.requires.whole in
    let d = c.requires.sew ∙ sym whole.destination.width in
    let count = count_of_whole r whole in
    let counted = (λ i. c.requires.registers i * c.args.at.now.vlen / c.requires.sew i) ∙ sym count in
    c.merged_word.ensures.value (g.S.WordFile.words c.args.file.now) c.requires.each d counted (λ u. absurd (true≢false (sym (whole_unmasked r whole.vm) ∙ u))) c.group_word-old.ensures (made r c.args.w c.args.sew c.group_word.result c.requires.sew c.requires.width whole.destination.width whole.vs2.width c.group_word.ensures (λ k. c.requires.copies (numbers_at r (index_at r c.args.w k))))

pub returns-clause-sat : goal.returns-clause-sat
returns-clause-sat g c =
    let r = reading c.args.form (view_of c.args.at.now) c.args.regs.now (g.S.WordFile.words c.args.file.now) in
    let whole = whole_of r (operands_of c.args.form.family) c.args.form.vm c.requires.whole in
    let d = c.requires.sew ∙ sym whole.destination.width in
    let count = count_of_whole r whole in
    let counted = (λ i. c.requires.registers i * c.args.at.now.vlen / c.requires.sew i) ∙ sym count in
    c.merged_word.ensures.sat (g.S.WordFile.words c.args.file.now) c.requires.each d counted (λ u. absurd (true≢false (sym (whole_unmasked r whole.vm) ∙ u))) (made r c.args.w c.args.sew c.group_word.result c.requires.sew c.requires.width whole.destination.width whole.vs2.width c.group_word.ensures (λ k. c.requires.copies (numbers_at r (index_at r c.args.w k))))
