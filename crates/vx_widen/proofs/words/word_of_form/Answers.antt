-- Each kind by its own function.
use Rattle.vx_vstate.specs.Views.{view_of}
use Rattle.std.proofs.Common.{◌≡◌, ◌*◌, ◌≤◌, IsTrue, true, false, sym, ◌∙◌, subst, rules}
use Rattle.std.proofs.iter.Serving.{serving}
use Rattle.vx_bits.specs.Width.{is_width}
use Rattle.vx_packed.specs.Made.{even_packing, made}
use Rattle.vx_rows.specs.Families.{operands_of}
use Rattle.vx_operands.specs.Forms.{reading}
use Rattle.vx_operands.specs.Lanes.{answer, numbers_of}
use Rattle.vx_operands.specs.Parts.{doubled_packing}
use Rattle.vx_operands.proofs.Packings.{doubling_of, small_of, twice}
use Rattle.vx_operands.proofs.Halves.{narrowing_of}
use Rattle.vx_widen.proofs.Facts.{narrows_operands, doubles_each, doubles_operands, extends_each, extends_operands, carries_each, carries_even, carries_left}
use Rattle.vx_widen.proofs.Unrounded.{doubles_unrounded, extends_unrounded, carries_unrounded}
use Rattle.vx_widen.specs.Kinds.{doubles, extends}
use Rattle.vx_widen.proofs.words.word_of_form.Goals as goal

pub narrowed-requires-clause-small : goal.narrowed-requires-clause-small
narrowed-requires-clause-small g c =
    let r = reading c.args.form (view_of c.args.at.now) c.args.regs.now (g.S.WordFile.words c.args.file.now) in
    let kind = sym c.narrows.ensures ∙ c.if-narrows.true in
    let h = narrowing_of c.args.form.first (operands_of c.args.form.family) (narrows_operands c.args.form.family c.args.form.first kind) in
    subst (λ n. n ≤ 32) (sym c.sew-sew.ensures.is) (small_of r (operands_of c.args.form.family).vs2 c.args.regs.now.vs2 h.vs2 c.requires.sound.vs2 (subst (λ n. IsTrue (is_width n)) c.sew-sew.ensures.is c.sew-sew.ensures.in_range))

pub narrowed-requires-clause-wide : goal.narrowed-requires-clause-wide
narrowed-requires-clause-wide g c = twice c.sew-sew.result c.sew-sew.ensures.in_range (narrowed-requires-clause-small g c)

pub doubled_word-requires-clause-each : goal.doubled_word-requires-clause-each
doubled_word-requires-clause-each g c = doubles_each c.args.form.family (sym c.doubles.ensures ∙ c.if-doubles.true)

pub doubled_word-requires-clause-doubles : goal.doubled_word-requires-clause-doubles
doubled_word-requires-clause-doubles g c = doubles_operands c.args.form.family c.args.form.first (sym c.doubles.ensures ∙ c.if-doubles.true)

pub doubled_word-requires-clause-small : goal.doubled_word-requires-clause-small
doubled_word-requires-clause-small g c =
    let r = reading c.args.form (view_of c.args.at.now) c.args.regs.now (g.S.WordFile.words c.args.file.now) in
    let h = doubling_of false c.args.form.first (operands_of c.args.form.family) (doubles_operands c.args.form.family c.args.form.first (sym c.doubles.ensures ∙ c.if-doubles.true)) in
    subst (λ n. n ≤ 32) (sym c.sew-sew.ensures.is) (small_of r (operands_of c.args.form.family).destination c.args.regs.now.vd h.destination c.requires.sound.destination (subst (λ n. IsTrue (is_width n)) c.sew-sew.ensures.is c.sew-sew.ensures.in_range))

pub doubled_word-requires-then-extends-clause-each : goal.doubled_word-requires-then-extends-clause-each
doubled_word-requires-then-extends-clause-each g c = extends_each c.args.form.family (sym c.extends.ensures ∙ c.if-extends.true)

pub doubled_word-requires-then-extends-clause-doubles : goal.doubled_word-requires-then-extends-clause-doubles
doubled_word-requires-then-extends-clause-doubles g c = extends_operands c.args.form.family c.args.form.first (sym c.extends.ensures ∙ c.if-extends.true)

pub doubled_word-requires-then-extends-clause-small : goal.doubled_word-requires-then-extends-clause-small
doubled_word-requires-then-extends-clause-small g c =
    let r = reading c.args.form (view_of c.args.at.now) c.args.regs.now (g.S.WordFile.words c.args.file.now) in
    let h = doubling_of true c.args.form.first (operands_of c.args.form.family) (extends_operands c.args.form.family c.args.form.first (sym c.extends.ensures ∙ c.if-extends.true)) in
    subst (λ n. n ≤ 32) (sym c.sew-sew.ensures.is) (small_of r (operands_of c.args.form.family).destination c.args.regs.now.vd h.destination c.requires.sound.destination (subst (λ n. IsTrue (is_width n)) c.sew-sew.ensures.is c.sew-sew.ensures.in_range))

pub even_word-requires-clause-each : goal.even_word-requires-clause-each
even_word-requires-clause-each g c =
    carries_each c.args.form.family (carries_left c.args.form.family c.requires.kind (sym c.compares.ensures ∙ c.if-compares.false) (sym c.narrows.ensures ∙ c.if-narrows.false) (sym c.doubles.ensures ∙ c.if-doubles.false) (sym c.extends.ensures ∙ c.if-extends.false))

pub even_word-requires-clause-even : goal.even_word-requires-clause-even
even_word-requires-clause-even g c =
    carries_even c.args.form.family c.args.form.first (carries_left c.args.form.family c.requires.kind (sym c.compares.ensures ∙ c.if-compares.false) (sym c.narrows.ensures ∙ c.if-narrows.false) (sym c.doubles.ensures ∙ c.if-doubles.false) (sym c.extends.ensures ∙ c.if-extends.false))

pub doubled_word-requires-clause-callable : goal.doubled_word-requires-clause-callable
doubled_word-requires-clause-callable g c =
    let kind : IsTrue (doubles c.args.form.family) = sym c.doubles.ensures ∙ c.if-doubles.true in
    let small : c.sew-sew.result ≤ 32 = doubled_word-requires-clause-small g c in
    let wide : IsTrue (is_width (2 * c.sew-sew.result)) = twice c.sew-sew.result c.sew-sew.ensures.in_range small in
    grind (serving, kind, small, wide, c.sew-sew.ensures.in_range)

pub doubled_word-requires-clause-makes : goal.doubled_word-requires-clause-makes
doubled_word-requires-clause-makes g c from new p =
    let is : new ≡ made (doubled_packing c.sew-sew.result false) from (λ l. answer c.args.form.family (numbers_of c.sew-sew.result 0 l)) = search rules in
    is ∙ (λ i. made (doubled_packing c.sew-sew.result false) from (λ l. doubles_unrounded c.args.form.family (sym c.doubles.ensures ∙ c.if-doubles.true) c.sew-sew.result c.args.at.now.vxrm l i))

pub doubled_word-requires-then-extends-clause-callable : goal.doubled_word-requires-then-extends-clause-callable
doubled_word-requires-then-extends-clause-callable g c =
    let kind : IsTrue (extends c.args.form.family) = sym c.extends.ensures ∙ c.if-extends.true in
    let small : c.sew-sew.result ≤ 32 = doubled_word-requires-then-extends-clause-small g c in
    let wide : IsTrue (is_width (2 * c.sew-sew.result)) = twice c.sew-sew.result c.sew-sew.ensures.in_range small in
    grind (serving, kind, small, wide, c.sew-sew.ensures.in_range)

pub doubled_word-requires-then-extends-clause-makes : goal.doubled_word-requires-then-extends-clause-makes
doubled_word-requires-then-extends-clause-makes g c from new p =
    let is : new ≡ made (doubled_packing c.sew-sew.result true) from (λ l. answer c.args.form.family (numbers_of c.sew-sew.result 0 l)) = search rules in
    is ∙ (λ i. made (doubled_packing c.sew-sew.result true) from (λ l. extends_unrounded c.args.form.family (sym c.extends.ensures ∙ c.if-extends.true) c.sew-sew.result c.args.at.now.vxrm l i))

pub even_word-requires-clause-makes : goal.even_word-requires-clause-makes
even_word-requires-clause-makes g c from new p =
    let kind = carries_left c.args.form.family c.requires.kind (sym c.compares.ensures ∙ c.if-compares.false) (sym c.narrows.ensures ∙ c.if-narrows.false) (sym c.doubles.ensures ∙ c.if-doubles.false) (sym c.extends.ensures ∙ c.if-extends.false) in
    let is : new ≡ made (even_packing c.sew-sew.result) from (λ l. answer c.args.form.family (numbers_of c.sew-sew.result 0 l)) = search rules in
    is ∙ (λ i. made (even_packing c.sew-sew.result) from (λ l. carries_unrounded c.args.form.family kind c.sew-sew.result c.args.at.now.vxrm l i))

pub compared-requires-clause-kind : goal.compared-requires-clause-kind
compared-requires-clause-kind g c = sym c.compares.ensures ∙ c.if-compares.true

pub narrowed-requires-clause-kind : goal.narrowed-requires-clause-kind
narrowed-requires-clause-kind g c = sym c.narrows.ensures ∙ c.if-narrows.true
