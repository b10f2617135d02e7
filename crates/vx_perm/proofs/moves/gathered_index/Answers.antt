-- The index of an element.
use Rattle.vx_vstate.specs.Views.{view_of}
use Rattle.std.proofs.Common.{◌<◌, ◌∙◌, get_or, sym, ap, subst}
use Rattle.vx_rows.specs.declared.row.First.{First}
use Rattle.vx_vstate.specs.Registers.{element_word, place_of, words_of_all}
use Rattle.vx_operands.specs.Forms.{reading}
use Rattle.vx_vector.specs.Reading.{element_of, elements_by, number_by}
use Rattle.vx_perm.proofs.Facts.{index_place, index_is}
use Rattle.vx_perm.proofs.moves.gathered_index.Goals as goal

pub element_at-requires-clause-within : goal.element_at-requires-clause-within
element_at-requires-clause-within g c =
    let r = reading c.args.form (view_of c.args.at.now) c.args.regs.now (g.S.WordFile.words c.args.file.now) in
    subst (λ s. place_of c.args.at.now.vlen c.args.regs.now.vs1 (element_word s c.args.i) < words_of_all c.args.at.now.vlen) (sym c.requires.width)
    (index_place r c.args.i c.requires.sound.setting c.requires.group c.in-Vector.is c.requires.sound.vs1 c.requires.below)

pub returns-in-Vector : goal.returns-in-Vector
returns-in-Vector g c =
    let r = reading c.args.form (view_of c.args.at.now) c.args.regs.now (g.S.WordFile.words c.args.file.now) in
    c.element_at.ensures
    ∙ ap (λ s. element_of r c.args.regs.now.vs1 s c.args.i) c.requires.width
    ∙ index_is r c.args.i c.requires.sound.setting c.requires.group c.in-Vector.is c.requires.below

pub returns-in-Integer : goal.returns-in-Integer
returns-in-Integer g c =
    let r = reading c.args.form (view_of c.args.at.now) c.args.regs.now (g.S.WordFile.words c.args.file.now) in
    c.number.ensures (g.S.WordFile.words c.args.file.now) ∙ sym (ap (λ (f : First). get_or (elements_by r f) c.args.i (number_by r c.args.form.first)) c.in-Integer.is)

pub returns-in-Signed : goal.returns-in-Signed
returns-in-Signed g c =
    let r = reading c.args.form (view_of c.args.at.now) c.args.regs.now (g.S.WordFile.words c.args.file.now) in
    c.number-in-Signed.ensures (g.S.WordFile.words c.args.file.now) ∙ sym (ap (λ (f : First). get_or (elements_by r f) c.args.i (number_by r c.args.form.first)) c.in-Signed.is)

pub returns-in-Unsigned : goal.returns-in-Unsigned
returns-in-Unsigned g c =
    let r = reading c.args.form (view_of c.args.at.now) c.args.regs.now (g.S.WordFile.words c.args.file.now) in
    c.number-in-Unsigned.ensures (g.S.WordFile.words c.args.file.now) ∙ sym (ap (λ (f : First). get_or (elements_by r f) c.args.i (number_by r c.args.form.first)) c.in-Unsigned.is)

pub returns-in-Fixed : goal.returns-in-Fixed
returns-in-Fixed g c =
    let r = reading c.args.form (view_of c.args.at.now) c.args.regs.now (g.S.WordFile.words c.args.file.now) in
    c.number-in-Fixed.ensures (g.S.WordFile.words c.args.file.now) ∙ sym (ap (λ (f : First). get_or (elements_by r f) c.args.i (number_by r c.args.form.first)) c.in-Fixed.is)
