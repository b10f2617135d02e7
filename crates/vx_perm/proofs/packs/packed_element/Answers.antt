-- The element that was found, if one was.
use Rattle.vx_vstate.specs.Views.{view_of}
use Rattle.std.proofs.Common.{◌≡◌, ◌<◌, ◌∙◌, sym, ap, subst, arith}
use Rattle.vx_rows.specs.Families.{operands_of}
use Rattle.vx_rows.specs.declared.family.Family.{Family}
use Rattle.vx_vstate.specs.Registers.{element_word, place_of, words_of_all}
use Rattle.vx_operands.specs.Forms.{reading}
use Rattle.vx_operands.specs.Rising.{count_below}
use Rattle.vx_operands.proofs.Even.{vl-le}
use Rattle.vx_vector.specs.Reading.{element_of}
use Rattle.vx_perm.specs.Kinds.{chooses}
use Rattle.vx_perm.proofs.Facts.{source_place, pack_found, pack_past}
use Rattle.vx_perm.proofs.packs.packed_element.Goals as goal

pub element_at-requires-clause-within : goal.element_at-requires-clause-within
element_at-requires-clause-within g c =
    let r = reading c.args.form (view_of c.args.at.now) c.args.regs.now (g.S.WordFile.words c.args.file.now) in
    let most = vl-le (view_of c.args.at.now) c.requires.sound.setting in
    subst (λ s. place_of c.args.at.now.vlen c.args.regs.now.vs2 (element_word s c.args.found.elements) < words_of_all c.args.at.now.vlen) (sym c.requires.sew)
    (source_place r c.args.regs.now.vs2 c.args.found.elements (ap (λ (f : Family). (operands_of f).vs2) c.requires.family) c.requires.sound.vs2 (omega (arith, most)))

pub returns-then-found-at : goal.returns-then-found-at
returns-then-found-at g c =
    let r = reading c.args.form (view_of c.args.at.now) c.args.regs.now (g.S.WordFile.words c.args.file.now) in
    let l : c.args.found.elements < c.args.at.now.vl = omega arith in
    let there = c.requires.there l in
    c.element_at.ensures
    ∙ ap (λ s. element_of r c.args.regs.now.vs2 s c.args.found.elements) c.requires.sew
    ∙ pack_found r c.args.target c.args.found.elements c.args.old c.requires.sound.setting c.requires.family c.requires.register l there.0 (sym there.1 ∙ c.requires.passed.chosen)

pub returns-else-found-at : goal.returns-else-found-at
returns-else-found-at g c =
    let r = reading c.args.form (view_of c.args.at.now) c.args.regs.now (g.S.WordFile.words c.args.file.now) in
    let most = c.requires.passed.most in
    let end : c.args.found.elements ≡ c.args.at.now.vl = omega (arith, most) in
    let count = c.requires.passed.chosen ∙ ap (λ n. count_below (chooses r) n) end in
    let few = c.requires.passed.few in
    pack_past r c.args.target c.args.old c.requires.sound.setting c.requires.family c.requires.register (omega (arith, count, few))
