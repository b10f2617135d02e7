-- There are VLMAX.
use Rattle.vx_vstate.specs.Views.{view_of}
use Rattle.std.proofs.Common.{◌≡◌, ◌<◌, ◌≤◌, ◌∙◌, sym, ap, subst, rules}
use Rattle.vx_vstate.specs.Registers.{element_word, place_of, words_of_all}
use Rattle.vx_operands.specs.Forms.{reading}
use Rattle.vx_vector.specs.Reading.{element_of}
use Rattle.vx_perm.proofs.Facts.{source_place, source_is, source_past}
use Rattle.vx_perm.proofs.gathers.source_in.Goals as goal

pub element_in-requires-clause-within : goal.element_in-requires-clause-within
element_in-requires-clause-within c =
    let r = reading c.args.form (view_of c.args.at.now) c.args.regs.now c.args.words.now in
    let same : c.from.result ≡ c.args.most = search rules in
    subst (λ s. place_of c.args.at.now.vlen c.args.regs.now.vs2 (element_word s c.args.i) < words_of_all c.args.at.now.vlen) (sym c.requires.sew)
    (source_place r c.args.regs.now.vs2 c.args.i c.requires.vs2 c.requires.sound.vs2 (subst (λ n. c.args.i < n) (same ∙ c.requires.most) c.if-i-from.true))

pub returns-then-i-from : goal.returns-then-i-from
returns-then-i-from c =
    let r = reading c.args.form (view_of c.args.at.now) c.args.regs.now c.args.words.now in
    let same : c.from.result ≡ c.args.most = search rules in
    c.element_in.ensures
    ∙ ap (λ s. element_of r c.args.regs.now.vs2 s c.args.i) c.requires.sew
    ∙ source_is r c.args.i c.requires.vs2 (subst (λ n. c.args.i < n) (same ∙ c.requires.most) c.if-i-from.true)

pub returns-else-i-from : goal.returns-else-i-from
returns-else-i-from c =
    let r = reading c.args.form (view_of c.args.at.now) c.args.regs.now c.args.words.now in
    let same : c.from.result ≡ c.args.most = search rules in
    source_past r c.args.i c.requires.vs2 (subst (λ n. n ≤ c.args.i) (same ∙ c.requires.most) c.if-i-from.false)
