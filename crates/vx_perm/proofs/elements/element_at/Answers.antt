-- One element of a part.
use Rattle.std.proofs.Common.{◌≡◌, ℕ, ◌+◌, ◌*◌, ◌/◌, ◌<◌, ◌∙◌, IsTrue, sym, ap, subst, arith}
use Rattle.vx_vstate.specs.Registers.{element, element_word, is_element_width, place_of, words_of_all}
use Rattle.vx_operands.proofs.ByIndex.{lowest_lane}
use Rattle.vx_perm.proofs.elements.element_at.Goals as goal

one_divides : (width : ℕ) → IsTrue (is_element_width width) → 64 / (width * 1) * (width * 1) ≡ 64
one_divides width h = let e : width * 1 ≡ width = omega arith in subst (λ n. 64 / n * n ≡ 64) (sym e) (grind (arith, h))

one_some : (width : ℕ) → IsTrue (is_element_width width) → 0 < width * 1
one_some width h = let e : width * 1 ≡ width = omega arith in subst (λ n. 0 < n) (sym e) (grind (arith, h))

pub part-requires-clause-some : goal.part-requires-clause-some
part-requires-clause-some g c = one_some c.args.width c.requires.width

pub part-requires-clause-divides : goal.part-requires-clause-divides
part-requires-clause-divides g c = one_divides c.args.width c.requires.width

pub part-requires-clause-within : goal.part-requires-clause-within
part-requires-clause-within g c =
    let e : c.args.i ≡ c.args.i * 1 = omega arith in
    subst (λ n. place_of c.args.at.now.vlen c.args.register (element_word c.args.width n) < words_of_all c.args.at.now.vlen) e c.requires.within

pub returns : goal.returns
returns g c =
    let e : c.args.i * 1 + 0 ≡ c.args.i = omega arith in
    c.low.ensures.value
    ∙ sym (lowest_lane c.args.width c.part.result)
    ∙ c.part.ensures 0 (omega arith)
    ∙ ap (λ n. element c.args.at.now.vlen (g.S.WordFile.words c.args.file.now) c.args.register c.args.width n) e
