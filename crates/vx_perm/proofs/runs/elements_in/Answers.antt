-- The elements of one word, or of two.
use Rattle.std.proofs.Common.{◌≡◌, ℕ, ◌+◌, ◌-◌, ◌*◌, ◌/◌, ◌%◌, ◌<◌, slice_index, ap, subst, ◌∙◌, arith}
use Rattle.vx_vstate.specs.Registers.{element_word, place_of, words_of_all}
use Rattle.vx_perm.proofs.Joining.{alone_is, both_are, count_some, next_place}
use Rattle.vx_perm.proofs.runs.elements_in.Goals as goal

pub word_in-low-requires : goal.word_in-low-requires
word_in-low-requires c =
    let same : c.args.first + 0 ≡ c.args.first = omega arith in
    let there : place_of c.args.at.now.vlen c.args.register (element_word c.args.width c.args.first) < words_of_all c.args.at.now.vlen = subst (λ n. place_of c.args.at.now.vlen c.args.register (element_word c.args.width n) < words_of_all c.args.at.now.vlen) same (c.requires.within 0 (count_some c.args.width c.requires.width)) in
    omega (arith, there, c.requires.place, c.requires.all)

pub word_in-requires : goal.word_in-requires
word_in-requires c =
    let k : ℕ = 64 / c.args.width - c.args.first % (64 / c.args.width) in
    let some : 0 < c.args.first * c.args.width % 64 = omega arith in
    let next = next_place c.args.width c.args.first c.requires.width some k (λ i. k) in
    let there : place_of c.args.at.now.vlen c.args.register (c.args.first * c.args.width / 64 + 1) < words_of_all c.args.at.now.vlen = subst (λ n. place_of c.args.at.now.vlen c.args.register n < words_of_all c.args.at.now.vlen) next.1 (c.requires.within k next.0) in
    omega (arith, there, c.requires.place, c.requires.all)

pub returns-then-shift-eq0 : goal.returns-then-shift-eq0
returns-then-shift-eq0 c =
    let laws = c.joined_by_elements.ensures in
    let at : c.args.place + c.args.first * c.args.width / 64 ≡ place_of c.args.at.now.vlen c.args.register (c.args.first * c.args.width / 64) = omega (arith, c.requires.place) in
    alone_is laws.whole laws.same c.args.at.now.vlen c.args.words.now c.args.register c.args.width c.args.first c.requires.width c.word_in-low.result c.word_in-low.ensures.below (c.word_in-low.ensures.is ∙ ap (slice_index c.args.words.now) at) (omega arith)

pub returns-else-shift-eq0 : goal.returns-else-shift-eq0
returns-else-shift-eq0 c =
    let laws = c.joined_by_elements.ensures in
    let at : c.args.place + c.args.first * c.args.width / 64 ≡ place_of c.args.at.now.vlen c.args.register (c.args.first * c.args.width / 64) = omega (arith, c.requires.place) in
    let next : c.args.place + c.args.first * c.args.width / 64 + 1 ≡ place_of c.args.at.now.vlen c.args.register (c.args.first * c.args.width / 64 + 1) = omega (arith, c.requires.place) in
    c.across.ensures
    ∙ both_are laws.whole laws.same c.args.at.now.vlen c.args.words.now c.args.register c.args.width c.args.first c.requires.width laws.beside c.word_in-low.result c.word_in.result c.word_in-low.ensures.below (c.word_in-low.ensures.is ∙ ap (slice_index c.args.words.now) at) (c.word_in.ensures.is ∙ ap (slice_index c.args.words.now) next)
