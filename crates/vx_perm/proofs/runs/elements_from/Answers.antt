-- The elements of one word, or of two.
use Rattle.std.proofs.Common.{◌≡◌, ℕ, ◌+◌, ◌-◌, ◌*◌, ◌/◌, ◌%◌, ◌<◌, subst, ◌∙◌, arith}
use Rattle.vx_vstate.specs.Registers.{element_word, place_of, words_of_all}
use Rattle.vx_perm.proofs.Joining.{alone_is, both_are, count_some, next_place}
use Rattle.vx_perm.proofs.runs.elements_from.Goals as goal

pub group_word-low-requires-clause-within : goal.group_word-low-requires-clause-within
group_word-low-requires-clause-within g c =
    let same : c.args.first + 0 ≡ c.args.first = omega arith in
    subst (λ n. place_of c.args.at.now.vlen c.args.register (element_word c.args.width n) < words_of_all c.args.at.now.vlen) same (c.requires.within 0 (count_some c.args.width c.requires.width))

pub group_word-requires-clause-within : goal.group_word-requires-clause-within
group_word-requires-clause-within g c =
    let k : ℕ = 64 / c.args.width - c.args.first % (64 / c.args.width) in
    let some : 0 < c.args.first * c.args.width % 64 = omega arith in
    let next = next_place c.args.width c.args.first c.requires.width some k (λ i. k) in
    subst (λ n. place_of c.args.at.now.vlen c.args.register n < words_of_all c.args.at.now.vlen) next.1 (c.requires.within k next.0)

pub returns-then-shift-eq0 : goal.returns-then-shift-eq0
returns-then-shift-eq0 g c =
    let laws = c.joined_by_elements.ensures in
    alone_is laws.whole laws.same c.args.at.now.vlen (g.S.WordFile.words c.args.file.now) c.args.register c.args.width c.args.first c.requires.width c.group_word-low.result (omega arith) c.group_word-low.ensures (omega arith)

pub returns-else-shift-eq0 : goal.returns-else-shift-eq0
returns-else-shift-eq0 g c =
    let laws = c.joined_by_elements.ensures in
    c.across.ensures
    ∙ both_are laws.whole laws.same c.args.at.now.vlen (g.S.WordFile.words c.args.file.now) c.args.register c.args.width c.args.first c.requires.width laws.beside c.group_word-low.result c.group_word.result (omega arith) c.group_word-low.ensures c.group_word.ensures
