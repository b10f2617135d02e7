-- An element is a field of its word.
use Rattle.std.proofs.Common.{◌≡◌, ℕ, ◌+◌, ◌*◌, ◌/◌, ◌%◌, ◌<◌, slice_index, ap, ◌∙◌, arith}
use Rattle.vx_base.specs.Numbers.{field}
use Rattle.vx_vstate.specs.Registers.{element_word, place_of, words_of_all}
use Rattle.vx_perm.proofs.gathers.element_in.Goals as goal

pub word_in-requires : goal.word_in-requires
word_in-requires c =
    let there : place_of c.args.at.now.vlen c.args.register (c.args.i * c.args.width / 64) < words_of_all c.args.at.now.vlen = c.requires.within in
    omega (arith, there, c.requires.place, c.requires.all)

pub returns : goal.returns
returns c =
    let at : c.args.place + c.args.i * c.args.width / 64 ≡ place_of c.args.at.now.vlen c.args.register (c.args.i * c.args.width / 64) = omega (arith, c.requires.place) in
    c.low.ensures.value ∙ ap (λ x. field x (c.args.i * c.args.width % 64) c.args.width) (c.word_in.ensures.is ∙ ap (slice_index c.args.words.now) at)
