-- What lies above all of a word's bits is added.
use Rattle.std.proofs.Common.{◌*◌, ◌%◌, ◌^◌, bit_and, bit_or, ap, ◌∙◌, pow_pos, mod-lt}
use Rattle.std.proofs.lemmas.Nat.{and_mask}
use Rattle.vx_packed.proofs.Masks.{or_above}
use Rattle.vx_packed.proofs.making.with_element.Goals as goal

pub returns : goal.returns
returns c =
    ap (λ n. bit_or c.args.word (n * 2 ^ (c.args.k * c.args.width) % 2 ^ 64)) (ap (bit_and c.args.value) c.ones.ensures ∙ and_mask c.args.value c.args.width)
    ∙ or_above c.args.word (c.args.value % 2 ^ c.args.width) (c.args.k * c.args.width) c.args.width c.requires.fits c.requires.below (mod-lt c.args.value (pow_pos c.args.width))
