-- A field is what a mask leaves of the word that was shifted.
use Rattle.std.proofs.Common.{◌*◌, ◌/◌, ◌^◌, ◌<◌, bit_and, sym, ap, ◌∙◌, subst, pow_pos, mod-lt}
use Rattle.std.proofs.lemmas.Nat.{and_mask}
use Rattle.vx_packed.proofs.making.element.Goals as goal

pub returns-clause-value : goal.returns-clause-value
returns-clause-value c = ap (bit_and (c.args.word / 2 ^ (c.args.k * c.args.width))) c.ones.ensures ∙ and_mask (c.args.word / 2 ^ (c.args.k * c.args.width)) c.args.width

pub returns-clause-below : goal.returns-clause-below
returns-clause-below c =
    subst (λ n. n < 2 ^ c.args.width)
    (sym (ap (bit_and (c.args.word / 2 ^ (c.args.k * c.args.width))) c.ones.ensures ∙ and_mask (c.args.word / 2 ^ (c.args.k * c.args.width)) c.args.width))
    (mod-lt (c.args.word / 2 ^ (c.args.k * c.args.width)) (pow_pos c.args.width))
