-- The high elements are put above the low ones.
use Rattle.std.proofs.Common.{◌≡◌, ◌+◌, ◌*◌, ◌^◌, ◌<◌, sym, ◌∙◌, subst, arith}
use Rattle.vx_packed.proofs.Joined.{above-lt}
use Rattle.vx_packed.proofs.Lanes.{joined_beside}
use Rattle.vx_packed.proofs.Masks.{or_above}
use Rattle.vx_packed.proofs.merging.beside.Goals as goal

pub returns-clause-value : goal.returns-clause-value
returns-clause-value c f l h =
    or_above c.args.low c.args.high (c.args.count * c.args.width) (c.args.more * c.args.width) c.requires.fits c.requires.low_below c.requires.high_below
    ∙ joined_beside c.args.width c.args.count c.args.more c.args.low c.args.high f l h

pub returns-clause-below : goal.returns-clause-below
returns-clause-below c =
    let is = or_above c.args.low c.args.high (c.args.count * c.args.width) (c.args.more * c.args.width) c.requires.fits c.requires.low_below c.requires.high_below in
    let below = above-lt (c.args.more * c.args.width) (c.args.count * c.args.width) c.args.low c.args.high c.requires.low_below c.requires.high_below in
    let bits : (c.args.count + c.args.more) * c.args.width ≡ c.args.more * c.args.width + c.args.count * c.args.width = omega arith in
    subst (λ x. x < 2 ^ ((c.args.count + c.args.more) * c.args.width)) (sym is) (subst (λ n. c.args.low + c.args.high * 2 ^ (c.args.count * c.args.width) < 2 ^ n) (sym bits) below)
