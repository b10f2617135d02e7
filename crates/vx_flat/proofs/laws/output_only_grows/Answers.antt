use Rattle.std.proofs.Common.{◌≡◌, ◌+◌, ◌-◌, ap, arith, ◌∙◌}
use Rattle.vx_flat.proofs.Grows.{IsPrefixOf-later}
use Rattle.vx_flat.specs.Run.{flat}
use Rattle.vx_flat.proofs.laws.output_only_grows.Goals as goal

pub returns : goal.returns
returns c hart image n m early late below p q =
    let same : n + (m - n) ≡ m = omega arith in
    IsPrefixOf-later hart image n (m - n) early late p (ap (flat hart image) same ∙ q)
