-- One place more, and all of them.
use Rattle.std.proofs.Common.{refl, arith}
use Rattle.vx_image.proofs.Granting.{grant_none, grant_all}
use Rattle.vx_image.proofs.build.grant.Goals as goal

pub loop-place-init : goal.loop-place-init
loop-place-init c = record {
  order = omega arith;
  size = refl;
  each = λ k d within. grant_none c.args.entries.now c.args.segment.now c.places_met-places.result.start c.places_met-places.result.end c.places_met-places.ensures k d within;
}

pub returns : goal.returns
returns c =
    let now = c.loop-place.invariant in
    let places = c.places_met-places.ensures in
    grant_all c.args.entries.now c.args.segment.now c.places_met-places.result.start c.places_met-places.result.end places c.loop-place.entries c.loop-place.place (omega arith) (omega (arith, places.order, now.order)) now.size now.each
