-- One page more, and all of them.
use Rattle.std.proofs.Common.{◌≡◌, ◌+◌, ◌-◌, ◌*◌, ◌<◌, length, take, drop, refl, ◌∙◌, length-drop, arith}
use Rattle.std.proofs.lemmas.List.{length-take-le}
use Rattle.vx_image.specs.Building.{IsLaid}
use Rattle.vx_image.specs.Kept.{entry_at}
use Rattle.vx_image.proofs.Laying.{pages_none, pages_more, length_more, pages_all}
use Rattle.vx_image.proofs.build.lay_pages.Goals as goal

pub loop-place-init : goal.loop-place-init
loop-place-init c = record {
  order = omega arith;
  size = refl;
  each = pages_none c.args.entries.now c.args.segment.now c.places_met-places.result.start c.places_met-places.result.end c.places_met-places.ensures c.args.bytes.now c.requires.segment;
}

pub returns : goal.returns
returns c =
    let now = c.loop-place.invariant in
    let places = c.places_met-places.ensures in
    pages_all c.args.entries.now c.args.segment.now c.places_met-places.result.start c.places_met-places.result.end places c.args.bytes.now c.requires.segment c.loop-place.bytes c.loop-place.place (omega arith) (omega (arith, places.order, now.order)) now.size now.each

pub loop-place-preserved : goal.loop-place-preserved
loop-place-preserved c =
    let now = c.loop-place.invariant in
    let places = c.places_met-places.ensures in
    let place = c.loop-place.place in
    let cut : 4096 * place + 4096 - 4096 * place ≡ 4096 = omega arith in
    let there : place < length c.args.entries.now = omega (arith, places.within, c.loop-place-test.true) in
    let whole : length c.args.bytes.now ≡ 4096 * length c.args.entries.now = c.requires.whole in
    let laid : IsLaid (take 4096 (drop (4096 * place) c.loop-place.bytes)) c.lay.new.page c.args.segment.now (4096 * (entry_at c.args.entries.now place).page) = rw cut at c.lay.ensures in
    let long : length c.lay.new.page ≡ 4096 =
    laid.size ∙ length-take-le 4096 (drop (4096 * place) c.loop-place.bytes) (omega (arith, whole, now.size, length-drop (4096 * place) c.loop-place.bytes)) in
    rw cut
    (record {
      order = omega (arith, now.order);
      size = length_more c.args.entries.now c.args.segment.now c.places_met-places.result.start c.places_met-places.result.end places c.args.bytes.now c.loop-place.bytes c.lay.new.page place there whole now.size long;
      each = pages_more c.args.entries.now c.args.segment.now c.places_met-places.result.start c.places_met-places.result.end places c.args.bytes.now c.loop-place.bytes c.lay.new.page place there whole now.size now.each laid;
    })
