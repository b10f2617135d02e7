-- The places are those from the span's first page on, to below its end.
use Rattle.vx_image.proofs.Granting.{places_are}
use Rattle.vx_image.proofs.met.places_met.Goals as goal

pub returns : goal.returns
returns c =
    places_are c.args.entries.now c.args.segment.now c.span_of-span.result.start c.span_of-span.result.end c.place_from-low.result c.place_from-high.result c.span_of-span.ensures c.place_from-low.ensures c.place_from-high.ensures
