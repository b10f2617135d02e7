use Rattle.std.proofs.Common.{arith, length}
use Rattle.vx_statement.specs.Labels.{place_of}
use Rattle.vx_asm.proofs.Laying.{room-on, room-first, laying-begun, laying-on, laying-over}
use Rattle.vx_asm.proofs.Passing.{within-next}
use Rattle.vx_asm.proofs.placing.place_lines.Goals as goal

pub loop-next-init : goal.loop-next-init
loop-next-init c = record {
  within = omega arith;
  room = room-first (place_of c.first-place.result) c.first-place.ensures;
  laying = λ names known. laying-begun names c.args.source.now (place_of c.first-place.result) c.new-labels.result c.first-place.ensures c.new-labels.ensures;
}

pub loop-next-preserved-in_ok-judged : goal.loop-next-preserved-in_ok-judged
loop-next-preserved-in_ok-judged c = record {
  within = within-next (length c.args.source.now) c.in-Some.from c.in_ok-line.line.next c.in_ok-line.ensures.ahead;
  room = room-on (length c.args.source.now) c.in-Some.from c.in_ok-line.line.next (place_of c.loop-next.place) (place_of c.in_ok-judged.judged.place) c.in_ok-line.ensures.ahead (rw c.in-Some.is at c.loop-next.invariant.room) c.in_ok-judged.ensures.room;
  laying = λ names known.
      laying-on names c.args.source.now c.in-Some.from c.in_ok-line.line c.as_slice.result.now (place_of c.loop-next.place) c.in_ok-judged.judged _ _ c.loop-next.found _ c.in_ok-line.ensures.line c.as_slice.ensures c.in_ok-define_all.ensures.places (c.in_ok-judged.ensures.judged names known) c.first-found.ensures (rw c.in-Some.is at c.loop-next.invariant.laying names known);
}

pub loop-next-preserved : goal.loop-next-preserved
loop-next-preserved c = record {
  within = within-next (length c.args.source.now) c.in-Some.from c.in_ok-line.line.next c.in_ok-line.ensures.ahead;
  room = room-on (length c.args.source.now) c.in-Some.from c.in_ok-line.line.next (place_of c.loop-next.place) (place_of c.in_ok-judged.judged.place) c.in_ok-line.ensures.ahead (rw c.in-Some.is at c.loop-next.invariant.room) c.in_ok-judged.ensures.room;
  laying = λ names known.
      laying-on names c.args.source.now c.in-Some.from c.in_ok-line.line c.as_slice.result.now (place_of c.loop-next.place) c.in_ok-judged.judged _ _ c.loop-next.found _ c.in_ok-line.ensures.line c.as_slice.ensures c.in_ok-define_all.ensures.places (c.in_ok-judged.ensures.judged names known) c.first-found.ensures (rw c.in-Some.is at c.loop-next.invariant.laying names known);
}

pub returns : goal.returns
returns c names known =
    let over = laying-over names c.args.source.now c.loop-next.next (place_of c.loop-next.place) c.loop-next.labels c.loop-next.found c.in_default.is (c.loop-next.invariant.laying names known) in
    record { fault = over.0; end = over.1; labels = over.2 }
