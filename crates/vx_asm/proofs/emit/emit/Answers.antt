use Rattle.std.proofs.Common.{length, arith, sym, subst}
use Rattle.vx_language.specs.Places.{Place}
use Rattle.vx_statement.specs.Labels.{place_of}
use Rattle.vx_asm.specs.Emitting.{AreSized}
use Rattle.vx_asm.specs.declared.emit.Emitted.{Emitted}
use Rattle.vx_asm.proofs.Emission.{emission-begun, emission-on, emission-over, is-good}
use Rattle.vx_asm.proofs.Passing.{within-next}
use Rattle.vx_asm.proofs.emit.emit.Goals as goal

pub loop-next-init : goal.loop-next-init
loop-next-init c = record {
  within = omega arith;
  sized = subst (λ (p : Place). AreSized p c.new-parts.result) (sym c.first-place.ensures) c.new-parts.ensures.sized;
  emission = emission-begun c.args.source.now (place_of c.first-place.result) c.new-parts.result c.first-place.ensures c.new-parts.ensures.parts;
}

pub emit_line-requires-clause-good : goal.emit_line-requires-clause-good
emit_line-requires-clause-good c =
    is-good c.args.source.now c.in-Some.from c.in_ok-line.line (place_of c.loop-next.place) c.loop-next.found c.loop-next.parts c.requires.plain c.in_ok-line.ensures.line (rw c.in-Some.is at c.loop-next.invariant.emission)

pub loop-next-preserved-in_ok-emitted : goal.loop-next-preserved-in_ok-emitted
loop-next-preserved-in_ok-emitted c = record {
  within = within-next (length c.args.source.now) c.in-Some.from c.in_ok-line.line.next c.in_ok-line.ensures.ahead;
  sized = c.in_ok-emitted.ensures.sized;
  emission =
      emission-on c.args.source.now c.in-Some.from c.in_ok-line.line c.args.labels.now c.args.code (place_of c.loop-next.place) c.in_ok-emitted.emitted c.loop-next.found c.first-found.result c.loop-next.parts c.emit_line.new.parts c.requires.plain c.requires.labels c.requires.code c.in_ok-line.ensures.line c.in_ok-emitted.ensures.fault c.in_ok-emitted.ensures.place c.in_ok-emitted.ensures.parts c.first-found.ensures (rw c.in-Some.is at c.loop-next.invariant.emission);
}

pub loop-next-preserved : goal.loop-next-preserved
loop-next-preserved c = record {
  within = within-next (length c.args.source.now) c.in-Some.from c.in_ok-line.line.next c.in_ok-line.ensures.ahead;
  sized = c.in_ok-emitted.ensures.sized;
  emission =
      emission-on c.args.source.now c.in-Some.from c.in_ok-line.line c.args.labels.now c.args.code (place_of c.loop-next.place) c.in_ok-emitted.emitted c.loop-next.found c.first-found.result c.loop-next.parts c.emit_line.new.parts c.requires.plain c.requires.labels c.requires.code c.in_ok-line.ensures.line c.in_ok-emitted.ensures.fault c.in_ok-emitted.ensures.place c.in_ok-emitted.ensures.parts c.first-found.ensures (rw c.in-Some.is at c.loop-next.invariant.emission);
}

pub returns : goal.returns
returns c =
    let emitted : Emitted = record { fault = c.loop-next.found; parts = c.loop-next.parts } in
    emission-over c.args.source.now c.loop-next.next (place_of c.loop-next.place) emitted c.in_default.is c.loop-next.invariant.sized c.loop-next.invariant.emission
