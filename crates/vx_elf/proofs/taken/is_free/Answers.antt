use Rattle.std.proofs.Common.{◌+◌, ◌-◌, ◌/◌, ◌≤◌, get_or, arith}
use Rattle.vx_elf.specs.declared.taken.Span.{Span}
use Rattle.vx_elf.proofs.Spans.{those_below, those_above}
use Rattle.vx_elf.proofs.taken.is_free.Goals as goal

pub loop-low-preserved-then-span-start : goal.loop-low-preserved-then-span-start
loop-low-preserved-then-span-start c =
    let spans = c.args.spans.now in
    let middle = c.loop-low.low + (c.loop-low.high - c.loop-low.low) / 2 in
    let none : Span = record { start = 0; end = 0 } in
    let ends : (get_or spans middle none).end ≤ c.args.header.now.address = omega (arith, c.if-span-start.true, c.from-start.ensures) in
    record {
      ordered = omega arith;
      within = c.loop-low.invariant.within;
      below = those_below spans c.requires middle c.args.header.now.address none (omega arith) ends;
      above = c.loop-low.invariant.above;
    }

pub loop-low-preserved : goal.loop-low-preserved
loop-low-preserved c =
    let spans = c.args.spans.now in
    let middle = c.loop-low.low + (c.loop-low.high - c.loop-low.low) / 2 in
    let none : Span = record { start = 0; end = 0 } in
    let end = c.args.header.now.address + c.args.header.now.memory_size in
    let begins : end ≤ (get_or spans middle none).start =
    omega (arith, c.if-end-from.true, c.from-start.ensures, c.from.ensures, c.from-else-span-start.ensures) in
    record {
      ordered = omega arith;
      within = omega arith;
      below = c.loop-low.invariant.below;
      above = those_above spans c.requires middle end none (omega arith) begins;
    }
