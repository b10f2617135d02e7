-- Each header goes on with those before it, and the first fault is the file's.
use Rattle.std.proofs.Common.{◌++◌, List, sym, ap, ◌∙◌, arith}
use Rattle.std.proofs.lemmas.Result.{err_from_is_err_and}
use Rattle.vx_elf.specs.Layout.{header_count, header_at}
use Rattle.vx_elf.specs.Segments.{total_size}
use Rattle.vx_elf.specs.Reading.{header_fault, segments_under}
use Rattle.vx_elf.specs.declared.segment.Segment.{Segment}
use Rattle.vx_elf.proofs.Spans.{none_held, more_held}
use Rattle.vx_elf.proofs.Listed.{is_list, no_headers, one_more, one_more_segments, carries}
use Rattle.vx_elf.proofs.read.read_headers.Goals as goal

pub loop-index-init : goal.loop-index-init
loop-index-init c =
    let start = no_headers c.args.bytes.now in
    record {
      faultless = start.faultless;
      segments = c.new-items.ensures.items ∙ sym start.segments;
      total = sym (ap total_size c.new-items.ensures.items);
      held = rw c.nothing-taken.ensures.count (none_held c.nothing-taken.result.spans.items c.new-items.result.items c.nothing-taken.ensures.spans);
    }

pub returns-in_err-total : goal.returns-in_err-total
returns-in_err-total c =
    let p = err_from_is_err_and c.from_residual.result c.from_residual.ensures.1 in
    rw (p.1, p.2) (carries c.args.bytes.now c.loop-index.index (header_count c.args.bytes.now) c.loop-index.items.items c.read_header.new.items.items c.in_err-total.field-0.0 c.loop-index.invariant.segments c.loop-index.invariant.faultless (omega arith) c.in_err-total.ensures)

pub loop-index-preserved : goal.loop-index-preserved
loop-index-preserved c =
    let bytes = c.args.bytes.now in
    let index = c.loop-index.index in
    let before = c.loop-index.invariant in
    let taken = c.in_ok-total.ensures in
    record {
      faultless =
          one_more bytes index before.faultless (ap (λ (segments : List Segment). header_fault bytes segments index (header_at bytes index)) (sym before.segments) ∙ taken.faultless);
      segments =
          taken.segments
          ∙ ap (λ (segments : List Segment). segments ++ segments_under bytes index (header_at bytes index)) before.segments
          ∙ sym (one_more_segments bytes index);
      total = taken.total;
      held = rw c.deref.ensures.value at c.in_ok-taken.ensures;
    }

pub read_header-requires-clause-held : goal.read_header-requires-clause-held
read_header-requires-clause-held c = c.loop-index.invariant.held

pub taken_up-requires : goal.taken_up-requires
taken_up-requires c =
    let more = segments_under c.args.bytes.now c.loop-index.index (header_at c.args.bytes.now c.loop-index.index) in
    rw (c.deref.ensures.value, c.in_ok-total.ensures.segments) (more_held c.loop-index.taken.spans.items c.loop-index.taken.count c.loop-index.items.items more c.loop-index.invariant.held)

pub of-requires : goal.of-requires
of-requires c =
    let there = c.loop-index.invariant in
    rw there.segments (is_list c.args.bytes.now c.loop-index.index there.faultless)
