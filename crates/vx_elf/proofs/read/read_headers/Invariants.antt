-- The segments so far are those of the headers so far, which have no fault; the memory of the first of them is taken.
use Rattle.std.proofs.Common.{◌≡◌, None}
use Rattle.vx_elf.specs.Segments.{total_size}
use Rattle.vx_elf.specs.Reading.{headers_fault, segments_of}
use Rattle.vx_elf.specs.Taken.{IsHeld}
use Rattle.vx_elf.proofs.read.read_headers.Given as goal

abbrev pub invariant-loop-index : goal.invariant-loop-index
invariant-loop-index l = record {
  faultless : headers_fault l.bytes l.index ≡ None;
  segments : l.items.items ≡ segments_of l.bytes l.index;
  total : l.total ≡ total_size l.items.items;
  held : IsHeld l.taken.spans.items l.taken.count l.items.items;
}
