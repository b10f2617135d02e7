-- A segment's header without a fault has its bytes in the file and room for its memory.
use Rattle.std.proofs.Common.{◌≡◌, ℕ, true, None, ap, ◌∙◌, arith}
use Rattle.vx_elf.specs.Layout.{header_at, header_from}
use Rattle.vx_elf.specs.Reading.{is_segment, header_fault}
use Rattle.vx_elf.proofs.Faults.{header_taken, takes_segment}
use Rattle.vx_elf.proofs.read.read_header.Goals as goal

pub segment_of-requires : goal.segment_of-requires
segment_of-requires c =
    let none : header_fault c.args.bytes.now c.args.items.now.items c.args.index c.header_from-header.result ≡ None = cc (c.deref.ensures.value) in
    let is : is_segment c.header_from-header.result ≡ true = cc in
    (header_taken c.args.bytes.now c.args.items.now.items c.args.index c.header_from-header.result none is).within

pub overflow_add-result : goal.overflow_add-result
overflow_add-result c =
    let none : header_fault c.args.bytes.now c.args.items.now.items c.args.index c.header_from-header.result ≡ None = cc (c.deref.ensures.value) in
    let is : is_segment c.header_from-header.result ≡ true = cc in
    let taken = header_taken c.args.bytes.now c.args.items.now.items c.args.index c.header_from-header.result none is in
    omega (arith, taken.room, c.requires.sum)

pub returns : goal.returns
returns c =
    let none : header_fault c.args.bytes.now c.args.items.now.items c.args.index c.header_from-header.result ≡ None = cc (c.deref.ensures.value) in
    let is : is_segment c.header_from-header.result ≡ true = cc in
    let same : c.header_from-header.result ≡ header_at c.args.bytes.now c.args.index =
    c.header_from-header.ensures ∙ ap (λ (n : ℕ). header_from c.args.bytes.now n) (omega arith) in
    takes_segment c.args.bytes.now c.args.index c.args.items.now.items c.push.new.self.items c.args.total c.header_from-header.result c.in_ok-segment_of.field-0 same none is c.in_ok-segment_of.ensures c.in_ok-push.ensures.items c.requires.sum
