-- The part that is written is where the segment's bytes and the page meet.
use Rattle.std.proofs.Common.{◌≡◌, ℕ, ◌+◌, ◌-◌, List, take, drop, ap, ◌∙◌, arith}
use Rattle.vx_image.proofs.Laying.{laid}
use Rattle.vx_image.proofs.build.lay.Goals as goal

pub returns-then-start-end : goal.returns-then-start-end
returns-then-start-end c =
    let address = c.args.address in
    let segment = c.args.segment.now in
    let start = c.max-start.result in
    let end = c.min-end.result in
    let written : start - address + (end - start) - (start - address) ≡ end - start = omega arith in
    let copied : start - segment.address + (end - start) - (start - segment.address) ≡ end - start = omega arith in
    let part : c.copy_from_slice.new.self ≡ take (end - start) (drop (start - segment.address) segment.bytes) =
    c.copy_from_slice.ensures.after
    ∙ ap (λ (n : ℕ). take n (drop (start - segment.address) c.slice.result.now)) copied
    ∙ ap (λ (bytes : List ℕ). take (end - start) (drop (start - segment.address) bytes)) c.slice.ensures in
    rw written
    (laid c.args.page.now c.copy_from_slice.new.self segment address start end c.max-start.ensures (omega (arith, c.min-end.ensures, c.len.ensures)) c.if-start-end.true part)
