use Rattle.vx_elf.proofs.Spans.{all_held}
use Rattle.vx_elf.proofs.taken.taken_by.Goals as goal

pub returns-then-are_apart : goal.returns-then-are_apart
returns-then-are_apart c =
    all_held c.args.segments.now c.in_ok-spans.spans.items c.sort_unstable_by_key.new.self.items c.in_ok-spans.ensures c.sort_unstable_by_key.ensures.permutation (rw c.deref.ensures.value at c.are_apart.ensures c.if-are_apart.true)
