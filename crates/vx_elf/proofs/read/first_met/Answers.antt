use Rattle.std.proofs.Common.{◌∙◌}
use Rattle.std.proofs.lemmas.List.{take_rest}
use Rattle.vx_elf.proofs.Spans.{first_behind}
use Rattle.vx_elf.proofs.read.first_met.Goals as goal

pub returns-then-is_free : goal.returns-then-is_free
returns-then-is_free c =
    let behind = simp take_rest at c.first_met_of.ensures in
    behind
    ∙ first_behind c.args.taken.now.spans.items c.args.taken.now.count c.args.segments.now c.args.header.now c.requires (rw c.deref.ensures.value at c.is_free.ensures c.if-is_free.true)
