-- The entries of the pages that the segments meet are those below the stack's.
use Rattle.std.proofs.Common.{sym, ◌∙◌, refl, arith}
use Rattle.vx_image.specs.Mapping.{stack_page}
use Rattle.vx_image.proofs.Entries.{met_entries, all_entries}
use Rattle.vx_image.proofs.build.page_entries.Goals as goal

pub returns : goal.returns
returns c =
    all_entries c.args.segments.now stack_page c.in_ok-entries.entries.items c.push_stack.new.entries.items refl (c.in_ok-entries.ensures ∙ sym (met_entries c.args.segments.now stack_page (omega arith))) c.in_ok-push_stack.ensures
