-- The next page of the stack is pushed.
use Rattle.std.proofs.Common.{[], ◌∷◌, ◌+◌, sym, ◌∙◌, append-nil, append_assoc, add-one}
use Rattle.std.proofs.lemmas.Slice.{pushed}
use Rattle.vx_image.specs.Building.{entry_of_stack, stack_entries}
use Rattle.vx_image.specs.Mapping.{stack_page}
use Rattle.vx_image.proofs.build.push_stack.Goals as goal

pub loop-i-init : goal.loop-i-init
unfolding stack_entries
loop-i-init c = sym (append-nil c.args.entries.now.items)

pub loop-i-preserved : goal.loop-i-preserved
unfolding stack_entries
loop-i-preserved c =
    rw (add-one c.loop-i.i)
    (pushed (entry_of_stack (stack_page + c.loop-i.i) ∷ []) c.loop-i.invariant c.in_ok-push.was c.push.ensures.items
    ∙ append_assoc c.args.entries.now.items (stack_entries c.loop-i.i) (entry_of_stack (stack_page + c.loop-i.i) ∷ []))
