-- None of the entries so far may be both.
use Rattle.std.proofs.Common.{◌≡◌, drop, find}
use Rattle.vx_base.specs.declared.perm.PageEntry.{PageEntry}
use Rattle.vx_image.specs.Images.{is_write_exec}
use Rattle.vx_image.proofs.build.write_exec_page.Given as goal

abbrev pub invariant-loop-entry : goal.invariant-loop-entry
invariant-loop-entry l =
    find (λ (entry : PageEntry). is_write_exec entry.perm.bits) (drop l.entry-index l.entries) ≡ find (λ (entry : PageEntry). is_write_exec entry.perm.bits) l.entries
