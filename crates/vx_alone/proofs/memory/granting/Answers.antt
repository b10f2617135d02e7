-- An access is let through at the place of its page, or nowhere.
use Rattle.std.proofs.Common.{sym}
use Rattle.vx_alone.proofs.Accesses.{denied_unmapped, denied_at, granted_at}
use Rattle.vx_alone.proofs.memory.granting.Goals as goal

pub returns-in_default : goal.returns-in_default
returns-in_default c = denied_unmapped c.args.entries.now c.args.address c.args.want c.in_default.ensures

pub returns-then-grants : goal.returns-then-grants
returns-then-grants c =
    granted_at c.args.entries.now c.requires c.args.address c.in-Some.place c.in-Some.ensures c.args.want
    (sym c.if-not-is_canonical.ensures)
    (sym c.if-grants.ensures)

pub returns-else-grants : goal.returns-else-grants
returns-else-grants c =
    denied_at c.args.entries.now c.requires c.args.address c.in-Some.place c.in-Some.ensures c.args.want (sym c.if-grants.ensures)
