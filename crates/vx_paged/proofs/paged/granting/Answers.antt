-- An access is let through in the frame of its page, or nowhere.
use Rattle.std.proofs.Common.{sym, ◌∙◌}
use Rattle.vx_paged.proofs.Accesses.{denied_missing, denied_refused, granted_there}
use Rattle.vx_paged.proofs.paged.granting.Goals as goal

pub returns-in_default : goal.returns-in_default
returns-in_default c = denied_missing c.args.pages.now c.args.address c.args.want (sym c.page_numbered.ensures ∙ c.in_default.is)

pub returns-then-grants : goal.returns-then-grants
returns-then-grants c =
    granted_there c.args.pages.now c.args.address c.args.want c.in-Some.page (sym c.page_numbered.ensures ∙ c.in-Some.is) (sym c.if-not-is_canonical.ensures) (sym c.if-grants.ensures)

pub returns-else-grants : goal.returns-else-grants
returns-else-grants c =
    denied_refused c.args.pages.now c.args.address c.args.want c.in-Some.page (sym c.page_numbered.ensures ∙ c.in-Some.is) (sym c.if-grants.ensures)
