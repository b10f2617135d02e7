-- The page's entry says whether it is code.
use Rattle.std.proofs.Common.{sym, ◌∙◌}
use Rattle.vx_image.proofs.PagesAt.{code_at, no_code}
use Rattle.vx_image.proofs.build.is_code.Goals as goal

pub returns-in-Some : goal.returns-in-Some
returns-in-Some c bytes = c.grants.ensures ∙ sym (code_at c.args.entries.now bytes c.args.address c.in-Some.place c.requires c.in-Some.ensures)

pub returns-in-None : goal.returns-in-None
returns-in-None c bytes = sym (no_code c.args.entries.now bytes c.args.address c.in-None.ensures)
