-- An access is let through where its page's frame is found.
use Rattle.std.proofs.Common.{List, ap, ◌∙◌}
use Rattle.vx_image.specs.Pages.{permits}
use Rattle.vx_paged.specs.Framed.{shown}
use Rattle.vx_paged.specs.declared.placement.FramedPage.{FramedPage}
use Rattle.vx_paged.proofs.Accesses.{permitted_is}
use Rattle.vx_paged.proofs.paged.PagedMemory.permits.Goals as goal

pub returns-in-Fetch-clause-permitted : goal.returns-in-Fetch-clause-permitted
returns-in-Fetch-clause-permitted g c =
    let contents = (g.C.Cells.state c.args.physical.now).contents in
    let found = rw c.deref.ensures.value at c.frame_in.ensures.frame in
    c.is_some.ensures ∙ permitted_is c.self.inside.pages.items c.args.address c.args.want c.frame_in.result found contents
    ∙ ap (λ (p : List FramedPage). permits (shown p contents) c.args.address c.args.want) c.self.view_is

pub returns-in-Load-clause-permitted : goal.returns-in-Load-clause-permitted
returns-in-Load-clause-permitted g c =
    let contents = (g.C.Cells.state c.args.physical.now).contents in
    let found = rw c.deref-in-Load.ensures.value at c.frame_in-in-Load.ensures.frame in
    c.is_some-in-Load.ensures ∙ permitted_is c.self.inside.pages.items c.args.address c.args.want c.frame_in-in-Load.result found contents
    ∙ ap (λ (p : List FramedPage). permits (shown p contents) c.args.address c.args.want) c.self.view_is

pub returns-in-Store-clause-permitted : goal.returns-in-Store-clause-permitted
returns-in-Store-clause-permitted g c =
    let contents = (g.C.Cells.state c.args.physical.now).contents in
    let found = rw c.deref-in-Store.ensures.value at c.frame_in-in-Store.ensures.frame in
    c.is_some-in-Store.ensures ∙ permitted_is c.self.inside.pages.items c.args.address c.args.want c.frame_in-in-Store.result found contents
    ∙ ap (λ (p : List FramedPage). permits (shown p contents) c.args.address c.args.want) c.self.view_is
