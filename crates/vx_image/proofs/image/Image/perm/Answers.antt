-- The entry of the page has its permissions.
use Rattle.std.proofs.Common.{Some, option_map, sym, ap, ◌∙◌}
use Rattle.std.proofs.lemmas.List.{get_or_default}
use Rattle.vx_base.specs.declared.perm.PageEntry.{PageEntry}
use Rattle.vx_image.specs.Pages.{Image, page_numbered}
use Rattle.vx_image.specs.Images.{perm_of_page}
use Rattle.vx_image.specs.Kept.{IsRising, IsPlaceOf, Lacks}
use Rattle.vx_image.proofs.Looks.{perm_at, perm_absent}
use Rattle.vx_image.proofs.image.Image.perm.Goals as goal

pub returns-in_err-place : goal.returns-in_err-place
returns-in_err-place c =
    let lacks : Lacks c.self.inside.entries.items c.args.page = rw c.deref.ensures.value at c.in_err-place.ensures in
    c.from_residual.ensures
    ∙ sym (ap (λ (image : Image). option_map perm_of_page (page_numbered c.args.page image.pages)) (sym c.self.view_is) ∙ perm_absent c.self.inside.entries.items c.self.inside.bytes.items c.args.page lacks)

pub returns : goal.returns
returns c =
    let place : IsPlaceOf c.self.inside.entries.items c.args.page c.in_ok-place.place = rw c.deref.ensures.value at c.in_ok-place.ensures in
    let rising : IsRising c.self.inside.entries.items = λ i j before within. c.self.invariant.listed.rising i j _ before within in
    ap (λ (entry : PageEntry). Some entry.perm) (c.index.ensures ∙ get_or_default c.self.inside.entries.items c.in_ok-place.place _ _ place.within)
    ∙ sym (ap (λ (image : Image). option_map perm_of_page (page_numbered c.args.page image.pages)) (sym c.self.view_is) ∙ perm_at c.self.inside.entries.items c.self.inside.bytes.items c.args.page c.in_ok-place.place rising place)
