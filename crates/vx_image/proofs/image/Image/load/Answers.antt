-- The page's entry has the place of its bytes.
use Rattle.std.proofs.Common.{◌≡◌, ◌+◌, ◌-◌, ◌*◌, IsSome, IfSome, subst, take, drop, sym, arith}
use Rattle.vx_image.specs.Pages.{Image, MappedPage, page_numbered}
use Rattle.vx_image.specs.Images.{HoldBytes}
use Rattle.vx_image.specs.Kept.{pages_of, IsRising, IsPlaceOf, Lacks}
use Rattle.vx_image.proofs.Looks.{not_absent, loaded}
use Rattle.vx_image.proofs.image.Image.load.Goals as goal

pub unreachable-requires : goal.unreachable-requires
unreachable-requires c =
    let lacks : Lacks c.self.inside.entries.items c.args.page = rw c.deref.ensures.value at c.in_default.ensures in
    let some : IsSome (page_numbered c.args.page (pages_of c.self.inside.entries.items c.self.inside.bytes.items)) = (let P : Image → Type 0 = λ image. IsSome (page_numbered c.args.page image.pages) in subst P (sym c.self.view_is) c.requires) in
    not_absent c.self.inside.entries.items c.self.inside.bytes.items c.args.page some lacks

pub returns : goal.returns
returns c =
    let entries = c.self.inside.entries.items in
    let bytes = c.self.inside.bytes.items in
    let k = c.in-Some.place in
    let place : IsPlaceOf entries c.args.page k = rw c.deref.ensures.value at c.in-Some.ensures in
    let rising : IsRising entries = λ i j before within. c.self.invariant.listed.rising i j _ before within in
    let width : 4096 * k + 4096 - 4096 * k ≡ 4096 = omega arith in
    let read : HoldBytes c.read_page.new.into.words (take 4096 (drop (4096 * k) bytes)) = rw (width, c.deref-2.ensures.value) at c.read_page.ensures in
    let held : IfSome (page_numbered c.args.page (pages_of entries bytes)) (λ (p : MappedPage). HoldBytes c.read_page.new.into.words p.bytes) = loaded entries bytes c.read_page.new.into.words c.args.page k rising place read in
    let P : Image → Type 0 = λ image. IfSome (page_numbered c.args.page image.pages) (λ (p : MappedPage). HoldBytes c.read_page.new.into.words p.bytes) in
    subst P c.self.view_is held
