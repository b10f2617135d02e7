-- The entries are those of the pages.
use Rattle.std.proofs.Common.{map, sym, ap, ◌∙◌}
use Rattle.vx_image.specs.Pages.{Image}
use Rattle.vx_image.specs.Images.{entry_of_page}
use Rattle.vx_image.proofs.Looks.{listed_of}
use Rattle.vx_image.proofs.image.Image.pages.Goals as goal

pub returns : goal.returns
returns c =
    c.of.ensures
    ∙ c.in_ok-from_slice.ensures.items
    ∙ c.deref.ensures.value
    ∙ sym (listed_of c.self.inside.entries.items c.self.inside.bytes.items)
    ∙ ap (λ (image : Image). map entry_of_page image.pages) c.self.view_is
