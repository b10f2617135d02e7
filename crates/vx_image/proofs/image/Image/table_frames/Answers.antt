-- The regions of the entries are those of the pages.
use Rattle.std.proofs.Common.{◌≡◌, ℕ, ◌+◌, ◌/◌, ◌^◌, List, map, sym, ap, ◌∙◌}
use Rattle.vx_base.specs.declared.perm.PageEntry.{PageEntry}
use Rattle.vx_image.specs.Pages.{Image}
use Rattle.vx_image.specs.Tables.{distinct_count, region_count, table_frames}
use Rattle.vx_image.specs.Kept.{pages_of}
use Rattle.vx_image.proofs.Looks.{regions_of}
use Rattle.vx_image.proofs.image.Image.table_frames.Goals as goal

pub returns : goal.returns
returns c =
    let entries = c.self.inside.entries.items in
    let bytes = c.self.inside.bytes.items in
    let big : c.region_count.result ≡ region_count (2 ^ 18) (pages_of entries bytes) =
    c.region_count.ensures.count
    ∙ ap (λ (es : List PageEntry). distinct_count (map (λ (entry : PageEntry). entry.page / 2 ^ 18) es)) c.deref.ensures.value
    ∙ ap distinct_count (sym (regions_of (2 ^ 18) entries bytes)) in
    let small : c.region_count-2.result ≡ region_count (2 ^ 9) (pages_of entries bytes) =
    c.region_count-2.ensures.count
    ∙ ap (λ (es : List PageEntry). distinct_count (map (λ (entry : PageEntry). entry.page / 2 ^ 9) es)) c.deref-2.ensures.value
    ∙ ap distinct_count (sym (regions_of (2 ^ 9) entries bytes)) in
    ap (λ (n : ℕ). 1 + n + c.region_count-2.result) big
    ∙ ap (λ (n : ℕ). 1 + region_count (2 ^ 18) (pages_of entries bytes) + n) small
    ∙ ap (λ (image : Image). table_frames image.pages) c.self.view_is
