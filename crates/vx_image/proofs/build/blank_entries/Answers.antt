-- One page more, and all of them.
use Rattle.std.proofs.Common.{◌≡◌, ◌+◌, ◌<◌, ◌≤◌, List, [], ◌∷◌, ◌++◌, length, get_or, ap, ◌∙◌, arith}
use Rattle.std.proofs.lemmas.List.{get_or_default}
use Rattle.vx_base.specs.declared.perm.PageEntry.{PageEntry}
use Rattle.vx_image.specs.Building.{entry_of_segments}
use Rattle.vx_image.specs.Mapping.{stack_page}
use Rattle.vx_image.proofs.Collected.{blank_none, blank_is, blank_more, below_more, blank_all}
use Rattle.vx_image.proofs.build.blank_entries.Goals as goal
use Rattle.vx_image.proofs.build.blank_entries.Goals.{then-from-page+in_ok-push, else-from-page}

pub loop-page-init : goal.loop-page-init
loop-page-init c = record {
  within = omega arith;
  below = λ k d lt. absurd (omega arith);
  entries = c.new-entries.ensures.items ∙ blank_none c.args.pages.now;
}

pub loop-page-preserved : goal.loop-page-preserved
loop-page-preserved c =
    let pages = c.args.pages.now in
    let i = c.loop-page.page-index in
    let from = c.loop-page.from in
    let before = c.loop-page.invariant in
    let within : i < length pages = c.loop-page-test.true in
    let page = get_or pages i 0 in
    let item : page ≡ get_or pages i page = get_or_default pages i 0 page within in
    elim c.if-from-page.branch [
      | then-from-page+in_ok-push w ↦
          let low : page < stack_page = c.requires.low i 0 within in
          let above : from ≤ page = w.if-from-page.true in
          rw (w.entries-is, w.from-is)
          (record {
            within = omega (arith, low);
            below = below_more pages c.requires.rising i from before.below page (page + 1) item within (omega (arith, above)) (omega arith);
            entries =
                w.in_ok-push.ensures.items
                ∙ ap (λ (e : PageEntry). c.loop-page.entries.items ++ e ∷ []) (blank_is page)
                ∙ ap (λ (es : List PageEntry). es ++ entry_of_segments [] page ∷ []) before.entries
                ∙ blank_more pages c.requires.rising i from before.below page within item above;
          })
      | else-from-page w ↦
          let under : page < from = w.if-from-page.false in
          rw (w.entries-is, w.from-is)
          (record {
            within = before.within;
            below = below_more pages c.requires.rising i from before.below page from item within (omega arith) under;
            entries = before.entries;
          })
    ]

pub returns : goal.returns
returns c =
    let before = c.loop-page.invariant in
    before.entries ∙ blank_all c.args.pages.now c.requires.rising c.loop-page.page-index c.loop-page.from before.below (omega arith) before.within
