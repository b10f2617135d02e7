-- The search by page finds the entry, or no entry has the page.
use Rattle.std.proofs.Common.{rules, ◌≡◌}
use Rattle.std.proofs.lemmas.List.Sorted.{answers_always}
use Rattle.std.specs.Result.{result_ok}
use Rattle.vx_base.specs.declared.perm.PageEntry.{PageEntry}
use Rattle.vx_image.proofs.Places.{searched}
use Rattle.vx_image.proofs.search.place_of.Goals as goal

pub returns : goal.returns
returns c =
    let facts = c.binary_search_by_key.ensures in
    let by_key = facts.position (λ (entry : PageEntry). entry.page) (answers_always _ _ _ (λ f a r g called. search rules)) in
    let value : c.ok.result ≡ result_ok c.binary_search_by_key.result = c.ok.ensures.value in
    rw value (searched _ c.requires c.args.page _ facts.bound by_key)
