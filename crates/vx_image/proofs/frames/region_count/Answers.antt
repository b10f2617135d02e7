-- The changes are the different regions, and no more than the pages.
use Rattle.std.proofs.Common.{◌≡◌, ◌/◌, [], List, drop, map, ap, arith}
use Rattle.std.proofs.lemmas.List.{drop_all}
use Rattle.vx_base.specs.declared.perm.PageEntry.{PageEntry}
use Rattle.vx_image.specs.Building.{change_count}
use Rattle.vx_image.proofs.Regions.{few_pages, few_entries, changes_are}
use Rattle.vx_image.proofs.frames.region_count.Goals as goal

pub overflow_add-count : goal.overflow_add-count
overflow_add-count c =
    omega (arith, few_pages c.args.entries.now c.requires.entries c.loop-entry.entry-index c.loop-entry-test.true, c.loop-entry.invariant.few)

pub returns-clause-limit : goal.returns-clause-limit
returns-clause-limit c =
    omega (arith, few_entries c.args.entries.now c.requires.entries, c.loop-entry.invariant.few)

pub returns-clause-count : goal.returns-clause-count
returns-clause-count c =
    let rest : drop c.loop-entry.entry-index c.args.entries.now ≡ [] = drop_all c.loop-entry.entry-index c.args.entries.now (omega arith) in
    let none : change_count c.loop-entry.last (map (λ (entry : PageEntry). entry.page / c.args.size) (drop c.loop-entry.entry-index c.args.entries.now)) ≡ 0 =
    ap (λ (es : List PageEntry). change_count c.loop-entry.last (map (λ (entry : PageEntry). entry.page / c.args.size) es)) rest in
    omega (arith, none, c.loop-entry.invariant.counted, changes_are c.args.size c.requires.size c.args.entries.now c.requires.entries.rising)
