-- The partition by page ends where the page's entries and those above begin.
use Rattle.std.proofs.Common.{rules, ltb}
use Rattle.std.proofs.lemmas.List.Sorted.{IsPartitionPoint-from_clause}
use Rattle.vx_base.specs.declared.perm.PageEntry.{PageEntry}
use Rattle.vx_image.proofs.Places.{pages_partitioned, partition_is}
use Rattle.vx_image.proofs.search.place_from.Goals as goal

pub returns : goal.returns
returns c =
    let facts = c.partition_point.ensures in
    partition_is c.args.entries.now c.args.page c.partition_point.result facts.bound
    (IsPartitionPoint-from_clause (λ (entry : PageEntry). ltb entry.page c.args.page) c.args.entries.now c.partition_point.result facts.partitioned (pages_partitioned c.args.entries.now c.requires c.args.page) (λ a r f called. search rules))
