use Rattle.vx_tables.specs.Residency.{after_walk}
use Rattle.vx_look.proofs.Orders.{after_walks-joined, after_walks-swapped, after_walks-front, pages_of-after_walks}
use Rattle.vx_look.proofs.PageMaps.{page_map-accessed, page_map-agree, away-after}
use Rattle.vx_look.proofs.laws.walks_commute.Goals as goal

pub returns-clause-joined : goal.returns-clause-joined
returns-clause-joined c residency later earlier = after_walks-joined residency later earlier

pub returns-clause-swapped : goal.returns-clause-swapped
returns-clause-swapped c residency some others = after_walks-swapped residency some others

pub returns-clause-front : goal.returns-clause-front
returns-clause-front c residency some others w = after_walks-front residency some others w

pub returns-clause-pages : goal.returns-clause-pages
returns-clause-pages c residency walks = pages_of-after_walks residency walks

pub returns-clause-accessed : goal.returns-clause-accessed
returns-clause-accessed c residency address other want wanted not_store = page_map-accessed residency address other want wanted not_store

pub returns-clause-apart : goal.returns-clause-apart
returns-clause-apart c residency address other want wanted listed apart =
    page_map-agree address want residency (after_walk residency other wanted) (c.walks_go_side_by_side.ensures.other residency address other want wanted listed apart)

pub returns-clause-away : goal.returns-clause-away
returns-clause-away c residency address want walks = away-after residency address want walks
