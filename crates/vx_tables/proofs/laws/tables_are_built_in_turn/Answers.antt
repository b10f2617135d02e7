use Rattle.std.proofs.Common.{arith}
use Rattle.vx_tables.specs.Tables.{regions}
use Rattle.vx_tables.proofs.Regions.{below-bound}
use Rattle.vx_tables.proofs.Built.{root-built, second-built, leaf-built, none-below, step-below, all-below, between-below, no-writes, tables-built, pages_of-at_boot, found, missing, below-at_boot}
use Rattle.vx_tables.proofs.laws.tables_are_built_in_turn.Goals as goal

pub returns-clause-none : goal.returns-clause-none
returns-clause-none c size pages = none-below (regions size pages)

pub returns-clause-step : goal.returns-clause-step
returns-clause-step c size region pages = step-below size region pages

pub returns-clause-all : goal.returns-clause-all
returns-clause-all c size limit pages listed few = all-below size limit pages listed few

pub returns-clause-between : goal.returns-clause-between
returns-clause-between c region pages none = between-below region pages none 512 (omega arith)

pub returns-clause-bound : goal.returns-clause-bound
returns-clause-bound c size region pages = below-bound region (regions size pages)

pub returns-clause-begun : goal.returns-clause-begun
returns-clause-begun c state first residency = no-writes c.accesses_are_made_in_turn.ensures.none state first residency

pub returns-clause-root : goal.returns-clause-root
returns-clause-root c before now after first residency begun made = root-built c.accesses_are_made_in_turn.ensures.joined before now after first residency begun made

pub returns-clause-second : goal.returns-clause-second
returns-clause-second c before now after first region frame residency is at begun made = second-built c.accesses_are_made_in_turn.ensures.joined before now after first region frame residency is at begun made

pub returns-clause-leaf : goal.returns-clause-leaf
returns-clause-leaf c before now after first region frame residency is at begun made = leaf-built c.accesses_are_made_in_turn.ensures.joined before now after first region frame residency is at begun made

pub returns-clause-built : goal.returns-clause-built
returns-clause-built c before after first residency memory listed room few made = tables-built c.words_are_merged_by_bytes.ensures.whole before after first residency memory listed room few made

pub returns-clause-pages : goal.returns-clause-pages
returns-clause-pages c frame pages = pages_of-at_boot frame pages

pub returns-clause-found : goal.returns-clause-found
returns-clause-found c frame pages number index d from within is = found frame pages number index d from within is

pub returns-clause-missing : goal.returns-clause-missing
returns-clause-missing c frame pages number index listed from none = missing frame pages number index listed from none

pub returns-clause-below : goal.returns-clause-below
returns-clause-below c frame pages frames few = below-at_boot frame pages frames few
