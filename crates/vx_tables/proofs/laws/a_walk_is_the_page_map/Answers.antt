use Rattle.std.proofs.Common.{◌∙◌, sym}
use Rattle.std.specs.Prelude.{slice_index}
use Rattle.vx_tables.proofs.Agreeing.{Agree-same}
use Rattle.vx_tables.proofs.Descents.{walk-expected, table_walk-expected, table_walk-answer, Stand-after_walk}
use Rattle.vx_tables.proofs.laws.a_walk_is_the_page_map.Goals as goal

pub returns-clause-walk : goal.returns-clause-walk
returns-clause-walk c contents root address want residency stand =
    walk-expected residency root address want (slice_index contents) stand.each ∙ sym (table_walk-expected residency root address want)

pub returns-clause-answer : goal.returns-clause-answer
returns-clause-answer c root address want residency listed = table_walk-answer root address want residency listed

pub returns-clause-stand : goal.returns-clause-stand
returns-clause-stand c contents root address want residency stand room = Stand-after_walk contents residency residency root address want (Agree-same address want residency) stand room
