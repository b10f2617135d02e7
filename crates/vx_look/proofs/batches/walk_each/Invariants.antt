-- How far the walks are made.
use Rattle.std.proofs.Common.{◌≡◌, ◌+◌, ◌*◌, ◌≤◌, [], List, map, length}
use Rattle.vx_episode.specs.Batches.{fate_of}
use Rattle.vx_episode.specs.Footprint.{Access}
use Rattle.vx_episode.specs.History.{History, BatchTimes}
use Rattle.vx_episode.specs.Organisation.{Start}
use Rattle.vx_look.proofs.Reached.{IsReached}
use Rattle.vx_look.proofs.batches.walk_each.Given as goal
use Rattle.vx_serve.specs.Fates.{told, AreKnownBy}
use Rattle.vx_look.specs.LookUps.{AreOf, AreReady}
use Rattle.vx_tables.specs.Walking.{HaveTables}

abbrev pub invariant-loop-i : goal.invariant-loop-i
invariant-loop-i g l = record {
  tables : HaveTables (g.C.Cells.state l.cells) l.root;
  count : length l.fates ≡ length l.fn.fates;
  frames : (g.C.Cells.state l.cells).frames ≡ (g.C.Cells.state l.fn.cells).frames;
  cycle : (g.C.Cells.state l.cells).cycle ≡ (g.C.Cells.state l.fn.cells).cycle;
  begun : l.started ≤ l.ended;
  known : AreKnownBy l.ended l.fates;
  cycles : l.ended ≤ l.started + l.i * (4 * l.bank_time);
  reached : (start : Start) (history : History) (earlier : List BatchTimes) (accesses : List Access) → start.machine.bank_time ≡ l.bank_time → AreOf l.items accesses
      → AreReady start history earlier l.root l.fn.tlb (g.C.Cells.state l.fn.cells) → map told l.fn.fates ≡ map (fate_of start history earlier l.want l.fn.started []) accesses
      → IsReached start history earlier l.want l.fn.started accesses l.root l.tlb (g.C.Cells.state l.fn.cells) (g.C.Cells.state l.cells) l.fates l.ended l.i;
}
