-- The elements so far were gone through.
use Rattle.std.proofs.Common.{◌≡◌, ℕ, ◌+◌, ◌-◌, ◌*◌, ◌<◌, ◌≤◌, max}
use Rattle.vx_cells.specs.Cells.{CellsState}
use Rattle.vx_episode.specs.Footprint.{Footprint}
use Rattle.vx_episode.specs.History.{Entry, History}
use Rattle.vx_episode.specs.Organisation.{Start}
use Rattle.vx_flat.specs.Transfers.{Transfer}
use Rattle.vx_serve.specs.Stamps.{AreBy, AreOfSame}
use Rattle.vx_tables.specs.Walking.{HaveTables}
use Rattle.vx_vaddr.specs.Views.{movement_with}
use Rattle.vx_pipe.specs.Passing.{IsPassing, IsSet, IsSoon}
use Rattle.vx_pipe.specs.Transfers.{element_batches}
use Rattle.vx_pipe.proofs.passing.pass_elements.Given as goal

abbrev pub invariant-loop-at : goal.invariant-loop-at
invariant-loop-at g l = record {
  tables : HaveTables (g.C.Cells.state l.cells) l.root;
  kept : AreOfSame l.fn.banks l.banks;
  from : l.fn.i ≤ l.at;
  within : l.at ≤ l.count;
  here : l.fn.i < l.at → l.i + 1 ≡ l.at;
  soon : IsSoon (max l.fn.numbers.looked l.fn.numbers.committed + 700 * (l.at - l.fn.i)) l.numbers;
  by : AreBy (max l.fn.numbers.committed l.numbers.done) l.banks.stamps;
  before : l.numbers.before ≤ l.numbers.committed;
  done : l.numbers.done ≤ l.numbers.committed;
  later : l.fn.numbers.looked ≤ l.numbers.looked;
  behind : l.fn.i < l.at → l.fn.numbers.looked < l.numbers.looked;
  early : l.fn.i < l.at → l.at < l.count → l.numbers.committed < l.until;
  early_before : l.fn.i + 1 < l.at → l.numbers.before < l.until;
  passing : (start : Start) (history : History) (e : Entry) (retired issued : ℕ) (f : Footprint) (t : Transfer) (first : CellsState)
      → IsSet start history e f t l.bank_time l.want (movement_with l.pattern (g.S.WordFile.words l.file))
      → IsPassing start history e retired issued f t l.fn.i (element_batches t (l.count - l.fn.i) l.fn.i) l.fn.numbers l.root l.fn.loads l.fn.banks first (g.C.Cells.state l.fn.cells)
      → IsPassing start history e retired issued f t l.at (element_batches t (l.count - l.at) l.at) l.numbers l.root l.loads l.banks first (g.C.Cells.state l.cells);
}

abbrev pub decreases-loop-at : goal.decreases-loop-at
decreases-loop-at g l = l.count - l.at
