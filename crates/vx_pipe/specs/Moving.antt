-- What timing sees of a vector load or store that is legal. This project's own.
use Rattle.std.specs.Prelude.{◌≡◌, ◌-◌, true, false, [], None}
use Rattle.vx_flat.specs.Transfers.{Direction, Transfer, is_fault_only_first, want_of}
use Rattle.vx_flat.specs.Transfers.Direction.{Loading, Storing}
use Rattle.vx_rows.specs.declared.row.Addressing.{Addressing}
use Rattle.vx_rows.specs.declared.row.Class.{Class}
use Rattle.vx_rows.specs.declared.row.Class.TheVariants as class
use Rattle.vx_rows.specs.declared.row.Eew.{Eew}
use Rattle.vx_vector.specs.Accesses.{movement_count}
use Rattle.vx_episode.specs.Footprint.{Footprint}
use Rattle.vx_pipe.specs.Transfers.{element_batches}

-- the class of a transfer
abbrev pub class_by : Direction → Addressing → Eew → Class
class_by Loading addressing encoded = class.VectorLoad addressing encoded
class_by Storing addressing encoded = class.VectorStore addressing encoded

-- a footprint is that of a transfer
pub record IsMoving (f : Footprint) (t : Transfer) : Type 0 where
  pub stop : f.stop ≡ None
  pub groups : f.groups ≡ []
  pub latency : f.latency ≡ 1
  pub wants : f.want ≡ want_of t.direction
  pub trims : f.is_fault_only_first ≡ is_fault_only_first t.movement.addressing
  pub batches : f.batches ≡ element_batches t (movement_count t.movement - t.movement.at.vstart) t.movement.at.vstart
  pub jumps_is : f.jumps ≡ false
  pub changes_is : f.changes_vectors ≡ true
