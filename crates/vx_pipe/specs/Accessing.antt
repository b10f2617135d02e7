-- Instructions with one access, as an engine times them. This project's own.
use Rattle.std.specs.Prelude.{◌≡◌, ◌⊎◌, false, [], None}
use Rattle.vx_base.specs.declared.machine.Want.{Want}
use Rattle.vx_base.specs.declared.machine.Want.TheVariants.{Load, Store}
use Rattle.vx_episode.specs.Footprint.{Access, Footprint, one_batch}
use Rattle.vx_rows.specs.declared.row.Class.{Class}
use Rattle.vx_rows.specs.declared.row.Class.TheVariants as class

-- all that an instruction does in time is this access
pub record IsAccessing (f : Footprint) (want : Want) (a : Access) : Type 0 where
  pub stop : f.stop ≡ None
  pub groups : f.groups ≡ []
  pub latency : f.latency ≡ 1
  pub wants : f.want ≡ want
  pub batches : f.batches ≡ one_batch a
  pub never_trims : f.is_fault_only_first ≡ false
  pub jumps_is : f.jumps ≡ false
  pub changes_is : f.changes_vectors ≡ false

-- a scalar load or store, by its class
abbrev pub IsAccessClass : Class → Type 0
IsAccessClass c = (c ≡ class.Load) ⊎ (c ≡ class.Store)

-- what the access of a scalar load or store wants
abbrev pub wanted_as : Class → Want
wanted_as class.Store = Store
wanted_as other = Load
