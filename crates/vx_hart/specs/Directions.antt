-- The direction of a vector load or store, as the definitions have it. This project's own.
use Rattle.vx_flat.specs.Transfers.{Direction as FlatDirection}
use Rattle.vx_flat.specs.Transfers.Direction.{Loading, Storing}
use Rattle.vx_hart.specs.declared.direction.Direction.{Direction}
use Rattle.vx_hart.specs.declared.direction.Direction.TheVariants as direction

abbrev pub direction_of : Direction → FlatDirection
direction_of direction.Loading = Loading
direction_of direction.Storing = Storing
