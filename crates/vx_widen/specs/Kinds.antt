-- The families of this crate by their kinds. The comparisons, carries and borrows that are masks are a kind of vx_decode's.
use Rattle.std.specs.Prelude.{Bool, true, false, ◌||◌}
use Rattle.vx_decode.specs.Legal.{compares}
use Rattle.vx_rows.specs.declared.family.Family.{Family}
use Rattle.vx_rows.specs.declared.family.Family.TheVariants.{Vadc, Vsbc, Vnsrl, Vnsra, Vwaddu, Vwadd, Vwsubu, Vwsub, VwadduW, VwaddW, VwsubuW, VwsubW, Vwmulu, Vwmulsu, Vwmul, Vwmaccu, Vwmacc, Vwmaccus, Vwmaccsu}
use Rattle.vx_rows.specs.declared.op.Op.{Op}
use Rattle.vx_rows.specs.declared.op.Op.TheVariants.{Widen}

-- an operation of this crate
abbrev pub is_widen : Op → Bool
is_widen (Widen op) = true
is_widen other = false

-- sums and differences with carries and borrows
abbrev pub carries : Family → Bool
carries Vadc = true
carries Vsbc = true
carries other = false

-- shifts that narrow
abbrev pub narrows : Family → Bool
narrows Vnsrl = true
narrows Vnsra = true
narrows other = false

-- elements of twice SEW, made of elements of SEW
abbrev pub doubles : Family → Bool
doubles Vwaddu = true
doubles Vwadd = true
doubles Vwsubu = true
doubles Vwsub = true
doubles Vwmulu = true
doubles Vwmulsu = true
doubles Vwmul = true
doubles Vwmaccu = true
doubles Vwmacc = true
doubles Vwmaccus = true
doubles Vwmaccsu = true
doubles other = false

-- elements of twice SEW, made of elements of twice SEW and of SEW
abbrev pub extends : Family → Bool
extends VwadduW = true
extends VwaddW = true
extends VwsubuW = true
extends VwsubW = true
extends other = false

-- a family of this crate
abbrev pub is_widen_family : Family → Bool
is_widen_family f = compares f || narrows f || doubles f || extends f || carries f
