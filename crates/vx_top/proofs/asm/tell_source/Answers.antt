use Rattle.std.proofs.Common.{refl, inl, inr}
use Rattle.vx_asm.specs.Assembling.{fault_told}
use Rattle.vx_top.proofs.asm.tell_source.Goals as goal

pub returns-in-Ok : goal.returns-in-Ok
returns-in-Ok g c = inl (record { faultless = c.in-Ok.ensures.faultless; told = rw (← c.in-Ok.ensures.bytes) (rw c.slice.ensures at c.tell_file.ensures) })

pub returns-in-Err : goal.returns-in-Err
returns-in-Err g c = inr (record { fault = fault_told c.in-Err.fault; first = c.in-Err.ensures.fault; same = refl; told = c.tell_fault.ensures })
