use Rattle.vx_statement.proofs.slot.Slot.fault.Goals as goal

pub returns-in-ControlRegister : goal.returns-in-ControlRegister
returns-in-ControlRegister c names known = rw c.in-ControlRegister.is (c.control_fault.ensures names)
