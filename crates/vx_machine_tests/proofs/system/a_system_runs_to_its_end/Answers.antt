use Rattle.vx_machine_tests.proofs.system.a_system_runs_to_its_end.Goals as goal

pub run-stop-requires : goal.run-stop-requires
run-stop-requires g c = record { stands = record { machine = _; stands = c.in-Ok.ensures.booted.stands } }
