use Rattle.vx_batching.proofs.Flight.{reached-queued, reached-done, reached-walks, reached-begun, stopped-walks, stopped-queued, stopped-done, stopped-ended, completed-walks, completed-queued, completed-done, completed-ended}
use Rattle.vx_batching.proofs.laws.batches_are_in_flight.Goals as goal

pub returns-clause-reached_accesses : goal.returns-clause-reached_accesses
returns-clause-reached_accesses c start history s retired issued f last own b rest looked committed before done issue so =
    reached-queued start history s retired issued f issue last own b rest looked committed before done so

pub returns-clause-reached_done : goal.returns-clause-reached_done
returns-clause-reached_done c start history s retired issued f last own b rest looked committed before done issue so =
    reached-done start history s retired issued f issue last own b rest looked committed before done so

pub returns-clause-reached_walks : goal.returns-clause-reached_walks
returns-clause-reached_walks c start history s retired issued f last own b rest looked committed before done issue so =
    reached-walks start history s retired issued f issue last own b rest looked committed before done so

pub returns-clause-reached_later_walks : goal.returns-clause-reached_later_walks
returns-clause-reached_later_walks c start history s retired issued f last own b rest looked committed before done issue so =
    reached-begun start history s retired issued f issue last own b rest looked committed before done so

pub returns-clause-stopped_accesses : goal.returns-clause-stopped_accesses
returns-clause-stopped_accesses c start history s retired issued f own b rest looked committed before done next end failing issue so fails off is few =
    stopped-queued start history s retired issued f issue own b rest looked committed before done next end so failing fails off is few

pub returns-clause-stopped_done : goal.returns-clause-stopped_done
returns-clause-stopped_done c start history s retired issued f own b rest looked committed before done next end failing issue so fails off is few =
    stopped-done start history s retired issued f issue own b rest looked committed before done next end so failing fails off is few

pub returns-clause-stopped_walks : goal.returns-clause-stopped_walks
returns-clause-stopped_walks c start history s retired issued f own b rest looked committed before done next end failing issue so fails off is few =
    stopped-ended start history s retired issued f issue own b rest looked committed before done next end so failing fails off is few

pub returns-clause-stopped_all_walks : goal.returns-clause-stopped_all_walks
returns-clause-stopped_all_walks c start history s retired issued f own b rest looked committed before done next failing issue so fails off is =
    stopped-walks start history s retired issued f issue own b rest looked committed before done next next so failing fails off is

pub returns-clause-completed_accesses : goal.returns-clause-completed_accesses
returns-clause-completed_accesses c start history s retired issued f own looked committed before done end issue so few =
    completed-queued start history s retired issued f issue own looked committed before done end so few

pub returns-clause-completed_done : goal.returns-clause-completed_done
returns-clause-completed_done c start history s retired issued f own looked committed before done end issue so few =
    completed-done start history s retired issued f issue own looked committed before done end so few

pub returns-clause-completed_walks : goal.returns-clause-completed_walks
returns-clause-completed_walks c start history s retired issued f own looked committed before done end issue so few =
    completed-ended start history s retired issued f issue own looked committed before done end so few

pub returns-clause-completed_all_walks : goal.returns-clause-completed_all_walks
returns-clause-completed_all_walks c start history s retired issued f own looked committed before done issue so =
    completed-walks start history s retired issued f issue own looked committed before done looked so
