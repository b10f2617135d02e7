use Rattle.vx_batching.proofs.Stopping.{never-completed, never-retires, stops-at, stopped-plainly}
use Rattle.vx_batching.proofs.laws.instructions_stop_in_a_batch.Goals as goal

pub returns-clause-completed : goal.returns-clause-completed
returns-clause-completed c start history s retired issued f own b rest looked committed before done next failing issue so fails off is =
    never-completed start history s retired issued f issue own b rest looked committed before done next so failing fails off is

pub returns-clause-retired : goal.returns-clause-retired
returns-clause-retired c start history s retired issued f own b rest looked committed before done next failing issue so fails off is =
    never-retires start history s retired issued f issue own b rest looked committed before done next so failing fails off is

pub returns-clause-happens : goal.returns-clause-happens
returns-clause-happens c start history s retired issued f own b rest looked committed before done next failing issue so fails off is stop =
    stops-at start history s retired issued f issue own b rest looked committed before done next so failing fails off is stop

pub returns-clause-of_one_element : goal.returns-clause-of_one_element
returns-clause-of_one_element c start history retired issued f own b rest looked committed before done next element so is below above =
    stopped-plainly start history retired issued f own b rest looked committed before done next so element is below above
