-- A page without D at the end is as it was.
use Rattle.vx_dirty.proofs.Instructions.{Laws}
use Rattle.vx_dirty.proofs.Ranges.{BatchLaws}
use Rattle.vx_dirty.proofs.Whole.{EpisodeLaws, whole}
use Rattle.vx_dirty.proofs.laws.changed_pages_are_dirty.Goals as goal

laws : goal.After-instructions_in_flight → Laws
laws c = record { does = c.operations_do_as_their_class.ensures; sound = c.legal_movements_are_sound.ensures.sound; valid = c.decoded_is_valid.ensures }

batch-laws : goal.After-instructions_in_flight → BatchLaws
batch-laws c = record { within = c.batches_are_longest_runs.ensures.within }

episode-laws : goal.After-instructions_in_flight → EpisodeLaws
episode-laws c = record {
  step_formed = c.runs_are_well_formed.ensures.step;
  continued_formed = c.runs_are_well_formed.ensures.continued;
  begins = c.episodes_go_on.ensures.begins;
  next = c.episodes_go_on.ensures.next;
  state = c.episodes_go_on.ensures.state;
  end = c.episodes_end.ensures;
  process = c.ends_have_parts.ensures.process;
  flight = c.instructions_in_flight.ensures.any;
}

pub returns : goal.returns
returns c start until number p e formed running of ends clean = whole (laws c) (batch-laws c) (episode-laws c) start until p formed running of number e ends clean
