use Rattle.std.proofs.Common.{refl}
use Rattle.vx_packed.specs.Joined.{some_below}
use Rattle.vx_vector.specs.Arithmetic.{after_elements}
use Rattle.vx_flat.proofs.laws.examples_hold.Goals as goal

pub returns : goal.returns
unfolding after_elements some_below
returns c = record {
  lengths = refl;
  at_the_end = refl;
  of_none = refl;
  to_one_word = refl;
  fails_within = refl;
  is_cut_off = refl;
  is_masked_off = refl;
  faults_first = refl;
}
