-- Vector arithmetic in time: its beats, and no access.
use Rattle.std.proofs.Common.{◌≡◌, ℕ, ◌+◌, ◌*◌, max, true, false, List, [], ◌∷◌, length, refl, ap, ◌∙◌, arith}
use Rattle.vx_decode.specs.declared.instr.Instr.{Instr}
use Rattle.vx_rows.specs.Families.{unit_of}
use Rattle.vx_rows.specs.declared.family.Unit.{Unit}
use Rattle.vx_vector.specs.Reading.{Reading}
use Rattle.vx_vector.specs.Words.{handled_words}
use Rattle.vx_episode.specs.Footprint.{Group, calculating, groups_made, groups_of}
use Rattle.vx_episode.specs.History.{latency_of, step_of}
use Rattle.vx_episode.specs.Organisation.{Organisation}
use Rattle.vx_quiet.specs.Quiet.{made_by}
use Rattle.vx_pipe.specs.Beating.{beats_span}
use Rattle.vx_pipe.specs.Plain.{IsWithoutAccesses}

after-beats : (issued steps latency : ℕ) → max (issued + 1) (issued + 1 + steps + latency) ≡ issued + (1 + steps + latency)
after-beats issued steps latency = omega arith

made-then : (issued : ℕ) (u : Unit) (groups : List Group) → max (issued + 1) (made_by issued u groups) ≡ issued + beats_span u (length groups)
made-then issued u [] = omega arith
made-then issued u (g ∷ groups) = after-beats issued (length groups * step_of u) (latency_of u)

-- with so many beats
pub calculating-is : (machine : Organisation) (i : Instr) (r : Reading) (count : ℕ) → length (groups_made r (groups_of machine.lanes (handled_words r))) ≡ count
    → IsWithoutAccesses (calculating machine i r) (beats_span (unit_of r.family) count) false true
calculating-is machine i r count is = record {
  stop = refl;
  batches = refl;
  completes = λ issued. made-then issued (unit_of r.family) (groups_made r (groups_of machine.lanes (handled_words r))) ∙ ap (λ (n : ℕ). issued + beats_span (unit_of r.family) n) is;
  jumps_is = refl;
  changes_is = refl;
}
