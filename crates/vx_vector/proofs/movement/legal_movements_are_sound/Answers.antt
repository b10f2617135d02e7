-- The laws of groups, for what a legal load or store moves.
use Rattle.vx_vector.proofs.Movements.{legal-moves, placed-accesses}
use Rattle.vx_vector.proofs.movement.legal_movements_are_sound.Goals as goal

pub returns-clause-sound : goal.returns-clause-sound
returns-clause-sound c =
    legal-moves (record {
      group = c.elements_lie_in_their_group.ensures.group;
      mask = c.elements_lie_in_their_group.ensures.mask;
      width = c.groups_have_sizes.ensures.width;
      registers = c.groups_have_sizes.ensures.registers;
    })

pub returns-clause-placed : goal.returns-clause-placed
returns-clause-placed c = placed-accesses
