-- The laws of groups, for the operands of a legal instruction.
use Rattle.vx_vector.proofs.Legality.{legal-sound}
use Rattle.vx_vector.proofs.laws.legal_readings_are_sound.Goals as goal

pub returns : goal.returns
returns c =
    legal-sound (record {
      group = c.elements_lie_in_their_group.ensures.group;
      mask = c.elements_lie_in_their_group.ensures.mask;
      width = c.groups_have_sizes.ensures.width;
      registers = c.groups_have_sizes.ensures.registers;
    })
