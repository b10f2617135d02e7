-- The laws of states within an instruction, for the accounts.
use Rattle.vx_machine.proofs.Played.{of-episode}
use Rattle.vx_machine.proofs.Stands.{Laws, of-boot, of-step, of-steps, of-steps-alone, of-within, told}
use Rattle.vx_machine.proofs.laws.accounts_are_true.Goals as goal

laws : goal.After-steps_may_be_split → Laws
laws c = record {
  grows = c.output_only_grows.ensures;
  joined = c.prefixes_join.ensures.run;
  element = c.prefixes_join.ensures.element;
  pc = c.prefixes_join.ensures.pc;
  output = c.prefixes_join.ensures.output;
  splits = c.steps_may_be_split.ensures.run;
}

pub returns-clause-told : goal.returns-clause-told
returns-clause-told c hart image costs p h = told (laws c) hart image costs p h

pub returns-clause-boot : goal.returns-clause-boot
returns-clause-boot c hart image = of-boot hart image

pub returns-clause-stepped : goal.returns-clause-stepped
returns-clause-stepped c hart image p r small h = of-step (laws c) hart image p r small h

pub returns-clause-within : goal.returns-clause-within
returns-clause-within c hart image k p r h = of-within (laws c) hart image k p r h

pub returns-clause-steps : goal.returns-clause-steps
returns-clause-steps c hart image n p r small h = of-steps (laws c) hart image n p r small h

pub returns-clause-alone : goal.returns-clause-alone
returns-clause-alone c hart image n small = of-steps-alone hart image n small

pub returns-clause-episode : goal.returns-clause-episode
returns-clause-episode c hart image start until p e r small is h = of-episode (laws c) hart image start until p e r small is h
