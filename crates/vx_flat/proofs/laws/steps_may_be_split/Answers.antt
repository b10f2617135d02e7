-- The laws of elements, groups and instructions, for a step from within an instruction.
use Rattle.std.proofs.Common.{ap, sym, ◌∙◌}
use Rattle.std.specs.Prelude.{option_and_then}
use Rattle.vx_flat.specs.Prefix.{prefix_at}
use Rattle.vx_flat.proofs.Splits.{Laws, load-splits, store-splits}
use Rattle.vx_flat.proofs.Steps.{step-splits}
use Rattle.vx_flat.proofs.laws.steps_may_be_split.Goals as goal

laws : goal.After-runs_are_well_formed → Laws
laws c = record {
  other = c.other_elements_stay.ensures;
  sizes = record { width = c.groups_have_sizes.ensures.width; registers = c.groups_have_sizes.ensures.registers };
  sound = c.legal_movements_are_sound.ensures.sound;
  valid = c.decoded_is_valid.ensures;
}

pub returns-clause-step : goal.returns-clause-step
returns-clause-step c s t k w h = (step-splits (laws c) s t k w h).by_step

pub returns-clause-continued : goal.returns-clause-continued
returns-clause-continued c s t k w h = (step-splits (laws c) s t k w h).by_continued

pub returns-clause-run : goal.returns-clause-run
returns-clause-run c hart image n k s t r e h = (step-splits (laws c) s t k (c.runs_are_well_formed.ensures.run hart image n s r e) (sym (ap (option_and_then (prefix_at k)) e) ∙ h)).by_step

pub returns-clause-load : goal.returns-clause-load
returns-clause-load c a e i s t k v valid row legal = load-splits (laws c) a e s i k t v (record { valid = valid; row = row; legal = legal })

pub returns-clause-store : goal.returns-clause-store
returns-clause-store c a e i s t k = store-splits a e s i k t
