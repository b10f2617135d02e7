-- The laws of widths and of counts of words, for a step.
use Rattle.vx_flat.proofs.Keeps.{step-keeps, continued-keeps, boot-is, run-is}
use Rattle.vx_flat.proofs.Kept.{CountLaws}
use Rattle.vx_flat.proofs.laws.runs_are_well_formed.Goals as goal

laws : goal.After-set_element_leaves_words → CountLaws
laws c = record {
  width = c.groups_have_sizes.ensures.width;
  set = c.set_element_leaves_words.ensures.count;
  after = c.other_words_stay.ensures.count;
}

pub returns-clause-boot : goal.returns-clause-boot
returns-clause-boot c = boot-is

pub returns-clause-step : goal.returns-clause-step
returns-clause-step c s t w = step-keeps (laws c) s w t

pub returns-clause-continued : goal.returns-clause-continued
returns-clause-continued c s w = continued-keeps (laws c) s w

pub returns-clause-run : goal.returns-clause-run
returns-clause-run c hart image n s r e = run-is (laws c) hart image r n s e
