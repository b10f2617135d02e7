-- The laws of elements, groups and instructions, for states within an instruction.
use Rattle.std.proofs.Common.{refl}
use Rattle.std.specs.Prelude.{ℕ, ◌≡◌, Option, Some, None, option_and_then}
use Rattle.std.proofs.lemmas.Option.{none-some}
use Rattle.vx_flat.specs.Prefix.{prefix_at}
use Rattle.vx_flat.specs.Splits.{IsWellFormed}
use Rattle.vx_flat.specs.State.{Flat}
use Rattle.vx_flat.proofs.Kept.{CountLaws}
use Rattle.vx_flat.proofs.Splits.{Laws}
use Rattle.vx_flat.proofs.Steps.{prefixes-join-up, within-is}
use Rattle.vx_flat.proofs.laws.prefixes_join.Goals as goal

laws : goal.After-runs_are_well_formed → Laws
laws c = record {
  other = c.other_elements_stay.ensures;
  sizes = record { width = c.groups_have_sizes.ensures.width; registers = c.groups_have_sizes.ensures.registers };
  sound = c.legal_movements_are_sound.ensures.sound;
  valid = c.decoded_is_valid.ensures;
}

counts : goal.After-runs_are_well_formed → CountLaws
counts c = record {
  width = c.groups_have_sizes.ensures.width;
  set = c.set_element_leaves_words.ensures.count;
  after = c.other_words_stay.ensures.count;
}

run-of : (L : Laws) (s : Option Flat) (t u : Flat) (j k : ℕ) → ((x : Flat) → s ≡ Some x → IsWellFormed x) → option_and_then (prefix_at j) s ≡ Some t → prefix_at k t ≡ Some u → option_and_then (prefix_at k) s ≡ Some u
run-of L None t u j k w first second = absurd (none-some t first)
run-of L (Some s) t u j k w first second = prefixes-join-up L s t u j k (w s refl) first second

pub returns-clause-joined : goal.returns-clause-joined
returns-clause-joined c s t u j k w first second = prefixes-join-up (laws c) s t u j k w first second

pub returns-clause-run : goal.returns-clause-run
returns-clause-run c hart image n j k t u r first second = run-of (laws c) _ t u j k (λ x e. c.runs_are_well_formed.ensures.run hart image n x r e) first second

pub returns-clause-element : goal.returns-clause-element
returns-clause-element c s t k h = (within-is (counts c) s t k h).element

pub returns-clause-pc : goal.returns-clause-pc
returns-clause-pc c s t k h = (within-is (counts c) s t k h).pc

pub returns-clause-output : goal.returns-clause-output
returns-clause-output c s t k h = (within-is (counts c) s t k h).output

pub returns-clause-formed : goal.returns-clause-formed
returns-clause-formed c s t k w few h = (within-is (counts c) s t k h).formed w few
