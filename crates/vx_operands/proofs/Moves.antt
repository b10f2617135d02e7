-- vmv.v.
use Rattle.std.proofs.Common.{◌≡◌, ℕ, ◌+◌, ◌*◌, ◌/◌, true, not, IsTrue, nat_eq, if◌then◌else◌, ap, subst}
use Rattle.vx_decode.specs.Groups.{width_of}
use Rattle.vx_rows.specs.Families.{operands_of}
use Rattle.vx_rows.specs.declared.family.Family.{Family}
use Rattle.vx_rows.specs.declared.family.Family.TheVariants.{VmvV}
use Rattle.vx_rows.specs.declared.family.Operand.TheVariants.{Single}
use Rattle.vx_vector.specs.Laws.{is_absent, per_word}
use Rattle.vx_vector.specs.Reading.{Reading, sew_of, destination_width, vs1_width, count_in, count_of, whole_registers, numbers_at}
use Rattle.vx_operands.specs.Forms.{second_operand}
use Rattle.vx_vector.specs.Rules.{rule_of}
use Rattle.vx_operands.specs.Lanes.{AreLanes, AreMade, answer, is_each, index_at}
use Rattle.vx_operands.proofs.Merging.{copied_are}

module _ (r : Reading) (e : r.family ≡ VmvV) where
  pub moves_width : destination_width r ≡ sew_of r
  moves_width = ap (λ (f : Family). width_of (operands_of f).destination (sew_of r)) e

  pub moves_vs1 : vs1_width r ≡ sew_of r
  moves_vs1 = ap (λ (f : Family). width_of (operands_of f).vs1 (sew_of r)) e

  pub moves_single : (operands_of r.family).vs1 ≡ Single
  moves_single = ap (λ (f : Family). (operands_of f).vs1) e

  pub moves_there : not (is_absent (operands_of r.family).destination) ≡ true
  moves_there = ap (λ (f : Family). not (is_absent (operands_of f).destination)) e

  pub moves_count : count_of r ≡ r.at.vl
  moves_count = ap (λ (f : Family). if nat_eq (whole_registers (operands_of f).destination) 0 then r.at.vl else count_in r (operands_of f).destination) e

  pub moves_each : IsTrue (is_each (rule_of r.family))
  moves_each = ap (λ (f : Family). is_each (rule_of f)) e

  pub moves_made : (w sew new : ℕ) → sew ≡ destination_width r → AreLanes sew new (64 / sew) (λ k. second_operand r (w * (64 / sew) + k)) → AreMade r w (record { value = new; sats = 0 })
  moves_made w sew new d lanes =
      copied_are r w new (λ k. second_operand r (w * per_word r + k))
      (subst (λ s. AreLanes s new (64 / s) (λ k. second_operand r (w * (64 / s) + k))) d lanes)
      (λ k. ap (λ (f : Family). answer f (numbers_at r (index_at r w k))) e)
