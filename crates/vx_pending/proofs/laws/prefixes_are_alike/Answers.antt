-- States within an instruction come to the same.
use Rattle.vx_pending.proofs.Next.{Laws}
use Rattle.vx_pending.proofs.Prefixes.{prefix-alike, prefix-shown, prefix-there}
use Rattle.vx_pending.proofs.laws.prefixes_are_alike.Goals as goal

laws : goal.After-legal_movements_are_sound → Laws
laws c = record { sound = c.legal_movements_are_sound.ensures.sound; valid = c.decoded_is_valid.ensures }

pub returns : goal.returns
returns c = record {
  prefix = λ s m k w alike. prefix-alike (laws c) s m w alike k;
  shown = λ s m k u w alike e. prefix-shown (laws c) s m w alike k u e;
  there = λ s m k t w alike e. prefix-there (laws c) s m w alike k t e;
}
