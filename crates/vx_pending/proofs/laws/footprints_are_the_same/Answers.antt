-- Footprints are the same.
use Rattle.vx_pending.proofs.Footprints.{footprint-alike}
use Rattle.vx_pending.proofs.Next.{Laws}
use Rattle.vx_pending.proofs.laws.footprints_are_the_same.Goals as goal

laws : goal.After-legal_movements_are_sound → Laws
laws c = record { sound = c.legal_movements_are_sound.ensures.sound; valid = c.decoded_is_valid.ensures }

pub returns : goal.returns
returns c machine has_vectors residency s m w alike = footprint-alike (laws c) s m w alike machine has_vectors residency
