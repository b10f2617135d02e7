-- What comes next is the same.
use Rattle.vx_pending.proofs.Next.{Laws, word-alike, upcoming-alike, pending-alike, well-formed-alike}
use Rattle.vx_pending.proofs.Pages.{permits-alike}
use Rattle.vx_pending.proofs.laws.pending_bytes_are_not_read.Goals as goal

laws : goal.After-legal_movements_are_sound → Laws
laws c = record { sound = c.legal_movements_are_sound.ensures.sound; valid = c.decoded_is_valid.ensures }

pub returns : goal.returns
returns c = record {
  granted = λ s m alike address want. permits-alike m s.memory alike.pages address want;
  word = λ s m w alike h. word-alike (laws c) s m w alike h;
  next = λ s m w alike. upcoming-alike (laws c) s m w alike;
  pending = λ s m w alike address. pending-alike (laws c) s m w alike address;
  well_formed = λ s m w alike. well-formed-alike (laws c) s m w alike;
}
