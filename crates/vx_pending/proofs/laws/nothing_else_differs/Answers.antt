-- What doesn't differ.
use Rattle.std.proofs.Common.{refl}
use Rattle.vx_pending.proofs.Loads.{stands}
use Rattle.vx_pending.proofs.Next.{none-pending}
use Rattle.vx_pending.proofs.Pages.{same-itself}
use Rattle.vx_pending.proofs.laws.nothing_else_differs.Goals as goal

pub returns : goal.returns
returns c = record {
  itself = λ s. record { pages = same-itself s.memory; bytes = λ address h. refl };
  none = λ s address h. none-pending s address h;
  bytes = λ s m alike h address. alike.bytes address (none-pending s address h);
  exact = λ u t h. stands u t h;
}
