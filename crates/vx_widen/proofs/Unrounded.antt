-- No family of this crate rounds.
use Rattle.std.proofs.Common.{◌≡◌, ℕ, IsTrue, refl}
use Rattle.std.proofs.lemmas.Bool.{false≢true}
use Rattle.vx_packed.specs.declared.elements.Lane.{Lane}
use Rattle.vx_rows.specs.declared.family.Family.{Family}
use Rattle.vx_rows.specs.declared.family.Family.TheVariants.{Vadc, Vsbc, Vwaddu, Vwadd, Vwsubu, Vwsub, Vwmulu, Vwmulsu, Vwmul, Vwmaccu, Vwmacc, Vwmaccus, Vwmaccsu, VwadduW, VwaddW, VwsubuW, VwsubW}
use Rattle.vx_operands.specs.Lanes.{answer, numbers_of}
use Rattle.vx_widen.specs.Kinds.{carries, doubles, extends}

pub doubles_unrounded : (f : Family) → IsTrue (doubles f) → (sew mode : ℕ) (l : Lane) → answer f (numbers_of sew 0 l) ≡ answer f (numbers_of sew mode l)
doubles_unrounded Vwaddu h sew mode l = refl
doubles_unrounded Vwadd h sew mode l = refl
doubles_unrounded Vwsubu h sew mode l = refl
doubles_unrounded Vwsub h sew mode l = refl
doubles_unrounded Vwmulu h sew mode l = refl
doubles_unrounded Vwmulsu h sew mode l = refl
doubles_unrounded Vwmul h sew mode l = refl
doubles_unrounded Vwmaccu h sew mode l = refl
doubles_unrounded Vwmacc h sew mode l = refl
doubles_unrounded Vwmaccus h sew mode l = refl
doubles_unrounded Vwmaccsu h sew mode l = refl
doubles_unrounded other h sew mode l = absurd (false≢true h)

pub extends_unrounded : (f : Family) → IsTrue (extends f) → (sew mode : ℕ) (l : Lane) → answer f (numbers_of sew 0 l) ≡ answer f (numbers_of sew mode l)
extends_unrounded VwadduW h sew mode l = refl
extends_unrounded VwaddW h sew mode l = refl
extends_unrounded VwsubuW h sew mode l = refl
extends_unrounded VwsubW h sew mode l = refl
extends_unrounded other h sew mode l = absurd (false≢true h)

pub carries_unrounded : (f : Family) → IsTrue (carries f) → (sew mode : ℕ) (l : Lane) → answer f (numbers_of sew 0 l) ≡ answer f (numbers_of sew mode l)
carries_unrounded Vadc h sew mode l = refl
carries_unrounded Vsbc h sew mode l = refl
carries_unrounded other h sew mode l = absurd (false≢true h)
