-- No family of this crate rounds or saturates.
use Rattle.std.proofs.Common.{◌≡◌, ℕ, false, IsTrue, refl}
use Rattle.std.proofs.lemmas.Bool.{false≢true}
use Rattle.vx_packed.specs.declared.elements.Lane.{Lane}
use Rattle.vx_rows.specs.declared.family.Family.{Family}
use Rattle.vx_rows.specs.declared.family.Family.TheVariants.{Vadd, Vsub, Vrsub, Vminu, Vmin, Vmaxu, Vmax, Vand, Vor, Vxor, Vmerge, Vsll, Vsrl, Vsra, Vmul, Vmulh, Vmulhu, Vmulhsu, Vmadd, Vnmsub, Vmacc, Vnmsac, Vdivu, Vdiv, Vremu, Vrem}
use Rattle.vx_vector.specs.Numbers.{Numbers}
use Rattle.vx_operands.specs.Lanes.{answer, numbers_of}
use Rattle.vx_elem.specs.Kinds.{is_plain}

pub unrounded : (f : Family) → IsTrue (is_plain f) → (sew mode : ℕ) (l : Lane) → answer f (numbers_of sew 0 l) ≡ answer f (numbers_of sew mode l)
unrounded Vadd h sew mode l = refl
unrounded Vsub h sew mode l = refl
unrounded Vrsub h sew mode l = refl
unrounded Vminu h sew mode l = refl
unrounded Vmin h sew mode l = refl
unrounded Vmaxu h sew mode l = refl
unrounded Vmax h sew mode l = refl
unrounded Vand h sew mode l = refl
unrounded Vor h sew mode l = refl
unrounded Vxor h sew mode l = refl
unrounded Vmerge h sew mode l = refl
unrounded Vsll h sew mode l = refl
unrounded Vsrl h sew mode l = refl
unrounded Vsra h sew mode l = refl
unrounded Vmul h sew mode l = refl
unrounded Vmulh h sew mode l = refl
unrounded Vmulhu h sew mode l = refl
unrounded Vmulhsu h sew mode l = refl
unrounded Vmadd h sew mode l = refl
unrounded Vnmsub h sew mode l = refl
unrounded Vmacc h sew mode l = refl
unrounded Vnmsac h sew mode l = refl
unrounded Vdivu h sew mode l = refl
unrounded Vdiv h sew mode l = refl
unrounded Vremu h sew mode l = refl
unrounded Vrem h sew mode l = refl
unrounded other h sew mode l = absurd (false≢true h)

-- and none of their elements saturates
pub unsaturated : (f : Family) → IsTrue (is_plain f) → (n : Numbers) → (answer f n).sat ≡ false
unsaturated Vadd h n = refl
unsaturated Vsub h n = refl
unsaturated Vrsub h n = refl
unsaturated Vminu h n = refl
unsaturated Vmin h n = refl
unsaturated Vmaxu h n = refl
unsaturated Vmax h n = refl
unsaturated Vand h n = refl
unsaturated Vor h n = refl
unsaturated Vxor h n = refl
unsaturated Vmerge h n = refl
unsaturated Vsll h n = refl
unsaturated Vsrl h n = refl
unsaturated Vsra h n = refl
unsaturated Vmul h n = refl
unsaturated Vmulh h n = refl
unsaturated Vmulhu h n = refl
unsaturated Vmulhsu h n = refl
unsaturated Vmadd h n = refl
unsaturated Vnmsub h n = refl
unsaturated Vmacc h n = refl
unsaturated Vnmsac h n = refl
unsaturated Vdivu h n = refl
unsaturated Vdiv h n = refl
unsaturated Vremu h n = refl
unsaturated Vrem h n = refl
unsaturated other h n = absurd (false≢true h)
