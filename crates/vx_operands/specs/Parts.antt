-- Rows whose operands have other widths than the destination: a word of the destination is made of words of vs2, or of a
-- part of one. RISC-V "V" 1.0, sections 5.2, 10.2 and 10.3.
use Rattle.std.specs.Prelude.{◌≡◌, ℕ, ◌+◌, ◌*◌, ◌/◌, ◌%◌, ◌<◌, ◌≤◌, Bool, true, false, ◌&&◌, IsTrue, if◌then◌else◌}
use Rattle.vx_bits.specs.Width.{is_width}
use Rattle.vx_packed.specs.Joined.{lane}
use Rattle.vx_packed.specs.Made.{lane_of}
use Rattle.vx_packed.specs.declared.elements.Packing.{Packing}
use Rattle.vx_packed.specs.declared.elements.Sources.{Sources}
use Rattle.vx_rows.specs.declared.family.Operand.{Operand}
use Rattle.vx_rows.specs.declared.family.Operand.TheVariants.{Double, Mask}
use Rattle.vx_rows.specs.declared.family.Operands.{Operands}
use Rattle.vx_rows.specs.declared.row.First.{First}
use Rattle.vx_rows.specs.declared.row.First.TheVariants as first
use Rattle.vx_vector.specs.Reading.{Reading, numbers_at}
use Rattle.vx_operands.specs.Lanes.{FillsPart, answer, is_single, numbers_of}

abbrev pub is_double : Operand → Bool
is_double Double = true
is_double other = false

abbrev pub is_mask : Operand → Bool
is_mask Mask = true
is_mask other = false

-- elements of SEW are made of elements of twice SEW in vs2
abbrev pub is_narrowing : First → Operands → Bool
is_narrowing first.Vector operands = is_single operands.destination && is_double operands.vs2 && is_single operands.vs1
is_narrowing other operands = is_single operands.destination && is_double operands.vs2

-- elements of twice SEW are made of elements of SEW, or of such in vs2 as are as wide
abbrev pub is_doubling : (is_wide : Bool) → First → Operands → Bool
is_doubling is_wide first.Vector operands =
    is_double operands.destination && (if is_wide then is_double operands.vs2 else is_single operands.vs2) && is_single operands.vs1
is_doubling is_wide other operands = is_double operands.destination && (if is_wide then is_double operands.vs2 else is_single operands.vs2)

-- a mask's bits are made of elements of SEW
abbrev pub is_comparing : First → Operands → Bool
is_comparing first.Vector operands = is_mask operands.destination && is_single operands.vs2 && is_single operands.vs1
is_comparing other operands = is_mask operands.destination && is_single operands.vs2

-- as many elements of SEW as a word of vs2 holds elements of twice SEW
abbrev pub narrow_packing : (sew : ℕ) → Packing
narrow_packing sew = record { count = 32 / sew; width = sew; a = 2 * sew; b = sew }

-- as many bits as a word of vs2 holds elements of SEW
abbrev pub bit_packing : (sew : ℕ) → Packing
bit_packing sew = record { count = 64 / sew; width = 1; a = sew; b = sew }

-- as many elements of twice SEW as fill a word; those of vs2 are as wide, or have SEW
abbrev pub doubled_packing : (sew : ℕ) → (is_wide : Bool) → Packing
doubled_packing sew is_wide = record { count = 64 / (2 * sew); width = 2 * sew; a = if is_wide then 2 * sew else sew; b = sew }

-- as many elements as fill a word of vs2, whose other operands fill a word or a part of one
pub record FillsWord (at : Packing) : Type 0 where
  pub a : IsTrue (is_width at.a)
  pub b : IsTrue (is_width at.b)
  pub count : at.count ≡ 64 / at.a
  pub some : 0 < at.count
  pub divides : 64 / at.count * at.count ≡ 64
  pub b_some : 0 < at.b * at.count
  pub b_part : FillsPart at.b at.count
  pub b_few : at.count ≤ 64 / at.b

-- the numbers at the lanes of some words are those at as many elements, from element v * count on, as far as these are below vl
abbrev pub ArePartOf : Reading → Packing → (v : ℕ) → Sources → Type 0
ArePartOf r at v from =
    (k : ℕ) → k < at.count → v * at.count + k < r.at.vl → numbers_of at.b r.at.vxrm (lane_of at from k) ≡ numbers_at r (v * at.count + k)

-- the first bits of word w of a destination that is a mask, so many, are new, as far as their elements are below vl
pub record AreBitsMade (r : Reading) (w count bits : ℕ) : Type 0 where
  pub is : (k : ℕ) → k < count → w * 64 + k < r.at.vl → lane 1 bits k ≡ (answer r.family (numbers_at r (w * 64 + k))).value % 2
