-- The families of this crate by their kinds.
use Rattle.std.specs.Prelude.{◌≡◌, ◌≤◌, ◌<◌, ◌+◌, ℕ, Bool, true, false, ◌||◌, ◌&&◌, ◌==◌, Some}
use Rattle.vx_rows.specs.declared.family.Family.{Family}
use Rattle.vx_rows.specs.declared.family.Family.TheVariants.{Vrgather, Vrgatherei16, Vslideup, Vslidedown, Vslide1up, Vslide1down, VmvSX, Vcompress}
use Rattle.vx_rows.specs.declared.op.Op.{Op}
use Rattle.vx_rows.specs.declared.op.Op.TheVariants.{Perm}
use Rattle.vx_operands.specs.Rising.{count_below, moved_by}
use Rattle.vx_operands.specs.Forms.{is_vector}
use Rattle.vx_operands.specs.declared.form.Form.{Form}
use Rattle.vx_perm.specs.declared.packs.Passed.{Passed}
use Rattle.vx_vector.specs.Lists.{element_or_zero}
use Rattle.vx_vector.specs.Reading.{Reading, count_in, element_of, lists_of}
use Rattle.vx_vector.specs.Rules.{rule_of}
use Rattle.vx_rows.specs.Families.{operands_of}
use Rattle.vx_vstate.specs.Vtype.{vlmax}

-- an operation of this crate
abbrev pub is_perm : Op → Bool
is_perm (Perm op) = true
is_perm other = false

-- slides
abbrev pub is_slide : Family → Bool
is_slide Vslideup = true
is_slide Vslidedown = true
is_slide Vslide1up = true
is_slide Vslide1down = true
is_slide other = false

-- gathers
abbrev pub is_gather : Family → Bool
is_gather Vrgather = true
is_gather Vrgatherei16 = true
is_gather other = false

abbrev pub is_move : Family → Bool
is_move f = is_slide f || is_gather f

-- elements packed, and element 0 put
abbrev pub is_pack : Family → Bool
is_pack Vcompress = true
is_pack other = false

abbrev pub is_put : Family → Bool
is_put VmvSX = true
is_put other = false

-- a form that a row of this crate has
abbrev pub is_perm_form : Form → Bool
is_perm_form form = is_move form.family || is_put form.family || (is_pack form.family && is_vector form.first)

-- the mask in vs1 chooses element i of vs2
abbrev pub chooses : Reading → (i : ℕ) → Bool
chooses r i = element_of r r.places.vs1 1 i == 1

-- a register in the place of vs1 has an index for each element
pub record IsIndexed (r : Reading) : Type 0 where
  pub count : count_in r (operands_of r.family).vs1 ≡ vlmax r.at.vlen r.at.vtype

-- so many elements up to vl were passed, and as many of them are chosen, no more than the target
pub record IsPassed (r : Reading) (target : ℕ) (passed : Passed) : Type 0 where
  pub most : passed.elements ≤ r.at.vl
  pub chosen : passed.chosen ≡ count_below (chooses r) passed.elements
  pub few : passed.chosen ≤ target

-- so many elements from element `first` on become those of vs2 from element `from` on, one behind another, and all of these
-- are there
pub record IsRun (r : Reading) (first count from : ℕ) : Type 0 where
  pub within : from + count ≤ vlmax r.at.vlen r.at.vtype
  pub moves : (k : ℕ) → k < count → moved_by (rule_of r.family) (lists_of r) (first + k) ≡ Some (element_or_zero (lists_of r) (from + k))
