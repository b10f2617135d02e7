-- An instruction of vector arithmetic has the reading that its row says, and a legal one meets the conditions of the laws.
use Rattle.std.proofs.Common.{arith, ◌<◌, ◌≡◌, ℕ, List, subst, Some, Bool, true, false, IsTrue, refl}
use Rattle.std.proofs.lemmas.Bool.{false≢true}
use Rattle.vx_decode.specs.Encoded.{IsRegister, IsNf, HasOperands}
use Rattle.vx_decode.specs.Legal.{is_illegal}
use Rattle.vx_decode.specs.declared.instr.Instr.{Instr}
use Rattle.vx_exec.specs.Executed.{IsExecutable, is_arithmetic}
use Rattle.vx_operands.specs.Forms.{form_of, reading}
use Rattle.vx_rows.specs.Layouts.{layout_of}
use Rattle.vx_rows.specs.Table.{shape_of}
use Rattle.vx_mask.specs.Kinds.{is_mask, is_telling}
use Rattle.vx_rows.specs.declared.row.Layout.{Layout}
use Rattle.vx_rows.specs.declared.row.Nf.{Nf}
use Rattle.vx_rows.specs.declared.row.Nf.TheVariants as nf
use Rattle.vx_rows.specs.declared.op.Op.{Op}
use Rattle.vx_rows.specs.declared.op.Op.TheVariants.{Scalar, Set, Elem, Widen, Fixed, Mask, Perm, Memory}
use Rattle.vx_rows.specs.declared.op.ScalarOp.TheVariants.{Lui}
use Rattle.vx_rows.specs.declared.op.SetOp.TheVariants.{Vsetvli}
use Rattle.vx_rows.specs.declared.op.MemoryOp.TheVariants.{Vle8}
use Rattle.vx_rows.specs.declared.op.ElemOp.TheVariants.{VaddVv}
use Rattle.vx_rows.specs.declared.op.WidenOp.TheVariants.{VadcVvm}
use Rattle.vx_rows.specs.declared.op.FixedOp.TheVariants.{VsadduVv}
use Rattle.vx_rows.specs.declared.op.MaskOp.TheVariants.{VredsumVs}
use Rattle.vx_rows.specs.declared.op.PermOp.TheVariants.{VrgatherVv}
use Rattle.vx_vector.specs.Instructions.{IsLegal, places_of, reading_of}
use Rattle.vx_vector.specs.declared.places.Places.{Places}
use Rattle.vx_vstate.specs.State.{SettingView, IsSetting}

-- the row's reading
pub reads-row : (op : Op) (at : SettingView) (places : Places) (words : List ℕ) → IsTrue (is_arithmetic op) → reading_of op at places words ≡ Some (reading (form_of op) at places words)
reads-row (Scalar op) at places words t = absurd (false≢true t)
reads-row (Set op) at places words t = absurd (false≢true t)
reads-row (Elem VaddVv) at places words t = refl
reads-row (Elem op) at places words t = refl
reads-row (Widen VadcVvm) at places words t = refl
reads-row (Widen op) at places words t = refl
reads-row (Fixed VsadduVv) at places words t = refl
reads-row (Fixed op) at places words t = refl
reads-row (Mask VredsumVs) at places words t = refl
reads-row (Mask op) at places words t = refl
reads-row (Perm VrgatherVv) at places words t = refl
reads-row (Perm op) at places words t = refl
reads-row (Memory op) at places words t = absurd (false≢true t)

-- its registers are registers, and it has no field nf
pub record HasPlaces (i : Instr) : Type 0 where
  pub rd : i.rd < 32
  pub rs1 : i.rs1 < 32
  pub rs2 : i.rs2 < 32
  pub nf : i.nf ≡ 0

is-below : (has : Bool) (n : ℕ) → IsRegister has n → n < 32
is-below true n p = p
is-below false n p = omega arith

has-places : (layout : Layout) (i : Instr) → layout.nf ≡ nf.Absent → HasOperands layout i → HasPlaces i
has-places layout i absent h = record {
  rd = is-below layout.rd i.rd h.rd;
  rs1 = is-below layout.rs1 i.rs1 h.rs1;
  rs2 = is-below layout.rs2 i.rs2 h.rs2;
  nf = subst (λ (n : Nf). IsNf n i.nf) absent h.nf;
}

has-no-nf : (op : Op) → IsTrue (is_arithmetic op) → (layout_of (shape_of op)).nf ≡ nf.Absent
has-no-nf (Scalar op) t = absurd (false≢true t)
has-no-nf (Set op) t = absurd (false≢true t)
has-no-nf (Elem VaddVv) t = refl
has-no-nf (Elem op) t = refl
has-no-nf (Widen VadcVvm) t = refl
has-no-nf (Widen op) t = refl
has-no-nf (Fixed VsadduVv) t = refl
has-no-nf (Fixed op) t = refl
has-no-nf (Mask VredsumVs) t = refl
has-no-nf (Mask op) t = refl
has-no-nf (Perm VrgatherVv) t = refl
has-no-nf (Perm op) t = refl
has-no-nf (Memory op) t = absurd (false≢true t)

legal-by : (i : Instr) (at : SettingView) → IsSetting at → HasPlaces i → is_illegal i at ≡ false → IsLegal i.op at (places_of i)
legal-by i at setting places legal = record {
  setting = setting;
  vd = places.rd;
  vs1 = places.rs1;
  vs2 = places.rs2;
  legal = subst (λ n. is_illegal (record i { nf = n }) at ≡ false) places.nf legal;
}

-- legal by its places
pub is-legal : (i : Instr) (at : SettingView) → IsSetting at → IsExecutable i at → IsLegal i.op at (places_of i)
is-legal i at setting e =
    legal-by i at setting (has-places (layout_of (shape_of i.op)) i (has-no-nf i.op e.arithmetic) e.valid) e.legal

-- a row that tells a number is one of the crate of masks
pub is-mask : (op : Op) → IsTrue (is_telling (form_of op).family) → IsTrue (is_mask op)
is-mask (Scalar Lui) t = t
is-mask (Scalar op) t = t
is-mask (Set Vsetvli) t = t
is-mask (Set op) t = t
is-mask (Elem VaddVv) t = t
is-mask (Elem op) t = t
is-mask (Widen VadcVvm) t = t
is-mask (Widen op) t = t
is-mask (Fixed VsadduVv) t = t
is-mask (Fixed op) t = t
is-mask (Mask op) t = refl
is-mask (Perm VrgatherVv) t = t
is-mask (Perm op) t = t
is-mask (Memory Vle8) t = t
is-mask (Memory op) t = t
