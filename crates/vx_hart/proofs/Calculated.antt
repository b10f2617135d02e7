-- An instruction of vector arithmetic that is legal.
use Rattle.std.proofs.Common.{◌≡◌, ℕ, Bool, true, false, not, List, Option, Some, refl, sym, ap, ◌∙◌}
use Rattle.std.proofs.lemmas.Bool.{false≢true}
use Rattle.vx_decode.specs.Encoded.{IsValid}
use Rattle.vx_decode.specs.Legal.{is_illegal}
use Rattle.vx_decode.specs.declared.instr.Instr.{Instr}
use Rattle.vx_exec.specs.Executed.{IsExecutable, is_arithmetic}
use Rattle.vx_rows.specs.Table.{class_of}
use Rattle.vx_rows.specs.declared.family.Family.{Family}
use Rattle.vx_rows.specs.declared.op.Op.{Op}
use Rattle.vx_rows.specs.declared.op.Op.TheVariants.{Scalar, Set, Elem, Widen, Fixed, Mask, Perm, Memory}
use Rattle.vx_rows.specs.declared.op.ElemOp.TheVariants.{VaddVv}
use Rattle.vx_rows.specs.declared.op.FixedOp.TheVariants.{VsadduVv}
use Rattle.vx_rows.specs.declared.op.MaskOp.TheVariants.{VredsumVs}
use Rattle.vx_rows.specs.declared.op.MemoryOp.TheVariants.{Vle8}
use Rattle.vx_rows.specs.declared.op.PermOp.TheVariants.{VrgatherVv}
use Rattle.vx_rows.specs.declared.op.ScalarOp.TheVariants.{Lui}
use Rattle.vx_rows.specs.declared.op.SetOp.TheVariants.{Vsetvli}
use Rattle.vx_rows.specs.declared.op.WidenOp.TheVariants.{VadcVvm}
use Rattle.vx_rows.specs.declared.row.Class.{Class}
use Rattle.vx_rows.specs.declared.row.Class.TheVariants.{VectorArithmetic}
use Rattle.vx_flat.specs.Outcome.{Outcome}
use Rattle.vx_flat.specs.Outcome.Outcome.{Next}
use Rattle.vx_flat.specs.State.{Flat, following}
use Rattle.vx_flat.specs.Step.{calculate_by}
use Rattle.vx_flat.specs.Vectors.{reading_at, with_told}
use Rattle.vx_vector.specs.Arithmetic.{saturates, told, words_after}
use Rattle.vx_vector.specs.Instructions.{places_of, reading_of}
use Rattle.vx_vector.specs.Reading.{Reading}
use Rattle.vx_vstate.specs.State.{SettingView, VectorState, finished, setting_of}

abbrev is_calculating : Class → Bool
is_calculating (VectorArithmetic family) = true
is_calculating other = false

-- the operations of the class are those of vector arithmetic
arithmetic-is : (op : Op) → is_calculating (class_of op) ≡ is_arithmetic op
arithmetic-is (Scalar Lui) = refl
arithmetic-is (Scalar op) = refl
arithmetic-is (Set Vsetvli) = refl
arithmetic-is (Set op) = refl
arithmetic-is (Elem VaddVv) = refl
arithmetic-is (Elem op) = refl
arithmetic-is (Widen VadcVvm) = refl
arithmetic-is (Widen op) = refl
arithmetic-is (Fixed VsadduVv) = refl
arithmetic-is (Fixed op) = refl
arithmetic-is (Mask VredsumVs) = refl
arithmetic-is (Mask op) = refl
arithmetic-is (Perm VrgatherVv) = refl
arithmetic-is (Perm op) = refl
arithmetic-is (Memory Vle8) = refl
arithmetic-is (Memory op) = refl

pub not-true : (b : Bool) → not b ≡ true → b ≡ false
not-true true h = absurd (false≢true h)
not-true false h = refl

pub is-executable : (i : Instr) (at : SettingView) (family : Family) → IsValid i → class_of i.op ≡ VectorArithmetic family → is_illegal i at ≡ false → IsExecutable i at
is-executable i at family valid class legal = record {
  valid = valid;
  arithmetic = sym (arithmetic-is i.op) ∙ ap is_calculating class;
  legal = legal;
}

-- it does what its reading says
pub is-calculated : (s : Flat) (i : Instr) (r : Reading) (o : Option Outcome) (x : List ℕ) (v : VectorState) (value : Option ℕ) → reading_at s i ≡ Some r → told r ≡ value → x ≡ with_told s.x i.rd value → v ≡ finished (record s.v { words = words_after r }) 0 (saturates r) → o ≡ Some (Next (record s { pc = following s; x = x; v = v })) → o ≡ Some (calculate_by (reading_at s i) s i)
is-calculated s i r o x v value reads tells puts done completes =
    let register : x ≡ with_told s.x i.rd (told r) = puts ∙ ap (with_told s.x i.rd) (sym tells) in
    completes
    ∙ (λ j. Some (Next (record s { pc = following s; x = register j; v = done j })))
    ∙ ap (λ (read : Option Reading). Some (calculate_by read s i)) (sym reads)

-- what it reads is what its row says, of the setting that the state gives
pub reads-at : (i : Instr) (v : VectorState) (scalar : ℕ) (at : SettingView) (r : Reading) → at ≡ setting_of v scalar → reading_of i.op at (places_of i) v.words ≡ Some r → reading_of i.op (setting_of v scalar) (places_of i) v.words ≡ Some r
reads-at i v scalar at r view reads = ap (λ (a : SettingView). reading_of i.op a (places_of i) v.words) (sym view) ∙ reads
