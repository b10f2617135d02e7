-- What a legal instruction reads is sound.
use Rattle.std.proofs.Common.{◌≡◌, ℕ, suc, ◌+◌, ◌*◌, ◌/◌, ◌%◌, ◌<◌, ◌≤◌, Bool, true, false, not, ◌&&◌, ◌||◌, IsTrue, nat_eq, leb, List, [], ◌∷◌, length, Some, None, refl, sym, ap, ◌∙◌, subst, ⊎_elim, arith}
use Rattle.std.specs.List.{list_any}
use Rattle.std.proofs.lemmas.Bool.{not-false, false≢true, true≢false, or_parts, and_parts, and_cases, leb-true, eqb-true, or_cases}
use Rattle.std.proofs.lemmas.Bool.Decides.{nat_tests}
use Rattle.std.proofs.lemmas.List.Folds.{list_any-append}
use Rattle.std.proofs.lemmas.Nat.{div_below}
use Rattle.std.proofs.Math.Nat.{mul-le-mul_right, div-mul-le_self}
use Rattle.vx_base.specs.Options.{is_register_length}
use Rattle.vx_rows.specs.Families.{operands_of}
use Rattle.vx_rows.specs.Lines.{elem_line, widen_line, fixed_line, mask_line, perm_line, memory_line, scalar_line, set_line}
use Rattle.vx_rows.specs.Table.{class_of, shape_of}
use Rattle.vx_rows.specs.declared.family.Family.{Family}
use Rattle.vx_rows.specs.declared.family.Operand.{Operand}
use Rattle.vx_rows.specs.declared.family.Operand.TheVariants.{Absent, Mask, Element, WideElement, Whole1, Whole2, Whole4, Whole8}
use Rattle.vx_rows.specs.declared.op.Op.{Op}
use Rattle.vx_rows.specs.declared.op.Op.TheVariants.{Scalar, Set, Elem, Widen, Fixed, Mask as Masks, Perm, Memory}
use Rattle.vx_rows.specs.declared.op.ScalarOp.{ScalarOp}
use Rattle.vx_rows.specs.declared.op.ScalarOp.TheVariants.{Lui}
use Rattle.vx_rows.specs.declared.op.SetOp.{SetOp}
use Rattle.vx_rows.specs.declared.op.SetOp.TheVariants.{Vsetvli}
use Rattle.vx_rows.specs.declared.op.ElemOp.{ElemOp}
use Rattle.vx_rows.specs.declared.op.ElemOp.TheVariants.{VaddVv}
use Rattle.vx_rows.specs.declared.op.WidenOp.{WidenOp}
use Rattle.vx_rows.specs.declared.op.WidenOp.TheVariants.{VadcVvm}
use Rattle.vx_rows.specs.declared.op.FixedOp.{FixedOp}
use Rattle.vx_rows.specs.declared.op.FixedOp.TheVariants.{VsadduVv}
use Rattle.vx_rows.specs.declared.op.MaskOp.{MaskOp}
use Rattle.vx_rows.specs.declared.op.MaskOp.TheVariants.{VredsumVs}
use Rattle.vx_rows.specs.declared.op.PermOp.{PermOp}
use Rattle.vx_rows.specs.declared.op.PermOp.TheVariants.{VrgatherVv}
use Rattle.vx_rows.specs.declared.op.MemoryOp.{MemoryOp}
use Rattle.vx_rows.specs.declared.op.MemoryOp.TheVariants.{Vle8}
use Rattle.vx_rows.specs.declared.row.Addressing.{Addressing}
use Rattle.vx_rows.specs.declared.row.Addressing.TheVariants as addressing
use Rattle.vx_rows.specs.declared.row.Class.{Class}
use Rattle.vx_rows.specs.declared.row.Class.TheVariants.{VectorArithmetic, VectorLoad, VectorStore}
use Rattle.vx_rows.specs.declared.row.Eew.{Eew}
use Rattle.vx_rows.specs.declared.row.First.{First}
use Rattle.vx_rows.specs.declared.row.First.TheVariants as first
use Rattle.vx_rows.specs.declared.row.Second.{Second}
use Rattle.vx_rows.specs.declared.row.Second.TheVariants as second
use Rattle.vx_rows.specs.declared.row.Shape.{Shape}
use Rattle.vx_rows.specs.declared.row.Shape.TheVariants.{Vector}
use Rattle.vx_rows.specs.declared.row.Shape.TheVariants as shape
use Rattle.vx_rows.specs.declared.row.Vm.{Vm}
use Rattle.vx_decode.specs.Groups.{width_of, group_of, first_source, second_source, destinations_as, sources_as}
use Rattle.vx_decode.specs.Legal.{is_bad_group, is_too_long, is_illegal, begins_at_first, lacks_configuration, has_bad_group, has_long_segment, overwrites_mask, overlaps_badly, meets_source, begins_late, is_too_wide}
use Rattle.vx_decode.specs.declared.instr.Instr.{Instr}
use Rattle.vx_vstate.specs.Groups.{emul_eighths, registers_of_group, is_group_size}
use Rattle.vx_vstate.specs.Registers.{words_of_register, words_of_all, element_word, is_byte_width, is_element_width}
use Rattle.vx_vstate.specs.Vtype.{sew, vlmax, is_vtype}
use Rattle.vx_vstate.specs.State.{SettingView, IsSetting}
use Rattle.vx_vector.specs.Instructions.{reading_as, reading_of, instr_at, IsLegal}
use Rattle.vx_vector.specs.Laws.{IsSound, IsPlaced, is_absent}
use Rattle.vx_vector.specs.Reading.{Reading, sew_of}
use Rattle.vx_vector.specs.Words.{vs1_operand_by}
use Rattle.vx_vector.specs.declared.places.Places.{Places}

-- what the vector state's crate says of groups
pub record GroupLaws : Type 0 where
  pub group : (vlen vtype width index : ℕ) → IsTrue (is_register_length vlen) → IsTrue (is_byte_width width) → 1 ≤ emul_eighths vtype width → index < vlmax vlen vtype → element_word width index < registers_of_group (emul_eighths vtype width) * words_of_register vlen
  pub mask : (vlen vtype index : ℕ) → IsTrue (is_register_length vlen) → index < vlmax vlen vtype → element_word 1 index < words_of_register vlen
  pub width : (vtype : ℕ) → IsTrue (is_vtype vtype) → IsTrue (is_byte_width (sew vtype))
  pub registers : (vtype width : ℕ) → IsTrue (is_byte_width width) → 1 ≤ emul_eighths vtype width → emul_eighths vtype width ≤ 64 → IsTrue (is_group_size (registers_of_group (emul_eighths vtype width)))

-- ---- numbers

pub by_size : (P : ℕ → Type 0) (n : ℕ) → P 1 → P 2 → P 4 → P 8 → is_group_size n ≡ true → P n
by_size P n one two four eight h =
    ⊎_elim
    (λ t. ⊎_elim
    (λ t. ⊎_elim
    (λ t. subst P (sym (eqb-true n 1 t)) one)
    (λ t. subst P (sym (eqb-true n 2 t)) two)
    (or_cases (nat_eq n 1) (nat_eq n 2) t))
    (λ t. subst P (sym (eqb-true n 4 t)) four)
    (or_cases (nat_eq n 1 || nat_eq n 2) (nat_eq n 4) t))
    (λ t. subst P (sym (eqb-true n 8 t)) eight)
    (or_cases (nat_eq n 1 || nat_eq n 2 || nat_eq n 4) (nat_eq n 8) h)

pub by_width : (P : ℕ → Type 0) (n : ℕ) → P 8 → P 16 → P 32 → P 64 → is_byte_width n ≡ true → P n
by_width P n one two four eight h =
    ⊎_elim
    (λ t. ⊎_elim
    (λ t. ⊎_elim
    (λ t. subst P (sym (eqb-true n 8 t)) one)
    (λ t. subst P (sym (eqb-true n 16 t)) two)
    (or_cases (nat_eq n 8) (nat_eq n 16) t))
    (λ t. subst P (sym (eqb-true n 32 t)) four)
    (or_cases (nat_eq n 8 || nat_eq n 16) (nat_eq n 32) t))
    (λ t. subst P (sym (eqb-true n 64 t)) eight)
    (or_cases (nat_eq n 8 || nat_eq n 16 || nat_eq n 32) (nat_eq n 64) h)

-- a group that begins at a multiple of its size ends among the 32 registers
pub room : (n register : ℕ) → is_group_size n ≡ true → register < 32 → register % n ≡ 0 → register + n ≤ 32
room n register h below aligned = by_size (λ n. register % n ≡ 0 → register + n ≤ 32) n (λ e. omega arith) (λ e. omega arith) (λ e. omega arith) (λ e. omega arith) h aligned

-- an element's width that isn't bad is one of bytes
kept-8 : (o : Operand) → (not (leb 8 (width_of o 8) && leb (width_of o 8) 64) || is_byte_width (width_of o 8)) ≡ true
kept-8 Absent = refl
kept-8 other = refl

kept-16 : (o : Operand) → (not (leb 8 (width_of o 16) && leb (width_of o 16) 64) || is_byte_width (width_of o 16)) ≡ true
kept-16 Absent = refl
kept-16 other = refl

kept-32 : (o : Operand) → (not (leb 8 (width_of o 32) && leb (width_of o 32) 64) || is_byte_width (width_of o 32)) ≡ true
kept-32 Absent = refl
kept-32 other = refl

kept-64 : (o : Operand) → (not (leb 8 (width_of o 64) && leb (width_of o 64) 64) || is_byte_width (width_of o 64)) ≡ true
kept-64 Absent = refl
kept-64 other = refl

pub implied : (a b : Bool) → (not a || b) ≡ true → a ≡ true → b ≡ true
implied true b h e = h
implied false b h e = absurd (false≢true e)

bytes : (o : Operand) (S : ℕ) → is_byte_width S ≡ true → (leb 8 (width_of o S) && leb (width_of o S) 64) ≡ true → is_byte_width (width_of o S) ≡ true
bytes o S h good =
    implied (leb 8 (width_of o S) && leb (width_of o S) 64) (is_byte_width (width_of o S))
    (by_width (λ n. (not (leb 8 (width_of o n) && leb (width_of o n) 64) || is_byte_width (width_of o n)) ≡ true) S (kept-8 o) (kept-16 o) (kept-32 o) (kept-64 o) h)
    good

-- ---- one operand

pub record IsGood (register eew emul : ℕ) : Type 0 where
  pub width : (leb 8 eew && leb eew 64) ≡ true
  pub least : 1 ≤ emul
  pub most : emul ≤ 64
  pub aligned : register % registers_of_group emul ≡ 0

pub good : (register eew emul : ℕ) → list_any is_bad_group ((record { register = register; eew = eew; is_mask = false; emul_eighths = emul; fields = 1 }) ∷ []) ≡ false → IsGood register eew emul
good register eew emul h =
    let one = or_parts (not (leb 8 eew && leb eew 64) || not (leb 1 emul && leb emul 64) || not (nat_eq (register % registers_of_group emul) 0)) false h in
    let parts = or_parts (not (leb 8 eew && leb eew 64) || not (leb 1 emul && leb emul 64)) (not (nat_eq (register % registers_of_group emul) 0)) one.0 in
    let widths = or_parts (not (leb 8 eew && leb eew 64)) (not (leb 1 emul && leb emul 64)) parts.0 in
    let range = and_parts (leb 1 emul) (leb emul 64) (not-false (leb 1 emul && leb emul 64) widths.1) in
    record {
      width = not-false (leb 8 eew && leb eew 64) widths.0;
      least = leb-true 1 emul range.0;
      most = leb-true emul 64 range.1;
      aligned = eqb-true (register % registers_of_group emul) 0 (not-false (nat_eq (register % registers_of_group emul) 0) parts.1);
    }

-- a width of bytes is a width of elements
pub as_width : (width : ℕ) → is_byte_width width ≡ true → (is_element_width width) ≡ true
as_width width h = by_width (λ n. is_element_width n ≡ true) width refl refl refl refl h

pub some-words : (at : SettingView) → IsSetting at → 0 < words_of_register at.vlen
some-words at k = let h = k.vlen_in_range in grind (arith, nat_tests, h)

pub all-words : (at : SettingView) → IsSetting at → at.vlen ≡ 64 * words_of_register at.vlen
all-words at k = let h = k.vlen_in_range in grind (arith, nat_tests, h)

pub whole-within : (at : SettingView) (n S i : ℕ) → IsSetting at → is_byte_width S ≡ true → i < n * at.vlen / S → element_word S i < n * words_of_register at.vlen
whole-within at n S i k h l =
    let words = all-words at k in
    let some : 0 < S = by_width (λ n. 0 < n) S (omega arith) (omega arith) (omega arith) (omega arith) h in
    let next : suc i ≤ n * at.vlen / S = l in
    let times = mul-le-mul_right S next in
    let back = div-mul-le_self (n * at.vlen) S in
    let bits : n * at.vlen ≡ n * words_of_register at.vlen * 64 = omega (arith, ap (λ v. n * v) words) in
    let below : i * S < n * words_of_register at.vlen * 64 = omega arith in
    div_below (i * S) 64 (n * words_of_register at.vlen) (omega arith) below

pub placed : (L : GroupLaws) (r : Reading) → IsSetting r.at → (o : Operand) (register : ℕ) → register < 32 → list_any is_bad_group (group_of o r.at register) ≡ false → IsPlaced r o register
placed L r k Absent register b h = record { width = refl; room = omega arith; within = λ i l. absurd (omega arith) }
placed L r k Mask register b h = record {
  width = refl;
  room = omega arith;
  within = λ i l. let inside = L.mask r.at.vlen r.at.vtype i k.vlen_in_range l in omega arith;
}
placed L r k Element register b h =
    let some = some-words r.at k in
    record {
      width = as_width (sew_of r) (L.width r.at.vtype k.vtype_in_range);
      room = omega arith;
      within = λ i l. let none : i ≡ 0 = omega arith in let at_zero : element_word (sew_of r) i ≡ 0 = ap (element_word (sew_of r)) none ∙ omega arith in omega arith;
    }
placed L r k WideElement register b h =
    let some = some-words r.at k in
    let is = good register (2 * sew_of r) 8 h in
    record {
      width = as_width (2 * sew_of r) (bytes WideElement (sew_of r) (L.width r.at.vtype k.vtype_in_range) is.width);
      room = omega arith;
      within = λ i l. let none : i ≡ 0 = omega arith in let at_zero : element_word (2 * sew_of r) i ≡ 0 = ap (element_word (2 * sew_of r)) none ∙ omega arith in omega arith;
    }
placed L r k Whole1 register b h =
    let S = L.width r.at.vtype k.vtype_in_range in
    let is = good register (sew_of r) 8 h in
    record { width = as_width (sew_of r) S; room = room 1 register refl b is.aligned; within = λ i l. whole-within r.at 1 (sew_of r) i k S l }
placed L r k Whole2 register b h =
    let S = L.width r.at.vtype k.vtype_in_range in
    let is = good register (sew_of r) 16 h in
    record { width = as_width (sew_of r) S; room = room 2 register refl b is.aligned; within = λ i l. whole-within r.at 2 (sew_of r) i k S l }
placed L r k Whole4 register b h =
    let S = L.width r.at.vtype k.vtype_in_range in
    let is = good register (sew_of r) 32 h in
    record { width = as_width (sew_of r) S; room = room 4 register refl b is.aligned; within = λ i l. whole-within r.at 4 (sew_of r) i k S l }
placed L r k Whole8 register b h =
    let S = L.width r.at.vtype k.vtype_in_range in
    let is = good register (sew_of r) 64 h in
    record { width = as_width (sew_of r) S; room = room 8 register refl b is.aligned; within = λ i l. whole-within r.at 8 (sew_of r) i k S l }
placed L r k other register b h =
    let width = width_of other (sew_of r) in
    let emul = emul_eighths r.at.vtype width in
    let is = good register width emul h in
    let byte = bytes other (sew_of r) (L.width r.at.vtype k.vtype_in_range) is.width in
    record {
      width = as_width width byte;
      room = room (registers_of_group emul) register (L.registers r.at.vtype width byte is.least is.most) b is.aligned;
      within = λ i l. L.group r.at.vlen r.at.vtype width i k.vlen_in_range byte is.least l;
    }

-- ---- rows

-- the shape is that of loads and stores of an addressing
abbrev pub suits : Addressing → Shape → Bool
suits addressing.Unit shape.UnitMemory = true
suits addressing.FaultOnlyFirst shape.UnitMemory = true
suits addressing.Whole shape.WholeMemory = true
suits addressing.MaskBits shape.MaskMemory = true
suits addressing.Strided shape.StridedMemory = true
suits addressing.Unordered shape.IndexedMemory = true
suits addressing.Ordered shape.IndexedMemory = true
suits a s = false

-- a row without a register in the place of vs2 has no operand there; a load or store has the shape of its addressing
pub row_fits : Class → Shape → Bool
row_fits (VectorArithmetic family) (Vector first second.Fixed vm) = is_absent (operands_of family).vs2
row_fits (VectorLoad a width) s = suits a s
row_fits (VectorStore a width) s = suits a s
row_fits class shape = true

scalar-fits : (o : ScalarOp) → row_fits (scalar_line o).class (scalar_line o).shape ≡ true
unfolding row_fits
scalar-fits Lui = refl
scalar-fits other = refl

set-fits : (o : SetOp) → row_fits (set_line o).class (set_line o).shape ≡ true
unfolding row_fits
set-fits Vsetvli = refl
set-fits other = refl

elem-fits : (o : ElemOp) → row_fits (elem_line o).class (elem_line o).shape ≡ true
unfolding row_fits
elem-fits VaddVv = refl
elem-fits other = refl

widen-fits : (o : WidenOp) → row_fits (widen_line o).class (widen_line o).shape ≡ true
unfolding row_fits
widen-fits VadcVvm = refl
widen-fits other = refl

fixed-fits : (o : FixedOp) → row_fits (fixed_line o).class (fixed_line o).shape ≡ true
unfolding row_fits
fixed-fits VsadduVv = refl
fixed-fits other = refl

mask-fits : (o : MaskOp) → row_fits (mask_line o).class (mask_line o).shape ≡ true
unfolding row_fits
mask-fits VredsumVs = refl
mask-fits other = refl

perm-fits : (o : PermOp) → row_fits (perm_line o).class (perm_line o).shape ≡ true
unfolding row_fits
perm-fits VrgatherVv = refl
perm-fits other = refl

memory-fits : (o : MemoryOp) → row_fits (memory_line o).class (memory_line o).shape ≡ true
unfolding row_fits
memory-fits Vle8 = refl
memory-fits other = refl

pub load-suits : (a : Addressing) (e : Eew) (s : Shape) → row_fits (VectorLoad a e) s ≡ true → suits a s ≡ true
unfolding row_fits
load-suits a e s h = h

pub store-suits : (a : Addressing) (e : Eew) (s : Shape) → row_fits (VectorStore a e) s ≡ true → suits a s ≡ true
unfolding row_fits
store-suits a e s h = h

pub row-fits : (op : Op) → row_fits (class_of op) (shape_of op) ≡ true
row-fits (Scalar o) = scalar-fits o
row-fits (Set o) = set-fits o
row-fits (Elem o) = elem-fits o
row-fits (Widen o) = widen-fits o
row-fits (Fixed o) = fixed-fits o
row-fits (Masks o) = mask-fits o
row-fits (Perm o) = perm-fits o
row-fits (Memory o) = memory-fits o

-- ---- an instruction

placed-absent : (r : Reading) (register : ℕ) → register < 32 → IsPlaced r Absent register
placed-absent r register b = record { width = refl; room = omega arith; within = λ i l. absurd (omega arith) }

placed-first : (L : GroupLaws) (r : Reading) → IsSetting r.at → (f : First) (i : Instr) → i.rs1 ≡ r.places.vs1 → r.places.vs1 < 32 → list_any is_bad_group (first_source f (operands_of r.family).vs1 i r.at) ≡ false → IsPlaced r (vs1_operand_by r f) r.places.vs1
placed-first L r k first.Vector i e b h = placed L r k (operands_of r.family).vs1 r.places.vs1 b (subst (λ register. list_any is_bad_group (group_of (operands_of r.family).vs1 r.at register) ≡ false) e h)
placed-first L r k other i e b h = placed-absent r r.places.vs1 b

absent-placed : (r : Reading) (o : Operand) (register : ℕ) → is_absent o ≡ true → register < 32 → IsPlaced r o register
absent-placed r Absent register a b = placed-absent r register b
absent-placed r other register a b = absurd (false≢true a)

placed-second : (L : GroupLaws) (r : Reading) → IsSetting r.at → (s : Second) (i : Instr) → row_fits (VectorArithmetic r.family) (Vector r.first s r.vm) ≡ true → i.rs2 ≡ r.places.vs2 → r.places.vs2 < 32 → list_any is_bad_group (second_source s (operands_of r.family).vs2 i r.at) ≡ false → IsPlaced r (operands_of r.family).vs2 r.places.vs2
unfolding row_fits
placed-second L r k second.Vector i f e b h = placed L r k (operands_of r.family).vs2 r.places.vs2 b (subst (λ register. list_any is_bad_group (group_of (operands_of r.family).vs2 r.at register) ≡ false) e h)
placed-second L r k second.Fixed i f e b h = absent-placed r (operands_of r.family).vs2 r.places.vs2 f b

-- the rules of legality that are needed, over a class and a shape
pub record IsAccepted (class : Class) (shape : Shape) (i : Instr) (at : SettingView) : Type 0 where
  pub fits : row_fits class shape ≡ true
  pub destinations : list_any is_bad_group (destinations_as class i at) ≡ false
  pub sources : list_any is_bad_group (sources_as class shape i at) ≡ false
  pub begins : (not (nat_eq at.vstart 0) && begins_at_first class) ≡ false
  pub short_destinations : list_any is_too_long (destinations_as class i at) ≡ false
  pub short_sources : list_any is_too_long (sources_as class shape i at) ≡ false

some-is : {X : Type 0} (x y : X) → Some x ≡ Some y → x ≡ y
some-is x y h = cc

none-some : {X : Type 0} (y : X) → None ≡ Some y → ⊥
none-some y h = cc

start-is : (n : ℕ) (b : Bool) → (not (nat_eq n 0) && b) ≡ false → b ≡ true → n ≡ 0
start-is n b h e =
    ⊎_elim
    (λ f. eqb-true n 0 (not-false (nat_eq n 0) f))
    (λ f. absurd (true≢false (sym e ∙ f)))
    (and_cases (not (nat_eq n 0)) b h)

sound-reading : (L : GroupLaws) → (family : Family) (f : First) (s : Second) (v : Vm) (op : Op) (at : SettingView) (places : Places) (words : List ℕ) → IsSetting at → places.vd < 32 → places.vs1 < 32 → places.vs2 < 32 → IsAccepted (VectorArithmetic family) (Vector f s v) (instr_at op places) at → length words ≡ words_of_all at.vlen → IsSound (record { family = family; first = f; vm = v; at = at; places = places; words = words })
sound-reading L family f s v op at places words k vd vs1 vs2 h count =
    let r : Reading = record { family = family; first = f; vm = v; at = at; places = places; words = words } in
    let i = instr_at op places in
    let parts = or_parts (list_any is_bad_group (second_source s (operands_of family).vs2 i at)) (list_any is_bad_group (first_source f (operands_of family).vs1 i at)) (sym (list_any-append is_bad_group (second_source s (operands_of family).vs2 i at) (first_source f (operands_of family).vs1 i at)) ∙ h.sources) in
    record {
      setting = k;
      count = count;
      destination = placed L r k (operands_of family).destination places.vd vd h.destinations;
      vs2 = placed-second L r k s i h.fits refl vs2 parts.0;
      vs1 = placed-first L r k f i refl vs1 parts.1;
      start = start-is at.vstart (begins_at_first (VectorArithmetic family)) h.begins;
    }

sound-as : (L : GroupLaws) (class : Class) (shape : Shape) (op : Op) (at : SettingView) (places : Places) (words : List ℕ) (r : Reading) → IsSetting at → places.vd < 32 → places.vs1 < 32 → places.vs2 < 32 → IsAccepted class shape (instr_at op places) at → length words ≡ words_of_all at.vlen → reading_as class shape at places words ≡ Some r → IsSound r
sound-as L (VectorArithmetic family) (Vector f s v) op at places words r k vd vs1 vs2 h count e =
    subst IsSound (some-is _ r e) (sound-reading L family f s v op at places words k vd vs1 vs2 h count)
sound-as L class shape op at places words r k vd vs1 vs2 h count e = absurd (none-some r e)

pub accepted : (i : Instr) (at : SettingView) → is_illegal i at ≡ false → row_fits (class_of i.op) (shape_of i.op) ≡ true → IsAccepted (class_of i.op) (shape_of i.op) i at
accepted i at h f =
    let a = or_parts (lacks_configuration i at || has_bad_group i at || has_long_segment i at || overwrites_mask i at || overlaps_badly i at || meets_source i at || begins_late i at) (is_too_wide i at) h in
    let b = or_parts (lacks_configuration i at || has_bad_group i at || has_long_segment i at || overwrites_mask i at || overlaps_badly i at || meets_source i at) (begins_late i at) a.0 in
    let c = or_parts (lacks_configuration i at || has_bad_group i at || has_long_segment i at || overwrites_mask i at || overlaps_badly i at) (meets_source i at) b.0 in
    let d = or_parts (lacks_configuration i at || has_bad_group i at || has_long_segment i at || overwrites_mask i at) (overlaps_badly i at) c.0 in
    let e = or_parts (lacks_configuration i at || has_bad_group i at || has_long_segment i at) (overwrites_mask i at) d.0 in
    let g = or_parts (lacks_configuration i at || has_bad_group i at) (has_long_segment i at) e.0 in
    let k = or_parts (lacks_configuration i at) (has_bad_group i at) g.0 in
    let groups = or_parts (list_any is_bad_group (destinations_as (class_of i.op) i at)) (list_any is_bad_group (sources_as (class_of i.op) (shape_of i.op) i at)) k.1 in
    let short = or_parts (list_any is_too_long (destinations_as (class_of i.op) i at)) (list_any is_too_long (sources_as (class_of i.op) (shape_of i.op) i at)) g.1 in
    record {
      fits = f;
      destinations = groups.0;
      sources = groups.1;
      begins = b.1;
      short_destinations = short.0;
      short_sources = short.1;
    }

pub legal-sound : (L : GroupLaws) (op : Op) (at : SettingView) (places : Places) (words : List ℕ) (r : Reading) → IsLegal op at places → length words ≡ words_of_all at.vlen → reading_of op at places words ≡ Some r → IsSound r
legal-sound L op at places words r h count e =
    sound-as L (class_of op) (shape_of op) op at places words r h.setting h.vd h.vs1 h.vs2 (accepted (instr_at op places) at h.legal (row-fits op)) count e
