-- The parts of a word in each layout: the fixed bits, and the operands.
use Rattle.std.proofs.Common.{◌≡◌, ℕ, ◌+◌, ◌-◌, ◌*◌, ◌^◌, ◌<◌, zero, suc, ℤ, Bool, true, false, ◌==◌, ◌&&◌, if◌then◌else◌, ap, sym, subst, refl, ◌∙◌, bit_and, bit_or, arith}
use Rattle.std.proofs.lemmas.Bool.{eqb-true, and_parts}
use Rattle.std.proofs.lemmas.Nat.{or_disjoint}
use Rattle.std.specs.Int.Bits.{and_zero_r}
use Rattle.vx_base.specs.Numbers.{field}
use Rattle.vx_rows.specs.Layouts.{layout_of, bits_at, rd_mask, rs1_mask, rs2_mask, number_mask, vm_mask, operands_mask}
use Rattle.vx_rows.specs.declared.op.Op.{Op}
use Rattle.vx_rows.specs.declared.row.First.{First}
use Rattle.vx_rows.specs.declared.row.First.TheVariants as first
use Rattle.vx_rows.specs.declared.row.Layout.{Layout}
use Rattle.vx_rows.specs.declared.row.Nf.{Nf}
use Rattle.vx_rows.specs.declared.row.Nf.TheVariants.{Absent, Any, Registers}
use Rattle.vx_rows.specs.declared.row.Second.{Second}
use Rattle.vx_rows.specs.declared.row.Second.TheVariants as second
use Rattle.vx_rows.specs.declared.row.Shape.{Shape}
use Rattle.vx_rows.specs.declared.row.Shape.TheVariants as shape
use Rattle.vx_rows.specs.declared.row.Vm.{Vm}
use Rattle.vx_rows.specs.declared.row.Vm.TheVariants as vm
use Rattle.vx_decode.specs.Decoded.{register_at, number_of, vm_of, nf_of, with_operands}
use Rattle.vx_decode.specs.Encoded.{IsRegister, IsVm, IsNf, HasOperands, number_bits, vm_bits, operand_bits_of}
use Rattle.vx_decode.specs.declared.instr.Instr.{Instr}
use Rattle.vx_decode.proofs.Fields.{field-below}
use Rattle.vx_decode.proofs.Numbers.{in_word, number-parts, number-valid, number-same, number-within}
use Rattle.vx_decode.proofs.Rows.{IsRowNf}
use Rattle.vx_decode.proofs.Parts.{apart-within, and-sum, within-sum, halves, and-bits_at, within-bits_at, same-at}

-- the bits of nf, also where there is a row for each of its values
abbrev pub nf_place : Nf → ℕ
nf_place Absent = 0
nf_place Any = bits_at 29 3
nf_place Registers = bits_at 29 3

-- the places of the first few operands
abbrev pub to_rs1 : Layout → ℕ
to_rs1 l = rd_mask l + rs1_mask l

abbrev pub to_rs2 : Layout → ℕ
to_rs2 l = to_rs1 l + rs2_mask l

abbrev pub to_number : Layout → ℕ
to_number l = to_rs2 l + number_mask l.number

abbrev pub to_vm : Layout → ℕ
to_vm l = to_number l + vm_mask l.vm

abbrev pub places : Layout → ℕ
places l = to_vm l + nf_place l.nf

-- the other bits
abbrev pub fixed : Layout → ℕ
fixed l = bits_at 0 32 - places l

-- bits that are fixed in a row, and are no fixed bits of its operation
abbrev pub row_place : Nf → ℕ
row_place Absent = 0
row_place Any = 0
row_place Registers = bits_at 29 3

-- no two parts share a bit, and together they are a word
abbrev pub fits : Layout → Bool
fits l =
    (bit_and (rd_mask l) (rs1_mask l) == 0)
    && (bit_and (to_rs1 l) (rs2_mask l) == 0)
    && (bit_and (to_rs2 l) (number_mask l.number) == 0)
    && (bit_and (to_number l) (vm_mask l.vm) == 0)
    && (bit_and (to_vm l) (nf_place l.nf) == 0)
    && (bit_and (fixed l) (places l) == 0)
    && (bit_and (fixed l) (row_place l.nf) == 0)
    && (fixed l + places l == 0xffffffff)
    && (bits_at 0 32 - operands_mask l == fixed l + row_place l.nf)
    && in_word l.number

fits-vector : (f : First) (s : Second) (v : Vm) → fits (layout_of (shape.Vector f s v)) ≡ true
fits-vector first.Vector second.Vector vm.Any = refl
fits-vector first.Vector second.Vector v = refl
fits-vector first.Vector second.Fixed vm.Any = refl
fits-vector first.Vector second.Fixed v = refl
fits-vector first.Integer second.Vector vm.Any = refl
fits-vector first.Integer second.Vector v = refl
fits-vector first.Integer second.Fixed vm.Any = refl
fits-vector first.Integer second.Fixed v = refl
fits-vector first.Signed second.Vector vm.Any = refl
fits-vector first.Signed second.Vector v = refl
fits-vector first.Signed second.Fixed vm.Any = refl
fits-vector first.Signed second.Fixed v = refl
fits-vector first.Unsigned second.Vector vm.Any = refl
fits-vector first.Unsigned second.Vector v = refl
fits-vector first.Unsigned second.Fixed vm.Any = refl
fits-vector first.Unsigned second.Fixed v = refl
fits-vector first.Fixed second.Vector vm.Any = refl
fits-vector first.Fixed second.Vector v = refl
fits-vector first.Fixed second.Fixed vm.Any = refl
fits-vector first.Fixed second.Fixed v = refl

pub fits-shape : (s : Shape) → fits (layout_of s) ≡ true
fits-shape shape.Registers = refl
fits-shape shape.Immediate = refl
fits-shape shape.Shift = refl
fits-shape shape.ShiftWord = refl
fits-shape shape.Load = refl
fits-shape shape.Store = refl
fits-shape shape.Branch = refl
fits-shape shape.Upper = refl
fits-shape shape.Jump = refl
fits-shape shape.Fence = refl
fits-shape shape.Csr = refl
fits-shape shape.CsrNumber = refl
fits-shape shape.Fixed = refl
fits-shape shape.SetType = refl
fits-shape shape.SetNumber = refl
fits-shape shape.SetRegister = refl
fits-shape (shape.Vector f s v) = fits-vector f s v
fits-shape shape.UnitMemory = refl
fits-shape shape.WholeMemory = refl
fits-shape shape.MaskMemory = refl
fits-shape shape.StridedMemory = refl
fits-shape shape.IndexedMemory = refl

-- the parts of the test
pub record Fits (l : Layout) : Type 0 where
  pub rs1 : bit_and (rd_mask l) (rs1_mask l) ≡ 0
  pub rs2 : bit_and (to_rs1 l) (rs2_mask l) ≡ 0
  pub number : bit_and (to_rs2 l) (number_mask l.number) ≡ 0
  pub vm : bit_and (to_number l) (vm_mask l.vm) ≡ 0
  pub nf : bit_and (to_vm l) (nf_place l.nf) ≡ 0
  pub apart : bit_and (fixed l) (places l) ≡ 0
  pub row : bit_and (fixed l) (row_place l.nf) ≡ 0
  pub all : fixed l + places l ≡ 0xffffffff
  pub mask : bits_at 0 32 - operands_mask l ≡ fixed l + row_place l.nf
  pub in_word : in_word l.number ≡ true

pub fits-parts : (l : Layout) → fits l ≡ true → Fits l
fits-parts l t =
    let i = and_parts _ _ t in
    let h = and_parts _ _ i.0 in
    let g = and_parts _ _ h.0 in
    let f = and_parts _ _ g.0 in
    let e = and_parts _ _ f.0 in
    let d = and_parts _ _ e.0 in
    let c = and_parts _ _ d.0 in
    let b = and_parts _ _ c.0 in
    let a = and_parts _ _ b.0 in
    record {
      rs1 = eqb-true _ _ a.0;
      rs2 = eqb-true _ _ a.1;
      number = eqb-true _ _ b.1;
      vm = eqb-true _ _ c.1;
      nf = eqb-true _ _ d.1;
      apart = eqb-true _ _ e.1;
      row = eqb-true _ _ f.1;
      all = eqb-true _ _ g.1;
      mask = eqb-true _ _ h.1;
      in_word = i.1;
    }

-- ---- from a word

nothing : (n low : ℕ) → n ≡ 0 → 0 ≡ n * 2 ^ low
nothing n low is = rw is (omega arith)

register-parts : (has : Bool) (low w : ℕ) → bit_and w (if has then bits_at low 5 else 0) ≡ register_at low has w * 2 ^ low
register-parts true low w = and-bits_at w low 5
register-parts false low w = and_zero_r w ∙ nothing 0 low refl

vm_bit : (n : ℕ) → n < 2 → n * 2 ^ 25 ≡ (if n == 1 then 2 ^ 25 else 0)
vm_bit zero below = refl
vm_bit (suc zero) below = refl
vm_bit (suc (suc n)) below = absurd (omega arith)

vm-parts : (v : Vm) (w : ℕ) → bit_and w (vm_mask v) ≡ vm_bits v (vm_of v w)
vm-parts vm.Any w = and-bits_at w 25 1 ∙ vm_bit (field w 25 1) (field-below w 25 1)
vm-parts vm.Zero w = and_zero_r w
vm-parts vm.One w = and_zero_r w

nf-parts : (n : Nf) (w : ℕ) → bit_and w (nf_place n) ≡ nf_of n w * 2 ^ 29
nf-parts Absent w = and_zero_r w
nf-parts Any w = and-bits_at w 29 3
nf-parts Registers w = and-bits_at w 29 3

-- a word is its fixed bits and the bits of its operands
pub word-parts : (l : Layout) → Fits l → (op : Op) (w : ℕ) → bit_and w 0xffffffff ≡ w → w ≡ bit_and w (fixed l) + operand_bits_of l (with_operands w op l)
word-parts l f op w whole =
    let to_rs1_is : bit_and w (to_rs1 l) ≡ register_at 7 l.rd w * 2 ^ 7 + register_at 15 l.rs1 w * 2 ^ 15 =
    and-sum w (rd_mask l) (rs1_mask l) f.rs1 ∙ ap (λ x. x + bit_and w (rs1_mask l)) (register-parts l.rd 7 w) ∙ ap (λ x. register_at 7 l.rd w * 2 ^ 7 + x) (register-parts l.rs1 15 w) in
    let to_rs2_is : bit_and w (to_rs2 l) ≡ register_at 7 l.rd w * 2 ^ 7 + register_at 15 l.rs1 w * 2 ^ 15 + register_at 20 l.rs2 w * 2 ^ 20 =
    and-sum w (to_rs1 l) (rs2_mask l) f.rs2 ∙ ap (λ x. x + bit_and w (rs2_mask l)) to_rs1_is ∙ ap (λ x. register_at 7 l.rd w * 2 ^ 7 + register_at 15 l.rs1 w * 2 ^ 15 + x) (register-parts l.rs2 20 w) in
    let registers = register_at 7 l.rd w * 2 ^ 7 + register_at 15 l.rs1 w * 2 ^ 15 + register_at 20 l.rs2 w * 2 ^ 20 in
    let to_number_is : bit_and w (to_number l) ≡ registers + number_bits l.number (number_of l.number w) =
    and-sum w (to_rs2 l) (number_mask l.number) f.number ∙ ap (λ x. x + bit_and w (number_mask l.number)) to_rs2_is ∙ ap (λ x. registers + x) (number-parts l.number f.in_word w) in
    let to_vm_is : bit_and w (to_vm l) ≡ registers + number_bits l.number (number_of l.number w) + vm_bits l.vm (vm_of l.vm w) =
    and-sum w (to_number l) (vm_mask l.vm) f.vm ∙ ap (λ x. x + bit_and w (vm_mask l.vm)) to_number_is ∙ ap (λ x. registers + number_bits l.number (number_of l.number w) + x) (vm-parts l.vm w) in
    let places_are : bit_and w (places l) ≡ operand_bits_of l (with_operands w op l) =
    and-sum w (to_vm l) (nf_place l.nf) f.nf ∙ ap (λ x. x + bit_and w (nf_place l.nf)) to_vm_is ∙ ap (λ x. registers + number_bits l.number (number_of l.number w) + vm_bits l.vm (vm_of l.vm w) + x) (nf-parts l.nf w) in
    sym whole ∙ ap (bit_and w) (sym f.all) ∙ and-sum w (fixed l) (places l) f.apart ∙ ap (λ x. bit_and w (fixed l) + x) places_are

register-valid : (has : Bool) (low w : ℕ) → IsRegister has (register_at low has w)
register-valid true low w = field-below w low 5
register-valid false low w = refl

vm-valid : (v : Vm) (w : ℕ) → IsVm v (vm_of v w)
vm-valid vm.Any w = tt
vm-valid vm.Zero w = refl
vm-valid vm.One w = refl

nf-valid : (n : Nf) (w own : ℕ) → IsRowNf n own → bit_and w (row_place n) ≡ own * 2 ^ 29 → IsNf n (nf_of n w)
nf-valid Absent w own is same = refl
nf-valid Any w own is same = field-below w 29 3
nf-valid Registers w own is same = subst (IsNf Registers) (sym (same-at _ _ 29 (sym (and-bits_at w 29 3) ∙ same))) is

-- the operands of a word that has a row lie in their ranges
pub operands-valid : (l : Layout) → Fits l → (op : Op) (w own : ℕ) → IsRowNf l.nf own → bit_and w (row_place l.nf) ≡ own * 2 ^ 29 → HasOperands l (with_operands w op l)
operands-valid l f op w own is same =
    record {
      rd = register-valid l.rd 7 w;
      rs1 = register-valid l.rs1 15 w;
      rs2 = register-valid l.rs2 20 w;
      imm = number-valid l.number f.in_word w;
      vm = vm-valid l.vm w;
      nf = nf-valid l.nf w own is same;
    }

-- ---- from operands

register-within : (has : Bool) (low n : ℕ) → IsRegister has n → bit_and (n * 2 ^ low) (if has then bits_at low 5 else 0) ≡ n * 2 ^ low
register-within true low n is = within-bits_at n low 5 is
register-within false low n is = and_zero_r (n * 2 ^ low) ∙ nothing n low is

register-back : (has : Bool) (low n w : ℕ) → IsRegister has n → bit_and w (if has then bits_at low 5 else 0) ≡ n * 2 ^ low → register_at low has w ≡ n
register-back has low n w is same = same-at _ n low (sym (register-parts has low w) ∙ same)

vm-within : (v : Vm) (b : Bool) → bit_and (vm_bits v b) (vm_mask v) ≡ vm_bits v b
vm-within vm.Any true = refl
vm-within vm.Any false = refl
vm-within vm.Zero b = refl
vm-within vm.One b = refl

bit_back : (b : Bool) (n : ℕ) → n < 2 → n * 2 ^ 25 ≡ (if b then 2 ^ 25 else 0) → (n == 1) ≡ b
bit_back true zero below e = absurd (omega arith)
bit_back true (suc zero) below e = refl
bit_back true (suc (suc n)) below e = absurd (omega arith)
bit_back false zero below e = refl
bit_back false (suc n) below e = absurd (omega arith)

vm-back : (v : Vm) (b : Bool) (w : ℕ) → IsVm v b → bit_and w (vm_mask v) ≡ vm_bits v b → vm_of v w ≡ b
vm-back vm.Any b w is same = bit_back b (field w 25 1) (field-below w 25 1) (sym (and-bits_at w 25 1) ∙ same)
vm-back vm.Zero b w is same = sym is
vm-back vm.One b w is same = sym is

registers_below : (n : ℕ) → IsNf Registers n → n < 8
registers_below n is = omega arith

nf-within : (k : Nf) (n : ℕ) → IsNf k n → bit_and (n * 2 ^ 29) (nf_place k) ≡ n * 2 ^ 29
nf-within Absent n is = and_zero_r (n * 2 ^ 29) ∙ nothing n 29 is
nf-within Any n is = within-bits_at n 29 3 is
nf-within Registers n is = within-bits_at n 29 3 (registers_below n is)

nf-back : (k : Nf) (n w : ℕ) → IsNf k n → bit_and w (nf_place k) ≡ n * 2 ^ 29 → nf_of k w ≡ n
nf-back Absent n w is same = sym is
nf-back Any n w is same = same-at _ n 29 (sym (and-bits_at w 29 3) ∙ same)
nf-back Registers n w is same = same-at _ n 29 (sym (and-bits_at w 29 3) ∙ same)

-- nf as the row of an instruction has it
abbrev pub row_nf : Nf → ℕ → ℕ
row_nf Absent n = 0
row_nf Any n = 0
row_nf Registers n = n

pub row_nf-is : (k : Nf) (n : ℕ) → IsNf k n → IsRowNf k (row_nf k n)
row_nf-is Absent n is = refl
row_nf-is Any n is = refl
row_nf-is Registers n is = is

row-part : (k : Nf) (n w : ℕ) → bit_and w (nf_place k) ≡ n * 2 ^ 29 → bit_and w (row_place k) ≡ row_nf k n * 2 ^ 29
row-part Absent n w same = and_zero_r w
row-part Any n w same = and_zero_r w
row-part Registers n w same = same

abbrev instr_of : Op → (rd rs1 rs2 : ℕ) → ℤ → Bool → (nf : ℕ) → Instr
instr_of op rd rs1 rs2 imm vm nf = record { op = op; rd = rd; rs1 = rs1; rs2 = rs2; imm = imm; vm = vm; nf = nf }

same_instr : (i : Instr) (rd rs1 rs2 : ℕ) (imm : ℤ) (vm : Bool) (nf : ℕ) → rd ≡ i.rd → rs1 ≡ i.rs1 → rs2 ≡ i.rs2 → imm ≡ i.imm → vm ≡ i.vm → nf ≡ i.nf → instr_of i.op rd rs1 rs2 imm vm nf ≡ i
same_instr i rd rs1 rs2 imm vm nf e1 e2 e3 e4 e5 e6 =
    ap (λ x. instr_of i.op x rs1 rs2 imm vm nf) e1
    ∙ ap (λ x. instr_of i.op i.rd x rs2 imm vm nf) e2
    ∙ ap (λ x. instr_of i.op i.rd i.rs1 x imm vm nf) e3
    ∙ ap (λ x. instr_of i.op i.rd i.rs1 i.rs2 x vm nf) e4
    ∙ ap (λ x. instr_of i.op i.rd i.rs1 i.rs2 i.imm x nf) e5
    ∙ ap (instr_of i.op i.rd i.rs1 i.rs2 i.imm i.vm) e6

-- the word of fixed bits and operands has both
pub record Holds (l : Layout) (i : Instr) (bits w : ℕ) : Type 0 where
  pub fixed : bit_and w (fixed l) ≡ bits
  pub row : bit_and w (row_place l.nf) ≡ row_nf l.nf i.nf * 2 ^ 29
  pub operands : with_operands w i.op l ≡ i

-- the operands' bits joined by `|`
abbrev pub operands_or : Layout → Instr → ℕ
operands_or l i =
    bit_or (bit_or (bit_or (bit_or (bit_or (i.rd * 2 ^ 7) (i.rs1 * 2 ^ 15)) (i.rs2 * 2 ^ 20)) (number_bits l.number i.imm)) (vm_bits l.vm i.vm)) (i.nf * 2 ^ 29)

or_sum : (x y z m n : ℕ) → bit_and x m ≡ x → bit_and y n ≡ y → bit_and m n ≡ 0 → z ≡ x → bit_or z y ≡ x + y
or_sum x y z m n in_x in_y apart same = ap (λ u. bit_or u y) same ∙ or_disjoint x y (apart-within x y m n in_x in_y apart)

pub word-joined : (l : Layout) → Fits l → (i : Instr) → HasOperands l i → (bits : ℕ) → bit_and bits (fixed l) ≡ bits → bit_or bits (operands_or l i) ≡ bits + operand_bits_of l i
word-joined l f i h bits under =
    let rd = i.rd * 2 ^ 7 in
    let rs1 = i.rs1 * 2 ^ 15 in
    let rs2 = i.rs2 * 2 ^ 20 in
    let number = number_bits l.number i.imm in
    let vm = vm_bits l.vm i.vm in
    let nf = i.nf * 2 ^ 29 in
    let in_rd = register-within l.rd 7 i.rd h.rd in
    let in_rs1 = register-within l.rs1 15 i.rs1 h.rs1 in
    let in_rs2 = register-within l.rs2 20 i.rs2 h.rs2 in
    let in_number = number-within l.number i.imm in
    let in_vm = vm-within l.vm i.vm in
    let in_nf = nf-within l.nf i.nf h.nf in
    let sum_rs1 = within-sum rd rs1 (rd_mask l) (rs1_mask l) in_rd in_rs1 f.rs1 in
    let sum_rs2 = within-sum (rd + rs1) rs2 (to_rs1 l) (rs2_mask l) sum_rs1 in_rs2 f.rs2 in
    let sum_number = within-sum (rd + rs1 + rs2) number (to_rs2 l) (number_mask l.number) sum_rs2 in_number f.number in
    let sum_vm = within-sum (rd + rs1 + rs2 + number) vm (to_number l) (vm_mask l.vm) sum_number in_vm f.vm in
    let sum_nf = within-sum (rd + rs1 + rs2 + number + vm) nf (to_vm l) (nf_place l.nf) sum_vm in_nf f.nf in
    let or_rs1 = or_sum rd rs1 rd (rd_mask l) (rs1_mask l) in_rd in_rs1 f.rs1 refl in
    let or_rs2 = or_sum (rd + rs1) rs2 _ (to_rs1 l) (rs2_mask l) sum_rs1 in_rs2 f.rs2 or_rs1 in
    let or_number = or_sum (rd + rs1 + rs2) number _ (to_rs2 l) (number_mask l.number) sum_rs2 in_number f.number or_rs2 in
    let or_vm = or_sum (rd + rs1 + rs2 + number) vm _ (to_number l) (vm_mask l.vm) sum_number in_vm f.vm or_number in
    let or_nf = or_sum (rd + rs1 + rs2 + number + vm) nf _ (to_vm l) (nf_place l.nf) sum_vm in_nf f.nf or_vm in
    ap (bit_or bits) or_nf ∙ or_disjoint bits (operand_bits_of l i) (apart-within bits (operand_bits_of l i) (fixed l) (places l) under sum_nf f.apart)

pub word-holds : (l : Layout) → Fits l → (i : Instr) → HasOperands l i → (bits : ℕ) → bit_and bits (fixed l) ≡ bits → Holds l i bits (bits + operand_bits_of l i)
word-holds l f i h bits under =
    let rd = i.rd * 2 ^ 7 in
    let rs1 = i.rs1 * 2 ^ 15 in
    let rs2 = i.rs2 * 2 ^ 20 in
    let number = number_bits l.number i.imm in
    let vm = vm_bits l.vm i.vm in
    let nf = i.nf * 2 ^ 29 in
    let w = bits + operand_bits_of l i in
    let in_rd = register-within l.rd 7 i.rd h.rd in
    let in_rs1 = register-within l.rs1 15 i.rs1 h.rs1 in
    let in_rs2 = register-within l.rs2 20 i.rs2 h.rs2 in
    let in_number = number-within l.number i.imm in
    let in_vm = vm-within l.vm i.vm in
    let in_nf = nf-within l.nf i.nf h.nf in
    let sum_rs1 = within-sum rd rs1 (rd_mask l) (rs1_mask l) in_rd in_rs1 f.rs1 in
    let sum_rs2 = within-sum (rd + rs1) rs2 (to_rs1 l) (rs2_mask l) sum_rs1 in_rs2 f.rs2 in
    let sum_number = within-sum (rd + rs1 + rs2) number (to_rs2 l) (number_mask l.number) sum_rs2 in_number f.number in
    let sum_vm = within-sum (rd + rs1 + rs2 + number) vm (to_number l) (vm_mask l.vm) sum_number in_vm f.vm in
    let sum_nf = within-sum (rd + rs1 + rs2 + number + vm) nf (to_vm l) (nf_place l.nf) sum_vm in_nf f.nf in
    let all = within-sum bits (operand_bits_of l i) (fixed l) (places l) under sum_nf f.apart in
    let at_all = halves w bits (operand_bits_of l i) (fixed l) (places l) under sum_nf f.apart all in
    let at_nf = halves w (rd + rs1 + rs2 + number + vm) nf (to_vm l) (nf_place l.nf) sum_vm in_nf f.nf at_all.high in
    let at_vm = halves w (rd + rs1 + rs2 + number) vm (to_number l) (vm_mask l.vm) sum_number in_vm f.vm at_nf.low in
    let at_number = halves w (rd + rs1 + rs2) number (to_rs2 l) (number_mask l.number) sum_rs2 in_number f.number at_vm.low in
    let at_rs2 = halves w (rd + rs1) rs2 (to_rs1 l) (rs2_mask l) sum_rs1 in_rs2 f.rs2 at_number.low in
    let at_rs1 = halves w rd rs1 (rd_mask l) (rs1_mask l) in_rd in_rs1 f.rs1 at_rs2.low in
    let number_is : number_of l.number w ≡ i.imm =
    number-same l.number f.in_word _ _ (number-valid l.number f.in_word w) h.imm (sym (number-parts l.number f.in_word w) ∙ at_number.high) in
    record {
      fixed = at_all.low;
      row = row-part l.nf i.nf w at_nf.high;
      operands = same_instr i _ _ _ _ _ _ (register-back l.rd 7 i.rd w h.rd at_rs1.low) (register-back l.rs1 15 i.rs1 w h.rs1 at_rs1.high) (register-back l.rs2 20 i.rs2 w h.rs2 at_rs2.high) number_is (vm-back l.vm i.vm w h.vm at_vm.high) (nf-back l.nf i.nf w h.nf at_nf.high);
    }
