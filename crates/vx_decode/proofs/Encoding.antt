-- A word and its instruction.
use Rattle.std.proofs.Common.{◌≡◌, ℕ, ◌+◌, ◌*◌, ◌^◌, ◌<◌, inl, inr, Bool, true, false, map, Option, Some, None, option_map, Contains, ap, sym, subst, refl, ◌∙◌, bit_and, bit_or, ◌%◌, arith, lit<, lit≤}
use Rattle.std.proofs.lemmas.Bool.{eqb-true, eq-eqb}
use Rattle.std.proofs.lemmas.Nat.{shl_whole}
use Rattle.vx_rows.specs.Layouts.{layout_of, mask_of, row_nfs}
use Rattle.vx_rows.specs.Table.{bits_of, shape_of, row_with, table, has_bits_of, row_of, HasItsRows}
use Rattle.vx_rows.specs.declared.op.Op.{Op}
use Rattle.vx_rows.specs.declared.op.Op.TheVariants.{Scalar, Set, Elem, Widen, Fixed, Mask, Perm, Memory}
use Rattle.vx_rows.specs.declared.op.ScalarOp.TheVariants.{Lui}
use Rattle.vx_rows.specs.declared.op.SetOp.TheVariants.{Vsetvli}
use Rattle.vx_rows.specs.declared.op.ElemOp.TheVariants.{VaddVv}
use Rattle.vx_rows.specs.declared.op.WidenOp.TheVariants.{VadcVvm}
use Rattle.vx_rows.specs.declared.op.FixedOp.TheVariants.{VsadduVv}
use Rattle.vx_rows.specs.declared.op.MaskOp.TheVariants.{VredsumVs}
use Rattle.vx_rows.specs.declared.op.PermOp.TheVariants.{VrgatherVv}
use Rattle.vx_rows.specs.declared.op.MemoryOp.TheVariants.{Vle8}
use Rattle.vx_rows.specs.declared.row.Layout.{Layout}
use Rattle.vx_rows.specs.declared.row.Nf.{Nf}
use Rattle.vx_rows.specs.declared.row.Nf.TheVariants.{Absent, Any, Registers}
use Rattle.vx_rows.specs.declared.row.Row.{Row}
use Rattle.vx_decode.specs.Decoded.{decoded, with_operands}
use Rattle.vx_decode.specs.Encoded.{HasOperands, IsValid, IsNf, IsRegister, number_bits, vm_bits, operand_bits_of}
use Rattle.vx_decode.specs.declared.instr.Instr.{Instr}
use Rattle.vx_decode.proofs.Layouts.{Fits, fits-shape, fits-parts, fixed, row_place, row_nf, row_nf-is, word-parts, word-holds, word-joined, operands-valid}
use Rattle.vx_decode.proofs.Parts.{halves, within-bits_at, and-sum}
use Rattle.vx_decode.proofs.Rows.{IsRowNf, means, and_all}

-- the parts of a word of an operation
abbrev pub layout : Op → Layout
layout op = layout_of (shape_of op)

fit : (op : Op) → Fits (layout op)
fit op = fits-parts (layout op) (fits-shape (shape_of op))

-- an operation's fixed bits lie where no operand does
bits-fixed : (op : Op) → bit_and (bits_of op) (fixed (layout op)) ≡ bits_of op
bits-fixed (Scalar Lui) = refl
bits-fixed (Scalar op) = refl
bits-fixed (Set Vsetvli) = refl
bits-fixed (Set op) = refl
bits-fixed (Elem VaddVv) = refl
bits-fixed (Elem op) = refl
bits-fixed (Widen VadcVvm) = refl
bits-fixed (Widen op) = refl
bits-fixed (Fixed VsadduVv) = refl
bits-fixed (Fixed op) = refl
bits-fixed (Mask VredsumVs) = refl
bits-fixed (Mask op) = refl
bits-fixed (Perm VrgatherVv) = refl
bits-fixed (Perm op) = refl
bits-fixed (Memory Vle8) = refl
bits-fixed (Memory op) = refl

-- ---- the row of a word

registers-below : (n : ℕ) → IsNf Registers n → n < 8
registers-below n is = omega arith

nothing : (n : ℕ) → n ≡ 0 → 0 ≡ n * 2 ^ 29
nothing n is = rw is refl

nf-place : (k : Nf) (n : ℕ) → IsRowNf k n → bit_and (n * 2 ^ 29) (row_place k) ≡ n * 2 ^ 29
nf-place Absent n is = rw is refl
nf-place Any n is = rw is refl
nf-place Registers n is = within-bits_at n 29 3 (registers-below n is)

-- the parts of a row's bits
record HasBits (op : Op) (nf w : ℕ) : Type 0 where
  is_nf : IsRowNf (layout op).nf nf
  bits : bit_and w (fixed (layout op)) ≡ bits_of op
  own : bit_and w (row_place (layout op).nf) ≡ nf * 2 ^ 29

has-bits : (op : Op) (nf w : ℕ) → IsRowNf (layout op).nf nf → has_bits_of w (row_with op nf) ≡ true → HasBits op nf w
has-bits op nf w is has =
    let f = fit op in
    let all : bit_and w (fixed (layout op) + row_place (layout op).nf) ≡ bits_of op + nf * 2 ^ 29 = ap (bit_and w) (sym f.mask) ∙ eqb-true _ _ has in
    let h = halves w (bits_of op) (nf * 2 ^ 29) (fixed (layout op)) (row_place (layout op).nf) (bits-fixed op) (nf-place (layout op).nf nf is) f.row all in
    record { is_nf = is; bits = h.low; own = h.high }

has-row : (op : Op) (nf w : ℕ) → bit_and w (fixed (layout op)) ≡ bits_of op → bit_and w (row_place (layout op).nf) ≡ nf * 2 ^ 29 → has_bits_of w (row_with op nf) ≡ true
has-row op nf w bits own =
    let f = fit op in
    let all : bit_and w (mask_of (shape_of op)) ≡ bits_of op + nf * 2 ^ 29 =
    ap (bit_and w) f.mask ∙ and-sum w (fixed (layout op)) (row_place (layout op).nf) f.row ∙ ap (λ x. x + bit_and w (row_place (layout op).nf)) bits ∙ ap (λ x. bits_of op + x) own in
    eq-eqb _ _ all

-- an operation has a row with such a field nf
in-rows : (op : Op) (k : Nf) (n : ℕ) → IsRowNf k n → Contains (map (row_with op) (row_nfs k)) (row_with op n)
in-rows op Absent n is = (0, lit< tt, ap (row_with op) (sym is))
in-rows op Any n is = (0, lit< tt, ap (row_with op) (sym is))
in-rows op Registers n (inl is) = (0, lit< tt, ap (row_with op) (sym is))
in-rows op Registers n (inr (inl is)) = (1, lit< tt, ap (row_with op) (sym is))
in-rows op Registers n (inr (inr (inl is))) = (2, lit< tt, ap (row_with op) (sym is))
in-rows op Registers n (inr (inr (inr is))) = (3, lit< tt, ap (row_with op) (sym is))

-- ---- a word and its instruction

pub encoded-decodes : HasItsRows table → (i : Instr) → IsValid i → decoded (bits_of i.op + operand_bits_of (layout i.op) i) ≡ Some i
encoded-decodes law i valid =
    let op = i.op in
    let w = bits_of op + operand_bits_of (layout op) i in
    let h = word-holds (layout op) (fit op) i valid (bits_of op) (bits-fixed op) in
    let nf = row_nf (layout op).nf i.nf in
    let has : has_bits_of w (row_with op nf) ≡ true = has-row op nf w h.fixed h.row in
    let found : row_of w ≡ Some (row_with op nf) = law w op (row_with op nf) (in-rows op (layout op).nf nf (row_nf-is (layout op).nf i.nf valid.nf)) has in
    ap (option_map (λ (r : Row). with_operands w r.op (layout_of r.shape))) found ∙ ap Some h.operands

-- the word has the fixed bits of this operation, and its operands are those of i
record Meaning (word : ℕ) (i : Instr) : Type 0 where
  op : Op
  nf : ℕ
  bits : HasBits op nf word
  is : with_operands word op (layout op) ≡ i

meaning-of : (word : ℕ) (i : Instr) (o : Option Row) → row_of word ≡ o → option_map (λ (r : Row). with_operands word r.op (layout_of r.shape)) o ≡ Some i → Meaning word i
meaning-of word i None found e = cc
meaning-of word i (Some r) found e =
    let m = means word r found in
    let same : with_operands word r.op (layout_of r.shape) ≡ i = cc in
    let shape : r.shape ≡ shape_of r.op = ap (λ (s : Row). s.shape) m.row.is in
    record {
      op = r.op;
      nf = m.row.nf;
      bits = has-bits r.op m.row.nf word m.row.is_nf (subst (λ s. has_bits_of word s ≡ true) m.row.is m.has);
      is = ap (λ s. with_operands word r.op (layout_of s)) (sym shape) ∙ same;
    }

pub encoded-only : (word : ℕ) (i : Instr) → word < 2 ^ 32 → decoded word ≡ Some i → word ≡ bits_of i.op + operand_bits_of (layout i.op) i
encoded-only word i below e =
    let m = meaning-of word i (row_of word) refl e in
    let same : m.op ≡ i.op = ap (λ (j : Instr). j.op) m.is in
    word-parts (layout m.op) (fit m.op) m.op word (and_all word below)
    ∙ ap (λ x. x + operand_bits_of (layout m.op) (with_operands word m.op (layout m.op))) m.bits.bits
    ∙ ap (λ j. bits_of m.op + operand_bits_of (layout m.op) j) m.is
    ∙ ap (λ op. bits_of op + operand_bits_of (layout op) i) same

pub decoded-valid : (word : ℕ) (i : Instr) → decoded word ≡ Some i → IsValid i
decoded-valid word i e =
    let m = meaning-of word i (row_of word) refl e in
    let same : m.op ≡ i.op = ap (λ (j : Instr). j.op) m.is in
    let here : HasOperands (layout m.op) i = subst (HasOperands (layout m.op)) m.is (operands-valid (layout m.op) (fit m.op) m.op word m.nf m.bits.is_nf m.bits.own) in
    subst (λ op. HasOperands (layout op) i) same here

register-below : (has : Bool) (n : ℕ) → IsRegister has n → n < 32
register-below true n is = is
register-below false n is = omega arith

nf-below : (k : Nf) (n : ℕ) → IsNf k n → n < 8
nf-below Absent n is = omega arith
nf-below Any n is = is
nf-below Registers n is = registers-below n is

-- what the body of `encode` joins
pub encoded-joined : (i : Instr) → IsValid i → bit_or (bits_of i.op) (bit_or (bit_or (bit_or (bit_or (bit_or (i.rd * 128 % 4294967296) (i.rs1 * 32768 % 4294967296)) (i.rs2 * 1048576 % 4294967296)) (number_bits (layout i.op).number i.imm)) (vm_bits (layout i.op).vm i.vm)) (i.nf * 536870912 % 4294967296)) ≡ bits_of i.op + operand_bits_of (layout i.op) i
encoded-joined i valid =
    let l = layout i.op in
    let rd : i.rd * 128 % 4294967296 ≡ i.rd * 128 = shl_whole i.rd 5 7 32 (register-below l.rd i.rd valid.rd) (lit≤ tt) in
    let rs1 : i.rs1 * 32768 % 4294967296 ≡ i.rs1 * 32768 = shl_whole i.rs1 5 15 32 (register-below l.rs1 i.rs1 valid.rs1) (lit≤ tt) in
    let rs2 : i.rs2 * 1048576 % 4294967296 ≡ i.rs2 * 1048576 = shl_whole i.rs2 5 20 32 (register-below l.rs2 i.rs2 valid.rs2) (lit≤ tt) in
    let nf : i.nf * 536870912 % 4294967296 ≡ i.nf * 536870912 = shl_whole i.nf 3 29 32 (nf-below l.nf i.nf valid.nf) (lit≤ tt) in
    rw (rd, rs1, rs2, nf) (word-joined l (fit i.op) i valid (bits_of i.op) (bits-fixed i.op))
