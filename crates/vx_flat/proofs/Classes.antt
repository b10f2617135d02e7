-- What each operation does is what its class says.
use Rattle.std.proofs.Common.{ℕ, not, ◌==◌, nat_lt, bit_and, bit_or, bit_xor, refl}
use Rattle.vx_bits.specs.Arithmetic.{sum_at, difference_at, product_at, signed_high_at, unsigned_high_at, mixed_high_at, signed_quotient_at, unsigned_quotient_at, signed_remainder_at, unsigned_remainder_at, shifted_left_at, shifted_right_at, sign_shifted_right_at}
use Rattle.vx_rows.specs.Table.{class_of}
use Rattle.vx_rows.specs.declared.op.Op.{Op}
use Rattle.vx_rows.specs.declared.op.Op.TheVariants.{Scalar, Set, Elem, Widen, Fixed, Mask, Perm, Memory}
use Rattle.vx_rows.specs.declared.op.ScalarOp.{ScalarOp}
use Rattle.vx_rows.specs.declared.op.ScalarOp.TheVariants.{Lui, Auipc, Jal, Jalr, Beq, Bne, Blt, Bge, Bltu, Bgeu, Lb, Lh, Lw, Ld, Lbu, Lhu, Lwu, Sb, Sh, Sw, Sd, Addi, Slti, Sltiu, Xori, Ori, Andi, Slli, Srli, Srai, Addiw, Slliw, Srliw, Sraiw, Add, Sub, Sll, Slt, Sltu, Xor, Srl, Sra, Or, And, Mul, Mulh, Mulhsu, Mulhu, Div, Divu, Rem, Remu, Addw, Subw, Sllw, Srlw, Sraw, Mulw, Divw, Divuw, Remw, Remuw, Fence, Ecall, Ebreak, Csrrw, Csrrs, Csrrc, Csrrwi, Csrrsi, Csrrci}
use Rattle.vx_rows.specs.declared.op.SetOp.TheVariants.{Vsetvli}
use Rattle.vx_rows.specs.declared.op.ElemOp.TheVariants.{VaddVv}
use Rattle.vx_rows.specs.declared.op.WidenOp.TheVariants.{VadcVvm}
use Rattle.vx_rows.specs.declared.op.FixedOp.TheVariants.{VsadduVv}
use Rattle.vx_rows.specs.declared.op.MaskOp.TheVariants.{VredsumVs}
use Rattle.vx_rows.specs.declared.op.PermOp.TheVariants.{VrgatherVv}
use Rattle.vx_rows.specs.declared.op.MemoryOp.TheVariants.{Vle8}
use Rattle.vx_flat.specs.Classes.{Does}
use Rattle.vx_base.specs.Numbers.{truth}
use Rattle.vx_flat.specs.Scalar.{work, scalar_work, length_source, vtype_source, extended, upper, is_less, even, whole, sign_extended}
use Rattle.vx_flat.specs.declared.control.Change.TheVariants.{Replace, SetBits, ClearBits}
use Rattle.vx_flat.specs.declared.control.Source.TheVariants.{Register, Immediate}

scalar_does : (op : ScalarOp) (pc a b n : ℕ) → Does (class_of (Scalar op)) pc (scalar_work op pc a b n)
scalar_does Lui pc a b n = (upper n, refl)
scalar_does Auipc pc a b n = (sum_at 64 pc (upper n), refl)
scalar_does Jal pc a b n = (sum_at 64 pc n, refl)
scalar_does Jalr pc a b n = (even (sum_at 64 a n), refl)
scalar_does Beq pc a b n = (a == b, n, refl)
scalar_does Bne pc a b n = (not (a == b), n, refl)
scalar_does Blt pc a b n = (is_less a b, n, refl)
scalar_does Bge pc a b n = (not (is_less a b), n, refl)
scalar_does Bltu pc a b n = (nat_lt a b, n, refl)
scalar_does Bgeu pc a b n = (not (nat_lt a b), n, refl)
scalar_does Lb pc a b n = (1, sign_extended 8, refl)
scalar_does Lh pc a b n = (2, sign_extended 16, refl)
scalar_does Lw pc a b n = (4, sign_extended 32, refl)
scalar_does Ld pc a b n = (8, whole, refl)
scalar_does Lbu pc a b n = (1, whole, refl)
scalar_does Lhu pc a b n = (2, whole, refl)
scalar_does Lwu pc a b n = (4, whole, refl)
scalar_does Sb pc a b n = (1, refl)
scalar_does Sh pc a b n = (2, refl)
scalar_does Sw pc a b n = (4, refl)
scalar_does Sd pc a b n = (8, refl)
scalar_does Addi pc a b n = (sum_at 64 a n, refl)
scalar_does Slti pc a b n = (truth (is_less a n), refl)
scalar_does Sltiu pc a b n = (truth (nat_lt a n), refl)
scalar_does Xori pc a b n = (bit_xor a n, refl)
scalar_does Ori pc a b n = (bit_or a n, refl)
scalar_does Andi pc a b n = (bit_and a n, refl)
scalar_does Slli pc a b n = (shifted_left_at 64 a n, refl)
scalar_does Srli pc a b n = (shifted_right_at 64 a n, refl)
scalar_does Srai pc a b n = (sign_shifted_right_at 64 a n, refl)
scalar_does Addiw pc a b n = (extended (sum_at 32 a n), refl)
scalar_does Slliw pc a b n = (extended (shifted_left_at 32 a n), refl)
scalar_does Srliw pc a b n = (extended (shifted_right_at 32 a n), refl)
scalar_does Sraiw pc a b n = (extended (sign_shifted_right_at 32 a n), refl)
scalar_does Add pc a b n = (sum_at 64 a b, refl)
scalar_does Sub pc a b n = (difference_at 64 a b, refl)
scalar_does Sll pc a b n = (shifted_left_at 64 a b, refl)
scalar_does Slt pc a b n = (truth (is_less a b), refl)
scalar_does Sltu pc a b n = (truth (nat_lt a b), refl)
scalar_does Xor pc a b n = (bit_xor a b, refl)
scalar_does Srl pc a b n = (shifted_right_at 64 a b, refl)
scalar_does Sra pc a b n = (sign_shifted_right_at 64 a b, refl)
scalar_does Or pc a b n = (bit_or a b, refl)
scalar_does And pc a b n = (bit_and a b, refl)
scalar_does Mul pc a b n = (product_at 64 a b, refl)
scalar_does Mulh pc a b n = (signed_high_at 64 a b, refl)
scalar_does Mulhsu pc a b n = (mixed_high_at 64 a b, refl)
scalar_does Mulhu pc a b n = (unsigned_high_at 64 a b, refl)
scalar_does Div pc a b n = (signed_quotient_at 64 a b, refl)
scalar_does Divu pc a b n = (unsigned_quotient_at 64 a b, refl)
scalar_does Rem pc a b n = (signed_remainder_at 64 a b, refl)
scalar_does Remu pc a b n = (unsigned_remainder_at 64 a b, refl)
scalar_does Addw pc a b n = (extended (sum_at 32 a b), refl)
scalar_does Subw pc a b n = (extended (difference_at 32 a b), refl)
scalar_does Sllw pc a b n = (extended (shifted_left_at 32 a b), refl)
scalar_does Srlw pc a b n = (extended (shifted_right_at 32 a b), refl)
scalar_does Sraw pc a b n = (extended (sign_shifted_right_at 32 a b), refl)
scalar_does Mulw pc a b n = (extended (product_at 32 a b), refl)
scalar_does Divw pc a b n = (extended (signed_quotient_at 32 a b), refl)
scalar_does Divuw pc a b n = (extended (unsigned_quotient_at 32 a b), refl)
scalar_does Remw pc a b n = (extended (signed_remainder_at 32 a b), refl)
scalar_does Remuw pc a b n = (extended (unsigned_remainder_at 32 a b), refl)
scalar_does Fence pc a b n = refl
scalar_does Ecall pc a b n = refl
scalar_does Ebreak pc a b n = refl
scalar_does Csrrw pc a b n = (Register, Replace, refl)
scalar_does Csrrs pc a b n = (Register, SetBits, refl)
scalar_does Csrrc pc a b n = (Register, ClearBits, refl)
scalar_does Csrrwi pc a b n = (Immediate, Replace, refl)
scalar_does Csrrsi pc a b n = (Immediate, SetBits, refl)
scalar_does Csrrci pc a b n = (Immediate, ClearBits, refl)

pub does : (op : Op) (pc a b n : ℕ) → Does (class_of op) pc (work op pc a b n)
does (Scalar op) pc a b n = scalar_does op pc a b n
does (Set Vsetvli) pc a b n = (length_source Vsetvli, vtype_source Vsetvli, refl)
does (Set op) pc a b n = (length_source op, vtype_source op, refl)
does (Elem VaddVv) pc a b n = refl
does (Elem op) pc a b n = refl
does (Widen VadcVvm) pc a b n = refl
does (Widen op) pc a b n = refl
does (Fixed VsadduVv) pc a b n = refl
does (Fixed op) pc a b n = refl
does (Mask VredsumVs) pc a b n = refl
does (Mask op) pc a b n = refl
does (Perm VrgatherVv) pc a b n = refl
does (Perm op) pc a b n = refl
does (Memory Vle8) pc a b n = refl
does (Memory op) pc a b n = refl
