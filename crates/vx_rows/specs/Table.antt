-- The table of rows, and what it says of an operation and of a word: RISC-V Unprivileged ISA 20191213, chapter 24
-- (instruction listings), and RISC-V "V" 1.0, sections 7 and 10.
use Rattle.std.specs.Prelude.{◌≡◌, ℕ, ◌+◌, ◌*◌, ◌^◌, Bool, List, [], ◌∷◌, ◌++◌, map, flat_map, ◌==◌, IsTrue, bit_and, Option, Some, find, slice_get, Contains}
use Rattle.vx_rows.specs.declared.op.Op.{Op}
use Rattle.vx_rows.specs.declared.op.Op.TheVariants.{Scalar, Set, Elem, Widen, Fixed, Mask, Perm, Memory}
use Rattle.vx_rows.specs.declared.op.ScalarOp.{ScalarOp}
use Rattle.vx_rows.specs.declared.op.ScalarOp.TheVariants.{Lui, Auipc, Jal, Jalr, Beq, Bne, Blt, Bge, Bltu, Bgeu, Lb, Lh, Lw, Ld, Lbu, Lhu, Lwu, Sb, Sh, Sw, Sd, Addi, Slti, Sltiu, Xori, Ori, Andi, Slli, Srli, Srai, Addiw, Slliw, Srliw, Sraiw, Add, Sub, Sll, Slt, Sltu, Xor, Srl, Sra, Or, And, Mul, Mulh, Mulhsu, Mulhu, Div, Divu, Rem, Remu, Addw, Subw, Sllw, Srlw, Sraw, Mulw, Divw, Divuw, Remw, Remuw, Fence, Ecall, Ebreak, Csrrw, Csrrs, Csrrc, Csrrwi, Csrrsi, Csrrci}
use Rattle.vx_rows.specs.declared.op.SetOp.{SetOp}
use Rattle.vx_rows.specs.declared.op.SetOp.TheVariants.{Vsetvli, Vsetivli, Vsetvl}
use Rattle.vx_rows.specs.declared.op.ElemOp.{ElemOp}
use Rattle.vx_rows.specs.declared.op.ElemOp.TheVariants.{VaddVv, VaddVx, VaddVi, VsubVv, VsubVx, VrsubVx, VrsubVi, VminuVv, VminuVx, VminVv, VminVx, VmaxuVv, VmaxuVx, VmaxVv, VmaxVx, VandVv, VandVx, VandVi, VorVv, VorVx, VorVi, VxorVv, VxorVx, VxorVi, VmergeVvm, VmergeVxm, VmergeVim, VmvVV, VmvVX, VmvVI, VsllVv, VsllVx, VsllVi, VsrlVv, VsrlVx, VsrlVi, VsraVv, VsraVx, VsraVi, Vmv1rV, Vmv2rV, Vmv4rV, Vmv8rV, VzextVf8, VsextVf8, VzextVf4, VsextVf4, VzextVf2, VsextVf2, VdivuVv, VdivuVx, VdivVv, VdivVx, VremuVv, VremuVx, VremVv, VremVx, VmulhuVv, VmulhuVx, VmulVv, VmulVx, VmulhsuVv, VmulhsuVx, VmulhVv, VmulhVx, VmaddVv, VmaddVx, VnmsubVv, VnmsubVx, VmaccVv, VmaccVx, VnmsacVv, VnmsacVx}
use Rattle.vx_rows.specs.declared.op.WidenOp.{WidenOp}
use Rattle.vx_rows.specs.declared.op.WidenOp.TheVariants.{VadcVvm, VadcVxm, VadcVim, VmadcVvm, VmadcVxm, VmadcVim, VmadcVv, VmadcVx, VmadcVi, VsbcVvm, VsbcVxm, VmsbcVvm, VmsbcVxm, VmsbcVv, VmsbcVx, VmseqVv, VmseqVx, VmseqVi, VmsneVv, VmsneVx, VmsneVi, VmsltuVv, VmsltuVx, VmsltVv, VmsltVx, VmsleuVv, VmsleuVx, VmsleuVi, VmsleVv, VmsleVx, VmsleVi, VmsgtuVx, VmsgtuVi, VmsgtVx, VmsgtVi, VnsrlWv, VnsrlWx, VnsrlWi, VnsraWv, VnsraWx, VnsraWi, VwadduVv, VwadduVx, VwaddVv, VwaddVx, VwsubuVv, VwsubuVx, VwsubVv, VwsubVx, VwadduWv, VwadduWx, VwaddWv, VwaddWx, VwsubuWv, VwsubuWx, VwsubWv, VwsubWx, VwmuluVv, VwmuluVx, VwmulsuVv, VwmulsuVx, VwmulVv, VwmulVx, VwmaccuVv, VwmaccuVx, VwmaccVv, VwmaccVx, VwmaccusVx, VwmaccsuVv, VwmaccsuVx}
use Rattle.vx_rows.specs.declared.op.FixedOp.{FixedOp}
use Rattle.vx_rows.specs.declared.op.FixedOp.TheVariants.{VsadduVv, VsadduVx, VsadduVi, VsaddVv, VsaddVx, VsaddVi, VssubuVv, VssubuVx, VssubVv, VssubVx, VsmulVv, VsmulVx, VssrlVv, VssrlVx, VssrlVi, VssraVv, VssraVx, VssraVi, VnclipuWv, VnclipuWx, VnclipuWi, VnclipWv, VnclipWx, VnclipWi, VaadduVv, VaadduVx, VaaddVv, VaaddVx, VasubuVv, VasubuVx, VasubVv, VasubVx}
use Rattle.vx_rows.specs.declared.op.MaskOp.{MaskOp}
use Rattle.vx_rows.specs.declared.op.MaskOp.TheVariants.{VredsumVs, VredandVs, VredorVs, VredxorVs, VredminuVs, VredminVs, VredmaxuVs, VredmaxVs, VwredsumuVs, VwredsumVs, VmvXS, VcpopM, VfirstM, VmsbfM, VmsofM, VmsifM, ViotaM, VidV, VmandnMm, VmandMm, VmorMm, VmxorMm, VmornMm, VmnandMm, VmnorMm, VmxnorMm}
use Rattle.vx_rows.specs.declared.op.PermOp.{PermOp}
use Rattle.vx_rows.specs.declared.op.PermOp.TheVariants.{VrgatherVv, VrgatherVx, VrgatherVi, Vrgatherei16Vv, VslideupVx, VslideupVi, VslidedownVx, VslidedownVi, Vslide1upVx, Vslide1downVx, VmvSX, VcompressVm}
use Rattle.vx_rows.specs.declared.op.MemoryOp.{MemoryOp}
use Rattle.vx_rows.specs.declared.op.MemoryOp.TheVariants.{Vle8, Vle16, Vle32, Vle64, Vse8, Vse16, Vse32, Vse64, Vlre8, Vlre16, Vlre32, Vlre64, Vsr, Vlm, Vsm, Vle8ff, Vle16ff, Vle32ff, Vle64ff, Vluxei8, Vluxei16, Vluxei32, Vluxei64, Vsuxei8, Vsuxei16, Vsuxei32, Vsuxei64, Vlse8, Vlse16, Vlse32, Vlse64, Vsse8, Vsse16, Vsse32, Vsse64, Vloxei8, Vloxei16, Vloxei32, Vloxei64, Vsoxei8, Vsoxei16, Vsoxei32, Vsoxei64}
use Rattle.vx_rows.specs.declared.line.Line as declared
use Rattle.vx_rows.specs.declared.row.Class.{Class}
use Rattle.vx_rows.specs.declared.row.Row.{Row}
use Rattle.vx_rows.specs.declared.row.Shape.{Shape}
use Rattle.vx_rows.specs.Layouts.{layout_of, mask_of, row_nfs}
use Rattle.vx_rows.specs.Lines.{Line, scalar_line, set_line, elem_line, widen_line, fixed_line, mask_line, perm_line, memory_line, spelled}

-- the line of an operation
abbrev pub line_of : Op → Line
line_of (Scalar op) = scalar_line op
line_of (Set op) = set_line op
line_of (Elem op) = elem_line op
line_of (Widen op) = widen_line op
line_of (Fixed op) = fixed_line op
line_of (Mask op) = mask_line op
line_of (Perm op) = perm_line op
line_of (Memory op) = memory_line op

abbrev pub bits_of : Op → ℕ
bits_of op = (line_of op).bits

-- where an operation's operands stand
abbrev pub shape_of : Op → Shape
shape_of op = (line_of op).shape

-- how the flat machine goes on at an operation
abbrev pub class_of : Op → Class
class_of op = (line_of op).class

-- what the code's line of an operation says
abbrev pub kept_line : Op → declared.Line
kept_line op = record { bits = bits_of op; shape = shape_of op; class = class_of op }

-- the bytes of an operation's mnemonic in a row with this field nf, which plays no part but in a vector load or store
abbrev pub mnemonic : Op → (nf : ℕ) → List ℕ
mnemonic op nf = spelled (line_of op).mnemonic nf

-- the row of an operation with a field nf
abbrev pub row_with : Op → (nf : ℕ) → Row
row_with op nf =
    record { op = op; mask = mask_of (shape_of op); value = bits_of op + nf * 2 ^ 29; shape = shape_of op; class = class_of op }

-- the rows of an operation
abbrev pub rows_of : Op → List Row
rows_of op = map (row_with op) (row_nfs (layout_of (shape_of op)).nf)

-- all operations of each part
abbrev pub scalar_operations : List ScalarOp
scalar_operations =
    Lui ∷ Auipc ∷ Jal ∷ Jalr ∷ Beq ∷ Bne ∷ Blt ∷ Bge ∷ Bltu ∷ Bgeu ∷ Lb ∷ Lh ∷ Lw ∷ Ld ∷ Lbu ∷ Lhu ∷ Lwu ∷ Sb ∷ Sh ∷
    Sw ∷ Sd ∷ Addi ∷ Slti ∷ Sltiu ∷ Xori ∷ Ori ∷ Andi ∷ Slli ∷ Srli ∷ Srai ∷ Addiw ∷ Slliw ∷ Srliw ∷ Sraiw ∷ Add ∷ Sub
    ∷ Sll ∷ Slt ∷ Sltu ∷ Xor ∷ Srl ∷ Sra ∷ Or ∷ And ∷ Mul ∷ Mulh ∷ Mulhsu ∷ Mulhu ∷ Div ∷ Divu ∷ Rem ∷ Remu ∷ Addw ∷
    Subw ∷ Sllw ∷ Srlw ∷ Sraw ∷ Mulw ∷ Divw ∷ Divuw ∷ Remw ∷ Remuw ∷ Fence ∷ Ecall ∷ Ebreak ∷ Csrrw ∷ Csrrs ∷ Csrrc ∷
    Csrrwi ∷ Csrrsi ∷ Csrrci ∷ []

abbrev pub set_operations : List SetOp
set_operations =
    Vsetvli ∷ Vsetivli ∷ Vsetvl ∷ []

abbrev pub elem_operations : List ElemOp
elem_operations =
    VaddVv ∷ VaddVx ∷ VaddVi ∷ VsubVv ∷ VsubVx ∷ VrsubVx ∷ VrsubVi ∷ VminuVv ∷ VminuVx ∷ VminVv ∷ VminVx ∷ VmaxuVv ∷
    VmaxuVx ∷ VmaxVv ∷ VmaxVx ∷ VandVv ∷ VandVx ∷ VandVi ∷ VorVv ∷ VorVx ∷ VorVi ∷ VxorVv ∷ VxorVx ∷ VxorVi ∷
    VmergeVvm ∷ VmergeVxm ∷ VmergeVim ∷ VmvVV ∷ VmvVX ∷ VmvVI ∷ VsllVv ∷ VsllVx ∷ VsllVi ∷ VsrlVv ∷ VsrlVx ∷ VsrlVi ∷
    VsraVv ∷ VsraVx ∷ VsraVi ∷ Vmv1rV ∷ Vmv2rV ∷ Vmv4rV ∷ Vmv8rV ∷ VzextVf8 ∷ VsextVf8 ∷ VzextVf4 ∷ VsextVf4 ∷
    VzextVf2 ∷ VsextVf2 ∷ VdivuVv ∷ VdivuVx ∷ VdivVv ∷ VdivVx ∷ VremuVv ∷ VremuVx ∷ VremVv ∷ VremVx ∷ VmulhuVv ∷
    VmulhuVx ∷ VmulVv ∷ VmulVx ∷ VmulhsuVv ∷ VmulhsuVx ∷ VmulhVv ∷ VmulhVx ∷ VmaddVv ∷ VmaddVx ∷ VnmsubVv ∷ VnmsubVx ∷
    VmaccVv ∷ VmaccVx ∷ VnmsacVv ∷ VnmsacVx ∷ []

abbrev pub widen_operations : List WidenOp
widen_operations =
    VadcVvm ∷ VadcVxm ∷ VadcVim ∷ VmadcVvm ∷ VmadcVxm ∷ VmadcVim ∷ VmadcVv ∷ VmadcVx ∷ VmadcVi ∷ VsbcVvm ∷ VsbcVxm ∷
    VmsbcVvm ∷ VmsbcVxm ∷ VmsbcVv ∷ VmsbcVx ∷ VmseqVv ∷ VmseqVx ∷ VmseqVi ∷ VmsneVv ∷ VmsneVx ∷ VmsneVi ∷ VmsltuVv ∷
    VmsltuVx ∷ VmsltVv ∷ VmsltVx ∷ VmsleuVv ∷ VmsleuVx ∷ VmsleuVi ∷ VmsleVv ∷ VmsleVx ∷ VmsleVi ∷ VmsgtuVx ∷ VmsgtuVi
    ∷ VmsgtVx ∷ VmsgtVi ∷ VnsrlWv ∷ VnsrlWx ∷ VnsrlWi ∷ VnsraWv ∷ VnsraWx ∷ VnsraWi ∷ VwadduVv ∷ VwadduVx ∷ VwaddVv ∷
    VwaddVx ∷ VwsubuVv ∷ VwsubuVx ∷ VwsubVv ∷ VwsubVx ∷ VwadduWv ∷ VwadduWx ∷ VwaddWv ∷ VwaddWx ∷ VwsubuWv ∷ VwsubuWx
    ∷ VwsubWv ∷ VwsubWx ∷ VwmuluVv ∷ VwmuluVx ∷ VwmulsuVv ∷ VwmulsuVx ∷ VwmulVv ∷ VwmulVx ∷ VwmaccuVv ∷ VwmaccuVx ∷
    VwmaccVv ∷ VwmaccVx ∷ VwmaccusVx ∷ VwmaccsuVv ∷ VwmaccsuVx ∷ []

abbrev pub fixed_operations : List FixedOp
fixed_operations =
    VsadduVv ∷ VsadduVx ∷ VsadduVi ∷ VsaddVv ∷ VsaddVx ∷ VsaddVi ∷ VssubuVv ∷ VssubuVx ∷ VssubVv ∷ VssubVx ∷ VsmulVv ∷
    VsmulVx ∷ VssrlVv ∷ VssrlVx ∷ VssrlVi ∷ VssraVv ∷ VssraVx ∷ VssraVi ∷ VnclipuWv ∷ VnclipuWx ∷ VnclipuWi ∷ VnclipWv
    ∷ VnclipWx ∷ VnclipWi ∷ VaadduVv ∷ VaadduVx ∷ VaaddVv ∷ VaaddVx ∷ VasubuVv ∷ VasubuVx ∷ VasubVv ∷ VasubVx ∷ []

abbrev pub mask_operations : List MaskOp
mask_operations =
    VredsumVs ∷ VredandVs ∷ VredorVs ∷ VredxorVs ∷ VredminuVs ∷ VredminVs ∷ VredmaxuVs ∷ VredmaxVs ∷ VwredsumuVs ∷
    VwredsumVs ∷ VmvXS ∷ VcpopM ∷ VfirstM ∷ VmsbfM ∷ VmsofM ∷ VmsifM ∷ ViotaM ∷ VidV ∷ VmandnMm ∷ VmandMm ∷ VmorMm ∷
    VmxorMm ∷ VmornMm ∷ VmnandMm ∷ VmnorMm ∷ VmxnorMm ∷ []

abbrev pub perm_operations : List PermOp
perm_operations =
    VrgatherVv ∷ VrgatherVx ∷ VrgatherVi ∷ Vrgatherei16Vv ∷ VslideupVx ∷ VslideupVi ∷ VslidedownVx ∷ VslidedownVi ∷
    Vslide1upVx ∷ Vslide1downVx ∷ VmvSX ∷ VcompressVm ∷ []

abbrev pub memory_operations : List MemoryOp
memory_operations =
    Vle8 ∷ Vle16 ∷ Vle32 ∷ Vle64 ∷ Vse8 ∷ Vse16 ∷ Vse32 ∷ Vse64 ∷ Vlm ∷ Vsm ∷ Vle8ff ∷ Vle16ff ∷ Vle32ff ∷ Vle64ff ∷
    Vluxei8 ∷ Vluxei16 ∷ Vluxei32 ∷ Vluxei64 ∷ Vsuxei8 ∷ Vsuxei16 ∷ Vsuxei32 ∷ Vsuxei64 ∷ Vlse8 ∷ Vlse16 ∷ Vlse32 ∷
    Vlse64 ∷ Vsse8 ∷ Vsse16 ∷ Vsse32 ∷ Vsse64 ∷ Vloxei8 ∷ Vloxei16 ∷ Vloxei32 ∷ Vloxei64 ∷ Vsoxei8 ∷ Vsoxei16 ∷
    Vsoxei32 ∷ Vsoxei64 ∷ Vlre8 ∷ Vlre16 ∷ Vlre32 ∷ Vlre64 ∷ Vsr ∷ []

-- all operations
unfoldable pub operations : List Op
operations =
    map Scalar scalar_operations
    ++ map Set set_operations
    ++ map Elem elem_operations
    ++ map Widen widen_operations
    ++ map Fixed fixed_operations
    ++ map Mask mask_operations
    ++ map Perm perm_operations
    ++ map Memory memory_operations

-- the mnemonics of each vector load or store, by the field nf
abbrev pub all_memory_names : List (List (List ℕ))
all_memory_names = map (λ op. map (mnemonic (Memory op)) (0 ∷ 1 ∷ 2 ∷ 3 ∷ 4 ∷ 5 ∷ 6 ∷ 7 ∷ [])) memory_operations

-- all rows
abbrev pub table : List Row
table = flat_map rows_of operations

-- the word has the row's fixed bits
abbrev pub has_bits_of : ℕ → Row → Bool
has_bits_of word r = bit_and word r.mask == r.value

-- the row that a word means, where it means one
abbrev pub row_of : ℕ → Option Row
row_of word = find (has_bits_of word) table

-- a word that has the fixed bits of the rows at two places has them twice at one
abbrev pub FitsOneAtMost : List Row → Type 0
FitsOneAtMost rows = (word i j : ℕ) (r s : Row) → slice_get rows i ≡ Some r → slice_get rows j ≡ Some s → IsTrue (has_bits_of word r) → IsTrue (has_bits_of word s) → i ≡ j

-- a word with the fixed bits of a row of an operation means that row
abbrev pub HasItsRows : List Row → Type 0
HasItsRows rows = (word : ℕ) (op : Op) (r : Row) → Contains (rows_of op) r → IsTrue (has_bits_of word r) → find (has_bits_of word) rows ≡ Some r
