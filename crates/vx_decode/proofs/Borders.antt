-- Instructions at the borders of each rule of legality: beside one that is legal the nearest that isn't. RISC-V "V" 1.0, the
-- sections that the rules name.
use Rattle.std.proofs.Common.{◌≡◌, ℕ, Bool, true, false, not, List, [], ◌∷◌, map, refl}
use Rattle.vx_decode.specs.Legal.{is_illegal}
use Rattle.vx_decode.specs.declared.instr.Instr.{Instr}
use Rattle.std.specs.Prelude.{pos}
use Rattle.vx_rows.specs.declared.op.Op.{Op}
use Rattle.vx_rows.specs.declared.op.Op.TheVariants.{Set, Elem, Widen, Fixed, Mask, Perm, Memory}
use Rattle.vx_rows.specs.declared.op.SetOp.TheVariants.{Vsetvli}
use Rattle.vx_rows.specs.declared.op.ElemOp.TheVariants.{VaddVv, VmergeVvm, Vmv1rV, Vmv2rV, VzextVf2, VzextVf8, VmulVv, VmulhVv}
use Rattle.vx_rows.specs.declared.op.WidenOp.TheVariants.{VadcVvm, VmadcVvm, VmseqVv, VmsneVi, VnsrlWi, VwaddVv, VwmulVv}
use Rattle.vx_rows.specs.declared.op.FixedOp.TheVariants.{VsmulVv}
use Rattle.vx_rows.specs.declared.op.MaskOp.TheVariants.{VredsumVs, VwredsumVs, VmvXS, VcpopM, VfirstM, VmsbfM, VmsifM, VmsofM, ViotaM, VidV, VmandMm}
use Rattle.vx_rows.specs.declared.op.PermOp.TheVariants.{VrgatherVv, VrgatherVx, Vrgatherei16Vv, VslideupVx, VslidedownVx, Vslide1upVx, VmvSX, VcompressVm}
use Rattle.vx_rows.specs.declared.op.MemoryOp.TheVariants.{Vle8, Vle32, Vle64, Vse32, Vlre8, Vsr, Vlm, Vluxei8, Vluxei16, Vluxei32, Vluxei64}
use Rattle.vx_vstate.specs.State.{SettingView}
use Rattle.vx_vstate.specs.Vtype.{vill}

-- an instruction with its registers in the order of assembly, vd, vs2 and vs1; masked; and with nf
abbrev row : Op → (vd vs2 vs1 : ℕ) → Instr
row op vd vs2 vs1 = record { op = op; rd = vd; rs1 = vs1; rs2 = vs2; imm = pos 0; vm = true; nf = 0 }

abbrev masked : Instr → Instr
masked i = record i { vm = false }

-- a load or store of a segment of so many fields more than one, at indices from vs2 on where it has them
abbrev segment : (nf : ℕ) → Op → (vd vs2 : ℕ) → Instr
segment nf op vd vs2 = record { op = op; rd = vd; rs1 = 10; rs2 = vs2; imm = pos 0; vm = true; nf = nf }

abbrev under : (vtype vstart : ℕ) → SettingView
under vtype vstart = record { vlen = 128; vl = 1; vtype = vtype; vstart = vstart; vxrm = 0; scalar = 0 }

abbrev legal : (vtype : ℕ) → List Instr → List Bool
legal vtype = map (λ (i : Instr). not (is_illegal i (under vtype 0)))

-- the same with vstart 1
abbrev legal_later : (vtype : ℕ) → List Instr → List Bool
legal_later vtype = map (λ (i : Instr). not (is_illegal i (under vtype 1)))

-- vtype by SEW and LMUL
abbrev e8mf8 : ℕ
e8mf8 = 5

abbrev e8m1 : ℕ
e8m1 = 0

abbrev e8m2 : ℕ
e8m2 = 1

abbrev e8m4 : ℕ
e8m4 = 2

abbrev e8m8 : ℕ
e8m8 = 3

abbrev e16m1 : ℕ
e16m1 = 8

abbrev e32mf2 : ℕ
e32mf2 = 23

abbrev e32m1 : ℕ
e32m1 = 16

abbrev e32m2 : ℕ
e32m2 = 17

abbrev e32m4 : ℕ
e32m4 = 18

abbrev e32m8 : ℕ
e32m8 = 19

abbrev e64m1 : ℕ
e64m1 = 24

abbrev e64m8 : ℕ
e64m8 = 27

-- vill: a configuration, whole registers, and others
pub unconfigured : legal vill (
    row (Set Vsetvli) 1 0 0 ∷ segment 0 (Memory Vlre8) 1 0 ∷ segment 0 (Memory Vsr) 1 0 ∷ row (Elem Vmv1rV) 1 2 0
    ∷ row (Elem VaddVv) 1 2 3 ∷ segment 0 (Memory Vle8) 1 0 ∷ segment 0 (Memory Vlm) 1 0 ∷ row (Mask VmvXS) 1 2 0 ∷ [])
    ≡ true ∷ true ∷ true ∷ true ∷ false ∷ false ∷ false ∷ false ∷ []
unconfigured = refl

-- widths: a source of 8 and of 4 bits, a destination of 64 and of 128; a mask's isn't tested
pub narrow_64 : legal e64m1 (row (Elem VzextVf8) 1 2 0 ∷ row (Widen VwaddVv) 2 4 5 ∷ row (Mask VwredsumVs) 1 2 3 ∷ row (Mask VmandMm) 1 2 3 ∷ []) ≡ true ∷ false ∷ false ∷ true ∷ []
narrow_64 = refl

pub narrow_32 : legal e32m1 (row (Elem VzextVf8) 1 2 0 ∷ row (Widen VwaddVv) 2 4 5 ∷ row (Mask VwredsumVs) 1 2 3 ∷ []) ≡ false ∷ true ∷ true ∷ []
narrow_32 = refl

pub narrow_8 : legal e8m1 (row (Elem VzextVf2) 1 2 0 ∷ []) ≡ false ∷ []
narrow_8 = refl

pub narrow_16 : legal e16m1 (row (Elem VzextVf2) 1 2 0 ∷ []) ≡ true ∷ []
narrow_16 = refl

-- groups of 8 and of 16 registers, of 1/8, and of one from one of 1/8
pub many_m4 : legal e32m4 (row (Widen VwaddVv) 8 16 20 ∷ []) ≡ true ∷ []
many_m4 = refl

pub many_m8 : legal e32m8 (row (Widen VwaddVv) 8 16 24 ∷ row (Elem VaddVv) 8 16 24 ∷ []) ≡ false ∷ true ∷ []
many_m8 = refl

pub wide_m1 : legal e8m1 (segment 0 (Memory Vle64) 8 0 ∷ []) ≡ true ∷ []
wide_m1 = refl

pub wide_m2 : legal e8m2 (segment 0 (Memory Vle64) 8 0 ∷ []) ≡ false ∷ []
wide_m2 = refl

pub eighths : legal e8mf8 (row (Elem VaddVv) 1 2 3 ∷ segment 0 (Memory Vle64) 1 0 ∷ segment 0 (Memory Vle8) 1 0 ∷ []) ≡ true ∷ true ∷ true ∷ []
eighths = refl

pub eighth_of_m1 : legal e64m1 (segment 0 (Memory Vle8) 1 0 ∷ []) ≡ true ∷ []
eighth_of_m1 = refl

pub indices_m4 : legal e8m4 (row (Perm Vrgatherei16Vv) 4 8 16 ∷ []) ≡ true ∷ []
indices_m4 = refl

pub indices_m8 : legal e8m8 (row (Perm Vrgatherei16Vv) 8 16 24 ∷ row (Perm VrgatherVv) 8 16 24 ∷ []) ≡ false ∷ true ∷ []
indices_m8 = refl

-- first registers: of groups of two, of parts, of whole registers
pub even : legal e32m2 (
    row (Elem VaddVv) 2 4 6 ∷ row (Elem VaddVv) 3 4 6 ∷ row (Elem VaddVv) 2 5 6 ∷ row (Elem VaddVv) 2 4 7
    ∷ row (Elem Vmv2rV) 2 4 0 ∷ row (Elem Vmv2rV) 3 4 0 ∷ row (Elem Vmv1rV) 3 5 0 ∷ segment 1 (Memory Vlre8) 2 0 ∷ segment 1 (Memory Vlre8) 3 0 ∷ [])
    ≡ true ∷ false ∷ false ∷ false ∷ true ∷ false ∷ true ∷ true ∷ false ∷ []
even = refl

pub parts : legal e32mf2 (row (Elem VaddVv) 1 3 5 ∷ row (Widen VwaddVv) 1 3 5 ∷ []) ≡ true ∷ true ∷ []
parts = refl

-- masks, scalars of reductions and single elements take one register at any LMUL
pub single : legal e32m8 (
    row (Widen VmseqVv) 1 8 16 ∷ row (Mask VmandMm) 1 2 3 ∷ row (Mask VredsumVs) 1 8 3 ∷ row (Mask VredsumVs) 1 9 3
    ∷ row (Mask VmvXS) 1 3 0 ∷ row (Perm VmvSX) 3 0 1 ∷ segment 0 (Memory Vlm) 3 0 ∷ row (Mask ViotaM) 8 1 0 ∷ row (Mask ViotaM) 9 1 0 ∷ [])
    ≡ true ∷ true ∷ true ∷ false ∷ true ∷ true ∷ true ∷ true ∷ false ∷ []
single = refl

-- segments: of eight registers and of ten, to v31 and past it
pub long_m2 : legal e32m2 (segment 3 (Memory Vle32) 8 0 ∷ segment 4 (Memory Vle32) 8 0 ∷ segment 3 (Memory Vle32) 24 0 ∷ segment 3 (Memory Vle32) 26 0 ∷ []) ≡ true ∷ false ∷ true ∷ false ∷ []
long_m2 = refl

pub long_mf2 : legal e32mf2 (segment 7 (Memory Vle32) 24 0 ∷ segment 7 (Memory Vle32) 25 0 ∷ segment 1 (Memory Vse32) 30 0 ∷ segment 1 (Memory Vse32) 31 0 ∷ []) ≡ true ∷ false ∷ true ∷ false ∷ []
long_mf2 = refl

-- the mask, where a destination meets it
pub at_mask : legal e32m1 (
    row (Elem VaddVv) 0 2 4 ∷ masked (row (Elem VaddVv) 0 2 4) ∷ masked (row (Elem VaddVv) 1 2 4)
    ∷ masked (row (Widen VmseqVv) 0 2 4) ∷ masked (row (Widen VmadcVvm) 0 2 4) ∷ masked (row (Mask VredsumVs) 0 2 4)
    ∷ masked (row (Widen VadcVvm) 0 2 4) ∷ masked (row (Elem VmergeVvm) 0 2 4) ∷ masked (row (Mask VidV) 0 0 0)
    ∷ masked (row (Mask VcpopM) 0 2 0) ∷ masked (segment 0 (Memory Vle32) 0 0) ∷ masked (segment 0 (Memory Vse32) 0 0) ∷ [])
    ≡ true ∷ false ∷ true ∷ true ∷ true ∷ true ∷ false ∷ false ∷ false ∷ true ∷ false ∷ true ∷ []
at_mask = refl

-- a destination of another width than a source's: narrower, at its lowest part and at its highest; wider, with the source at
-- its highest part and at its lowest, and with a source of a part of a register
pub overlaps_m1 : legal e32m1 (
    row (Elem VaddVv) 2 2 2
    ∷ row (Widen VnsrlWi) 2 2 0 ∷ row (Widen VnsrlWi) 3 2 0 ∷ row (Widen VmsneVi) 2 2 0
    ∷ row (Widen VwaddVv) 2 3 4 ∷ row (Widen VwaddVv) 2 4 3 ∷ row (Widen VwaddVv) 2 2 4 ∷ row (Widen VwaddVv) 2 4 2
    ∷ segment 0 (Memory Vluxei64) 2 2 ∷ segment 0 (Memory Vluxei64) 3 2 ∷ segment 0 (Memory Vluxei32) 2 2 ∷ segment 0 (Memory Vluxei8) 2 2
    ∷ row (Mask VwredsumVs) 2 2 2 ∷ [])
    ≡ true ∷ true ∷ false ∷ true ∷ true ∷ true ∷ false ∷ false ∷ true ∷ false ∷ true ∷ false ∷ true ∷ []
overlaps_m1 = refl

pub overlaps_m2 : legal e32m2 (row (Widen VmseqVv) 2 2 4 ∷ row (Widen VmseqVv) 3 2 4 ∷ segment 0 (Memory Vluxei16) 2 3 ∷ segment 0 (Memory Vluxei16) 2 2 ∷ []) ≡ true ∷ false ∷ true ∷ false ∷ []
overlaps_m2 = refl

pub overlaps_mf2 : legal e32mf2 (row (Widen VwaddVv) 2 2 4 ∷ row (Widen VnsrlWi) 2 2 0 ∷ []) ≡ false ∷ true ∷ []
overlaps_mf2 = refl

pub overlaps_m8 : legal e64m8 (row (Elem VzextVf8) 8 15 0 ∷ row (Elem VzextVf8) 8 14 0 ∷ row (Elem VzextVf8) 8 8 0 ∷ []) ≡ true ∷ false ∷ false ∷ []
overlaps_m8 = refl

-- rows whose elements come from other places
pub kept_apart : legal e32m1 (
    row (Perm VslideupVx) 2 3 10 ∷ row (Perm VslideupVx) 2 2 10 ∷ row (Perm Vslide1upVx) 2 2 10 ∷ row (Perm VslidedownVx) 2 2 10
    ∷ row (Perm VrgatherVv) 2 3 4 ∷ row (Perm VrgatherVv) 2 3 2 ∷ row (Perm VrgatherVx) 2 3 2 ∷ row (Perm VrgatherVx) 2 2 3
    ∷ row (Perm VcompressVm) 2 3 2 ∷ row (Mask ViotaM) 2 2 0 ∷ row (Mask VmsbfM) 2 2 0 ∷ row (Mask VmsifM) 2 3 0
    ∷ masked (row (Mask VmsofM) 0 3 0) ∷ row (Mask VmsofM) 0 3 0
    ∷ segment 1 (Memory Vluxei32) 2 4 ∷ segment 1 (Memory Vluxei32) 2 3 ∷ [])
    ≡ true ∷ false ∷ false ∷ true ∷ true ∷ false ∷ true ∷ false ∷ false ∷ false ∷ false ∷ true ∷ false ∷ true ∷ true ∷ false ∷ []
kept_apart = refl

-- vstart not 0
pub late : legal_later e32m1 (
    row (Elem VaddVv) 1 2 3 ∷ row (Mask VmvXS) 1 2 0 ∷ row (Perm VslideupVx) 2 3 10 ∷ row (Mask VredsumVs) 1 2 3
    ∷ row (Perm VcompressVm) 1 2 3 ∷ row (Mask VcpopM) 1 2 0 ∷ row (Mask VfirstM) 1 2 0 ∷ row (Mask ViotaM) 1 2 0 ∷ row (Mask VmsbfM) 1 2 0 ∷ [])
    ≡ true ∷ true ∷ true ∷ false ∷ false ∷ false ∷ false ∷ false ∷ false ∷ []
late = refl

-- high halves of products
pub halves_64 : legal e64m1 (row (Elem VmulVv) 1 2 3 ∷ row (Elem VmulhVv) 1 2 3 ∷ row (Fixed VsmulVv) 1 2 3 ∷ []) ≡ true ∷ false ∷ false ∷ []
halves_64 = refl

pub halves_32 : legal e32m1 (row (Elem VmulhVv) 1 2 3 ∷ row (Fixed VsmulVv) 1 2 3 ∷ row (Widen VwmulVv) 2 4 5 ∷ []) ≡ true ∷ true ∷ true ∷ []
halves_32 = refl
