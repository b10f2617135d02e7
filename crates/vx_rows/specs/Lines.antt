-- The rows of the instruction set, one line an operation: RISC-V Unprivileged ISA 20191213, chapter 24 (instruction
-- listings), and RISC-V "V" 1.0, sections 6, 7, 10 and 11 to 16.
use Prim.Native.String.{String}
use Rattle.std.specs.Prelude.{ℕ, zero, suc, ◌+◌, ◌*◌, ◌^◌, List, [], ◌∷◌, ◌++◌, codes}
use Rattle.vx_rows.specs.declared.family.Family.{Family}
use Rattle.vx_rows.specs.declared.family.Family.TheVariants as family
use Rattle.vx_rows.specs.declared.op.ScalarOp.{ScalarOp}
use Rattle.vx_rows.specs.declared.op.ScalarOp.TheVariants.{Lui, Auipc, Jal, Jalr, Beq, Bne, Blt, Bge, Bltu, Bgeu, Lb, Lh, Lw, Ld, Lbu, Lhu, Lwu, Sb, Sh, Sw, Sd, Addi, Slti, Sltiu, Xori, Ori, Andi, Slli, Srli, Srai, Addiw, Slliw, Srliw, Sraiw, Add, Sub, Sll, Slt, Sltu, Xor, Srl, Sra, Or, And, Mul, Mulh, Mulhsu, Mulhu, Div, Divu, Rem, Remu, Addw, Subw, Sllw, Srlw, Sraw, Mulw, Divw, Divuw, Remw, Remuw, Fence, Ecall, Ebreak, Csrrw, Csrrs, Csrrc, Csrrwi, Csrrsi, Csrrci}
use Rattle.vx_rows.specs.declared.op.SetOp.{SetOp}
use Rattle.vx_rows.specs.declared.op.SetOp.TheVariants.{Vsetvli, Vsetivli, Vsetvl}
use Rattle.vx_rows.specs.declared.op.ElemOp.{ElemOp}
use Rattle.vx_rows.specs.declared.op.ElemOp.TheVariants.{VaddVv, VaddVx, VaddVi, VsubVv, VsubVx, VrsubVx, VrsubVi, VminuVv, VminuVx, VminVv, VminVx, VmaxuVv, VmaxuVx, VmaxVv, VmaxVx, VandVv, VandVx, VandVi, VorVv, VorVx, VorVi, VxorVv, VxorVx, VxorVi, VmergeVvm, VmergeVxm, VmergeVim, VmvVV, VmvVX, VmvVI, VsllVv, VsllVx, VsllVi, VsrlVv, VsrlVx, VsrlVi, VsraVv, VsraVx, VsraVi, Vmv1rV, Vmv2rV, Vmv4rV, Vmv8rV, VzextVf8, VsextVf8, VzextVf4, VsextVf4, VzextVf2, VsextVf2, VdivuVv, VdivuVx, VdivVv, VdivVx, VremuVv, VremuVx, VremVv, VremVx, VmulhuVv, VmulhuVx, VmulVv, VmulVx, VmulhsuVv, VmulhsuVx, VmulhVv, VmulhVx, VmaddVv, VmaddVx, VnmsubVv, VnmsubVx, VmaccVv, VmaccVx, VnmsacVv, VnmsacVx}
use Rattle.vx_rows.specs.declared.op.WidenOp.{WidenOp}
use Rattle.vx_rows.specs.declared.op.WidenOp.TheVariants.{VadcVvm, VadcVxm, VadcVim, VmadcVvm, VmadcVxm, VmadcVim, VmadcVv, VmadcVx, VmadcVi, VsbcVvm, VsbcVxm, VmsbcVvm, VmsbcVxm, VmsbcVv, VmsbcVx, VmseqVv, VmseqVx, VmseqVi, VmsneVv, VmsneVx, VmsneVi, VmsltuVv, VmsltuVx, VmsltVv, VmsltVx, VmsleuVv, VmsleuVx, VmsleuVi, VmsleVv, VmsleVx, VmsleVi, VmsgtuVx, VmsgtuVi, VmsgtVx, VmsgtVi, VnsrlWv, VnsrlWx, VnsrlWi, VnsraWv, VnsraWx, VnsraWi, VwadduVv, VwadduVx, VwaddVv, VwaddVx, VwsubuVv, VwsubuVx, VwsubVv, VwsubVx, VwadduWv, VwadduWx, VwaddWv, VwaddWx, VwsubuWv, VwsubuWx, VwsubWv, VwsubWx, VwmuluVv, VwmuluVx, VwmulsuVv, VwmulsuVx, VwmulVv, VwmulVx, VwmaccuVv, VwmaccuVx, VwmaccVv, VwmaccVx, VwmaccusVx, VwmaccsuVv, VwmaccsuVx}
use Rattle.vx_rows.specs.declared.op.FixedOp.{FixedOp}
use Rattle.vx_rows.specs.declared.op.FixedOp.TheVariants.{VsadduVv, VsadduVx, VsadduVi, VsaddVv, VsaddVx, VsaddVi, VssubuVv, VssubuVx, VssubVv, VssubVx, VsmulVv, VsmulVx, VssrlVv, VssrlVx, VssrlVi, VssraVv, VssraVx, VssraVi, VnclipuWv, VnclipuWx, VnclipuWi, VnclipWv, VnclipWx, VnclipWi, VaadduVv, VaadduVx, VaaddVv, VaaddVx, VasubuVv, VasubuVx, VasubVv, VasubVx}
use Rattle.vx_rows.specs.declared.op.MaskOp.{MaskOp}
use Rattle.vx_rows.specs.declared.op.MaskOp.TheVariants.{VredsumVs, VredandVs, VredorVs, VredxorVs, VredminuVs, VredminVs, VredmaxuVs, VredmaxVs, VwredsumuVs, VwredsumVs, VmvXS, VcpopM, VfirstM, VmsbfM, VmsofM, VmsifM, ViotaM, VidV, VmandnMm, VmandMm, VmorMm, VmxorMm, VmornMm, VmnandMm, VmnorMm, VmxnorMm}
use Rattle.vx_rows.specs.declared.op.PermOp.{PermOp}
use Rattle.vx_rows.specs.declared.op.PermOp.TheVariants.{VrgatherVv, VrgatherVx, VrgatherVi, Vrgatherei16Vv, VslideupVx, VslideupVi, VslidedownVx, VslidedownVi, Vslide1upVx, Vslide1downVx, VmvSX, VcompressVm}
use Rattle.vx_rows.specs.declared.op.MemoryOp.{MemoryOp}
use Rattle.vx_rows.specs.declared.op.MemoryOp.TheVariants.{Vle8, Vle16, Vle32, Vle64, Vse8, Vse16, Vse32, Vse64, Vlre8, Vlre16, Vlre32, Vlre64, Vsr, Vlm, Vsm, Vle8ff, Vle16ff, Vle32ff, Vle64ff, Vluxei8, Vluxei16, Vluxei32, Vluxei64, Vsuxei8, Vsuxei16, Vsuxei32, Vsuxei64, Vlse8, Vlse16, Vlse32, Vlse64, Vsse8, Vsse16, Vsse32, Vsse64, Vloxei8, Vloxei16, Vloxei32, Vloxei64, Vsoxei8, Vsoxei16, Vsoxei32, Vsoxei64}
use Rattle.vx_rows.specs.declared.row.Addressing.{Addressing}
use Rattle.vx_rows.specs.declared.row.Addressing.TheVariants.{Unit, FaultOnlyFirst, Whole, MaskBits, Strided, Unordered, Ordered}
use Rattle.vx_rows.specs.declared.row.Class.{Class}
use Rattle.vx_rows.specs.declared.row.Class.TheVariants as class
use Rattle.vx_rows.specs.declared.row.Eew.{Eew}
use Rattle.vx_rows.specs.declared.row.Eew.TheVariants.{E8, E16, E32, E64}
use Rattle.vx_rows.specs.declared.row.First.{First}
use Rattle.vx_rows.specs.declared.row.First.TheVariants as first
use Rattle.vx_rows.specs.declared.row.Second.{Second}
use Rattle.vx_rows.specs.declared.row.Second.TheVariants as second
use Rattle.vx_rows.specs.declared.row.Shape.{Shape}
use Rattle.vx_rows.specs.declared.row.Shape.TheVariants as shape
use Rattle.vx_rows.specs.declared.row.Vm.{Vm}
use Rattle.vx_rows.specs.declared.row.Vm.TheVariants as vm

-- a mnemonic: as it stands, or in two parts between which the number of registers stands, or that of fields where it isn't 1
pub data Mnemonic : Type 0 where
  Plain : (text : List ℕ) → Mnemonic
  Counted : (stem tail : List ℕ) → Mnemonic
  Segments : (stem tail : List ℕ) → Mnemonic

-- the decimal digit of a number below 10
abbrev digit : ℕ → List ℕ
digit n = (48 + n) ∷ []

-- the mnemonic of a row with this field nf, which is below 8 and one less than the number of fields or registers
abbrev pub spelled : Mnemonic → (nf : ℕ) → List ℕ
spelled (Plain text) nf = text
spelled (Counted stem tail) nf = stem ++ digit (nf + 1) ++ tail
spelled (Segments stem tail) zero = stem ++ tail
spelled (Segments stem tail) (suc n) = stem ++ codes "seg" ++ digit (n + 2) ++ tail

-- what the table says of an operation
pub record Line : Type 0 where
  -- the fixed bits of its rows, without bits 31 to 29 (nf) of a vector load or store
  pub bits : ℕ
  pub shape : Shape
  pub class : Class
  pub mnemonic : Mnemonic

-- ---- RV64I, M and Zicsr: fixed bits, shape, class, mnemonic

abbrev scalar : ℕ → Shape → Class → String → Line
scalar bits shape class text = record { bits = bits; shape = shape; class = class; mnemonic = Plain (codes text) }

abbrev pub scalar_line : ScalarOp → Line
scalar_line Lui = scalar 0x37 shape.Upper class.Arithmetic "lui"
scalar_line Auipc = scalar 0x17 shape.Upper class.Arithmetic "auipc"
scalar_line Jal = scalar 0x6f shape.Jump class.Jump "jal"
scalar_line Jalr = scalar 0x67 shape.Immediate class.Jump "jalr"
scalar_line Beq = scalar 0x63 shape.Branch class.Branch "beq"
scalar_line Bne = scalar 0x1063 shape.Branch class.Branch "bne"
scalar_line Blt = scalar 0x4063 shape.Branch class.Branch "blt"
scalar_line Bge = scalar 0x5063 shape.Branch class.Branch "bge"
scalar_line Bltu = scalar 0x6063 shape.Branch class.Branch "bltu"
scalar_line Bgeu = scalar 0x7063 shape.Branch class.Branch "bgeu"
scalar_line Lb = scalar 0x3 shape.Load class.Load "lb"
scalar_line Lh = scalar 0x1003 shape.Load class.Load "lh"
scalar_line Lw = scalar 0x2003 shape.Load class.Load "lw"
scalar_line Ld = scalar 0x3003 shape.Load class.Load "ld"
scalar_line Lbu = scalar 0x4003 shape.Load class.Load "lbu"
scalar_line Lhu = scalar 0x5003 shape.Load class.Load "lhu"
scalar_line Lwu = scalar 0x6003 shape.Load class.Load "lwu"
scalar_line Sb = scalar 0x23 shape.Store class.Store "sb"
scalar_line Sh = scalar 0x1023 shape.Store class.Store "sh"
scalar_line Sw = scalar 0x2023 shape.Store class.Store "sw"
scalar_line Sd = scalar 0x3023 shape.Store class.Store "sd"
scalar_line Addi = scalar 0x13 shape.Immediate class.Arithmetic "addi"
scalar_line Slti = scalar 0x2013 shape.Immediate class.Arithmetic "slti"
scalar_line Sltiu = scalar 0x3013 shape.Immediate class.Arithmetic "sltiu"
scalar_line Xori = scalar 0x4013 shape.Immediate class.Arithmetic "xori"
scalar_line Ori = scalar 0x6013 shape.Immediate class.Arithmetic "ori"
scalar_line Andi = scalar 0x7013 shape.Immediate class.Arithmetic "andi"
scalar_line Slli = scalar 0x1013 shape.Shift class.Arithmetic "slli"
scalar_line Srli = scalar 0x5013 shape.Shift class.Arithmetic "srli"
scalar_line Srai = scalar 0x40005013 shape.Shift class.Arithmetic "srai"
scalar_line Addiw = scalar 0x1b shape.Immediate class.Arithmetic "addiw"
scalar_line Slliw = scalar 0x101b shape.ShiftWord class.Arithmetic "slliw"
scalar_line Srliw = scalar 0x501b shape.ShiftWord class.Arithmetic "srliw"
scalar_line Sraiw = scalar 0x4000501b shape.ShiftWord class.Arithmetic "sraiw"
scalar_line Add = scalar 0x33 shape.Registers class.Arithmetic "add"
scalar_line Sub = scalar 0x40000033 shape.Registers class.Arithmetic "sub"
scalar_line Sll = scalar 0x1033 shape.Registers class.Arithmetic "sll"
scalar_line Slt = scalar 0x2033 shape.Registers class.Arithmetic "slt"
scalar_line Sltu = scalar 0x3033 shape.Registers class.Arithmetic "sltu"
scalar_line Xor = scalar 0x4033 shape.Registers class.Arithmetic "xor"
scalar_line Srl = scalar 0x5033 shape.Registers class.Arithmetic "srl"
scalar_line Sra = scalar 0x40005033 shape.Registers class.Arithmetic "sra"
scalar_line Or = scalar 0x6033 shape.Registers class.Arithmetic "or"
scalar_line And = scalar 0x7033 shape.Registers class.Arithmetic "and"
scalar_line Mul = scalar 0x02000033 shape.Registers class.Multiply "mul"
scalar_line Mulh = scalar 0x02001033 shape.Registers class.Multiply "mulh"
scalar_line Mulhsu = scalar 0x02002033 shape.Registers class.Multiply "mulhsu"
scalar_line Mulhu = scalar 0x02003033 shape.Registers class.Multiply "mulhu"
scalar_line Div = scalar 0x02004033 shape.Registers class.Divide "div"
scalar_line Divu = scalar 0x02005033 shape.Registers class.Divide "divu"
scalar_line Rem = scalar 0x02006033 shape.Registers class.Divide "rem"
scalar_line Remu = scalar 0x02007033 shape.Registers class.Divide "remu"
scalar_line Addw = scalar 0x3b shape.Registers class.Arithmetic "addw"
scalar_line Subw = scalar 0x4000003b shape.Registers class.Arithmetic "subw"
scalar_line Sllw = scalar 0x103b shape.Registers class.Arithmetic "sllw"
scalar_line Srlw = scalar 0x503b shape.Registers class.Arithmetic "srlw"
scalar_line Sraw = scalar 0x4000503b shape.Registers class.Arithmetic "sraw"
scalar_line Mulw = scalar 0x0200003b shape.Registers class.Multiply "mulw"
scalar_line Divw = scalar 0x0200403b shape.Registers class.Divide "divw"
scalar_line Divuw = scalar 0x0200503b shape.Registers class.Divide "divuw"
scalar_line Remw = scalar 0x0200603b shape.Registers class.Divide "remw"
scalar_line Remuw = scalar 0x0200703b shape.Registers class.Divide "remuw"
scalar_line Fence = scalar 0xf shape.Fence class.Fence "fence"
scalar_line Ecall = scalar 0x73 shape.Fixed class.Ecall "ecall"
scalar_line Ebreak = scalar 0x00100073 shape.Fixed class.Ebreak "ebreak"
scalar_line Csrrw = scalar 0x1073 shape.Csr class.Csr "csrrw"
scalar_line Csrrs = scalar 0x2073 shape.Csr class.Csr "csrrs"
scalar_line Csrrc = scalar 0x3073 shape.Csr class.Csr "csrrc"
scalar_line Csrrwi = scalar 0x5073 shape.CsrNumber class.Csr "csrrwi"
scalar_line Csrrsi = scalar 0x6073 shape.CsrNumber class.Csr "csrrsi"
scalar_line Csrrci = scalar 0x7073 shape.CsrNumber class.Csr "csrrci"

-- ---- the configuration of the vector unit: fixed bits, shape, mnemonic

abbrev set : ℕ → Shape → String → Line
set bits shape text = scalar bits shape class.Set text

abbrev pub set_line : SetOp → Line
set_line Vsetvli = set 0x7057 shape.SetType "vsetvli"
set_line Vsetivli = set 0xc0007057 shape.SetNumber "vsetivli"
set_line Vsetvl = set 0x80007057 shape.SetRegister "vsetvl"

-- ---- vector arithmetic: the form of the operands, funct6, the number that selects an operation with one source, the mask,
-- the mnemonic, the family

-- bit 25 of a row, where it is fixed
abbrev vm_bit : Vm → ℕ
vm_bit vm.Any = 0
vm_bit vm.Zero = 0
vm_bit vm.One = 1

-- the opcode is OP-V, and funct3 the category's number
abbrev vector : (category funct6 : ℕ) → First → Second → Vm → String → Family → Line
vector category funct6 first second vm text family =
    record { bits = 0x57 + category * 2 ^ 12 + vm_bit vm * 2 ^ 25 + funct6 * 2 ^ 26; shape = shape.Vector first second vm; class = class.VectorArithmetic family; mnemonic = Plain (codes text) }

-- categories OPIVV, OPMVV, OPIVI, OPIVX and OPMVX, where vs2 is a register
abbrev ivv : ℕ → Vm → String → Family → Line
ivv funct6 = vector 0b000 funct6 first.Vector second.Vector

abbrev mvv : ℕ → Vm → String → Family → Line
mvv funct6 = vector 0b010 funct6 first.Vector second.Vector

-- a signed number in the place of vs1, and one without sign
abbrev ivi : ℕ → Vm → String → Family → Line
ivi funct6 = vector 0b011 funct6 first.Signed second.Vector

abbrev ivu : ℕ → Vm → String → Family → Line
ivu funct6 = vector 0b011 funct6 first.Unsigned second.Vector

abbrev ivx : ℕ → Vm → String → Family → Line
ivx funct6 = vector 0b100 funct6 first.Integer second.Vector

abbrev mvx : ℕ → Vm → String → Family → Line
mvx funct6 = vector 0b110 funct6 first.Integer second.Vector

-- a line with more fixed bits
abbrev with_bits : ℕ → Line → Line
with_bits bits line = record line { bits = line.bits + bits }

-- one source, vs2: the number that selects the operation stands in the place of vs1
abbrev unary : (funct6 selector : ℕ) → Vm → String → Family → Line
unary funct6 selector vm text family = with_bits (selector * 2 ^ 15) (vector 0b010 funct6 first.Fixed second.Vector vm text family)

-- no source: nor is there a vs2
abbrev nullary : (funct6 selector : ℕ) → String → Family → Line
nullary funct6 selector text family = with_bits (selector * 2 ^ 15) (vector 0b010 funct6 first.Fixed second.Fixed vm.Any text family)

-- whole registers, one more than the selector
abbrev copy : (selector : ℕ) → String → Family → Line
copy selector text family = with_bits (selector * 2 ^ 15) (vector 0b011 0b100111 first.Fixed second.Vector vm.One text family)

-- one source in the place of vs1, and no vs2
abbrev move_v : ℕ → String → Family → Line
move_v funct6 = vector 0b000 funct6 first.Vector second.Fixed vm.One

abbrev move_x : ℕ → String → Family → Line
move_x funct6 = vector 0b100 funct6 first.Integer second.Fixed vm.One

abbrev move_i : ℕ → String → Family → Line
move_i funct6 = vector 0b011 funct6 first.Signed second.Fixed vm.One

abbrev move_s : ℕ → String → Family → Line
move_s funct6 = vector 0b110 funct6 first.Integer second.Fixed vm.One

-- single width, and whole registers
abbrev pub elem_line : ElemOp → Line
elem_line VaddVv = ivv 0b000000 vm.Any "vadd.vv" family.Vadd
elem_line VaddVx = ivx 0b000000 vm.Any "vadd.vx" family.Vadd
elem_line VaddVi = ivi 0b000000 vm.Any "vadd.vi" family.Vadd
elem_line VsubVv = ivv 0b000010 vm.Any "vsub.vv" family.Vsub
elem_line VsubVx = ivx 0b000010 vm.Any "vsub.vx" family.Vsub
elem_line VrsubVx = ivx 0b000011 vm.Any "vrsub.vx" family.Vrsub
elem_line VrsubVi = ivi 0b000011 vm.Any "vrsub.vi" family.Vrsub
elem_line VminuVv = ivv 0b000100 vm.Any "vminu.vv" family.Vminu
elem_line VminuVx = ivx 0b000100 vm.Any "vminu.vx" family.Vminu
elem_line VminVv = ivv 0b000101 vm.Any "vmin.vv" family.Vmin
elem_line VminVx = ivx 0b000101 vm.Any "vmin.vx" family.Vmin
elem_line VmaxuVv = ivv 0b000110 vm.Any "vmaxu.vv" family.Vmaxu
elem_line VmaxuVx = ivx 0b000110 vm.Any "vmaxu.vx" family.Vmaxu
elem_line VmaxVv = ivv 0b000111 vm.Any "vmax.vv" family.Vmax
elem_line VmaxVx = ivx 0b000111 vm.Any "vmax.vx" family.Vmax
elem_line VandVv = ivv 0b001001 vm.Any "vand.vv" family.Vand
elem_line VandVx = ivx 0b001001 vm.Any "vand.vx" family.Vand
elem_line VandVi = ivi 0b001001 vm.Any "vand.vi" family.Vand
elem_line VorVv = ivv 0b001010 vm.Any "vor.vv" family.Vor
elem_line VorVx = ivx 0b001010 vm.Any "vor.vx" family.Vor
elem_line VorVi = ivi 0b001010 vm.Any "vor.vi" family.Vor
elem_line VxorVv = ivv 0b001011 vm.Any "vxor.vv" family.Vxor
elem_line VxorVx = ivx 0b001011 vm.Any "vxor.vx" family.Vxor
elem_line VxorVi = ivi 0b001011 vm.Any "vxor.vi" family.Vxor
elem_line VmergeVvm = ivv 0b010111 vm.Zero "vmerge.vvm" family.Vmerge
elem_line VmergeVxm = ivx 0b010111 vm.Zero "vmerge.vxm" family.Vmerge
elem_line VmergeVim = ivi 0b010111 vm.Zero "vmerge.vim" family.Vmerge
elem_line VmvVV = move_v 0b010111 "vmv.v.v" family.VmvV
elem_line VmvVX = move_x 0b010111 "vmv.v.x" family.VmvV
elem_line VmvVI = move_i 0b010111 "vmv.v.i" family.VmvV
elem_line VsllVv = ivv 0b100101 vm.Any "vsll.vv" family.Vsll
elem_line VsllVx = ivx 0b100101 vm.Any "vsll.vx" family.Vsll
elem_line VsllVi = ivu 0b100101 vm.Any "vsll.vi" family.Vsll
elem_line VsrlVv = ivv 0b101000 vm.Any "vsrl.vv" family.Vsrl
elem_line VsrlVx = ivx 0b101000 vm.Any "vsrl.vx" family.Vsrl
elem_line VsrlVi = ivu 0b101000 vm.Any "vsrl.vi" family.Vsrl
elem_line VsraVv = ivv 0b101001 vm.Any "vsra.vv" family.Vsra
elem_line VsraVx = ivx 0b101001 vm.Any "vsra.vx" family.Vsra
elem_line VsraVi = ivu 0b101001 vm.Any "vsra.vi" family.Vsra
elem_line Vmv1rV = copy 0 "vmv1r.v" family.Vmv1r
elem_line Vmv2rV = copy 1 "vmv2r.v" family.Vmv2r
elem_line Vmv4rV = copy 3 "vmv4r.v" family.Vmv4r
elem_line Vmv8rV = copy 7 "vmv8r.v" family.Vmv8r
elem_line VzextVf8 = unary 0b010010 2 vm.Any "vzext.vf8" family.VzextVf8
elem_line VsextVf8 = unary 0b010010 3 vm.Any "vsext.vf8" family.VsextVf8
elem_line VzextVf4 = unary 0b010010 4 vm.Any "vzext.vf4" family.VzextVf4
elem_line VsextVf4 = unary 0b010010 5 vm.Any "vsext.vf4" family.VsextVf4
elem_line VzextVf2 = unary 0b010010 6 vm.Any "vzext.vf2" family.VzextVf2
elem_line VsextVf2 = unary 0b010010 7 vm.Any "vsext.vf2" family.VsextVf2
elem_line VdivuVv = mvv 0b100000 vm.Any "vdivu.vv" family.Vdivu
elem_line VdivuVx = mvx 0b100000 vm.Any "vdivu.vx" family.Vdivu
elem_line VdivVv = mvv 0b100001 vm.Any "vdiv.vv" family.Vdiv
elem_line VdivVx = mvx 0b100001 vm.Any "vdiv.vx" family.Vdiv
elem_line VremuVv = mvv 0b100010 vm.Any "vremu.vv" family.Vremu
elem_line VremuVx = mvx 0b100010 vm.Any "vremu.vx" family.Vremu
elem_line VremVv = mvv 0b100011 vm.Any "vrem.vv" family.Vrem
elem_line VremVx = mvx 0b100011 vm.Any "vrem.vx" family.Vrem
elem_line VmulhuVv = mvv 0b100100 vm.Any "vmulhu.vv" family.Vmulhu
elem_line VmulhuVx = mvx 0b100100 vm.Any "vmulhu.vx" family.Vmulhu
elem_line VmulVv = mvv 0b100101 vm.Any "vmul.vv" family.Vmul
elem_line VmulVx = mvx 0b100101 vm.Any "vmul.vx" family.Vmul
elem_line VmulhsuVv = mvv 0b100110 vm.Any "vmulhsu.vv" family.Vmulhsu
elem_line VmulhsuVx = mvx 0b100110 vm.Any "vmulhsu.vx" family.Vmulhsu
elem_line VmulhVv = mvv 0b100111 vm.Any "vmulh.vv" family.Vmulh
elem_line VmulhVx = mvx 0b100111 vm.Any "vmulh.vx" family.Vmulh
elem_line VmaddVv = mvv 0b101001 vm.Any "vmadd.vv" family.Vmadd
elem_line VmaddVx = mvx 0b101001 vm.Any "vmadd.vx" family.Vmadd
elem_line VnmsubVv = mvv 0b101011 vm.Any "vnmsub.vv" family.Vnmsub
elem_line VnmsubVx = mvx 0b101011 vm.Any "vnmsub.vx" family.Vnmsub
elem_line VmaccVv = mvv 0b101101 vm.Any "vmacc.vv" family.Vmacc
elem_line VmaccVx = mvx 0b101101 vm.Any "vmacc.vx" family.Vmacc
elem_line VnmsacVv = mvv 0b101111 vm.Any "vnmsac.vv" family.Vnmsac
elem_line VnmsacVx = mvx 0b101111 vm.Any "vnmsac.vx" family.Vnmsac

-- widening, narrowing, carries, comparisons
abbrev pub widen_line : WidenOp → Line
widen_line VadcVvm = ivv 0b010000 vm.Zero "vadc.vvm" family.Vadc
widen_line VadcVxm = ivx 0b010000 vm.Zero "vadc.vxm" family.Vadc
widen_line VadcVim = ivi 0b010000 vm.Zero "vadc.vim" family.Vadc
widen_line VmadcVvm = ivv 0b010001 vm.Zero "vmadc.vvm" family.Vmadc
widen_line VmadcVxm = ivx 0b010001 vm.Zero "vmadc.vxm" family.Vmadc
widen_line VmadcVim = ivi 0b010001 vm.Zero "vmadc.vim" family.Vmadc
widen_line VmadcVv = ivv 0b010001 vm.One "vmadc.vv" family.Vmadc
widen_line VmadcVx = ivx 0b010001 vm.One "vmadc.vx" family.Vmadc
widen_line VmadcVi = ivi 0b010001 vm.One "vmadc.vi" family.Vmadc
widen_line VsbcVvm = ivv 0b010010 vm.Zero "vsbc.vvm" family.Vsbc
widen_line VsbcVxm = ivx 0b010010 vm.Zero "vsbc.vxm" family.Vsbc
widen_line VmsbcVvm = ivv 0b010011 vm.Zero "vmsbc.vvm" family.Vmsbc
widen_line VmsbcVxm = ivx 0b010011 vm.Zero "vmsbc.vxm" family.Vmsbc
widen_line VmsbcVv = ivv 0b010011 vm.One "vmsbc.vv" family.Vmsbc
widen_line VmsbcVx = ivx 0b010011 vm.One "vmsbc.vx" family.Vmsbc
widen_line VmseqVv = ivv 0b011000 vm.Any "vmseq.vv" family.Vmseq
widen_line VmseqVx = ivx 0b011000 vm.Any "vmseq.vx" family.Vmseq
widen_line VmseqVi = ivi 0b011000 vm.Any "vmseq.vi" family.Vmseq
widen_line VmsneVv = ivv 0b011001 vm.Any "vmsne.vv" family.Vmsne
widen_line VmsneVx = ivx 0b011001 vm.Any "vmsne.vx" family.Vmsne
widen_line VmsneVi = ivi 0b011001 vm.Any "vmsne.vi" family.Vmsne
widen_line VmsltuVv = ivv 0b011010 vm.Any "vmsltu.vv" family.Vmsltu
widen_line VmsltuVx = ivx 0b011010 vm.Any "vmsltu.vx" family.Vmsltu
widen_line VmsltVv = ivv 0b011011 vm.Any "vmslt.vv" family.Vmslt
widen_line VmsltVx = ivx 0b011011 vm.Any "vmslt.vx" family.Vmslt
widen_line VmsleuVv = ivv 0b011100 vm.Any "vmsleu.vv" family.Vmsleu
widen_line VmsleuVx = ivx 0b011100 vm.Any "vmsleu.vx" family.Vmsleu
widen_line VmsleuVi = ivi 0b011100 vm.Any "vmsleu.vi" family.Vmsleu
widen_line VmsleVv = ivv 0b011101 vm.Any "vmsle.vv" family.Vmsle
widen_line VmsleVx = ivx 0b011101 vm.Any "vmsle.vx" family.Vmsle
widen_line VmsleVi = ivi 0b011101 vm.Any "vmsle.vi" family.Vmsle
widen_line VmsgtuVx = ivx 0b011110 vm.Any "vmsgtu.vx" family.Vmsgtu
widen_line VmsgtuVi = ivi 0b011110 vm.Any "vmsgtu.vi" family.Vmsgtu
widen_line VmsgtVx = ivx 0b011111 vm.Any "vmsgt.vx" family.Vmsgt
widen_line VmsgtVi = ivi 0b011111 vm.Any "vmsgt.vi" family.Vmsgt
widen_line VnsrlWv = ivv 0b101100 vm.Any "vnsrl.wv" family.Vnsrl
widen_line VnsrlWx = ivx 0b101100 vm.Any "vnsrl.wx" family.Vnsrl
widen_line VnsrlWi = ivu 0b101100 vm.Any "vnsrl.wi" family.Vnsrl
widen_line VnsraWv = ivv 0b101101 vm.Any "vnsra.wv" family.Vnsra
widen_line VnsraWx = ivx 0b101101 vm.Any "vnsra.wx" family.Vnsra
widen_line VnsraWi = ivu 0b101101 vm.Any "vnsra.wi" family.Vnsra
widen_line VwadduVv = mvv 0b110000 vm.Any "vwaddu.vv" family.Vwaddu
widen_line VwadduVx = mvx 0b110000 vm.Any "vwaddu.vx" family.Vwaddu
widen_line VwaddVv = mvv 0b110001 vm.Any "vwadd.vv" family.Vwadd
widen_line VwaddVx = mvx 0b110001 vm.Any "vwadd.vx" family.Vwadd
widen_line VwsubuVv = mvv 0b110010 vm.Any "vwsubu.vv" family.Vwsubu
widen_line VwsubuVx = mvx 0b110010 vm.Any "vwsubu.vx" family.Vwsubu
widen_line VwsubVv = mvv 0b110011 vm.Any "vwsub.vv" family.Vwsub
widen_line VwsubVx = mvx 0b110011 vm.Any "vwsub.vx" family.Vwsub
widen_line VwadduWv = mvv 0b110100 vm.Any "vwaddu.wv" family.VwadduW
widen_line VwadduWx = mvx 0b110100 vm.Any "vwaddu.wx" family.VwadduW
widen_line VwaddWv = mvv 0b110101 vm.Any "vwadd.wv" family.VwaddW
widen_line VwaddWx = mvx 0b110101 vm.Any "vwadd.wx" family.VwaddW
widen_line VwsubuWv = mvv 0b110110 vm.Any "vwsubu.wv" family.VwsubuW
widen_line VwsubuWx = mvx 0b110110 vm.Any "vwsubu.wx" family.VwsubuW
widen_line VwsubWv = mvv 0b110111 vm.Any "vwsub.wv" family.VwsubW
widen_line VwsubWx = mvx 0b110111 vm.Any "vwsub.wx" family.VwsubW
widen_line VwmuluVv = mvv 0b111000 vm.Any "vwmulu.vv" family.Vwmulu
widen_line VwmuluVx = mvx 0b111000 vm.Any "vwmulu.vx" family.Vwmulu
widen_line VwmulsuVv = mvv 0b111010 vm.Any "vwmulsu.vv" family.Vwmulsu
widen_line VwmulsuVx = mvx 0b111010 vm.Any "vwmulsu.vx" family.Vwmulsu
widen_line VwmulVv = mvv 0b111011 vm.Any "vwmul.vv" family.Vwmul
widen_line VwmulVx = mvx 0b111011 vm.Any "vwmul.vx" family.Vwmul
widen_line VwmaccuVv = mvv 0b111100 vm.Any "vwmaccu.vv" family.Vwmaccu
widen_line VwmaccuVx = mvx 0b111100 vm.Any "vwmaccu.vx" family.Vwmaccu
widen_line VwmaccVv = mvv 0b111101 vm.Any "vwmacc.vv" family.Vwmacc
widen_line VwmaccVx = mvx 0b111101 vm.Any "vwmacc.vx" family.Vwmacc
widen_line VwmaccusVx = mvx 0b111110 vm.Any "vwmaccus.vx" family.Vwmaccus
widen_line VwmaccsuVv = mvv 0b111111 vm.Any "vwmaccsu.vv" family.Vwmaccsu
widen_line VwmaccsuVx = mvx 0b111111 vm.Any "vwmaccsu.vx" family.Vwmaccsu

-- fixed point
abbrev pub fixed_line : FixedOp → Line
fixed_line VsadduVv = ivv 0b100000 vm.Any "vsaddu.vv" family.Vsaddu
fixed_line VsadduVx = ivx 0b100000 vm.Any "vsaddu.vx" family.Vsaddu
fixed_line VsadduVi = ivi 0b100000 vm.Any "vsaddu.vi" family.Vsaddu
fixed_line VsaddVv = ivv 0b100001 vm.Any "vsadd.vv" family.Vsadd
fixed_line VsaddVx = ivx 0b100001 vm.Any "vsadd.vx" family.Vsadd
fixed_line VsaddVi = ivi 0b100001 vm.Any "vsadd.vi" family.Vsadd
fixed_line VssubuVv = ivv 0b100010 vm.Any "vssubu.vv" family.Vssubu
fixed_line VssubuVx = ivx 0b100010 vm.Any "vssubu.vx" family.Vssubu
fixed_line VssubVv = ivv 0b100011 vm.Any "vssub.vv" family.Vssub
fixed_line VssubVx = ivx 0b100011 vm.Any "vssub.vx" family.Vssub
fixed_line VsmulVv = ivv 0b100111 vm.Any "vsmul.vv" family.Vsmul
fixed_line VsmulVx = ivx 0b100111 vm.Any "vsmul.vx" family.Vsmul
fixed_line VssrlVv = ivv 0b101010 vm.Any "vssrl.vv" family.Vssrl
fixed_line VssrlVx = ivx 0b101010 vm.Any "vssrl.vx" family.Vssrl
fixed_line VssrlVi = ivu 0b101010 vm.Any "vssrl.vi" family.Vssrl
fixed_line VssraVv = ivv 0b101011 vm.Any "vssra.vv" family.Vssra
fixed_line VssraVx = ivx 0b101011 vm.Any "vssra.vx" family.Vssra
fixed_line VssraVi = ivu 0b101011 vm.Any "vssra.vi" family.Vssra
fixed_line VnclipuWv = ivv 0b101110 vm.Any "vnclipu.wv" family.Vnclipu
fixed_line VnclipuWx = ivx 0b101110 vm.Any "vnclipu.wx" family.Vnclipu
fixed_line VnclipuWi = ivu 0b101110 vm.Any "vnclipu.wi" family.Vnclipu
fixed_line VnclipWv = ivv 0b101111 vm.Any "vnclip.wv" family.Vnclip
fixed_line VnclipWx = ivx 0b101111 vm.Any "vnclip.wx" family.Vnclip
fixed_line VnclipWi = ivu 0b101111 vm.Any "vnclip.wi" family.Vnclip
fixed_line VaadduVv = mvv 0b001000 vm.Any "vaaddu.vv" family.Vaaddu
fixed_line VaadduVx = mvx 0b001000 vm.Any "vaaddu.vx" family.Vaaddu
fixed_line VaaddVv = mvv 0b001001 vm.Any "vaadd.vv" family.Vaadd
fixed_line VaaddVx = mvx 0b001001 vm.Any "vaadd.vx" family.Vaadd
fixed_line VasubuVv = mvv 0b001010 vm.Any "vasubu.vv" family.Vasubu
fixed_line VasubuVx = mvx 0b001010 vm.Any "vasubu.vx" family.Vasubu
fixed_line VasubVv = mvv 0b001011 vm.Any "vasub.vv" family.Vasub
fixed_line VasubVx = mvx 0b001011 vm.Any "vasub.vx" family.Vasub

-- reductions and masks
abbrev pub mask_line : MaskOp → Line
mask_line VredsumVs = mvv 0b000000 vm.Any "vredsum.vs" family.Vredsum
mask_line VredandVs = mvv 0b000001 vm.Any "vredand.vs" family.Vredand
mask_line VredorVs = mvv 0b000010 vm.Any "vredor.vs" family.Vredor
mask_line VredxorVs = mvv 0b000011 vm.Any "vredxor.vs" family.Vredxor
mask_line VredminuVs = mvv 0b000100 vm.Any "vredminu.vs" family.Vredminu
mask_line VredminVs = mvv 0b000101 vm.Any "vredmin.vs" family.Vredmin
mask_line VredmaxuVs = mvv 0b000110 vm.Any "vredmaxu.vs" family.Vredmaxu
mask_line VredmaxVs = mvv 0b000111 vm.Any "vredmax.vs" family.Vredmax
mask_line VwredsumuVs = ivv 0b110000 vm.Any "vwredsumu.vs" family.Vwredsumu
mask_line VwredsumVs = ivv 0b110001 vm.Any "vwredsum.vs" family.Vwredsum
mask_line VmvXS = unary 0b010000 0 vm.One "vmv.x.s" family.VmvXS
mask_line VcpopM = unary 0b010000 16 vm.Any "vcpop.m" family.Vcpop
mask_line VfirstM = unary 0b010000 17 vm.Any "vfirst.m" family.Vfirst
mask_line VmsbfM = unary 0b010100 1 vm.Any "vmsbf.m" family.Vmsbf
mask_line VmsofM = unary 0b010100 2 vm.Any "vmsof.m" family.Vmsof
mask_line VmsifM = unary 0b010100 3 vm.Any "vmsif.m" family.Vmsif
mask_line ViotaM = unary 0b010100 16 vm.Any "viota.m" family.Viota
mask_line VidV = nullary 0b010100 17 "vid.v" family.Vid
mask_line VmandnMm = mvv 0b011000 vm.One "vmandn.mm" family.Vmandn
mask_line VmandMm = mvv 0b011001 vm.One "vmand.mm" family.Vmand
mask_line VmorMm = mvv 0b011010 vm.One "vmor.mm" family.Vmor
mask_line VmxorMm = mvv 0b011011 vm.One "vmxor.mm" family.Vmxor
mask_line VmornMm = mvv 0b011100 vm.One "vmorn.mm" family.Vmorn
mask_line VmnandMm = mvv 0b011101 vm.One "vmnand.mm" family.Vmnand
mask_line VmnorMm = mvv 0b011110 vm.One "vmnor.mm" family.Vmnor
mask_line VmxnorMm = mvv 0b011111 vm.One "vmxnor.mm" family.Vmxnor

-- permutations
abbrev pub perm_line : PermOp → Line
perm_line VrgatherVv = ivv 0b001100 vm.Any "vrgather.vv" family.Vrgather
perm_line VrgatherVx = ivx 0b001100 vm.Any "vrgather.vx" family.Vrgather
perm_line VrgatherVi = ivu 0b001100 vm.Any "vrgather.vi" family.Vrgather
perm_line Vrgatherei16Vv = ivv 0b001110 vm.Any "vrgatherei16.vv" family.Vrgatherei16
perm_line VslideupVx = ivx 0b001110 vm.Any "vslideup.vx" family.Vslideup
perm_line VslideupVi = ivu 0b001110 vm.Any "vslideup.vi" family.Vslideup
perm_line VslidedownVx = ivx 0b001111 vm.Any "vslidedown.vx" family.Vslidedown
perm_line VslidedownVi = ivu 0b001111 vm.Any "vslidedown.vi" family.Vslidedown
perm_line Vslide1upVx = mvx 0b001110 vm.Any "vslide1up.vx" family.Vslide1up
perm_line Vslide1downVx = mvx 0b001111 vm.Any "vslide1down.vx" family.Vslide1down
perm_line VmvSX = move_s 0b010000 "vmv.s.x" family.VmvSX
perm_line VcompressVm = mvv 0b010111 vm.One "vcompress.vm" family.Vcompress

-- ---- vector loads and stores: direction, addressing, encoded width, the two parts of the mnemonic

-- the number of an encoded width (bits 14 to 12)
abbrev width_number : Eew → ℕ
width_number E8 = 0b000
width_number E16 = 0b101
width_number E32 = 0b110
width_number E64 = 0b111

-- mop (bits 27 and 26), what stands in the place of rs2 where no operand does (lumop, sumop), and bit 25 where it is fixed
abbrev addressing_bits : Addressing → ℕ
addressing_bits Unit = 0b00 * 2 ^ 26 + 0b00000 * 2 ^ 20
addressing_bits Whole = 0b00 * 2 ^ 26 + 0b01000 * 2 ^ 20 + 2 ^ 25
addressing_bits MaskBits = 0b00 * 2 ^ 26 + 0b01011 * 2 ^ 20 + 2 ^ 25
addressing_bits FaultOnlyFirst = 0b00 * 2 ^ 26 + 0b10000 * 2 ^ 20
addressing_bits Unordered = 0b01 * 2 ^ 26
addressing_bits Strided = 0b10 * 2 ^ 26
addressing_bits Ordered = 0b11 * 2 ^ 26

abbrev addressing_shape : Addressing → Shape
addressing_shape Unit = shape.UnitMemory
addressing_shape FaultOnlyFirst = shape.UnitMemory
addressing_shape Whole = shape.WholeMemory
addressing_shape MaskBits = shape.MaskMemory
addressing_shape Strided = shape.StridedMemory
addressing_shape Unordered = shape.IndexedMemory
addressing_shape Ordered = shape.IndexedMemory

-- opcode LOAD-FP or STORE-FP
abbrev load : Addressing → Eew → Mnemonic → Line
load addressing width mnemonic =
    record { bits = 0x07 + width_number width * 2 ^ 12 + addressing_bits addressing; shape = addressing_shape addressing; class = class.VectorLoad addressing width; mnemonic = mnemonic }

abbrev store : Addressing → Eew → Mnemonic → Line
store addressing width mnemonic =
    record { bits = 0x27 + width_number width * 2 ^ 12 + addressing_bits addressing; shape = addressing_shape addressing; class = class.VectorStore addressing width; mnemonic = mnemonic }

abbrev segments : String → String → Mnemonic
segments stem tail = Segments (codes stem) (codes tail)

abbrev counted : String → String → Mnemonic
counted stem tail = Counted (codes stem) (codes tail)

abbrev pub memory_line : MemoryOp → Line
memory_line Vle8 = load Unit E8 (segments "vl" "e8.v")
memory_line Vle16 = load Unit E16 (segments "vl" "e16.v")
memory_line Vle32 = load Unit E32 (segments "vl" "e32.v")
memory_line Vle64 = load Unit E64 (segments "vl" "e64.v")
memory_line Vse8 = store Unit E8 (segments "vs" "e8.v")
memory_line Vse16 = store Unit E16 (segments "vs" "e16.v")
memory_line Vse32 = store Unit E32 (segments "vs" "e32.v")
memory_line Vse64 = store Unit E64 (segments "vs" "e64.v")
memory_line Vlm = load MaskBits E8 (Plain (codes "vlm.v"))
memory_line Vsm = store MaskBits E8 (Plain (codes "vsm.v"))
memory_line Vle8ff = load FaultOnlyFirst E8 (segments "vl" "e8ff.v")
memory_line Vle16ff = load FaultOnlyFirst E16 (segments "vl" "e16ff.v")
memory_line Vle32ff = load FaultOnlyFirst E32 (segments "vl" "e32ff.v")
memory_line Vle64ff = load FaultOnlyFirst E64 (segments "vl" "e64ff.v")
memory_line Vluxei8 = load Unordered E8 (segments "vlux" "ei8.v")
memory_line Vluxei16 = load Unordered E16 (segments "vlux" "ei16.v")
memory_line Vluxei32 = load Unordered E32 (segments "vlux" "ei32.v")
memory_line Vluxei64 = load Unordered E64 (segments "vlux" "ei64.v")
memory_line Vsuxei8 = store Unordered E8 (segments "vsux" "ei8.v")
memory_line Vsuxei16 = store Unordered E16 (segments "vsux" "ei16.v")
memory_line Vsuxei32 = store Unordered E32 (segments "vsux" "ei32.v")
memory_line Vsuxei64 = store Unordered E64 (segments "vsux" "ei64.v")
memory_line Vlse8 = load Strided E8 (segments "vls" "e8.v")
memory_line Vlse16 = load Strided E16 (segments "vls" "e16.v")
memory_line Vlse32 = load Strided E32 (segments "vls" "e32.v")
memory_line Vlse64 = load Strided E64 (segments "vls" "e64.v")
memory_line Vsse8 = store Strided E8 (segments "vss" "e8.v")
memory_line Vsse16 = store Strided E16 (segments "vss" "e16.v")
memory_line Vsse32 = store Strided E32 (segments "vss" "e32.v")
memory_line Vsse64 = store Strided E64 (segments "vss" "e64.v")
memory_line Vloxei8 = load Ordered E8 (segments "vlox" "ei8.v")
memory_line Vloxei16 = load Ordered E16 (segments "vlox" "ei16.v")
memory_line Vloxei32 = load Ordered E32 (segments "vlox" "ei32.v")
memory_line Vloxei64 = load Ordered E64 (segments "vlox" "ei64.v")
memory_line Vsoxei8 = store Ordered E8 (segments "vsox" "ei8.v")
memory_line Vsoxei16 = store Ordered E16 (segments "vsox" "ei16.v")
memory_line Vsoxei32 = store Ordered E32 (segments "vsox" "ei32.v")
memory_line Vsoxei64 = store Ordered E64 (segments "vsox" "ei64.v")
memory_line Vlre8 = load Whole E8 (counted "vl" "re8.v")
memory_line Vlre16 = load Whole E16 (counted "vl" "re16.v")
memory_line Vlre32 = load Whole E32 (counted "vl" "re32.v")
memory_line Vlre64 = load Whole E64 (counted "vl" "re64.v")
memory_line Vsr = store Whole E8 (counted "vs" "r.v")
