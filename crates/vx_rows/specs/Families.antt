-- The families of vector arithmetic, one line each: the unit, which is this project's own, and the operands (RISC-V "V"
-- 1.0, sections 5.2, 10 and 11 to 16).
use Rattle.vx_rows.specs.declared.family.Family.{Family}
use Rattle.vx_rows.specs.declared.family.Family.TheVariants.{Vadd, Vsub, Vrsub, Vminu, Vmin, Vmaxu, Vmax, Vand, Vor, Vxor, Vmerge, VmvV, Vsll, Vsrl, Vsra, Vmv1r, Vmv2r, Vmv4r, Vmv8r, VzextVf8, VsextVf8, VzextVf4, VsextVf4, VzextVf2, VsextVf2, Vdivu, Vdiv, Vremu, Vrem, Vmulhu, Vmul, Vmulhsu, Vmulh, Vmadd, Vnmsub, Vmacc, Vnmsac, Vadc, Vmadc, Vsbc, Vmsbc, Vmseq, Vmsne, Vmsltu, Vmslt, Vmsleu, Vmsle, Vmsgtu, Vmsgt, Vnsrl, Vnsra, Vwaddu, Vwadd, Vwsubu, Vwsub, VwadduW, VwaddW, VwsubuW, VwsubW, Vwmulu, Vwmulsu, Vwmul, Vwmaccu, Vwmacc, Vwmaccus, Vwmaccsu, Vsaddu, Vsadd, Vssubu, Vssub, Vsmul, Vssrl, Vssra, Vnclipu, Vnclip, Vaaddu, Vaadd, Vasubu, Vasub, Vredsum, Vredand, Vredor, Vredxor, Vredminu, Vredmin, Vredmaxu, Vredmax, Vwredsumu, Vwredsum, VmvXS, Vcpop, Vfirst, Vmsbf, Vmsof, Vmsif, Viota, Vid, Vmandn, Vmand, Vmor, Vmxor, Vmorn, Vmnand, Vmnor, Vmxnor, Vrgather, Vrgatherei16, Vslideup, Vslidedown, Vslide1up, Vslide1down, VmvSX, Vcompress}
use Rattle.vx_rows.specs.declared.family.FamilyLine.{FamilyLine}
use Rattle.vx_rows.specs.declared.family.Operand.{Operand}
use Rattle.vx_rows.specs.declared.family.Operand.TheVariants.{Absent, Single, Double, Half, Quarter, Eighth, Sixteen, Mask, Element, WideElement, Whole1, Whole2, Whole4, Whole8}
use Rattle.vx_rows.specs.declared.family.Operands.{Operands}
use Rattle.vx_rows.specs.declared.family.Unit.{Unit}
use Rattle.vx_rows.specs.declared.family.Unit.TheVariants.{Arithmetic, Multiply, Divide, Permute}

-- a unit, and the operands at the places of vd, vs2 and vs1
abbrev pub on : Unit → (destination vs2 vs1 : Operand) → FamilyLine
on unit destination vs2 vs1 = record { unit = unit; operands = record { destination = destination; vs2 = vs2; vs1 = vs1 } }

abbrev pub family_line : Family → FamilyLine
family_line Vadd = on Arithmetic Single Single Single
family_line Vsub = on Arithmetic Single Single Single
family_line Vrsub = on Arithmetic Single Single Single
family_line Vminu = on Arithmetic Single Single Single
family_line Vmin = on Arithmetic Single Single Single
family_line Vmaxu = on Arithmetic Single Single Single
family_line Vmax = on Arithmetic Single Single Single
family_line Vand = on Arithmetic Single Single Single
family_line Vor = on Arithmetic Single Single Single
family_line Vxor = on Arithmetic Single Single Single
family_line Vmerge = on Arithmetic Single Single Single
family_line VmvV = on Arithmetic Single Absent Single
family_line Vsll = on Arithmetic Single Single Single
family_line Vsrl = on Arithmetic Single Single Single
family_line Vsra = on Arithmetic Single Single Single
family_line Vmv1r = on Arithmetic Whole1 Whole1 Absent
family_line Vmv2r = on Arithmetic Whole2 Whole2 Absent
family_line Vmv4r = on Arithmetic Whole4 Whole4 Absent
family_line Vmv8r = on Arithmetic Whole8 Whole8 Absent
family_line VzextVf8 = on Arithmetic Single Eighth Absent
family_line VsextVf8 = on Arithmetic Single Eighth Absent
family_line VzextVf4 = on Arithmetic Single Quarter Absent
family_line VsextVf4 = on Arithmetic Single Quarter Absent
family_line VzextVf2 = on Arithmetic Single Half Absent
family_line VsextVf2 = on Arithmetic Single Half Absent
family_line Vdivu = on Divide Single Single Single
family_line Vdiv = on Divide Single Single Single
family_line Vremu = on Divide Single Single Single
family_line Vrem = on Divide Single Single Single
family_line Vmulhu = on Multiply Single Single Single
family_line Vmul = on Multiply Single Single Single
family_line Vmulhsu = on Multiply Single Single Single
family_line Vmulh = on Multiply Single Single Single
family_line Vmadd = on Multiply Single Single Single
family_line Vnmsub = on Multiply Single Single Single
family_line Vmacc = on Multiply Single Single Single
family_line Vnmsac = on Multiply Single Single Single
family_line Vadc = on Arithmetic Single Single Single
family_line Vmadc = on Arithmetic Mask Single Single
family_line Vsbc = on Arithmetic Single Single Single
family_line Vmsbc = on Arithmetic Mask Single Single
family_line Vmseq = on Arithmetic Mask Single Single
family_line Vmsne = on Arithmetic Mask Single Single
family_line Vmsltu = on Arithmetic Mask Single Single
family_line Vmslt = on Arithmetic Mask Single Single
family_line Vmsleu = on Arithmetic Mask Single Single
family_line Vmsle = on Arithmetic Mask Single Single
family_line Vmsgtu = on Arithmetic Mask Single Single
family_line Vmsgt = on Arithmetic Mask Single Single
family_line Vnsrl = on Arithmetic Single Double Single
family_line Vnsra = on Arithmetic Single Double Single
family_line Vwaddu = on Arithmetic Double Single Single
family_line Vwadd = on Arithmetic Double Single Single
family_line Vwsubu = on Arithmetic Double Single Single
family_line Vwsub = on Arithmetic Double Single Single
family_line VwadduW = on Arithmetic Double Double Single
family_line VwaddW = on Arithmetic Double Double Single
family_line VwsubuW = on Arithmetic Double Double Single
family_line VwsubW = on Arithmetic Double Double Single
family_line Vwmulu = on Multiply Double Single Single
family_line Vwmulsu = on Multiply Double Single Single
family_line Vwmul = on Multiply Double Single Single
family_line Vwmaccu = on Multiply Double Single Single
family_line Vwmacc = on Multiply Double Single Single
family_line Vwmaccus = on Multiply Double Single Single
family_line Vwmaccsu = on Multiply Double Single Single
family_line Vsaddu = on Arithmetic Single Single Single
family_line Vsadd = on Arithmetic Single Single Single
family_line Vssubu = on Arithmetic Single Single Single
family_line Vssub = on Arithmetic Single Single Single
family_line Vsmul = on Multiply Single Single Single
family_line Vssrl = on Arithmetic Single Single Single
family_line Vssra = on Arithmetic Single Single Single
family_line Vnclipu = on Arithmetic Single Double Single
family_line Vnclip = on Arithmetic Single Double Single
family_line Vaaddu = on Arithmetic Single Single Single
family_line Vaadd = on Arithmetic Single Single Single
family_line Vasubu = on Arithmetic Single Single Single
family_line Vasub = on Arithmetic Single Single Single
family_line Vredsum = on Permute Element Single Element
family_line Vredand = on Permute Element Single Element
family_line Vredor = on Permute Element Single Element
family_line Vredxor = on Permute Element Single Element
family_line Vredminu = on Permute Element Single Element
family_line Vredmin = on Permute Element Single Element
family_line Vredmaxu = on Permute Element Single Element
family_line Vredmax = on Permute Element Single Element
family_line Vwredsumu = on Permute WideElement Single WideElement
family_line Vwredsum = on Permute WideElement Single WideElement
family_line VmvXS = on Permute Absent Element Absent
family_line Vcpop = on Permute Absent Mask Absent
family_line Vfirst = on Permute Absent Mask Absent
family_line Vmsbf = on Permute Mask Mask Absent
family_line Vmsof = on Permute Mask Mask Absent
family_line Vmsif = on Permute Mask Mask Absent
family_line Viota = on Permute Single Mask Absent
family_line Vid = on Arithmetic Single Absent Absent
family_line Vmandn = on Arithmetic Mask Mask Mask
family_line Vmand = on Arithmetic Mask Mask Mask
family_line Vmor = on Arithmetic Mask Mask Mask
family_line Vmxor = on Arithmetic Mask Mask Mask
family_line Vmorn = on Arithmetic Mask Mask Mask
family_line Vmnand = on Arithmetic Mask Mask Mask
family_line Vmnor = on Arithmetic Mask Mask Mask
family_line Vmxnor = on Arithmetic Mask Mask Mask
family_line Vrgather = on Permute Single Single Single
family_line Vrgatherei16 = on Permute Single Single Sixteen
family_line Vslideup = on Permute Single Single Absent
family_line Vslidedown = on Permute Single Single Absent
family_line Vslide1up = on Permute Single Single Absent
family_line Vslide1down = on Permute Single Single Absent
family_line VmvSX = on Permute Element Absent Absent
family_line Vcompress = on Permute Single Single Mask

abbrev pub unit_of : Family → Unit
unit_of family = (family_line family).unit

abbrev pub operands_of : Family → Operands
operands_of family = (family_line family).operands
