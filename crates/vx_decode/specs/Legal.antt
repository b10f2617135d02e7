-- Which vector instructions raise illegal instruction under a setting, after RISC-V "V" 1.0, sections 3.4.4, 5.2, 5.3, 7.4,
-- 7.8, 7.9, 11, 14, 15, 16 and 18.2. Which forms are illegal is this project's own choice, and no statement about those that
-- the standard reserves: so a legal instruction may read one register at two element widths.
use Rattle.std.specs.Prelude.{ℕ, ◌+◌, ◌*◌, ◌%◌, Bool, true, false, not, ◌==◌, ◌&&◌, ◌||◌, nat_lt, nat_le, List}
use Rattle.std.specs.List.{list_any}
use Rattle.vx_rows.specs.Table.{class_of}
use Rattle.vx_rows.specs.declared.family.Family.{Family}
use Rattle.vx_rows.specs.declared.family.Family.TheVariants as family
use Rattle.vx_rows.specs.declared.row.Addressing.TheVariants as addressing
use Rattle.vx_rows.specs.declared.row.Class.{Class}
use Rattle.vx_rows.specs.declared.row.Class.TheVariants as class
use Rattle.vx_vstate.specs.Vtype.{vill, sew}
use Rattle.vx_vstate.specs.State.{SettingView}
use Rattle.vx_vstate.specs.Groups.{registers_of_group}
use Rattle.vx_decode.specs.Groups.{mask_at, extent, meet, destinations, sources}
use Rattle.vx_decode.specs.declared.group.Group.{Group}
use Rattle.vx_decode.specs.declared.instr.Instr.{Instr}

-- the comparisons, and the carries and borrows that are masks
abbrev pub compares : Family → Bool
compares family.Vmadc = true
compares family.Vmsbc = true
compares family.Vmseq = true
compares family.Vmsne = true
compares family.Vmsltu = true
compares family.Vmslt = true
compares family.Vmsleu = true
compares family.Vmsle = true
compares family.Vmsgtu = true
compares family.Vmsgt = true
compares other = false

abbrev pub reduces : Family → Bool
reduces family.Vredsum = true
reduces family.Vredand = true
reduces family.Vredor = true
reduces family.Vredxor = true
reduces family.Vredminu = true
reduces family.Vredmin = true
reduces family.Vredmaxu = true
reduces family.Vredmax = true
reduces family.Vwredsumu = true
reduces family.Vwredsum = true
reduces other = false

-- some group of a list
abbrev pub some_group : List Group → (Group → Bool) → Bool
some_group groups holds = list_any holds groups

-- ---- 1: vill is set, and the row needs a configuration: all do but those that make one and those that move whole registers

abbrev pub needs_none : Class → Bool
needs_none class.Set = true
needs_none (class.VectorLoad addressing.Whole width) = true
needs_none (class.VectorStore addressing.Whole width) = true
needs_none (class.VectorArithmetic family.Vmv1r) = true
needs_none (class.VectorArithmetic family.Vmv2r) = true
needs_none (class.VectorArithmetic family.Vmv4r) = true
needs_none (class.VectorArithmetic family.Vmv8r) = true
needs_none other = false

abbrev pub lacks_configuration : Instr → SettingView → Bool
lacks_configuration i at = at.vtype == vill && not (needs_none (class_of i.op))

-- ---- 2: an operand has no such width or no such number of registers, or its first register isn't one of those numbered by
-- multiples of that number

-- the width of a mask isn't tested
abbrev pub is_bad_width : Group → Bool
is_bad_width g = not g.is_mask && not (nat_le 8 g.eew && nat_le g.eew 64)

abbrev pub is_bad_group : Group → Bool
is_bad_group g = is_bad_width g || not (nat_le 1 g.emul_eighths && nat_le g.emul_eighths 64) || not (g.register % registers_of_group g.emul_eighths == 0)

abbrev pub has_bad_group : Instr → SettingView → Bool
has_bad_group i at = some_group (destinations i at) is_bad_group || some_group (sources i at) is_bad_group

-- ---- 3: the fields of a segment take more than eight registers, or pass the last

abbrev pub is_too_long : Group → Bool
is_too_long g = not (g.fields == 1) && (nat_lt 64 (g.fields * g.emul_eighths) || nat_lt 32 (g.register + extent g))

abbrev pub has_long_segment : Instr → SettingView → Bool
has_long_segment i at = some_group (destinations i at) is_too_long || some_group (sources i at) is_too_long

-- ---- 4: the destination of a masked row meets the mask

-- rows that write a mask by comparing or carrying, and reductions, may write v0
abbrev pub may_write_mask : Class → Bool
may_write_mask (class.VectorArithmetic f) = compares f || reduces f
may_write_mask other = false

abbrev pub overwrites_mask : Instr → SettingView → Bool
overwrites_mask i at = not i.vm && not (may_write_mask (class_of i.op)) && some_group (destinations i at) (meet (mask_at 0))

-- ---- 5: the destination meets a source of another width in registers that are needed still

-- of one width; the destination narrower, at the source's lowest part; or wider, with the source, of whole registers, at the
-- destination's highest part
abbrev pub may_meet : (destination source : Group) → Bool
may_meet d s =
    d.eew == s.eew
    || (nat_lt d.eew s.eew && d.register == s.register)
    || (nat_lt s.eew d.eew && nat_le 8 s.emul_eighths && s.register + extent s == d.register + extent d)

-- reductions, whole-register moves and moves of element 0 read what they need before they write
abbrev pub reads_first : Class → Bool
reads_first (class.VectorArithmetic family.VmvXS) = true
reads_first (class.VectorArithmetic family.VmvSX) = true
reads_first (class.VectorArithmetic family.Vmv1r) = true
reads_first (class.VectorArithmetic family.Vmv2r) = true
reads_first (class.VectorArithmetic family.Vmv4r) = true
reads_first (class.VectorArithmetic family.Vmv8r) = true
reads_first (class.VectorArithmetic f) = reduces f
reads_first other = false

abbrev pub overlaps_badly : Instr → SettingView → Bool
overlaps_badly i at =
    not (reads_first (class_of i.op))
    && some_group (destinations i at) (λ d. some_group (sources i at) (λ s. meet d s && not (may_meet d s)))

-- ---- 6: the destination meets a source of a row whose elements come from other places

abbrev pub is_kept_apart : Class → (nf : ℕ) → Bool
is_kept_apart (class.VectorArithmetic family.Vslideup) nf = true
is_kept_apart (class.VectorArithmetic family.Vslide1up) nf = true
is_kept_apart (class.VectorArithmetic family.Vrgather) nf = true
is_kept_apart (class.VectorArithmetic family.Vrgatherei16) nf = true
is_kept_apart (class.VectorArithmetic family.Vcompress) nf = true
is_kept_apart (class.VectorArithmetic family.Viota) nf = true
is_kept_apart (class.VectorArithmetic family.Vmsbf) nf = true
is_kept_apart (class.VectorArithmetic family.Vmsif) nf = true
is_kept_apart (class.VectorArithmetic family.Vmsof) nf = true
is_kept_apart (class.VectorLoad addressing.Unordered width) nf = nat_lt 0 nf
is_kept_apart (class.VectorLoad addressing.Ordered width) nf = nat_lt 0 nf
is_kept_apart other nf = false

abbrev pub meets_source : Instr → SettingView → Bool
meets_source i at =
    is_kept_apart (class_of i.op) i.nf
    && some_group (destinations i at) (λ d. some_group (sources i at) (meet d) || (not i.vm && meet d (mask_at 0)))

-- ---- 7: the row can't go on from an element behind the first

abbrev pub begins_at_first : Class → Bool
begins_at_first (class.VectorArithmetic family.Vcompress) = true
begins_at_first (class.VectorArithmetic family.Vcpop) = true
begins_at_first (class.VectorArithmetic family.Vfirst) = true
begins_at_first (class.VectorArithmetic family.Viota) = true
begins_at_first (class.VectorArithmetic family.Vmsbf) = true
begins_at_first (class.VectorArithmetic family.Vmsif) = true
begins_at_first (class.VectorArithmetic family.Vmsof) = true
begins_at_first (class.VectorArithmetic f) = reduces f
begins_at_first other = false

abbrev pub begins_late : Instr → SettingView → Bool
begins_late i at = not (at.vstart == 0) && begins_at_first (class_of i.op)

-- ---- 8: the high half of a product at 64 bits, also of a fixed-point one: Zve64x leaves them out

abbrev pub is_high_half : Class → Bool
is_high_half (class.VectorArithmetic family.Vmulh) = true
is_high_half (class.VectorArithmetic family.Vmulhu) = true
is_high_half (class.VectorArithmetic family.Vmulhsu) = true
is_high_half (class.VectorArithmetic family.Vsmul) = true
is_high_half other = false

abbrev pub is_too_wide : Instr → SettingView → Bool
is_too_wide i at = sew at.vtype == 64 && is_high_half (class_of i.op)

-- ---- any of them, of a vector instruction

abbrev pub is_illegal : Instr → SettingView → Bool
is_illegal i at =
    lacks_configuration i at
    || has_bad_group i at
    || has_long_segment i at
    || overwrites_mask i at
    || overlaps_badly i at
    || meets_source i at
    || begins_late i at
    || is_too_wide i at
