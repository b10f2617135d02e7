-- What a slot stands for. This project's own.
use Rattle.std.specs.Prelude.{[], ◌∷◌}
use Rattle.vx_language.specs.Slots as language
use Rattle.vx_statement.specs.Ranges.{range_of, width_of}
use Rattle.vx_statement.specs.declared.slot.Slot.{Slot}
use Rattle.vx_statement.specs.declared.slot.Slot.TheVariants.{Rd, Rs1, Rs2, Vd, Vs1, Vs2, Masked, Carry, VtypeWord, Immediate, SourceField, Offset, Label, ControlRegister, Datum, Text, Symbol, Mark}

abbrev pub slot_of : Slot → language.Slot
slot_of Rd = language.Rd
slot_of Rs1 = language.Rs1
slot_of Rs2 = language.Rs2
slot_of Vd = language.Vd
slot_of Vs1 = language.Vs1
slot_of Vs2 = language.Vs2
slot_of Masked = language.Masked
slot_of Carry = language.Carry
slot_of (VtypeWord f) = language.VtypeWord f
slot_of (Immediate range) = language.Immediate (range_of range)
slot_of (SourceField range) = language.SourceField (range_of range)
slot_of (Offset reach) = language.Offset (width_of reach)
slot_of Label = language.Label
slot_of ControlRegister = language.ControlRegister
slot_of (Datum range) = language.Datum (range_of range)
slot_of Text = language.Text
slot_of Symbol = language.Symbol
slot_of (Mark mark) = language.Mark (mark ∷ [])
