-- Labels that are 0 bytes away.
use Rattle.std.proofs.Common.{◌≡◌, ℤ, pos, Bool, true, false, not, cond, ◌&&◌, List, [], ◌∷◌, ◌++◌, drop, Option, Some, None, refl}
use Rattle.vx_language.specs.Forms.{Form}
use Rattle.vx_language.specs.Lexemes.{Piece, is_a}
use Rattle.vx_language.specs.Places.{offset_fault, offset_faults, form_offset_faults, statement_offset_faults}
use Rattle.vx_language.specs.Slots.{Slot, Rd, Rs1, Rs2, Vd, Vs1, Vs2, Masked, Carry, VtypeWord, Immediate, SourceField, Offset, Label, ControlRegister, Datum, Text, Symbol, Mark, is_offset}
use Rattle.vx_language.specs.Statements.{statement_form}
use Rattle.vx_language.specs.declared.fault.Fault.{Fault}
use Rattle.vx_language.specs.declared.token.TokenKind.TheVariants as token
use Rattle.vx_code.proofs.Ranges.{zero-fits}

abbrev nowhere : Piece → ℤ
nowhere label = pos 0

no-far : (a b : Bool) (f : Fault) → b ≡ true → cond (a && not b) (f ∷ []) [] ≡ []
no-far true b f e = rw e refl
no-far false b f e = refl

slot-reaches : (slot : Slot) (piece : Piece) → offset_fault nowhere slot piece ≡ []
slot-reaches Rd piece = refl
slot-reaches Rs1 piece = refl
slot-reaches Rs2 piece = refl
slot-reaches Vd piece = refl
slot-reaches Vs1 piece = refl
slot-reaches Vs2 piece = refl
slot-reaches Masked piece = refl
slot-reaches Carry piece = refl
slot-reaches (VtypeWord f) piece = refl
slot-reaches (Immediate range) piece = refl
slot-reaches (SourceField range) piece = refl
slot-reaches (Offset width) piece = no-far (is_a token.Name piece) (is_offset width (pos 0)) _ (zero-fits width)
slot-reaches Label piece = refl
slot-reaches ControlRegister piece = refl
slot-reaches (Datum range) piece = refl
slot-reaches Text piece = refl
slot-reaches Symbol piece = refl
slot-reaches (Mark mark) piece = refl

slots-reach : (slots : List Slot) (pieces : List Piece) → offset_faults nowhere slots pieces ≡ []
unfolding offset_faults
slots-reach [] [] = refl
slots-reach [] (piece ∷ pieces) = refl
slots-reach (slot ∷ slots) [] = refl
slots-reach (slot ∷ slots) (piece ∷ pieces) = λ j. slot-reaches slot piece j ++ slots-reach slots pieces j

form-reaches : (form : Option Form) (pieces : List Piece) → form_offset_faults nowhere form pieces ≡ []
form-reaches None pieces = refl
form-reaches (Some form) pieces = slots-reach form.slots pieces

pub nowhere-reaches : (statement : List Piece) → statement_offset_faults nowhere statement ≡ []
nowhere-reaches statement = form-reaches (statement_form statement) (drop 1 statement)
