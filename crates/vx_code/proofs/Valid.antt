-- The instructions of a statement without a fault are valid.
use Rattle.std.proofs.Common.{◌≡◌, ℕ, ◌<◌, ◌≤◌, arith, Bool, true, false, not, cond, ◌&&◌, ◌||◌, ◌-◌, ◌^◌, ℤ, pos, neg_ℤ, ◌≤ℤ◌, List, [], ◌∷◌, Option, Some, None, IfSome, inl, inr, ◌⊎◌, refl, sym, ap, ◌∙◌, subst}
use Rattle.std.specs.Prelude.{◌==◌, unsigned_abs, unwrap_or, nat_lt, int_le, option_map}
use Rattle.std.specs.List.{list_all, list_any}
use Rattle.std.proofs.lemmas.Bool.{and_parts, false≢true, ltb-true, leb-true, eqb-true}
use Rattle.std.proofs.Math.Nat.{pow-le-pow_right}
use Rattle.std.proofs.lemmas.Int.{ints}
use Rattle.vx_base.specs.Numbers.{reduced}
use Rattle.vx_decode.specs.Encoded.{IsRegister, IsNumber, IsVm, IsNf, IsValid}
use Rattle.vx_decode.specs.declared.instr.Instr.{Instr}
use Rattle.vx_rows.specs.Layouts.{layout_of}
use Rattle.vx_rows.specs.Table.{shape_of}
use Rattle.vx_rows.specs.declared.row.Layout.{Layout}
use Rattle.vx_rows.specs.declared.row.Nf.{Nf}
use Rattle.vx_rows.specs.declared.row.Nf.TheVariants as nf
use Rattle.vx_rows.specs.declared.row.Number.{Number}
use Rattle.vx_rows.specs.declared.row.Number.TheVariants.{Absent, Unsigned, Signed, FormatS, FormatB, FormatJ}
use Rattle.vx_rows.specs.declared.row.Vm.{Vm}
use Rattle.vx_rows.specs.declared.row.Vm.TheVariants as vm
use Rattle.vx_language.specs.Code.{Code, Expansion, Alone, LoadsNumber, LoadsAddress, filled, filled_all, expanded, instr_bytes, control_of, with_immediate}
use Rattle.vx_language.specs.Faults.{fault_at}
use Rattle.vx_language.specs.Forms.{Puts}
use Rattle.vx_language.specs.Lexemes.{Piece, is_a}
use Rattle.vx_language.specs.Numerals.{number_value}
use Rattle.vx_language.specs.Places.{offset_fault, offset_faults}
use Rattle.vx_language.specs.Slots.{Slot, Rd, Rs1, Rs2, Vd, Vs1, Vs2, Masked, Carry, VtypeWord, Immediate, SourceField, Offset, Label, ControlRegister, Datum, Text, Symbol, Mark, Range, token_faults, is_within, is_offset, unsigned_range, label_faults}
use Rattle.vx_language.specs.Statements.{aimed, code_instrs}
use Rattle.vx_language.specs.declared.fault.FaultKind.TheVariants.{OutOfRange}
use Rattle.vx_language.specs.declared.token.TokenKind.TheVariants as token
use Rattle.vx_code.specs.Filling.{Fill, seen}
use Rattle.vx_code.specs.Putting.{IsSound, MayBePut, instr_with}
use Rattle.vx_code.specs.Right.{is_right_slot, is_right_code, is_begun, is_register, is_number, is_masking, is_right_mask, may_be_masked, has_fields, has_no_target, covers, covers_words, is_inside}
use Rattle.vx_code.proofs.Nothing.{no-parts, no-fault}
use Rattle.vx_code.proofs.Ranges.{le-from, between, covered, offset-covered, register-below, vector-below, reduced-below, control-within, abs-below, unsigned-covered, signed-covered}

and-true : (b : Bool) → (b && true) ≡ b
and-true true = refl
and-true false = refl

and-false : (b : Bool) → (b && false) ≡ false
and-false true = refl
and-false false = refl

either-masks : (b first more : Bool) → ((b && not first) && not more) ≡ (b && not (first || more))
either-masks true true more = refl
either-masks true false more = refl
either-masks false true more = refl
either-masks false false more = refl

one-of-four : (k : ℕ) (a b c d : Bool) → (k == 0) ≡ a → (k == 1) ≡ b → (k == 3) ≡ c → (k == 7) ≡ d → (a || (b || (c || d))) ≡ true → (k ≡ 0) ⊎ (k ≡ 1) ⊎ (k ≡ 3) ⊎ (k ≡ 7)
one-of-four k true b c d p q r s e = inl (eqb-true k 0 p)
one-of-four k false true c d p q r s e = inr (inl (eqb-true k 1 q))
one-of-four k false false true d p q r s e = inr (inr (inl (eqb-true k 3 r)))
one-of-four k false false false true p q r s e = inr (inr (inr (eqb-true k 7 s)))
one-of-four k false false false false p q r s e = absurd (false≢true e)

offset-vm : (piece : Piece) (code : Code) (b : Bool) → (cond b (record code { target = Some piece }) (with_immediate (number_value piece.text) code)).instr.vm ≡ (code.instr.vm && true)
offset-vm piece code true = sym (and-true code.instr.vm)
offset-vm piece code false = sym (and-true code.instr.vm)

no-mask-first : (layout : Layout) (slot : Slot) (more : Bool) → may_be_masked layout.vm ≡ false → is_right_slot layout slot ≡ true → more ≡ false → (is_masking slot || more) ≡ false
no-mask-first layout Masked more none right rest = absurd (false≢true (sym none ∙ right))
no-mask-first layout Carry more none right rest = absurd (false≢true (sym none ∙ right))
no-mask-first layout slot more none right rest = rest

-- what the operands of an instruction are, but for vm
record HasParts (layout : Layout) (i : Instr) : Type 0 where
  rd : IsRegister layout.rd i.rd
  rs1 : IsRegister layout.rs1 i.rs1
  rs2 : IsRegister layout.rs2 i.rs2
  imm : IsNumber layout.number i.imm
  nf : IsNf layout.nf i.nf

-- what a code's instruction, and its label, are
record Holds (layout : Layout) (aim : Piece → ℤ) (code : Code) : Type 0 where
  operands : HasParts layout code.instr
  target : IfSome code.target (λ (label : Piece). IsNumber layout.number (aim label))

register-right : (has : Bool) (n : ℕ) → has ≡ true → n < 32 → IsRegister has n
register-right true n e h = h
register-right false n e h = absurd (false≢true e)

with-rd : (layout : Layout) (aim : Piece → ℤ) (code : Code) (n : ℕ) → IsRegister layout.rd n → Holds layout aim code → Holds layout aim (record code { instr = record code.instr { rd = n } })
with-rd layout aim code n h holds =
    let o = holds.operands in
    record { operands = record { rd = h; rs1 = o.rs1; rs2 = o.rs2; imm = o.imm; nf = o.nf }; target = holds.target }

with-rs1 : (layout : Layout) (aim : Piece → ℤ) (code : Code) (n : ℕ) → IsRegister layout.rs1 n → Holds layout aim code → Holds layout aim (record code { instr = record code.instr { rs1 = n } })
with-rs1 layout aim code n h holds =
    let o = holds.operands in
    record { operands = record { rd = o.rd; rs1 = h; rs2 = o.rs2; imm = o.imm; nf = o.nf }; target = holds.target }

with-rs2 : (layout : Layout) (aim : Piece → ℤ) (code : Code) (n : ℕ) → IsRegister layout.rs2 n → Holds layout aim code → Holds layout aim (record code { instr = record code.instr { rs2 = n } })
with-rs2 layout aim code n h holds =
    let o = holds.operands in
    record { operands = record { rd = o.rd; rs1 = o.rs1; rs2 = h; imm = o.imm; nf = o.nf }; target = holds.target }

with-imm : (layout : Layout) (aim : Piece → ℤ) (code : Code) (z : ℤ) → IsNumber layout.number z → Holds layout aim code → Holds layout aim (with_immediate z code)
with-imm layout aim code z h holds =
    let o = holds.operands in
    record { operands = record { rd = o.rd; rs1 = o.rs1; rs2 = o.rs2; imm = h; nf = o.nf }; target = holds.target }

with-vm : (layout : Layout) (aim : Piece → ℤ) (code : Code) (b : Bool) → Holds layout aim code → Holds layout aim (record code { instr = record code.instr { vm = b } })
with-vm layout aim code b holds =
    let o = holds.operands in
    record { operands = record { rd = o.rd; rs1 = o.rs1; rs2 = o.rs2; imm = o.imm; nf = o.nf }; target = holds.target }

with-target : (layout : Layout) (aim : Piece → ℤ) (code : Code) (label : Piece) → IsNumber layout.number (aim label) → Holds layout aim code → Holds layout aim (record code { target = Some label })
with-target layout aim code label h holds = record { operands = holds.operands; target = h }

fits : {X : Type 0} (b : Bool) (x : X) → cond (not b) (x ∷ []) [] ≡ [] → b ≡ true
fits true x e = refl
fits false x e = cc

-- targets
target-held : (names : List (List ℕ)) (layout : Layout) (aim : Piece → ℤ) (width : ℕ) (piece : Piece) (code : Code) (b : Bool) → is_right_slot layout (Offset width) ≡ true → cond b (label_faults names piece) (cond (is_offset width (number_value piece.text)) [] (fault_at OutOfRange piece ∷ [])) ≡ [] → cond (b && not (is_offset width (aim piece))) (fault_at OutOfRange piece ∷ []) [] ≡ [] → Holds layout aim code → Holds layout aim (cond b (record code { target = Some piece }) (with_immediate (number_value piece.text) code))
target-held names layout aim width piece code true right none reach holds =
    with-target layout aim code piece (offset-covered layout.number width (aim piece) right (fits (is_offset width (aim piece)) _ reach)) holds
target-held names layout aim width piece code false right none reach holds =
    with-imm layout aim code (number_value piece.text) (offset-covered layout.number width (number_value piece.text) right (no-fault (is_offset width (number_value piece.text)) _ none)) holds

-- control registers
control-held : (layout : Layout) (aim : Piece → ℤ) (piece : Piece) (code : Code) (b : Bool) → covers layout.number (unsigned_range 12) ≡ true → cond b [] (cond (is_within (unsigned_range 12) (number_value piece.text)) [] (fault_at OutOfRange piece ∷ [])) ≡ [] → Holds layout aim code → Holds layout aim (with_immediate (cond b (pos (control_of piece)) (number_value piece.text)) code)
control-held layout aim piece code true right none holds =
    with-imm layout aim code (pos (control_of piece)) (covered layout.number (unsigned_range 12) _ right (control-within piece.text)) holds
control-held layout aim piece code false right none holds =
    with-imm layout aim code (number_value piece.text) (covered layout.number (unsigned_range 12) _ right (no-fault (is_within (unsigned_range 12) (number_value piece.text)) _ none)) holds

source-below : (range : Range) (value : ℤ) → is_inside (pos 0) (pos 31) range ≡ true → is_within range value ≡ true → unsigned_abs value < 32
source-below range value inside within =
    let h = between (pos 0) (pos 31) value range inside within in
    let le = abs-below 31 value h.0 h.1 in
    omega (arith, le)

words-covered : (number : Number) (z : ℤ) → covers_words number ≡ true → IsNumber number (pos (reduced 8 z))
words-covered Absent z e = absurd (false≢true e)
words-covered (Unsigned low count) z e =
    let le : 8 ≤ count = leb-true 8 count e in
    let power : 2 ^ 8 ≤ 2 ^ count = pow-le-pow_right (omega arith) le in
    let below : reduced 8 z < 2 ^ 8 = reduced-below z in
    (omega (arith, ints), omega (arith, ints, power, below))
words-covered (Signed low count) z e = absurd (false≢true e)
words-covered FormatS z e = absurd (false≢true e)
words-covered FormatB z e = absurd (false≢true e)
words-covered FormatJ z e = absurd (false≢true e)

-- a slot more
slot-held : (names : List (List ℕ)) (layout : Layout) (aim : Piece → ℤ) (slot : Slot) (piece : Piece) (code : Code) → is_right_slot layout slot ≡ true → token_faults names slot piece ≡ [] → offset_fault aim slot piece ≡ [] → Holds layout aim code → Holds layout aim (filled slot piece code)
unfolding filled token_faults
slot-held names layout aim Rd piece code right none reach holds = with-rd layout aim code _ (register-right layout.rd _ right (register-below piece.text)) holds
slot-held names layout aim Rs1 piece code right none reach holds = with-rs1 layout aim code _ (register-right layout.rs1 _ right (register-below piece.text)) holds
slot-held names layout aim Rs2 piece code right none reach holds = with-rs2 layout aim code _ (register-right layout.rs2 _ right (register-below piece.text)) holds
slot-held names layout aim Vd piece code right none reach holds = with-rd layout aim code _ (register-right layout.rd _ right (vector-below piece.text)) holds
slot-held names layout aim Vs1 piece code right none reach holds = with-rs1 layout aim code _ (register-right layout.rs1 _ right (vector-below piece.text)) holds
slot-held names layout aim Vs2 piece code right none reach holds = with-rs2 layout aim code _ (register-right layout.rs2 _ right (vector-below piece.text)) holds
slot-held names layout aim Masked piece code right none reach holds = with-vm layout aim code false holds
slot-held names layout aim Carry piece code right none reach holds = with-vm layout aim code false holds
slot-held names layout aim (VtypeWord f) piece code right none reach holds = with-imm layout aim code _ (words-covered layout.number _ right) holds
slot-held names layout aim (Immediate range) piece code right none reach holds =
    with-imm layout aim code _ (covered layout.number range _ right (no-fault (is_within range (number_value piece.text)) _ none)) holds
slot-held names layout aim (SourceField range) piece code right none reach holds =
    let parts = and_parts layout.rs1 (is_inside (pos 0) (pos 31) range) right in
    with-rs1 layout aim code _ (register-right layout.rs1 _ parts.0 (source-below range (number_value piece.text) parts.1 (no-fault (is_within range (number_value piece.text)) _ none))) holds
slot-held names layout aim (Offset width) piece code right none reach holds =
    target-held names layout aim width piece code (is_a token.Name piece) right none reach holds
slot-held names layout aim Label piece code right none reach holds = absurd (false≢true right)
slot-held names layout aim ControlRegister piece code right none reach holds =
    control-held layout aim piece code (is_a token.Name piece) right none holds
slot-held names layout aim (Datum range) piece code right none reach holds = holds
slot-held names layout aim Text piece code right none reach holds = holds
slot-held names layout aim Symbol piece code right none reach holds = holds
slot-held names layout aim (Mark mark) piece code right none reach holds = holds

-- all slots
all-held : (names : List (List ℕ)) (layout : Layout) (aim : Piece → ℤ) (slots : List Slot) (pieces : List Piece) (code : Code) → list_all (is_right_slot layout) slots ≡ true → Fill names slots pieces → offset_faults aim slots pieces ≡ [] → Holds layout aim code → Holds layout aim (filled_all slots pieces code)
unfolding filled_all offset_faults
all-held names layout aim [] [] code right fill reach holds = holds
all-held names layout aim [] (piece ∷ pieces) code right fill reach holds = absurd fill
all-held names layout aim (slot ∷ slots) [] code right fill reach holds = absurd fill
all-held names layout aim (slot ∷ slots) (piece ∷ pieces) code right fill reach holds =
    let rights = and_parts (is_right_slot layout slot) (list_all (is_right_slot layout) slots) right in
    let parts = no-parts (offset_fault aim slot piece) (offset_faults aim slots pieces) reach in
    all-held names layout aim slots pieces (filled slot piece code) rights.1 fill.2 parts.1 (slot-held names layout aim slot piece code rights.0 fill.1 parts.0 holds)

-- the beginning
register-begun : (has : Bool) (n : ℕ) → is_register has n ≡ true → IsRegister has n
register-begun true n e = ltb-true n 32 e
register-begun false n e = eqb-true n 0 e

zero-is : (z : ℤ) → (int_le (pos 0) z && int_le z (pos 0)) ≡ true → z ≡ pos 0
zero-is z e = let parts = and_parts (int_le (pos 0) z) (int_le z (pos 0)) e in grind (arith, ints)

signed-begun : (width : ℕ) (z : ℤ) → (pos 0 ≤ℤ z) × (z ≤ℤ pos (2 ^ (width - 1) - 1)) → (neg_ℤ (pos (2 ^ (width - 1))) ≤ℤ z) × (z ≤ℤ pos (2 ^ (width - 1) - 1))
signed-begun width z h = let low = h.0 in (omega (arith, ints, low), h.1)

bounds : (low high z : ℤ) → (int_le low z && int_le z high) ≡ true → (low ≤ℤ z) × (z ≤ℤ high)
bounds low high z e =
    let parts = and_parts (int_le low z) (int_le z high) e in
    (le-from low z parts.0, le-from z high parts.1)

number-begun : (number : Number) (z : ℤ) → is_number number z ≡ true → IsNumber number z
number-begun Absent z e = zero-is z e
number-begun (Unsigned low count) z e = unsigned-covered count z (bounds (pos 0) (pos (2 ^ count - 1)) z e)
number-begun (Signed low count) z e = signed-covered count z (signed-begun count z (bounds (pos 0) (pos (2 ^ (count - 1) - 1)) z e))
number-begun FormatS z e = let none = zero-is z e in (omega (arith, ints, none), omega (arith, ints, none))
number-begun FormatB z e = let none = zero-is z e in ((omega (arith, ints, none), omega (arith, ints, none)), rw none refl)
number-begun FormatJ z e = let none = zero-is z e in ((omega (arith, ints, none), omega (arith, ints, none)), rw none refl)

fields-begun : (n : Nf) (k : ℕ) → has_fields n k ≡ true → IsNf n k
fields-begun nf.Absent k e = eqb-true k 0 e
fields-begun nf.Any k e = ltb-true k 8 e
fields-begun nf.Registers k e = one-of-four k (k == 0) (k == 1) (k == 3) (k == 7) refl refl refl refl e

begun : (layout : Layout) (i : Instr) → is_begun layout i ≡ true → HasParts layout i
begun layout i e =
    let a = and_parts (is_register layout.rd i.rd) _ e in
    let b = and_parts (is_register layout.rs1 i.rs1) _ a.1 in
    let c = and_parts (is_register layout.rs2 i.rs2) _ b.1 in
    let d = and_parts (is_number layout.number i.imm) (has_fields layout.nf i.nf) c.1 in
    record {
      rd = register-begun layout.rd i.rd a.0;
      rs1 = register-begun layout.rs1 i.rs1 b.0;
      rs2 = register-begun layout.rs2 i.rs2 c.0;
      imm = number-begun layout.number i.imm d.0;
      nf = fields-begun layout.nf i.nf d.1;
    }

-- vm, once the slots are filled
slot-vm : (slot : Slot) (piece : Piece) (code : Code) → (filled slot piece code).instr.vm ≡ (code.instr.vm && not (is_masking slot))
unfolding filled
slot-vm Masked piece code = sym (and-false code.instr.vm)
slot-vm Carry piece code = sym (and-false code.instr.vm)
slot-vm (Offset width) piece code = offset-vm piece code (is_a token.Name piece)
slot-vm slot piece code = sym (and-true code.instr.vm)

all-vm : (names : List (List ℕ)) (slots : List Slot) (pieces : List Piece) (code : Code) → Fill names slots pieces → (filled_all slots pieces code).instr.vm ≡ (code.instr.vm && not (list_any is_masking slots))
unfolding filled_all
all-vm names [] [] code fill = sym (and-true code.instr.vm)
all-vm names [] (piece ∷ pieces) code fill = absurd fill
all-vm names (slot ∷ slots) [] code fill = absurd fill
all-vm names (slot ∷ slots) (piece ∷ pieces) code fill =
    all-vm names slots pieces (filled slot piece code) fill.2
    ∙ ap (λ (b : Bool). b && not (list_any is_masking slots)) (slot-vm slot piece code)
    ∙ either-masks code.instr.vm (is_masking slot) (list_any is_masking slots)

-- no slot masks where none may
no-mask : (layout : Layout) (slots : List Slot) → may_be_masked layout.vm ≡ false → list_all (is_right_slot layout) slots ≡ true → list_any is_masking slots ≡ false
no-mask layout [] none right = refl
no-mask layout (slot ∷ slots) none right =
    let parts = and_parts (is_right_slot layout slot) (list_all (is_right_slot layout) slots) right in
    no-mask-first layout slot (list_any is_masking slots) none parts.0 (no-mask layout slots none parts.1)

mask-right : (v : Vm) (b m : Bool) (slots : List Slot) → list_any is_masking slots ≡ m → (may_be_masked v ≡ false → m ≡ false) → is_right_mask v b slots ≡ true → IsVm v (b && not m)
mask-right vm.Any b m slots e none right = tt
mask-right vm.Zero b m slots e none right = rw (sym e ∙ right) (and-false b)
mask-right vm.One b m slots e none right = rw (none refl) (and-true b ∙ right)

-- the code that an action begins with
abbrev pub started : Expansion → Instr → Code
started expansion i = record { expansion = expansion; instr = i; target = None }

imm-held : (number : Number) (aim : Piece → ℤ) (target : Option Piece) (imm : ℤ) → IsNumber number imm → IfSome target (λ (label : Piece). IsNumber number (aim label)) → IsNumber number (unwrap_or (option_map aim target) imm)
imm-held number aim None imm h k = h
imm-held number aim (Some label) imm h k = k

alone-valid : (names : List (List ℕ)) (aim : Piece → ℤ) (slots : List Slot) (pieces : List Piece) (i : Instr) → is_right_code slots Alone i ≡ true → Fill names slots pieces → offset_faults aim slots pieces ≡ [] → IsValid (instr_with i (seen aim (filled_all slots pieces (started Alone i))))
alone-valid names aim slots pieces i right fill reach =
    let layout = layout_of (shape_of i.op) in
    let parts = and_parts (is_begun layout i) (is_right_mask layout.vm i.vm slots && list_all (is_right_slot layout) slots) right in
    let slots_right = and_parts (is_right_mask layout.vm i.vm slots) (list_all (is_right_slot layout) slots) parts.1 in
    let before = begun layout i parts.0 in
    let holds = all-held names layout aim slots pieces (started Alone i) slots_right.1 fill reach (record { operands = before; target = tt }) in
    let o = holds.operands in
    let code = filled_all slots pieces (started Alone i) in
    let masked = mask-right layout.vm i.vm (list_any is_masking slots) slots refl (λ none. no-mask layout slots none slots_right.1) slots_right.0 in
    record {
      rd = o.rd;
      rs1 = o.rs1;
      rs2 = o.rs2;
      imm = imm-held layout.number aim code.target code.instr.imm o.imm holds.target;
      vm = subst (λ (b : Bool). IsVm layout.vm b) (sym (all-vm names slots pieces (started Alone i) fill)) masked;
      nf = before.nf;
    }

-- what filling leaves: where no slot is for a label, the label too
pub record Kept (free : Bool) (old new : Code) : Type 0 where
  pub expansion : new.expansion ≡ old.expansion
  pub op : new.instr.op ≡ old.instr.op
  pub nf : new.instr.nf ≡ old.instr.nf
  pub rd : old.instr.rd < 32 → new.instr.rd < 32
  pub target : free ≡ true → new.target ≡ old.target

kept-same : (free : Bool) (code new : Code) → new.expansion ≡ code.expansion → new.instr.op ≡ code.instr.op → new.instr.nf ≡ code.instr.nf → new.instr.rd ≡ code.instr.rd → new.target ≡ code.target → Kept free code new
kept-same free code new a b d e f = record { expansion = a; op = b; nf = d; rd = λ h. rw e h; target = λ h. f }

kept-target : (label : Piece) (code : Code) → Kept false code (record code { target = Some label })
kept-target label code = record { expansion = refl; op = refl; nf = refl; rd = λ h. h; target = λ h. absurd (false≢true h) }

kept-offset : (piece : Piece) (code : Code) (b : Bool) → Kept false code (cond b (record code { target = Some piece }) (with_immediate (number_value piece.text) code))
kept-offset piece code true = kept-target piece code
kept-offset piece code false = kept-same false code _ refl refl refl refl refl

slot-kept : (slot : Slot) (piece : Piece) (code : Code) → Kept (has_no_target slot) code (filled slot piece code)
unfolding filled
slot-kept Rd piece code = record { expansion = refl; op = refl; nf = refl; rd = λ h. register-below piece.text; target = λ h. refl }
slot-kept Rs1 piece code = kept-same true code _ refl refl refl refl refl
slot-kept Rs2 piece code = kept-same true code _ refl refl refl refl refl
slot-kept Vd piece code = record { expansion = refl; op = refl; nf = refl; rd = λ h. vector-below piece.text; target = λ h. refl }
slot-kept Vs1 piece code = kept-same true code _ refl refl refl refl refl
slot-kept Vs2 piece code = kept-same true code _ refl refl refl refl refl
slot-kept Masked piece code = kept-same true code _ refl refl refl refl refl
slot-kept Carry piece code = kept-same true code _ refl refl refl refl refl
slot-kept (VtypeWord f) piece code = kept-same true code _ refl refl refl refl refl
slot-kept (Immediate range) piece code = kept-same true code _ refl refl refl refl refl
slot-kept (SourceField range) piece code = kept-same true code _ refl refl refl refl refl
slot-kept (Offset width) piece code = kept-offset piece code (is_a token.Name piece)
slot-kept Label piece code = kept-target piece code
slot-kept ControlRegister piece code = kept-same true code _ refl refl refl refl refl
slot-kept (Datum range) piece code = kept-same true code _ refl refl refl refl refl
slot-kept Text piece code = kept-same true code _ refl refl refl refl refl
slot-kept Symbol piece code = kept-same true code _ refl refl refl refl refl
slot-kept (Mark mark) piece code = kept-same true code _ refl refl refl refl refl

kept-twice : (a b : Bool) (old new last : Code) → Kept a old new → Kept b new last → Kept (a && b) old last
kept-twice a b old new last first second = record {
  expansion = second.expansion ∙ first.expansion;
  op = second.op ∙ first.op;
  nf = second.nf ∙ first.nf;
  rd = λ h. second.rd (first.rd h);
  target = λ h. second.target (and_parts a b h).1 ∙ first.target (and_parts a b h).0;
}

pub all-kept : (names : List (List ℕ)) (slots : List Slot) (pieces : List Piece) (code : Code) → Fill names slots pieces → Kept (list_all has_no_target slots) code (filled_all slots pieces code)
unfolding filled_all
all-kept names [] [] code fill = kept-same true code code refl refl refl refl refl
all-kept names [] (piece ∷ pieces) code fill = absurd fill
all-kept names (slot ∷ slots) [] code fill = absurd fill
all-kept names (slot ∷ slots) (piece ∷ pieces) code fill =
    kept-twice (has_no_target slot) (list_all has_no_target slots) code (filled slot piece code) (filled_all slots pieces (filled slot piece code)) (slot-kept slot piece code) (all-kept names slots pieces (filled slot piece code) fill.2)

loads-right : (names : List (List ℕ)) (aim : Piece → ℤ) (slots : List Slot) (pieces : List Piece) (expansion : Expansion) (i : Instr) → i.rd < 32 → Fill names slots pieces → (seen aim (filled_all slots pieces (started expansion i))).rd < 32
loads-right names aim slots pieces expansion i below fill = (all-kept names slots pieces (started expansion i) fill).rd below

-- what a statement that may be put gives is valid
pub may-be-put : (aim : Piece → ℤ) (slots : List Slot) (pieces : List Piece) (expansion : Expansion) (i : Instr) → IsSound aim slots pieces (Puts (started expansion i)) → MayBePut expansion i (seen aim (filled_all slots pieces (started expansion i)))
may-be-put aim slots pieces Alone i sound = alone-valid sound.filled.0 aim slots pieces i sound.right sound.filled.1 sound.reach
may-be-put aim slots pieces LoadsNumber i sound =
    loads-right sound.filled.0 aim slots pieces LoadsNumber i (ltb-true i.rd 32 (and_parts (nat_lt i.rd 32) _ sound.right).0) sound.filled.1
may-be-put aim slots pieces LoadsAddress i sound =
    loads-right sound.filled.0 aim slots pieces LoadsAddress i (ltb-true i.rd 32 sound.right) sound.filled.1

-- and it is the code's instruction with its label's offset
by-target : (aim : Piece → ℤ) (i new : Instr) (target : Option Piece) → new.op ≡ i.op → new.nf ≡ i.nf → instr_with i (record { rd = new.rd; rs1 = new.rs1; rs2 = new.rs2; imm = new.imm; vm = new.vm; target = option_map aim target }) ≡ aimed aim target new
by-target aim i new None a c = λ j. record { op = sym a j; rd = new.rd; rs1 = new.rs1; rs2 = new.rs2; imm = new.imm; vm = new.vm; nf = sym c j }
by-target aim i new (Some label) a c = λ j. record { op = sym a j; rd = new.rd; rs1 = new.rs1; rs2 = new.rs2; imm = aim label; vm = new.vm; nf = sym c j }

with-kept : (aim : Piece → ℤ) (i : Instr) (code : Code) → code.instr.op ≡ i.op → code.instr.nf ≡ i.nf → instr_with i (seen aim code) ≡ aimed aim code.target code.instr
with-kept aim i code a c = by-target aim i code.instr code.target a c

pub is-put : (aim : Piece → ℤ) (slots : List Slot) (pieces : List Piece) (expansion : Expansion) (i : Instr) → IsSound aim slots pieces (Puts (started expansion i)) → instr_bytes (expanded expansion (instr_with i (seen aim (filled_all slots pieces (started expansion i))))) ≡ instr_bytes (code_instrs aim (filled_all slots pieces (started expansion i)))
is-put aim slots pieces expansion i sound =
    let code = filled_all slots pieces (started expansion i) in
    let kept = all-kept sound.filled.0 slots pieces (started expansion i) sound.filled.1 in
    λ j. instr_bytes (expanded (sym kept.expansion j) (with-kept aim i code kept.op kept.nf j))
