-- What the table of rows has: each row's operands are those that its line shows, and its mnemonic is a name of its own.
use Rattle.std.proofs.Common.{◌≡◌, ℕ, ◌-◌, ◌^◌, ◌<◌, arith, Bool, true, false, not, cond, ◌&&◌, ◌||◌, ℤ, pos, negsuc, neg_ℤ, ◌<ℤ◌, ◌≤ℤ◌, List, [], ◌∷◌, ◌++◌, map, filter, bytes_eq, Some, None, inl, inr, refl, sym, ap, ◌∙◌}
use Rattle.std.specs.Prelude.{◌==◌, int_le, int_rem, unsigned_abs}
use Rattle.std.specs.List.{list_all, list_any}
use Rattle.std.proofs.lemmas.Bool.{and_parts, and_from, false≢true, eqb-true}
use Rattle.std.proofs.lemmas.Int.{ints}
use Rattle.vx_decode.specs.Encoded.{IsRegister, IsNumber, IsVm, IsNf, IsSigned, HasOperands, IsValid}
use Rattle.vx_decode.specs.declared.instr.Instr.{Instr}
use Rattle.vx_rows.specs.Layouts.{layout_of}
use Rattle.vx_rows.specs.Table.{mnemonic, shape_of}
use Rattle.vx_rows.specs.declared.op.Op.{Op}
use Rattle.vx_rows.specs.declared.op.Op.TheVariants.{Scalar, Set, Elem, Widen, Fixed, Mask, Perm, Memory}
use Rattle.vx_rows.specs.declared.op.ScalarOp.{ScalarOp}
use Rattle.vx_rows.specs.declared.op.ScalarOp.TheVariants.{Lui}
use Rattle.vx_rows.specs.declared.op.SetOp.{SetOp}
use Rattle.vx_rows.specs.declared.op.SetOp.TheVariants.{Vsetvli}
use Rattle.vx_rows.specs.declared.op.ElemOp.{ElemOp}
use Rattle.vx_rows.specs.declared.op.ElemOp.TheVariants.{VaddVv}
use Rattle.vx_rows.specs.declared.op.WidenOp.{WidenOp}
use Rattle.vx_rows.specs.declared.op.WidenOp.TheVariants.{VadcVvm}
use Rattle.vx_rows.specs.declared.op.FixedOp.{FixedOp}
use Rattle.vx_rows.specs.declared.op.FixedOp.TheVariants.{VsadduVv}
use Rattle.vx_rows.specs.declared.op.MaskOp.{MaskOp}
use Rattle.vx_rows.specs.declared.op.MaskOp.TheVariants.{VredsumVs}
use Rattle.vx_rows.specs.declared.op.PermOp.{PermOp}
use Rattle.vx_rows.specs.declared.op.PermOp.TheVariants.{VrgatherVv}
use Rattle.vx_rows.specs.declared.op.MemoryOp.{MemoryOp}
use Rattle.vx_rows.specs.declared.op.MemoryOp.TheVariants.{Vle8}
use Rattle.vx_rows.specs.declared.row.Layout.{Layout}
use Rattle.vx_rows.specs.declared.row.Nf.{Nf}
use Rattle.vx_rows.specs.declared.row.Nf.TheVariants as nf
use Rattle.vx_rows.specs.declared.row.Number.{Number}
use Rattle.vx_rows.specs.declared.row.Number.TheVariants.{Absent, Unsigned, Signed, FormatS, FormatB, FormatJ}
use Rattle.vx_rows.specs.declared.row.Vm.{Vm}
use Rattle.vx_rows.specs.declared.row.Vm.TheVariants as vm
use Rattle.vx_source.specs.Operands.{operand_kinds}
use Rattle.vx_source.specs.declared.operand.OperandKind.{OperandKind}
use Rattle.vx_source.specs.declared.operand.OperandKind.TheVariants as operand
use Rattle.vx_language.specs.Bytes.{is_source_byte, is_digit, begins_name, is_name_byte, is_mark}
use Rattle.vx_language.specs.Code.{Code, Alone}
use Rattle.vx_language.specs.Forms.{Form, directives, pseudo_statements}
use Rattle.vx_language.specs.Lexemes.{beginning}
use Rattle.vx_language.specs.Names.{named_nfs, instr_named}
use Rattle.vx_language.specs.Slots.{Range, is_within, is_offset, signed_range, unsigned_range}
use Rattle.vx_language.specs.Statements.{is_done}
use Rattle.vx_lines.proofs.Mnemonics.{with_nf, nfs, IsNamed, op-named}
use Rattle.vx_lines.proofs.Numerals.{is_name, holds-below, le-to}
use Rattle.vx_lines.proofs.Readings.{with_operand, with_operands, is_plain, sets_imm, are_right}
use Rattle.vx_lines.proofs.Written.{IsShown, AreShown}

-- ---- the operands of a line are those of the row

abbrev bounds_of : Number → Range
bounds_of Absent = record { least = pos 0; greatest = pos 0 }
bounds_of (Unsigned low count) = unsigned_range count
bounds_of (Signed low count) = signed_range count
bounds_of FormatS = signed_range 12
bounds_of FormatB = signed_range 13
bounds_of FormatJ = signed_range 21

abbrev wide : Range
wide = record { least = neg_ℤ (pos (2 ^ 32)); greatest = pos (2 ^ 32) }

abbrev is_inside : Range → Range → Bool
is_inside range bounds = int_le range.least bounds.least && int_le bounds.greatest range.greatest

abbrev holds : Number → Range → Bool
holds number range = is_inside range (bounds_of number) && is_inside wide (bounds_of number)

abbrev is_even : Number → Bool
is_even FormatB = true
is_even FormatJ = true
is_even number = false

abbrev is_zero : Vm → Bool
is_zero vm.Zero = true
is_zero other = false

abbrev is_shown : Layout → OperandKind → Bool
is_shown layout operand.Destination = layout.rd
is_shown layout operand.FirstSource = layout.rs1
is_shown layout operand.SecondSource = layout.rs2
is_shown layout (operand.Signed width) = holds layout.number (signed_range width)
is_shown layout (operand.Unsigned width) = holds layout.number (unsigned_range width)
is_shown layout (operand.Target width) = is_even layout.number && holds layout.number (signed_range width)
is_shown layout operand.Address = layout.rs1 && holds layout.number (signed_range 12)
is_shown layout operand.Control = holds layout.number (unsigned_range 12)
is_shown layout operand.SourceNumber = layout.rs1
is_shown layout operand.VectorDestination = layout.rd
is_shown layout operand.FirstVector = layout.rs1
is_shown layout operand.SecondVector = layout.rs2
is_shown layout operand.Base = layout.rs1
is_shown layout (operand.Vtype width) = holds layout.number (unsigned_range width)
is_shown layout operand.Masked = true
is_shown layout operand.Carry = is_zero layout.vm

le-from : (a b : ℤ) → int_le a b ≡ true → a ≤ℤ b
le-from a b e = grind (arith, ints)

le-trans : (a b c : ℤ) → a ≤ℤ b → b ≤ℤ c → a ≤ℤ c
le-trans a b c p q = omega (arith, ints, p, q)

below-least : (n : ℕ) (z : ℤ) → z <ℤ pos n → z ≤ℤ pos (n - 1)
below-least n z h = omega (arith, ints, h)

signed-between : (width : ℕ) (z : ℤ) → IsSigned width z → ((signed_range width).least ≤ℤ z) × (z ≤ℤ (signed_range width).greatest)
signed-between width z h = (h.0, below-least (2 ^ (width - 1)) z h.1)

zero-between : (z : ℤ) → z ≡ pos 0 → (pos 0 ≤ℤ z) × (z ≤ℤ pos 0)
zero-between z e = (omega (arith, ints, e), omega (arith, ints, e))

between : (number : Number) (z : ℤ) → IsNumber number z → ((bounds_of number).least ≤ℤ z) × (z ≤ℤ (bounds_of number).greatest)
between Absent z h = zero-between z h
between (Unsigned low count) z h = (h.0, below-least (2 ^ count) z h.1)
between (Signed low count) z h = signed-between count z h
between FormatS z h = signed-between 12 z h
between FormatB z h = signed-between 13 z h.0
between FormatJ z h = signed-between 21 z h.0

within : (number : Number) (range : Range) (z : ℤ) → is_inside range (bounds_of number) ≡ true → IsNumber number z → is_within range z ≡ true
within number range z inside h =
    let parts = and_parts (int_le range.least (bounds_of number).least) (int_le (bounds_of number).greatest range.greatest) inside in
    let b = between number z h in
    and_from (int_le range.least z) (int_le z range.greatest)
    (le-to range.least z (le-trans range.least (bounds_of number).least z (le-from _ _ parts.0) b.0))
    (le-to z range.greatest (le-trans z (bounds_of number).greatest range.greatest b.1 (le-from _ _ parts.1)))

small-by : (z : ℤ) → neg_ℤ (pos (2 ^ 32)) ≤ℤ z → z ≤ℤ pos (2 ^ 32) → unsigned_abs z < 2 ^ 33
small-by (pos n) low high = omega (arith, ints, low, high)
small-by (negsuc n) low high = omega (arith, ints, low, high)

small : (z : ℤ) → is_within wide z ≡ true → unsigned_abs z < 2 ^ 33
small z e =
    let parts = and_parts (int_le (neg_ℤ (pos (2 ^ 32))) z) (int_le z (pos (2 ^ 32))) e in
    small-by z (le-from _ _ parts.0) (le-from _ _ parts.1)

shown-number : (number : Number) (range : Range) (z : ℤ) → holds number range ≡ true → IsNumber number z → (is_within range z ≡ true) × (unsigned_abs z < 2 ^ 33)
shown-number number range z e h =
    let parts = and_parts (is_inside range (bounds_of number)) (is_inside wide (bounds_of number)) e in
    (within number range z parts.0 h, small z (within number wide z parts.1 h))

natural : (width : ℕ) (z : ℤ) → is_within (unsigned_range width) z ≡ true → z ≡ pos (unsigned_abs z)
natural width (pos n) e = refl
natural width (negsuc n) e = absurd (false≢true e)

even-rest : (number : Number) (z : ℤ) → is_even number ≡ true → IsNumber number z → int_rem z (pos 2) ≡ pos 0
even-rest Absent z e h = absurd (false≢true e)
even-rest (Unsigned low count) z e h = absurd (false≢true e)
even-rest (Signed low count) z e h = absurd (false≢true e)
even-rest FormatS z e h = absurd (false≢true e)
even-rest FormatB z e h = h.1
even-rest FormatJ z e h = h.1

offset : (width : ℕ) (z : ℤ) → is_within (signed_range width) z ≡ true → int_rem z (pos 2) ≡ pos 0 → is_offset width z ≡ true
unfolding is_offset
offset width z inside rest = and_from (is_within (signed_range width) z) (unsigned_abs (int_rem z (pos 2)) == 0) inside (ap (λ (r : ℤ). unsigned_abs r == 0) rest)

register-below : (has : Bool) (n : ℕ) → has ≡ true → IsRegister has n → n < 32
register-below true n e h = h
register-below false n e h = absurd (false≢true e)

no-vm : (v : Vm) (b : Bool) → is_zero v ≡ true → IsVm v b → b ≡ false
no-vm vm.Any b e h = absurd (false≢true e)
no-vm vm.Zero b e h = h
no-vm vm.One b e h = absurd (false≢true e)

shown : (layout : Layout) (i : Instr) (kind : OperandKind) → HasOperands layout i → is_shown layout kind ≡ true → IsShown i kind
shown layout i operand.Destination has e = register-below layout.rd i.rd e has.rd
shown layout i operand.FirstSource has e = register-below layout.rs1 i.rs1 e has.rs1
shown layout i operand.SecondSource has e = register-below layout.rs2 i.rs2 e has.rs2
shown layout i (operand.Signed width) has e = shown-number layout.number (signed_range width) i.imm e has.imm
shown layout i (operand.Unsigned width) has e = shown-number layout.number (unsigned_range width) i.imm e has.imm
shown layout i (operand.Target width) has e =
    let parts = and_parts (is_even layout.number) (holds layout.number (signed_range width)) e in
    let both = shown-number layout.number (signed_range width) i.imm parts.1 has.imm in
    (offset width i.imm both.0 (even-rest layout.number i.imm parts.0 has.imm), both.1)
shown layout i operand.Address has e =
    let parts = and_parts layout.rs1 (holds layout.number (signed_range 12)) e in
    let both = shown-number layout.number (signed_range 12) i.imm parts.1 has.imm in
    (both.0, both.1, register-below layout.rs1 i.rs1 parts.0 has.rs1)
shown layout i operand.Control has e =
    let both = shown-number layout.number (unsigned_range 12) i.imm e has.imm in
    (both.0, both.1, natural 12 i.imm both.0)
shown layout i operand.SourceNumber has e = register-below layout.rs1 i.rs1 e has.rs1
shown layout i operand.VectorDestination has e = register-below layout.rd i.rd e has.rd
shown layout i operand.FirstVector has e = register-below layout.rs1 i.rs1 e has.rs1
shown layout i operand.SecondVector has e = register-below layout.rs2 i.rs2 e has.rs2
shown layout i operand.Base has e = register-below layout.rs1 i.rs1 e has.rs1
shown layout i (operand.Vtype width) has e =
    let both = shown-number layout.number (unsigned_range width) i.imm e has.imm in
    (both.0, both.1, natural width i.imm both.0)
shown layout i operand.Masked has e = tt
shown layout i operand.Carry has e = no-vm layout.vm i.vm e has.vm

pub are-shown : (layout : Layout) (i : Instr) (kinds : List OperandKind) → HasOperands layout i → list_all (is_shown layout) kinds ≡ true → AreShown i kinds
are-shown layout i [] has e = tt
are-shown layout i (kind ∷ kinds) has e =
    let parts = and_parts (is_shown layout kind) (list_all (is_shown layout) kinds) e in
    (shown layout i kind has parts.0, are-shown layout i kinds has parts.1)

-- ---- the operands give all fields

abbrev sets_rd : OperandKind → Bool
sets_rd operand.Destination = true
sets_rd operand.VectorDestination = true
sets_rd kind = false

abbrev sets_rs1 : OperandKind → Bool
sets_rs1 operand.FirstSource = true
sets_rs1 operand.Address = true
sets_rs1 operand.SourceNumber = true
sets_rs1 operand.FirstVector = true
sets_rs1 operand.Base = true
sets_rs1 kind = false

abbrev sets_rs2 : OperandKind → Bool
sets_rs2 operand.SecondSource = true
sets_rs2 operand.SecondVector = true
sets_rs2 kind = false

abbrev sets_vm : OperandKind → Bool
sets_vm operand.Masked = true
sets_vm operand.Carry = true
sets_vm kind = false

set-twice : {X : Type 0} (a b : Bool) (value x : X) → cond b value (cond a value x) ≡ cond (a || b) value x
set-twice true true value x = refl
set-twice true false value x = refl
set-twice false b value x = refl

after : {X : Type 0} (get : Code → X) (value : X) (sets : OperandKind → Bool) (i : Instr) → ((kind : OperandKind) (code : Code) → get (with_operand i kind code) ≡ cond (sets kind) value (get code)) → (kinds : List OperandKind) (code : Code) → get (with_operands i kinds code) ≡ cond (list_any sets kinds) value (get code)
after get value sets i one [] code = refl
after get value sets i one (kind ∷ kinds) code =
    after get value sets i one kinds (with_operand i kind code)
    ∙ (ap (λ x. cond (list_any sets kinds) value x) (one kind code) ∙ set-twice (sets kind) (list_any sets kinds) value (get code))

kept : {X : Type 0} (get : Code → X) (i : Instr) → ((kind : OperandKind) (code : Code) → get (with_operand i kind code) ≡ get code) → (kinds : List OperandKind) (code : Code) → get (with_operands i kinds code) ≡ get code
kept get i one [] code = refl
kept get i one (kind ∷ kinds) code = kept get i one kinds (with_operand i kind code) ∙ one kind code

rd-one : (i : Instr) (kind : OperandKind) (code : Code) → (with_operand i kind code).instr.rd ≡ cond (sets_rd kind) i.rd code.instr.rd
rd-one i operand.Destination code = refl
rd-one i kind code = refl

rs1-one : (i : Instr) (kind : OperandKind) (code : Code) → (with_operand i kind code).instr.rs1 ≡ cond (sets_rs1 kind) i.rs1 code.instr.rs1
rs1-one i operand.Destination code = refl
rs1-one i kind code = refl

rs2-one : (i : Instr) (kind : OperandKind) (code : Code) → (with_operand i kind code).instr.rs2 ≡ cond (sets_rs2 kind) i.rs2 code.instr.rs2
rs2-one i operand.Destination code = refl
rs2-one i kind code = refl

imm-one : (i : Instr) (kind : OperandKind) (code : Code) → (with_operand i kind code).instr.imm ≡ cond (sets_imm kind) i.imm code.instr.imm
imm-one i operand.Destination code = refl
imm-one i kind code = refl

vm-one : (i : Instr) (kind : OperandKind) (code : Code) → (with_operand i kind code).instr.vm ≡ cond (sets_vm kind) (i.vm && code.instr.vm) code.instr.vm
vm-one i operand.Destination code = refl
vm-one i kind code = refl

vm-twice : (v a b x : Bool) → cond b (v && cond a (v && x) x) (cond a (v && x) x) ≡ cond (a || b) (v && x) x
vm-twice true true true x = refl
vm-twice true true false x = refl
vm-twice false true true x = refl
vm-twice false true false x = refl
vm-twice v false b x = refl

vm-after : (i : Instr) (kinds : List OperandKind) (code : Code) → (with_operands i kinds code).instr.vm ≡ cond (list_any sets_vm kinds) (i.vm && code.instr.vm) code.instr.vm
vm-after i [] code = refl
vm-after i (kind ∷ kinds) code =
    vm-after i kinds (with_operand i kind code)
    ∙ (ap (λ x. cond (list_any sets_vm kinds) (i.vm && x) x) (vm-one i kind code) ∙ vm-twice i.vm (sets_vm kind) (list_any sets_vm kinds) code.instr.vm)

op-one : (i : Instr) (kind : OperandKind) (code : Code) → (with_operand i kind code).instr.op ≡ code.instr.op
op-one i operand.Destination code = refl
op-one i kind code = refl

nf-one : (i : Instr) (kind : OperandKind) (code : Code) → (with_operand i kind code).instr.nf ≡ code.instr.nf
nf-one i operand.Destination code = refl
nf-one i kind code = refl

expansion-one : (i : Instr) (kind : OperandKind) (code : Code) → (with_operand i kind code).expansion ≡ code.expansion
expansion-one i operand.Destination code = refl
expansion-one i kind code = refl

target-one : (i : Instr) (kind : OperandKind) (code : Code) → (with_operand i kind code).target ≡ code.target
target-one i operand.Destination code = refl
target-one i kind code = refl

abbrev is_absent : Number → Bool
is_absent Absent = true
is_absent number = false

abbrev is_one : Vm → Bool
is_one vm.One = true
is_one other = false

abbrev covers : Layout → List OperandKind → Bool
covers layout kinds =
    (not layout.rd || list_any sets_rd kinds) && ((not layout.rs1 || list_any sets_rs1 kinds) && ((not layout.rs2 || list_any sets_rs2 kinds)
    && ((is_absent layout.number || list_any sets_imm kinds) && (is_one layout.vm || list_any sets_vm kinds))))

register-given : (has b : Bool) (n : ℕ) → IsRegister has n → (not has || b) ≡ true → cond b n 0 ≡ n
register-given true true n is e = refl
register-given true false n is e = absurd (false≢true e)
register-given false true n is e = refl
register-given false false n is e = sym is

number-given : (number : Number) (b : Bool) (z : ℤ) → IsNumber number z → (is_absent number || b) ≡ true → cond b z (pos 0) ≡ z
number-given number true z is e = refl
number-given Absent false z is e = sym is
number-given (Unsigned low count) false z is e = absurd (false≢true e)
number-given (Signed low count) false z is e = absurd (false≢true e)
number-given FormatS false z is e = absurd (false≢true e)
number-given FormatB false z is e = absurd (false≢true e)
number-given FormatJ false z is e = absurd (false≢true e)

and-true : (b : Bool) → (b && true) ≡ b
and-true true = refl
and-true false = refl

vm-given : (v : Vm) (b x : Bool) → IsVm v x → (is_one v || b) ≡ true → cond b (x && true) true ≡ x
vm-given v true x is e = and-true x
vm-given vm.Any false x is e = absurd (false≢true e)
vm-given vm.Zero false x is e = absurd (false≢true e)
vm-given vm.One false x is e = sym is

abbrev pub code_of : Instr → Code
code_of i = record { expansion = Alone; instr = i; target = None }

same-code : (code : Code) (i : Instr) → code.expansion ≡ Alone → code.target ≡ None → code.instr.op ≡ i.op → code.instr.rd ≡ i.rd → code.instr.rs1 ≡ i.rs1 → code.instr.rs2 ≡ i.rs2 → code.instr.imm ≡ i.imm → code.instr.vm ≡ i.vm → code.instr.nf ≡ i.nf → code ≡ code_of i
same-code code i e t o d s u z v n = λ k. record { expansion = e k; instr = record { op = o k; rd = d k; rs1 = s k; rs2 = u k; imm = z k; vm = v k; nf = n k }; target = t k }

pub all-given : (layout : Layout) (i : Instr) (kinds : List OperandKind) → HasOperands layout i → covers layout kinds ≡ true → with_operands i kinds (code_of (with_nf i.op i.nf)) ≡ code_of i
all-given layout i kinds has e =
    let first : Code = code_of (with_nf i.op i.nf) in
    let p = and_parts (not layout.rd || list_any sets_rd kinds) _ e in
    let q = and_parts (not layout.rs1 || list_any sets_rs1 kinds) _ p.1 in
    let r = and_parts (not layout.rs2 || list_any sets_rs2 kinds) _ q.1 in
    let s = and_parts (is_absent layout.number || list_any sets_imm kinds) _ r.1 in
    same-code (with_operands i kinds first) i
    (kept (λ (c : Code). c.expansion) i (expansion-one i) kinds first)
    (kept (λ (c : Code). c.target) i (target-one i) kinds first)
    (kept (λ (c : Code). c.instr.op) i (op-one i) kinds first)
    (after (λ (c : Code). c.instr.rd) i.rd sets_rd i (rd-one i) kinds first ∙ register-given layout.rd (list_any sets_rd kinds) i.rd has.rd p.0)
    (after (λ (c : Code). c.instr.rs1) i.rs1 sets_rs1 i (rs1-one i) kinds first ∙ register-given layout.rs1 (list_any sets_rs1 kinds) i.rs1 has.rs1 q.0)
    (after (λ (c : Code). c.instr.rs2) i.rs2 sets_rs2 i (rs2-one i) kinds first ∙ register-given layout.rs2 (list_any sets_rs2 kinds) i.rs2 has.rs2 r.0)
    (after (λ (c : Code). c.instr.imm) i.imm sets_imm i (imm-one i) kinds first ∙ number-given layout.number (list_any sets_imm kinds) i.imm has.imm s.0)
    (vm-after i kinds first ∙ vm-given layout.vm (list_any sets_vm kinds) i.vm has.vm s.1)
    (kept (λ (c : Code). c.instr.nf) i (nf-one i) kinds first)

-- ---- the table

abbrev pub begins_plain : List OperandKind → Bool
begins_plain [] = true
begins_plain (kind ∷ kinds) = is_plain kind

row_test : Op → Bool
row_test op =
    begins_plain (operand_kinds op) && (are_right (operand_kinds op) && (list_all (is_shown (layout_of (shape_of op))) (operand_kinds op) && covers (layout_of (shape_of op)) (operand_kinds op)))

scalar-row : (op : ScalarOp) → row_test (Scalar op) ≡ true
unfolding row_test
scalar-row Lui = refl
scalar-row other = refl

set-row : (op : SetOp) → row_test (Set op) ≡ true
unfolding row_test
set-row Vsetvli = refl
set-row other = refl

elem-row : (op : ElemOp) → row_test (Elem op) ≡ true
unfolding row_test
elem-row VaddVv = refl
elem-row other = refl

widen-row : (op : WidenOp) → row_test (Widen op) ≡ true
unfolding row_test
widen-row VadcVvm = refl
widen-row other = refl

fixed-row : (op : FixedOp) → row_test (Fixed op) ≡ true
unfolding row_test
fixed-row VsadduVv = refl
fixed-row other = refl

mask-row : (op : MaskOp) → row_test (Mask op) ≡ true
unfolding row_test
mask-row VredsumVs = refl
mask-row other = refl

perm-row : (op : PermOp) → row_test (Perm op) ≡ true
unfolding row_test
perm-row VrgatherVv = refl
perm-row other = refl

memory-row : (op : MemoryOp) → row_test (Memory op) ≡ true
unfolding row_test
memory-row Vle8 = refl
memory-row other = refl

row-passes : (op : Op) → row_test op ≡ true
row-passes (Scalar op) = scalar-row op
row-passes (Set op) = set-row op
row-passes (Elem op) = elem-row op
row-passes (Widen op) = widen-row op
row-passes (Fixed op) = fixed-row op
row-passes (Mask op) = mask-row op
row-passes (Perm op) = perm-row op
row-passes (Memory op) = memory-row op

-- what the table says of a row's operands
pub record HasLine (i : Instr) : Type 0 where
  pub plain : begins_plain (operand_kinds i.op) ≡ true
  pub right : are_right (operand_kinds i.op) ≡ true
  pub shown : AreShown i (operand_kinds i.op)
  pub given : with_operands i (operand_kinds i.op) (code_of (with_nf i.op i.nf)) ≡ code_of i

pub has-line : (i : Instr) → IsValid i → HasLine i
unfolding row_test
has-line i valid =
    let layout : Layout = layout_of (shape_of i.op) in
    let kinds : List OperandKind = operand_kinds i.op in
    let p = and_parts (begins_plain kinds) _ (row-passes i.op) in
    let q = and_parts (are_right kinds) _ p.1 in
    let r = and_parts (list_all (is_shown layout) kinds) (covers layout kinds) q.1 in
    record { plain = p.0; right = q.0; shown = are-shown layout i kinds valid r.0; given = all-given layout i kinds valid r.1 }

-- ---- names

-- the directives and pseudo-statements of this name
abbrev pub others_of : ℕ → List ℕ → List Form
others_of commas name = filter (λ (f : Form). bytes_eq name f.name) (directives commas ++ pseudo_statements)

abbrev pub is_none_of : List Form → Bool
is_none_of [] = true
is_none_of (f ∷ fs) = false

abbrev pub is_alone : List OperandKind → List Form → Bool
is_alone [] forms = is_none_of forms
is_alone (kind ∷ kinds) forms = list_all (λ (f : Form). is_done f.slots) forms

name_test : ℕ → Op → ℕ → Bool
name_test commas op n = is_name (mnemonic op n) && is_alone (operand_kinds op) (others_of commas (mnemonic op n))

scalar-name : (commas : ℕ) (op : ScalarOp) → list_all (name_test commas (Scalar op)) (nfs (Scalar op)) ≡ true
unfolding name_test is_name directives pseudo_statements beginning is_mark begins_name is_digit is_name_byte is_source_byte
scalar-name commas Lui = refl
scalar-name commas other = refl

set-name : (commas : ℕ) (op : SetOp) → list_all (name_test commas (Set op)) (nfs (Set op)) ≡ true
unfolding name_test is_name directives pseudo_statements beginning is_mark begins_name is_digit is_name_byte is_source_byte
set-name commas Vsetvli = refl
set-name commas other = refl

elem-name : (commas : ℕ) (op : ElemOp) → list_all (name_test commas (Elem op)) (nfs (Elem op)) ≡ true
unfolding name_test is_name directives pseudo_statements beginning is_mark begins_name is_digit is_name_byte is_source_byte
elem-name commas VaddVv = refl
elem-name commas other = refl

widen-name : (commas : ℕ) (op : WidenOp) → list_all (name_test commas (Widen op)) (nfs (Widen op)) ≡ true
unfolding name_test is_name directives pseudo_statements beginning is_mark begins_name is_digit is_name_byte is_source_byte
widen-name commas VadcVvm = refl
widen-name commas other = refl

fixed-name : (commas : ℕ) (op : FixedOp) → list_all (name_test commas (Fixed op)) (nfs (Fixed op)) ≡ true
unfolding name_test is_name directives pseudo_statements beginning is_mark begins_name is_digit is_name_byte is_source_byte
fixed-name commas VsadduVv = refl
fixed-name commas other = refl

mask-name : (commas : ℕ) (op : MaskOp) → list_all (name_test commas (Mask op)) (nfs (Mask op)) ≡ true
unfolding name_test is_name directives pseudo_statements beginning is_mark begins_name is_digit is_name_byte is_source_byte
mask-name commas VredsumVs = refl
mask-name commas other = refl

perm-name : (commas : ℕ) (op : PermOp) → list_all (name_test commas (Perm op)) (nfs (Perm op)) ≡ true
unfolding name_test is_name directives pseudo_statements beginning is_mark begins_name is_digit is_name_byte is_source_byte
perm-name commas VrgatherVv = refl
perm-name commas other = refl

memory-name : (commas : ℕ) (op : MemoryOp) → list_all (name_test commas (Memory op)) (nfs (Memory op)) ≡ true
unfolding name_test is_name directives pseudo_statements beginning is_mark begins_name is_digit is_name_byte is_source_byte
memory-name commas Vle8 = refl
memory-name commas other = refl

names-pass : (commas : ℕ) (op : Op) → list_all (name_test commas op) (nfs op) ≡ true
names-pass commas (Scalar op) = scalar-name commas op
names-pass commas (Set op) = set-name commas op
names-pass commas (Elem op) = elem-name commas op
names-pass commas (Widen op) = widen-name commas op
names-pass commas (Fixed op) = fixed-name commas op
names-pass commas (Mask op) = mask-name commas op
names-pass commas (Perm op) = perm-name commas op
names-pass commas (Memory op) = memory-name commas op

-- a number is among those
abbrev is_in : ℕ → List ℕ → Bool
is_in n xs = list_any (λ (m : ℕ). n == m) xs

eight : (n : ℕ) → n < 8 → is_in n (0 ∷ 1 ∷ 2 ∷ 3 ∷ 4 ∷ 5 ∷ 6 ∷ 7 ∷ []) ≡ true
eight n below = holds-below (λ (m : ℕ). is_in m (0 ∷ 1 ∷ 2 ∷ 3 ∷ 4 ∷ 5 ∷ 6 ∷ 7 ∷ [])) 8 n refl below

is-field : (fields : Nf) (n : ℕ) → IsNf fields n → is_in n (named_nfs fields) ≡ true
is-field nf.Absent n is = ap (λ m. is_in m (0 ∷ [])) is
is-field nf.Any n is = eight n is
is-field nf.Registers n (inl is) = ap (λ m. is_in m (0 ∷ 1 ∷ 3 ∷ 7 ∷ [])) is
is-field nf.Registers n (inr (inl is)) = ap (λ m. is_in m (0 ∷ 1 ∷ 3 ∷ 7 ∷ [])) is
is-field nf.Registers n (inr (inr (inl is))) = ap (λ m. is_in m (0 ∷ 1 ∷ 3 ∷ 7 ∷ [])) is
is-field nf.Registers n (inr (inr (inr is))) = ap (λ m. is_in m (0 ∷ 1 ∷ 3 ∷ 7 ∷ [])) is

listed-by : (q : ℕ → Bool) (n x : ℕ) (xs : List ℕ) (b : Bool) → (n == x) ≡ b → (b || is_in n xs) ≡ true → q x ≡ true → (is_in n xs ≡ true → q n ≡ true) → q n ≡ true
listed-by q n x xs true same among passes later = ap q (eqb-true n x same) ∙ passes
listed-by q n x xs false same among passes later = later among

listed-passes : (q : ℕ → Bool) (xs : List ℕ) (n : ℕ) → is_in n xs ≡ true → list_all q xs ≡ true → q n ≡ true
listed-passes q [] n among all = absurd (false≢true among)
listed-passes q (x ∷ xs) n among all =
    let parts = and_parts (q x) (list_all q xs) all in
    listed-by q n x xs (n == x) refl among parts.0 (λ later. listed-passes q xs n later parts.1)

same-by : {X : Type 0} (f g : ℕ → X) (n x : ℕ) (xs : List ℕ) (b : Bool) → (n == x) ≡ b → (b || is_in n xs) ≡ true → f x ≡ g x → (is_in n xs ≡ true → f n ≡ g n) → f n ≡ g n
same-by f g n x xs true same among here later = let e : n ≡ x = eqb-true n x same in ap f e ∙ (here ∙ ap g (sym e))
same-by f g n x xs false same among here later = later among

same-at : {X : Type 0} (f g : ℕ → X) (xs : List ℕ) (n : ℕ) → is_in n xs ≡ true → map f xs ≡ map g xs → f n ≡ g n
same-at f g [] n among same = absurd (false≢true among)
same-at f g (x ∷ xs) n among same =
    let here : f x ≡ g x = cc in
    let rest : map f xs ≡ map g xs = cc in
    same-by f g n x xs (n == x) refl among here (λ later. same-at f g xs n later rest)

-- a row's mnemonic names it, and what else has that name
pub record HasName (i : Instr) : Type 0 where
  pub named : instr_named (mnemonic i.op i.nf) ≡ Some (with_nf i.op i.nf)
  pub name : is_name (mnemonic i.op i.nf) ≡ true
  pub others : (commas : ℕ) → is_alone (operand_kinds i.op) (others_of commas (mnemonic i.op i.nf)) ≡ true

pub has-name : (i : Instr) → IsValid i → HasName i
unfolding IsNamed name_test
has-name i valid =
    let among : is_in i.nf (nfs i.op) ≡ true = is-field (layout_of (shape_of i.op)).nf i.nf valid.nf in
    record {
      named = same-at (λ (n : ℕ). instr_named (mnemonic i.op n)) (λ (n : ℕ). Some (with_nf i.op n)) (nfs i.op) i.nf among (op-named i.op);
      name = (and_parts (is_name (mnemonic i.op i.nf)) _ (listed-passes (name_test 0 i.op) (nfs i.op) i.nf among (names-pass 0 i.op))).0;
      others = λ commas. (and_parts (is_name (mnemonic i.op i.nf)) _ (listed-passes (name_test commas i.op) (nfs i.op) i.nf among (names-pass commas i.op))).1;
    }
