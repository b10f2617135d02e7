-- The forms of a name: what the table of forms has.
use Rattle.std.proofs.Common.{◌≡◌, ℕ, suc, arith, Bool, true, false, not, cond, ◌&&◌, ◌||◌, List, [], ◌∷◌, ◌++◌, length, map, filter, bytes_eq, Option, Some, None, option_map, inl, inr, ◌⊎◌, refl, sym, ap, ◌∙◌}
use Rattle.std.specs.List.{list_all}
use Rattle.std.specs.Prelude.{◌==◌, nat_lt, is_none, unwrap_or, find}
use Rattle.std.proofs.lemmas.Bool.{and_parts, false≢true, ltb-true}
use Rattle.std.proofs.lemmas.Slice.Eq.{bytes_eq-Decides}
use Rattle.vx_decode.specs.declared.instr.Instr.{Instr}
use Rattle.vx_rows.specs.Layouts.{layout_of}
use Rattle.vx_rows.specs.Table.{operations, class_of, shape_of}
use Rattle.vx_rows.specs.declared.op.Op.{Op}
use Rattle.vx_rows.specs.declared.row.First.{First}
use Rattle.vx_rows.specs.declared.row.First.TheVariants as first
use Rattle.vx_rows.specs.declared.row.Nf.{Nf}
use Rattle.vx_rows.specs.declared.row.Nf.TheVariants as nf
use Rattle.vx_rows.specs.declared.row.Second.{Second}
use Rattle.vx_rows.specs.declared.row.Second.TheVariants as second
use Rattle.vx_rows.specs.declared.row.Vm.{Vm}
use Rattle.vx_rows.specs.declared.row.Vm.TheVariants as vm
use Rattle.vx_rows.specs.declared.row.Shape.{Shape}
use Rattle.vx_rows.specs.declared.row.Shape.TheVariants as shape
use Rattle.vx_source.specs.Operands.{operand_kinds, shape_kinds, vector_kinds, order_of}
use Rattle.vx_source.specs.declared.operand.OperandKind.{OperandKind}
use Rattle.vx_source.specs.declared.operand.Order.{Order}
use Rattle.vx_source.specs.declared.operand.Order.TheVariants as orders
use Rattle.vx_language.specs.Forms.{Form, form, alone, directives, pseudo_statements, forms_of, instr_forms}
use Rattle.vx_language.specs.Names.{instr_named, named_instr, named_nfs, bare_instr}
use Rattle.vx_language.specs.Slots.{Slot, VtypeWord, Immediate, Masked, comma, takes, operand_ways, ways_behind_commas}
use Rattle.vx_language.specs.Lexemes.{Piece, is_a, is_kind, token_kind}
use Rattle.vx_language.specs.declared.token.TokenKind.{TokenKind}
use Rattle.vx_language.specs.declared.token.TokenKind.TheVariants as token
use Rattle.vx_language.specs.Statements.{is_done}
use Rattle.vx_code.specs.Right.{is_right, has_fields}

-- no token is taken by both slots
abbrev pub are_apart : Slot → Slot → Bool
are_apart (VtypeWord f) (Immediate range) = true
are_apart slot other = false

-- slots are the same up to a place where one list ends, or where no token is taken by both
abbrev pub Agree : List Slot → List Slot → Type 0
Agree [] others = Unit {0}
Agree (slot ∷ slots) [] = Unit {0}
Agree (slot ∷ slots) (other ∷ others) = (are_apart slot other ≡ true) ⊎ ((slot ≡ other) × Agree slots others)

no-number : (o : Option TokenKind) → is_kind token.Name o ≡ true → is_kind token.Number o ≡ true → ⊥
no-number None h k = false≢true h
no-number (Some token.Name) h k = false≢true k
no-number (Some token.Number) h k = false≢true h
no-number (Some token.Quoted) h k = false≢true h
no-number (Some token.Mark) h k = false≢true h
no-number (Some token.Newline) h k = false≢true h

pub apart-taken : (slot other : Slot) (piece : Piece) → are_apart slot other ≡ true → takes slot piece ≡ true → takes other piece ≡ true → ⊥
unfolding takes is_a
apart-taken (VtypeWord f) (Immediate range) piece e h k = no-number (token_kind piece.kind) (and_parts (is_a token.Name piece) _ h).0 k
apart-taken (VtypeWord f) other piece e h k = false≢true e
apart-taken slot other piece e h k = false≢true e

agree-more : (slots more : List Slot) → Agree slots (slots ++ more)
agree-more [] more = tt
agree-more (slot ∷ slots) more = inr (refl, agree-more slots more)

-- each of these forms fits what it does; there are two at most, and two agree
abbrev pub Apart : List Form → Type 0
Apart [] = Unit {0}
Apart (f ∷ []) = is_right f ≡ true
Apart (f ∷ g ∷ []) = (is_right f ≡ true) × (is_right g ≡ true) × Agree f.slots g.slots
Apart (f ∷ g ∷ h ∷ more) = ⊥

-- one at most
AtMostOne : (Form → Bool) → List ℕ → List Form → Type 0
AtMostOne test name [] = Unit {0}
AtMostOne test name (f ∷ []) = (test f ≡ true) × (bytes_eq name f.name ≡ true)
AtMostOne test name (f ∷ g ∷ more) = ⊥

-- forms of other names than this one; forms with a name each
others : List ℕ → List Form → Bool
others name forms = list_all (λ (f : Form). not (bytes_eq name f.name)) forms

are_distinct : List Form → Bool
are_distinct [] = true
are_distinct (f ∷ forms) = others f.name forms && are_distinct forms

picked : List ℕ → List Form → List Form
picked name forms = filter (λ (f : Form). bytes_eq name f.name) forms

skip : (b : Bool) (f : Form) (forms : List Form) → not b ≡ true → cond b (f ∷ forms) forms ≡ forms
skip true f forms e = absurd (false≢true e)
skip false f forms e = refl

none-picked : (name : List ℕ) (forms : List Form) → others name forms ≡ true → picked name forms ≡ []
unfolding others picked
none-picked name [] e = refl
none-picked name (f ∷ forms) e =
    let parts = and_parts (not (bytes_eq name f.name)) (others name forms) e in
    skip (bytes_eq name f.name) f (picked name forms) parts.0 ∙ none-picked name forms parts.1

more-picked : (test : Form → Bool) (name : List ℕ) (f : Form) (forms : List Form) (b : Bool) → bytes_eq name f.name ≡ b → test f ≡ true → others f.name forms ≡ true → AtMostOne test name (picked name forms) → AtMostOne test name (cond b (f ∷ picked name forms) (picked name forms))
unfolding AtMostOne
more-picked test name f forms true e h apart rest =
    let same : name ≡ f.name = (bytes_eq-Decides name f.name).0 e in
    let none : picked name forms ≡ [] = none-picked name forms (ap (λ (n : List ℕ). others n forms) same ∙ apart) in
    rw none (h, e)
more-picked test name f forms false e h apart rest = rest

one-picked : (test : Form → Bool) (name : List ℕ) (forms : List Form) → are_distinct forms ≡ true → list_all test forms ≡ true → AtMostOne test name (picked name forms)
unfolding AtMostOne are_distinct picked
one-picked test name [] distinct all = tt
one-picked test name (f ∷ forms) distinct all =
    let apart = and_parts (others f.name forms) (are_distinct forms) distinct in
    let tests = and_parts (test f) (list_all test forms) all in
    more-picked test name f forms (bytes_eq name f.name) refl tests.0 apart.0 (one-picked test name forms apart.1 tests.1)

-- an instruction whose operands may be written in one way alone
has_one_way : Option Instr → Bool
has_one_way None = true
has_one_way (Some i) = nat_lt (length (operand_ways (operand_kinds i.op))) 2

-- a form that fits what it does; one whose name is an instruction's has no slots, and the instruction one way
is_listed : Form → Bool
is_listed f = is_right f && (is_none (instr_named f.name) || (is_done f.slots && has_one_way (instr_named f.name)))

listed-distinct : (commas : ℕ) → are_distinct (directives commas ++ pseudo_statements) ≡ true
unfolding are_distinct others directives pseudo_statements
listed-distinct commas = refl

all-listed : (commas : ℕ) → list_all is_listed (directives commas ++ pseudo_statements) ≡ true
unfolding is_listed has_one_way directives pseudo_statements instr_named operations ways_behind_commas
all-listed commas = refl

-- the forms of an instruction
AreRight : List Form → Type 0
AreRight [] = Unit {0}
AreRight (f ∷ []) = is_right f ≡ true
AreRight (f ∷ g ∷ []) = (is_right f ≡ true) × (is_right g ≡ true) × Agree f.slots g.slots
AreRight (f ∷ g ∷ h ∷ more) = ⊥

with-nf : Op → ℕ → Instr
with-nf op n = record (bare_instr op) { nf = n }

-- the forms with these operands
formed : List ℕ → Op → ℕ → List OperandKind → List Form
formed name op n kinds = map (λ slots. form name slots (alone (with-nf op n))) (operand_ways kinds)

-- the first way to write operands of these kinds
head_of : List (List Slot) → List Slot
head_of [] = []
head_of (way ∷ more) = way

first_way : List OperandKind → List Slot
first_way kinds = head_of (operand_ways kinds)

by-vector : (name : List ℕ) (op : Op) (n : ℕ) (order : Order) (first : First) (second : Second) (vm : Vm) → shape.Vector first second vm ≡ shape_of op → (n == 0) ≡ true → AreRight (formed name op n (vector_kinds order first second vm))
unfolding AreRight formed with-nf ways_behind_commas first_way head_of
by-vector name op n orders.Usual first.Vector second.Vector vm.Any e h = (rw (← e, h) refl, rw (← e, h) refl, agree-more (first_way (vector_kinds orders.Usual first.Vector second.Vector vm.Any)) (comma ∷ Masked ∷ []))
by-vector name op n orders.Usual first.Vector second.Vector vm e h = rw (← e, h) refl
by-vector name op n orders.Usual first.Vector second.Fixed vm.Any e h = (rw (← e, h) refl, rw (← e, h) refl, agree-more (first_way (vector_kinds orders.Usual first.Vector second.Fixed vm.Any)) (comma ∷ Masked ∷ []))
by-vector name op n orders.Usual first.Vector second.Fixed vm e h = rw (← e, h) refl
by-vector name op n orders.Usual first.Integer second.Vector vm.Any e h = (rw (← e, h) refl, rw (← e, h) refl, agree-more (first_way (vector_kinds orders.Usual first.Integer second.Vector vm.Any)) (comma ∷ Masked ∷ []))
by-vector name op n orders.Usual first.Integer second.Vector vm e h = rw (← e, h) refl
by-vector name op n orders.Usual first.Integer second.Fixed vm.Any e h = (rw (← e, h) refl, rw (← e, h) refl, agree-more (first_way (vector_kinds orders.Usual first.Integer second.Fixed vm.Any)) (comma ∷ Masked ∷ []))
by-vector name op n orders.Usual first.Integer second.Fixed vm e h = rw (← e, h) refl
by-vector name op n orders.Usual first.Signed second.Vector vm.Any e h = (rw (← e, h) refl, rw (← e, h) refl, agree-more (first_way (vector_kinds orders.Usual first.Signed second.Vector vm.Any)) (comma ∷ Masked ∷ []))
by-vector name op n orders.Usual first.Signed second.Vector vm e h = rw (← e, h) refl
by-vector name op n orders.Usual first.Signed second.Fixed vm.Any e h = (rw (← e, h) refl, rw (← e, h) refl, agree-more (first_way (vector_kinds orders.Usual first.Signed second.Fixed vm.Any)) (comma ∷ Masked ∷ []))
by-vector name op n orders.Usual first.Signed second.Fixed vm e h = rw (← e, h) refl
by-vector name op n orders.Usual first.Unsigned second.Vector vm.Any e h = (rw (← e, h) refl, rw (← e, h) refl, agree-more (first_way (vector_kinds orders.Usual first.Unsigned second.Vector vm.Any)) (comma ∷ Masked ∷ []))
by-vector name op n orders.Usual first.Unsigned second.Vector vm e h = rw (← e, h) refl
by-vector name op n orders.Usual first.Unsigned second.Fixed vm.Any e h = (rw (← e, h) refl, rw (← e, h) refl, agree-more (first_way (vector_kinds orders.Usual first.Unsigned second.Fixed vm.Any)) (comma ∷ Masked ∷ []))
by-vector name op n orders.Usual first.Unsigned second.Fixed vm e h = rw (← e, h) refl
by-vector name op n orders.Usual first.Fixed second.Vector vm.Any e h = (rw (← e, h) refl, rw (← e, h) refl, agree-more (first_way (vector_kinds orders.Usual first.Fixed second.Vector vm.Any)) (comma ∷ Masked ∷ []))
by-vector name op n orders.Usual first.Fixed second.Vector vm e h = rw (← e, h) refl
by-vector name op n orders.Usual first.Fixed second.Fixed vm.Any e h = (rw (← e, h) refl, rw (← e, h) refl, agree-more (first_way (vector_kinds orders.Usual first.Fixed second.Fixed vm.Any)) (comma ∷ Masked ∷ []))
by-vector name op n orders.Usual first.Fixed second.Fixed vm e h = rw (← e, h) refl
by-vector name op n orders.MultiplyAdd first.Vector second.Vector vm.Any e h = (rw (← e, h) refl, rw (← e, h) refl, agree-more (first_way (vector_kinds orders.MultiplyAdd first.Vector second.Vector vm.Any)) (comma ∷ Masked ∷ []))
by-vector name op n orders.MultiplyAdd first.Vector second.Vector vm e h = rw (← e, h) refl
by-vector name op n orders.MultiplyAdd first.Vector second.Fixed vm.Any e h = (rw (← e, h) refl, rw (← e, h) refl, agree-more (first_way (vector_kinds orders.MultiplyAdd first.Vector second.Fixed vm.Any)) (comma ∷ Masked ∷ []))
by-vector name op n orders.MultiplyAdd first.Vector second.Fixed vm e h = rw (← e, h) refl
by-vector name op n orders.MultiplyAdd first.Integer second.Vector vm.Any e h = (rw (← e, h) refl, rw (← e, h) refl, agree-more (first_way (vector_kinds orders.MultiplyAdd first.Integer second.Vector vm.Any)) (comma ∷ Masked ∷ []))
by-vector name op n orders.MultiplyAdd first.Integer second.Vector vm e h = rw (← e, h) refl
by-vector name op n orders.MultiplyAdd first.Integer second.Fixed vm.Any e h = (rw (← e, h) refl, rw (← e, h) refl, agree-more (first_way (vector_kinds orders.MultiplyAdd first.Integer second.Fixed vm.Any)) (comma ∷ Masked ∷ []))
by-vector name op n orders.MultiplyAdd first.Integer second.Fixed vm e h = rw (← e, h) refl
by-vector name op n orders.MultiplyAdd first.Signed second.Vector vm.Any e h = (rw (← e, h) refl, rw (← e, h) refl, agree-more (first_way (vector_kinds orders.MultiplyAdd first.Signed second.Vector vm.Any)) (comma ∷ Masked ∷ []))
by-vector name op n orders.MultiplyAdd first.Signed second.Vector vm e h = rw (← e, h) refl
by-vector name op n orders.MultiplyAdd first.Signed second.Fixed vm.Any e h = (rw (← e, h) refl, rw (← e, h) refl, agree-more (first_way (vector_kinds orders.MultiplyAdd first.Signed second.Fixed vm.Any)) (comma ∷ Masked ∷ []))
by-vector name op n orders.MultiplyAdd first.Signed second.Fixed vm e h = rw (← e, h) refl
by-vector name op n orders.MultiplyAdd first.Unsigned second.Vector vm.Any e h = (rw (← e, h) refl, rw (← e, h) refl, agree-more (first_way (vector_kinds orders.MultiplyAdd first.Unsigned second.Vector vm.Any)) (comma ∷ Masked ∷ []))
by-vector name op n orders.MultiplyAdd first.Unsigned second.Vector vm e h = rw (← e, h) refl
by-vector name op n orders.MultiplyAdd first.Unsigned second.Fixed vm.Any e h = (rw (← e, h) refl, rw (← e, h) refl, agree-more (first_way (vector_kinds orders.MultiplyAdd first.Unsigned second.Fixed vm.Any)) (comma ∷ Masked ∷ []))
by-vector name op n orders.MultiplyAdd first.Unsigned second.Fixed vm e h = rw (← e, h) refl
by-vector name op n orders.MultiplyAdd first.Fixed second.Vector vm.Any e h = (rw (← e, h) refl, rw (← e, h) refl, agree-more (first_way (vector_kinds orders.MultiplyAdd first.Fixed second.Vector vm.Any)) (comma ∷ Masked ∷ []))
by-vector name op n orders.MultiplyAdd first.Fixed second.Vector vm e h = rw (← e, h) refl
by-vector name op n orders.MultiplyAdd first.Fixed second.Fixed vm.Any e h = (rw (← e, h) refl, rw (← e, h) refl, agree-more (first_way (vector_kinds orders.MultiplyAdd first.Fixed second.Fixed vm.Any)) (comma ∷ Masked ∷ []))
by-vector name op n orders.MultiplyAdd first.Fixed second.Fixed vm e h = rw (← e, h) refl
by-vector name op n orders.ToInteger first.Vector second.Vector vm.Any e h = (rw (← e, h) refl, rw (← e, h) refl, agree-more (first_way (vector_kinds orders.ToInteger first.Vector second.Vector vm.Any)) (comma ∷ Masked ∷ []))
by-vector name op n orders.ToInteger first.Vector second.Vector vm e h = rw (← e, h) refl
by-vector name op n orders.ToInteger first.Vector second.Fixed vm.Any e h = (rw (← e, h) refl, rw (← e, h) refl, agree-more (first_way (vector_kinds orders.ToInteger first.Vector second.Fixed vm.Any)) (comma ∷ Masked ∷ []))
by-vector name op n orders.ToInteger first.Vector second.Fixed vm e h = rw (← e, h) refl
by-vector name op n orders.ToInteger first.Integer second.Vector vm.Any e h = (rw (← e, h) refl, rw (← e, h) refl, agree-more (first_way (vector_kinds orders.ToInteger first.Integer second.Vector vm.Any)) (comma ∷ Masked ∷ []))
by-vector name op n orders.ToInteger first.Integer second.Vector vm e h = rw (← e, h) refl
by-vector name op n orders.ToInteger first.Integer second.Fixed vm.Any e h = (rw (← e, h) refl, rw (← e, h) refl, agree-more (first_way (vector_kinds orders.ToInteger first.Integer second.Fixed vm.Any)) (comma ∷ Masked ∷ []))
by-vector name op n orders.ToInteger first.Integer second.Fixed vm e h = rw (← e, h) refl
by-vector name op n orders.ToInteger first.Signed second.Vector vm.Any e h = (rw (← e, h) refl, rw (← e, h) refl, agree-more (first_way (vector_kinds orders.ToInteger first.Signed second.Vector vm.Any)) (comma ∷ Masked ∷ []))
by-vector name op n orders.ToInteger first.Signed second.Vector vm e h = rw (← e, h) refl
by-vector name op n orders.ToInteger first.Signed second.Fixed vm.Any e h = (rw (← e, h) refl, rw (← e, h) refl, agree-more (first_way (vector_kinds orders.ToInteger first.Signed second.Fixed vm.Any)) (comma ∷ Masked ∷ []))
by-vector name op n orders.ToInteger first.Signed second.Fixed vm e h = rw (← e, h) refl
by-vector name op n orders.ToInteger first.Unsigned second.Vector vm.Any e h = (rw (← e, h) refl, rw (← e, h) refl, agree-more (first_way (vector_kinds orders.ToInteger first.Unsigned second.Vector vm.Any)) (comma ∷ Masked ∷ []))
by-vector name op n orders.ToInteger first.Unsigned second.Vector vm e h = rw (← e, h) refl
by-vector name op n orders.ToInteger first.Unsigned second.Fixed vm.Any e h = (rw (← e, h) refl, rw (← e, h) refl, agree-more (first_way (vector_kinds orders.ToInteger first.Unsigned second.Fixed vm.Any)) (comma ∷ Masked ∷ []))
by-vector name op n orders.ToInteger first.Unsigned second.Fixed vm e h = rw (← e, h) refl
by-vector name op n orders.ToInteger first.Fixed second.Vector vm.Any e h = (rw (← e, h) refl, rw (← e, h) refl, agree-more (first_way (vector_kinds orders.ToInteger first.Fixed second.Vector vm.Any)) (comma ∷ Masked ∷ []))
by-vector name op n orders.ToInteger first.Fixed second.Vector vm e h = rw (← e, h) refl
by-vector name op n orders.ToInteger first.Fixed second.Fixed vm.Any e h = (rw (← e, h) refl, rw (← e, h) refl, agree-more (first_way (vector_kinds orders.ToInteger first.Fixed second.Fixed vm.Any)) (comma ∷ Masked ∷ []))
by-vector name op n orders.ToInteger first.Fixed second.Fixed vm e h = rw (← e, h) refl

by-shape : (name : List ℕ) (op : Op) (n : ℕ) (s : Shape) (order : Order) → s ≡ shape_of op → has_fields (layout_of s).nf n ≡ true → AreRight (formed name op n (shape_kinds s order))
unfolding AreRight formed with-nf ways_behind_commas first_way head_of
by-shape name op n shape.Registers order e h = rw (← e, h) refl
by-shape name op n shape.Immediate order e h = rw (← e, h) refl
by-shape name op n shape.Shift order e h = rw (← e, h) refl
by-shape name op n shape.ShiftWord order e h = rw (← e, h) refl
by-shape name op n shape.Load order e h = rw (← e, h) refl
by-shape name op n shape.Store order e h = rw (← e, h) refl
by-shape name op n shape.Branch order e h = rw (← e, h) refl
by-shape name op n shape.Upper order e h = rw (← e, h) refl
by-shape name op n shape.Jump order e h = rw (← e, h) refl
by-shape name op n shape.Fence order e h = rw (← e, h) refl
by-shape name op n shape.Csr order e h = rw (← e, h) refl
by-shape name op n shape.CsrNumber order e h = rw (← e, h) refl
by-shape name op n shape.Fixed order e h = rw (← e, h) refl
by-shape name op n shape.SetRegister order e h = rw (← e, h) refl
by-shape name op n shape.WholeMemory order e h = rw (← e, h) refl
by-shape name op n shape.MaskMemory order e h = rw (← e, h) refl
by-shape name op n shape.SetType order e h = (rw (← e, h) refl, rw (← e, h) refl, inr (refl, inr (refl, inr (refl, inr (refl, inl refl)))))
by-shape name op n shape.SetNumber order e h = (rw (← e, h) refl, rw (← e, h) refl, inr (refl, inr (refl, inr (refl, inr (refl, inl refl)))))
by-shape name op n shape.UnitMemory order e h = (rw (← e, h) refl, rw (← e, h) refl, agree-more (first_way (shape_kinds shape.UnitMemory order)) (comma ∷ Masked ∷ []))
by-shape name op n shape.StridedMemory order e h = (rw (← e, h) refl, rw (← e, h) refl, agree-more (first_way (shape_kinds shape.StridedMemory order)) (comma ∷ Masked ∷ []))
by-shape name op n shape.IndexedMemory order e h = (rw (← e, h) refl, rw (← e, h) refl, agree-more (first_way (shape_kinds shape.IndexedMemory order)) (comma ∷ Masked ∷ []))
by-shape name op n (shape.Vector first second vm) order e h = by-vector name op n order first second vm e h

-- the field nf of an instruction that a name has
one-has : (a : Bool) → (unwrap_or (cond a (Some 0) None) 0 == 0) ≡ true
one-has true = refl
one-has false = refl

any-has : (a b c d e f g h : Bool) → nat_lt (unwrap_or (cond a (Some 0) (cond b (Some 1) (cond c (Some 2) (cond d (Some 3) (cond e (Some 4) (cond f (Some 5) (cond g (Some 6) (cond h (Some 7) None)))))))) 0) 8 ≡ true
any-has true b c d e f g h = refl
any-has false true c d e f g h = refl
any-has false false true d e f g h = refl
any-has false false false true e f g h = refl
any-has false false false false true f g h = refl
any-has false false false false false true g h = refl
any-has false false false false false false true h = refl
any-has false false false false false false false true = refl
any-has false false false false false false false false = refl

registers-have : (a b c d : Bool) → has_fields nf.Registers (unwrap_or (cond a (Some 0) (cond b (Some 1) (cond c (Some 3) (cond d (Some 7) None)))) 0) ≡ true
registers-have true b c d = refl
registers-have false true c d = refl
registers-have false false true d = refl
registers-have false false false true = refl
registers-have false false false false = refl

found-has : (q : ℕ → Bool) (f : Nf) → has_fields f (unwrap_or (find q (named_nfs f)) 0) ≡ true
found-has q nf.Absent = one-has (q 0)
found-has q nf.Any = any-has (q 0) (q 1) (q 2) (q 3) (q 4) (q 5) (q 6) (q 7)
found-has q nf.Registers = registers-have (q 0) (q 1) (q 3) (q 7)

by-op : (name : List ℕ) (o : Option Op) → AreRight (instr_forms name (option_map (named_instr name) o))
unfolding AreRight formed with-nf
by-op name None = tt
by-op name (Some op) = by-shape name op _ (shape_of op) (order_of (class_of op)) refl (found-has _ (layout_of (shape_of op)).nf)

instr-right : (name : List ℕ) → AreRight (instr_forms name (instr_named name))
unfolding instr_named
instr-right name = by-op name _

-- both
done-slots : (slots : List Slot) → is_done slots ≡ true → slots ≡ []
done-slots [] e = refl
done-slots (slot ∷ slots) e = absurd (false≢true e)

only : (forms : List Form) → AreRight forms → Apart forms
unfolding AreRight
only [] right = tt
only (f ∷ []) right = right
only (f ∷ g ∷ []) right = right
only (f ∷ g ∷ h ∷ more) right = absurd right

behind : (f : Form) (name : List ℕ) (i : Instr) (ways : List (List Slot)) → is_right f ≡ true → f.slots ≡ [] → nat_lt (length ways) 2 ≡ true → AreRight (map (λ slots. form name slots (alone i)) ways) → Apart (f ∷ map (λ slots. form name slots (alone i)) ways)
unfolding AreRight
behind f name i [] first none few right = first
behind f name i (way ∷ []) first none few right = (first, right, rw none tt)
behind f name i (way ∷ other ∷ more) first none few right = absurd (let h = ltb-true (suc (suc (length more))) 2 few in omega (arith, h))

both : (name : List ℕ) (listed : List Form) (i : Option Instr) → instr_named name ≡ i → AtMostOne is_listed name listed → AreRight (instr_forms name i) → Apart (listed ++ instr_forms name i)
unfolding AtMostOne is_listed has_one_way
both name [] None e one right = tt
both name (f ∷ []) None e one right = (and_parts (is_right f) _ one.0).0
both name (f ∷ g ∷ more) i e one right = absurd one
both name [] (Some i) e one right = only (instr_forms name (Some i)) right
both name (f ∷ []) (Some i) e one right =
    let parts = and_parts (is_right f) (is_none (instr_named f.name) || (is_done f.slots && has_one_way (instr_named f.name))) one.0 in
    let same : name ≡ f.name = (bytes_eq-Decides name f.name).0 one.1 in
    let named : instr_named f.name ≡ Some i = ap instr_named (sym same) ∙ e in
    let ends : (is_done f.slots && has_one_way (Some i)) ≡ true = rw named at parts.1 in
    let both_parts = and_parts (is_done f.slots) (has_one_way (Some i)) ends in
    behind f name i (operand_ways (operand_kinds i.op)) parts.0 (done-slots f.slots both_parts.0) both_parts.1 right

pub forms-apart : (commas : ℕ) (name : List ℕ) → Apart (forms_of commas name)
unfolding forms_of picked
forms-apart commas name =
    both name (picked name (directives commas ++ pseudo_statements)) (instr_named name) refl (one-picked is_listed name (directives commas ++ pseudo_statements) (listed-distinct commas) (all-listed commas)) (instr-right name)
