-- No row has a name that begins otherwise than the row's mnemonics.
use Rattle.std.proofs.Common.{◌≡◌, ℕ, Bool, true, false, not, cond, ◌&&◌, List, [], ◌∷◌, find, take, drop, is_some, Option, Some, None, bytes_eq, refl, sym, ap, ◌∙◌, true≢false, length, ◌-◌, le_of_eq}
use Rattle.std.proofs.lemmas.List.{take-append-drop, take_all, length-drop}
use Rattle.std.proofs.lemmas.List.Folds.{find-append}
use Rattle.std.proofs.lemmas.Slice.Eq.{bytes_eq-Decides}
use Rattle.std.specs.List.{list_all}
use Rattle.std.specs.Option.{option_or}
use Rattle.vx_language.specs.Names.{named_nfs, nf_named}
use Rattle.vx_rows.specs.Layouts.{layout_of}
use Rattle.vx_rows.specs.Table.{mnemonic, operations, shape_of, table}
use Rattle.vx_rows.specs.declared.row.Row.{Row}
use Rattle.vx_statement.specs.Letters.{begins_with_v}

-- the one where the choice holds, else not the other
abbrev alike : Bool → Bool → Bool
alike true b = b
alike false b = not b

-- all mnemonics of a row's operation begin with v, or all begin otherwise
abbrev begin_so : Bool → Row → Bool
begin_so b row = list_all (λ (nf : ℕ). alike b (begins_with_v (mnemonic row.op nf))) (named_nfs (layout_of (shape_of row.op)).nf)

others-begin : list_all (begin_so false) (take 71 table) ≡ true
unfolding operations begins_with_v
others-begin = refl

vectors-begin : list_all (begin_so true) (drop 71 table) ≡ true
unfolding operations begins_with_v
vectors-begin = refl

both : (x y : Bool) → (x && y) ≡ true → (x ≡ true) × (y ≡ true)
both true true e = (refl, refl)
both true false e = absurd (true≢false (sym e))
both false y e = absurd (true≢false (sym e))

apart : (same : Bool) (b x y : Bool) → (same ≡ true → x ≡ y) → alike (not b) x ≡ true → alike b y ≡ true → same ≡ false
apart false b x y s e h = refl
apart true true true y s e h = absurd (true≢false (sym e))
apart true true false true s e h = absurd (true≢false (sym (s refl)))
apart true true false false s e h = absurd (true≢false (sym h))
apart true false false y s e h = absurd (true≢false (sym e))
apart true false true false s e h = absurd (true≢false (s refl))
apart true false true true s e h = absurd (true≢false (sym h))

no-field : (name : List ℕ) (b : Bool) (f : ℕ → List ℕ) (nfs : List ℕ) → alike (not b) (begins_with_v name) ≡ true → list_all (λ (nf : ℕ). alike b (begins_with_v (f nf))) nfs ≡ true → is_some (find (λ (n : ℕ). bytes_eq name (f n)) nfs) ≡ false
no-field name b f [] e h = refl
no-field name b f (n ∷ ns) e h =
    let parts = both (alike b (begins_with_v (f n))) (list_all (λ (nf : ℕ). alike b (begins_with_v (f nf))) ns) h in
    let other = apart (bytes_eq name (f n)) b (begins_with_v name) (begins_with_v (f n)) (λ s. ap begins_with_v ((bytes_eq-Decides name (f n)).0 s)) e parts.0 in
    ap (λ (same : Bool). is_some (cond same (Some n) (find (λ (n : ℕ). bytes_eq name (f n)) ns))) other ∙ no-field name b f ns e parts.1

none-so : (name : List ℕ) (b : Bool) (rows : List Row) → alike (not b) (begins_with_v name) ≡ true → list_all (begin_so b) rows ≡ true → find (λ (row : Row). is_some (nf_named name row.op)) rows ≡ None
none-so name b [] e h = refl
none-so name b (row ∷ rows) e h =
    let parts = both (begin_so b row) (list_all (begin_so b) rows) h in
    let other = no-field name b (mnemonic row.op) (named_nfs (layout_of (shape_of row.op)).nf) e parts.0 in
    ap (λ (same : Bool). cond same (Some row) (find (λ (row : Row). is_some (nf_named name row.op)) rows)) other ∙ none-so name b rows e parts.1

or-none : {A : Type 0} (o : Option A) → option_or o None ≡ o
or-none None = refl
or-none (Some x) = refl

halves : (p : Row → Bool) (xs : List Row) (n : ℕ) → find p xs ≡ option_or (find p (take n xs)) (find p (drop n xs))
halves p xs n = ap (find p) (sym (take-append-drop n xs)) ∙ find-append p (take n xs) (drop n xs)

rest-of : (n : ℕ) (xs : List Row) → take (length xs - n) (drop n xs) ≡ drop n xs
rest-of n xs = take_all (length xs - n) (drop n xs) (le_of_eq (length-drop n xs))

-- a name that begins with v is found where it is found among the rows of vector instructions
pub vector-found : (name : List ℕ) → begins_with_v name ≡ true → find (λ (row : Row). is_some (nf_named name row.op)) (take (length table - 71) (drop 71 table)) ≡ find (λ (row : Row). is_some (nf_named name row.op)) table
vector-found name e =
    ap (find (λ (row : Row). is_some (nf_named name row.op))) (rest-of 71 table) ∙ sym (halves (λ (row : Row). is_some (nf_named name row.op)) table 71 ∙ ap (λ o. option_or o (find (λ (row : Row). is_some (nf_named name row.op)) (drop 71 table))) (none-so name false (take 71 table) e others-begin))

-- any other is found where it is found among the rest
pub other-found : (name : List ℕ) → begins_with_v name ≡ false → find (λ (row : Row). is_some (nf_named name row.op)) (take 71 table) ≡ find (λ (row : Row). is_some (nf_named name row.op)) table
other-found name e =
    sym (halves (λ (row : Row). is_some (nf_named name row.op)) table 71 ∙ ap (option_or (find (λ (row : Row). is_some (nf_named name row.op)) (take 71 table))) (none-so name true (drop 71 table) (ap not e) vectors-begin) ∙ or-none _)
