-- How the row of a word is found by some of its fixed bits.
use Rattle.std.proofs.Common.{◌≡◌, ℕ, zero, suc, ◌<◌, ◌^◌, ◌⊎◌, inl, inr, Bool, true, false, cond, ◌==◌, ◌&&◌, ◌||◌, List, [], ◌∷◌, map, flat_map, ◌++◌, Option, Some, None, option_map, find, filter, slice_get, refl, sym, ap, subst, ◌∙◌, bit_and, arith}
use Rattle.std.proofs.lemmas.Bool.{eqb-true, eq-eqb, and_parts, false≢true}
use Rattle.std.proofs.Math.Nat.{mod-eq_of_lt}
use Rattle.std.proofs.lemmas.Nat.{and_assoc, and_comm, and_mask}
use Rattle.std.specs.List.{list_all, list_any}
use Rattle.vx_decode.specs.Decoded.{decoded, with_operands}
use Rattle.vx_decode.specs.Lookup.{operation_of, may_fit, rows_among, operation_among}
use Rattle.vx_rows.specs.Layouts.{layout_of, row_nfs}
use Rattle.vx_rows.specs.Table.{row_with, rows_of, shape_of, table, operations, has_bits_of, row_of, FitsOneAtMost}
use Rattle.vx_rows.specs.declared.op.Op.{Op}
use Rattle.vx_rows.specs.declared.row.Nf.{Nf}
use Rattle.vx_rows.specs.declared.row.Nf.TheVariants.{Absent, Any, Registers}
use Rattle.vx_rows.specs.declared.row.Row.{Row}

-- ---- searches of a list

-- what is chosen where a test fails
find-passed : (b : Bool) (x y z : Option Row) → (b ≡ true → ⊥) → y ≡ z → cond b x y ≡ z
find-passed true x y z fails same = absurd (fails refl)
find-passed false x y z fails same = same

-- a search may pass over an element that doesn't pass its test
find-kept : (test : Row → Bool) (keep : Bool) (r : Row) (rows kept : List Row) → (test r ≡ true → keep ≡ true) → find test rows ≡ find test kept → find test (r ∷ rows) ≡ find test (cond keep (r ∷ kept) kept)
find-kept test true r rows kept needed same = ap (λ x. cond (test r) (Some r) x) same
find-kept test false r rows kept needed same = find-passed (test r) (Some r) _ _ (λ passes. false≢true (needed passes)) same

-- a search needs only those that may pass its test
find-filter : (test keep : Row → Bool) (rows : List Row) → ((r : Row) → test r ≡ true → keep r ≡ true) → find test rows ≡ find test (filter keep rows)
find-filter test keep [] needed = refl
find-filter test keep (r ∷ rows) needed = find-kept test (keep r) r rows (filter keep rows) (needed r) (find-filter test keep rows needed)

-- where an element is
pub record IsAt (rows : List Row) (test : Row → Bool) (r : Row) : Type 0 where
  place : ℕ
  at : slice_get rows place ≡ Some r
  passes : test r ≡ true

later : (rows : List Row) (test : Row → Bool) (s r : Row) → IsAt rows test r → IsAt (s ∷ rows) test r
later rows test s r i = record { place = suc i.place; at = i.at; passes = i.passes }

find-at-choice : (test : Row → Bool) (s : Row) (rows : List Row) (r : Row) (b : Bool) → test s ≡ b → cond b (Some s) (find test rows) ≡ Some r → (find test rows ≡ Some r → IsAt rows test r) → IsAt (s ∷ rows) test r
find-at-choice test s rows r true e is rest =
    let same : s ≡ r = cc in
    record { place = 0; at = ap Some same; passes = subst (λ t. test t ≡ true) same e }
find-at-choice test s rows r false e is rest = later rows test s r (rest is)

find-at : (test : Row → Bool) (rows : List Row) (r : Row) → find test rows ≡ Some r → IsAt rows test r
find-at test [] r e = cc
find-at test (s ∷ rows) r e = find-at-choice test s rows r (test s) refl e (find-at test rows r)

filter-at-choice : (test keep : Row → Bool) (s : Row) (rows : List Row) (r : Row) (k : ℕ) (b : Bool) → keep s ≡ b → slice_get (cond b (s ∷ filter keep rows) (filter keep rows)) k ≡ Some r → test r ≡ true → ((j : ℕ) → slice_get (filter keep rows) j ≡ Some r → IsAt rows test r) → IsAt (s ∷ rows) test r
filter-at-choice test keep s rows r zero true e at passes rest = record { place = 0; at = at; passes = passes }
filter-at-choice test keep s rows r (suc k) true e at passes rest = later rows test s r (rest k at)
filter-at-choice test keep s rows r k false e at passes rest = later rows test s r (rest k at)

filter-at : (test keep : Row → Bool) (rows : List Row) (r : Row) (k : ℕ) → slice_get (filter keep rows) k ≡ Some r → test r ≡ true → IsAt rows test r
filter-at test keep [] r k at passes = cc
filter-at test keep (s ∷ rows) r k at passes = filter-at-choice test keep s rows r k (keep s) refl at passes (λ j here. filter-at test keep rows r j here passes)

filter-keeps-choice : (keep : Row → Bool) (s : Row) (kept : List Row) (r : Row) (k : ℕ) (b : Bool) → keep s ≡ b → slice_get (cond b (s ∷ kept) kept) k ≡ Some r → ((j : ℕ) → slice_get kept j ≡ Some r → keep r ≡ true) → keep r ≡ true
filter-keeps-choice keep s kept r zero true e at rest =
    let same : s ≡ r = cc in
    subst (λ t. keep t ≡ true) same e
filter-keeps-choice keep s kept r (suc k) true e at rest = rest k at
filter-keeps-choice keep s kept r k false e at rest = rest k at

filter-keeps : (keep : Row → Bool) (rows : List Row) (r : Row) (k : ℕ) → slice_get (filter keep rows) k ≡ Some r → keep r ≡ true
filter-keeps keep [] r k at = cc
filter-keeps keep (s ∷ rows) r k at = filter-keeps-choice keep s (filter keep rows) r k (keep s) refl at (λ j here. filter-keeps keep rows r j here)

-- what a search finds where some element passes
record Finds (rows : List Row) (test : Row → Bool) : Type 0 where
  row : Row
  is : find test rows ≡ Some row
  where_is : IsAt rows test row

finds-choice : (test : Row → Bool) (s : Row) (rows : List Row) (b : Bool) → test s ≡ b → (b ≡ false → Finds rows test) → Finds (s ∷ rows) test
finds-choice test s rows true e rest = record { row = s; is = rw e refl; where_is = record { place = 0; at = refl; passes = e } }
finds-choice test s rows false e rest =
    let f = rest refl in
    record { row = f.row; is = rw e f.is; where_is = later rows test s f.row f.where_is }

finds : (test : Row → Bool) (rows : List Row) (r : Row) (k : ℕ) → slice_get rows k ≡ Some r → test r ≡ true → Finds rows test
finds test [] r k at passes = cc
finds test (s ∷ rows) r zero at passes =
    let same : r ≡ s = cc in
    let here : test s ≡ true = subst (λ t. test t ≡ true) same passes in
    finds-choice test s rows (test s) refl (λ not. absurd (false≢true (sym not ∙ here)))
finds test (s ∷ rows) r (suc k) at passes = finds-choice test s rows (test s) refl (λ not. finds test rows r k at passes)

-- where at most one row fits, one that fits is found
pub row_of-unique : (word : ℕ) (r : Row) → FitsOneAtMost table → IsAt table (has_bits_of word) r → row_of word ≡ Some r
row_of-unique word r one i =
    let f = finds (has_bits_of word) table r i.place i.at i.passes in
    let same_place : f.where_is.place ≡ i.place = one word f.where_is.place i.place f.row r f.where_is.at i.at f.where_is.passes i.passes in
    f.is ∙ (sym f.where_is.at ∙ ap (slice_get table) same_place ∙ i.at)

-- ---- rows by some of their fixed bits

-- a word with a row's fixed bits and these bits at k
fits_both : (word m v k bits : ℕ) → bit_and word m ≡ v → bit_and word k ≡ bits → bit_and v k ≡ bit_and bits m
fits_both word m v k bits p q =
    ap (λ x. bit_and x k) (sym p) ∙ and_assoc k word m ∙ ap (λ x. bit_and word x) (and_comm m k) ∙ sym (and_assoc m word k) ∙ ap (λ x. bit_and x m) q

may_fit-from_bits : (word k bits : ℕ) (r : Row) → bit_and word k ≡ bits → has_bits_of word r ≡ true → may_fit k bits r ≡ true
may_fit-from_bits word k bits r known has =
    eq-eqb _ _ (fits_both word r.mask r.value k bits (eqb-true _ _ has) known)

-- the row of a word is among those that its known bits let fit
find-may_fit : (word k bits : ℕ) (rows : List Row) → bit_and word k ≡ bits → find (has_bits_of word) rows ≡ find (has_bits_of word) (filter (may_fit k bits) rows)
find-may_fit word k bits rows known = find-filter (has_bits_of word) (may_fit k bits) rows (λ r has. may_fit-from_bits word k bits r known has)

-- the test of a row of this mask
abbrev is_value : (word mask : ℕ) → Row → Bool
is_value word mask r = bit_and word mask == r.value

-- among rows of one mask the test goes by the bits under it
same-choice : (word mask : ℕ) (r : Row) (kept : List Row) (b : Bool) → (r.mask == mask) ≡ b → find (is_value word mask) kept ≡ find (has_bits_of word) kept → find (is_value word mask) (cond b (r ∷ kept) kept) ≡ find (has_bits_of word) (cond b (r ∷ kept) kept)
same-choice word mask r kept true e rest =
    let here : mask ≡ r.mask = sym (eqb-true _ _ e) in
    ap (λ m. cond (bit_and word m == r.value) (Some r) (find (is_value word mask) kept)) here ∙ ap (λ x. cond (has_bits_of word r) (Some r) x) rest
same-choice word mask r kept false e rest = rest

find-same_mask : (word mask : ℕ) (rows : List Row) → find (is_value word mask) (filter (λ (r : Row). r.mask == mask) rows) ≡ find (has_bits_of word) (filter (λ (r : Row). r.mask == mask) rows)
find-same_mask word mask [] = refl
find-same_mask word mask (r ∷ rows) = same-choice word mask r (filter (λ (r : Row). r.mask == mask) rows) (r.mask == mask) refl (find-same_mask word mask rows)

-- a row of some mask that is found by the bits under it is the word's
among-found : (word k bits mask : ℕ) (r : Row) → FitsOneAtMost table → find (is_value word mask) (rows_among k bits mask) ≡ Some r → row_of word ≡ Some r
among-found word k bits mask r one found =
    let inner = find-at (is_value word mask) (rows_among k bits mask) r found in
    let of_mask : (r.mask == mask) ≡ true = filter-keeps (λ (r : Row). r.mask == mask) (filter (may_fit k bits) table) r inner.place inner.at in
    let has : has_bits_of word r ≡ true = subst (λ m. (bit_and word m == r.value) ≡ true) (sym (eqb-true _ _ of_mask)) inner.passes in
    let middle = filter-at (has_bits_of word) (λ (r : Row). r.mask == mask) (filter (may_fit k bits) table) r inner.place inner.at has in
    row_of-unique word r one (filter-at (has_bits_of word) (may_fit k bits) table r middle.place middle.at has)

op-choice : (word : ℕ) (o : Option Row) (op : Op) → ((r : Row) → o ≡ Some r → row_of word ≡ Some r) → option_map (λ (r : Row). r.op) o ≡ Some op → Some op ≡ operation_of word
op-choice word None op found is = cc
op-choice word (Some r) op found is = sym is ∙ ap (option_map (λ (s : Row). s.op)) (sym (found r refl))

-- the operation that is found among the rows of some mask is the word's
pub operation_of-found : (word k bits mask : ℕ) (op : Op) → FitsOneAtMost table → Some op ≡ operation_among k bits mask (bit_and word mask) → Some op ≡ operation_of word
operation_of-found word k bits mask op one is = op-choice word (find (is_value word mask) (rows_among k bits mask)) op (λ r found. among-found word k bits mask r one found) (sym is)

-- none of the rows of these masks fits
abbrev pub IsNone : (word k bits : ℕ) → List ℕ → Type 0
IsNone word k bits [] = Unit {0}
IsNone word k bits (mask ∷ masks) = (None ≡ operation_among k bits mask (bit_and word mask)) × IsNone word k bits masks

no-row : (o : Option Row) → option_map (λ (r : Row). r.op) o ≡ None → o ≡ None
no-row None is = refl
no-row (Some r) is = cc

not-both : (o : Option Row) (r : Row) → o ≡ None → o ≡ Some r → ⊥
not-both o r none some = cc

-- a row of one of those masks doesn't fit
fails-in : (word mask : ℕ) (rows : List Row) (r : Row) (k : ℕ) → slice_get rows k ≡ Some r → find (is_value word mask) (filter (λ (r : Row). r.mask == mask) rows) ≡ None → (r.mask == mask) ≡ true → has_bits_of word r ≡ true → ⊥
fails-in word mask [] r k at none of has = cc
fails-in word mask (s ∷ rows) r zero at none of has =
    let same : s ≡ r = cc in
    let of_s : (s.mask == mask) ≡ true = subst (λ (t : Row). (t.mask == mask) ≡ true) (sym same) of in
    let has_s : is_value word mask s ≡ true = subst (λ m. (bit_and word m == s.value) ≡ true) (eqb-true _ _ of_s) (subst (λ t. has_bits_of word t ≡ true) (sym same) has) in
    let found : find (is_value word mask) (filter (λ (r : Row). r.mask == mask) (s ∷ rows)) ≡ Some s = rw (of_s, has_s) refl in
    not-both _ s none found
fails-in word mask (s ∷ rows) r (suc k) at none of has = fails-in word mask rows r k at (rest (s.mask == mask) none) of has
  where
    passed : (b : Bool) (rest : Option Row) → cond b (Some s) rest ≡ None → rest ≡ None
    passed true rest e = cc
    passed false rest e = e

    rest : (b : Bool) → find (is_value word mask) (cond b (s ∷ filter (λ (r : Row). r.mask == mask) rows) (filter (λ (r : Row). r.mask == mask) rows)) ≡ None → find (is_value word mask) (filter (λ (r : Row). r.mask == mask) rows) ≡ None
    rest true e = passed (is_value word mask s) _ e
    rest false e = e

fails-choice : (word k bits mask : ℕ) (r : Row) (others : Bool) (j : ℕ) (b : Bool) → (r.mask == mask) ≡ b → slice_get (filter (may_fit k bits) table) j ≡ Some r → None ≡ operation_among k bits mask (bit_and word mask) → (b || others) ≡ true → has_bits_of word r ≡ true → (others ≡ true → ⊥) → ⊥
fails-choice word k bits mask r others j true e at none any has rest = fails-in word mask (filter (may_fit k bits) table) r j at (no-row _ (sym none)) e has
fails-choice word k bits mask r others j false e at none any has rest = rest any

fails : (word k bits : ℕ) (masks : List ℕ) (r : Row) (j : ℕ) → slice_get (filter (may_fit k bits) table) j ≡ Some r → IsNone word k bits masks → list_any (λ m. r.mask == m) masks ≡ true → has_bits_of word r ≡ true → ⊥
fails word k bits [] r j at none any has = false≢true any
fails word k bits (mask ∷ masks) r j at none any has =
    fails-choice word k bits mask r (list_any (λ m. r.mask == m) masks) j (r.mask == mask) refl at none.0 any has (λ others. fails word k bits masks r j at none.1 others has)

list_all-at : (test : Row → Bool) (rows : List Row) (r : Row) (k : ℕ) → list_all test rows ≡ true → slice_get rows k ≡ Some r → test r ≡ true
list_all-at test [] r k all at = cc
list_all-at test (s ∷ rows) r zero all at =
    let same : s ≡ r = cc in
    subst (λ t. test t ≡ true) same (and_parts _ _ all).0
list_all-at test (s ∷ rows) r (suc k) all at = list_all-at test rows r k (and_parts _ _ all).1 at

-- a search needs only those at whose places the test may pass
find-filter-at : (test keep : Row → Bool) (rows : List Row) → ((r : Row) (j : ℕ) → slice_get rows j ≡ Some r → test r ≡ true → keep r ≡ true) → find test rows ≡ find test (filter keep rows)
find-filter-at test keep [] needed = refl
find-filter-at test keep (r ∷ rows) needed = find-kept test (keep r) r rows (filter keep rows) (needed r 0 refl) (find-filter-at test keep rows (λ s j at. needed s (suc j) at))

last-keeps : (word k bits : ℕ) (masks : List ℕ) (last : ℕ) (r : Row) (j : ℕ) → slice_get (filter (may_fit k bits) table) j ≡ Some r → IsNone word k bits masks → list_any (λ m. r.mask == m) (last ∷ masks) ≡ true → has_bits_of word r ≡ true → (r.mask == last) ≡ true
last-keeps word k bits masks last r j at none any has = choice (r.mask == last) refl any
  where
    choice : (b : Bool) → (r.mask == last) ≡ b → (b || list_any (λ m. r.mask == m) masks) ≡ true → b ≡ true
    choice true e any = refl
    choice false e any = absurd (fails word k bits masks r j at none any has)

-- where the rows that may fit have these masks, and none of all masks but one fits, the operation is one of that mask
pub operation_of-last : (word k bits : ℕ) (masks : List ℕ) (last : ℕ) → bit_and word k ≡ bits → IsNone word k bits masks → list_all (λ (r : Row). list_any (λ m. r.mask == m) (last ∷ masks)) (filter (may_fit k bits) table) ≡ true → operation_among k bits last (bit_and word last) ≡ operation_of word
operation_of-last word k bits masks last known none all =
    let rows = filter (may_fit k bits) table in
    ap (option_map (λ (r : Row). r.op))
    (find-same_mask word last rows
    ∙ sym (find-may_fit word k bits table known
    ∙ find-filter-at (has_bits_of word) (λ (r : Row). r.mask == last) rows (λ r j at has. last-keeps word k bits masks last r j at none (list_all-at (λ (r : Row). list_any (λ m. r.mask == m) (last ∷ masks)) rows r j all at) has)))

-- ---- words with no row

-- each row fixes the bits of k to some of these
abbrev pub has_one_of : ℕ → List ℕ → Row → Bool
has_one_of k choices r = (bit_and r.mask k == k) && list_any (λ c. bit_and r.value k == c) choices

-- a word with the row's fixed bits has such bits at k
any_bits : (word k : ℕ) (choices : List ℕ) (r : Row) → has_one_of k choices r ≡ true → has_bits_of word r ≡ true → list_any (λ c. bit_and word k == c) choices ≡ true
any_bits word k choices r one has =
    let fixes : bit_and r.mask k ≡ k = eqb-true _ _ (and_parts _ _ one).0 in
    let is : bit_and word r.mask ≡ r.value = eqb-true _ _ has in
    let same : bit_and r.value k ≡ bit_and word k = ap (λ x. bit_and x k) (sym is) ∙ and_assoc k word r.mask ∙ ap (λ x. bit_and word x) fixes in
    let among : list_any (λ c. bit_and r.value k == c) choices ≡ true = (and_parts _ _ one).1 in
    rw same at among

-- a word whose bits at k are none of them has no row
find-none : (word k : ℕ) (choices : List ℕ) (rows : List Row) → list_all (has_one_of k choices) rows ≡ true → list_any (λ c. bit_and word k == c) choices ≡ false → find (has_bits_of word) rows ≡ None
find-none word k choices [] each none = refl
find-none word k choices (r ∷ rows) each none =
    find-passed (has_bits_of word r) (Some r) _ None (λ has. false≢true (sym none ∙ any_bits word k choices r (and_parts _ _ each).0 has)) (find-none word k choices rows (and_parts _ _ each).1 none)

pub operation_of-none : (word k bits l : ℕ) (choices : List ℕ) → bit_and word k ≡ bits → list_all (has_one_of l choices) (filter (may_fit k bits) table) ≡ true → list_any (λ c. bit_and word l == c) choices ≡ false → None ≡ operation_of word
operation_of-none word k bits l choices known each none =
    ap (λ r. option_map (λ (s : Row). s.op) r) (sym (find-may_fit word k bits table known ∙ find-none word l choices _ each none))

-- ---- the instruction

-- a row whose shape is that of its operation
shaped : (word : ℕ) (o : Option Row) → ((r : Row) → o ≡ Some r → r.shape ≡ shape_of r.op) → option_map (λ (r : Row). with_operands word r.op (layout_of r.shape)) o ≡ option_map (λ op. with_operands word op (layout_of (shape_of op))) (option_map (λ (r : Row). r.op) o)
shaped word None has = refl
shaped word (Some r) has = ap (λ shape. Some (with_operands word r.op (layout_of shape))) (has r refl)

-- each row of a list has a property
abbrev pub Each : (Row → Type 0) → List Row → Type 0
Each P rows = (r : Row) (k : ℕ) → slice_get rows k ≡ Some r → P r

each-cons : (P : Row → Type 0) (s : Row) (rows : List Row) → P s → Each P rows → Each P (s ∷ rows)
each-cons P s rows here rest r zero at =
    let same : s ≡ r = cc in
    subst P same here
each-cons P s rows here rest r (suc k) at = rest r k at

each-append : (P : Row → Type 0) (xs ys : List Row) → Each P xs → Each P ys → Each P (xs ++ ys)
each-append P [] ys of_xs of_ys r k at = of_ys r k at
each-append P (s ∷ xs) ys of_xs of_ys r k at = each-cons P s (xs ++ ys) (of_xs s 0 refl) (each-append P xs ys (λ r k at. of_xs r (suc k) at) of_ys) r k at

-- a field nf with which there is a row
abbrev pub IsRowNf : Nf → ℕ → Type 0
IsRowNf Absent n = n ≡ 0
IsRowNf Any n = n ≡ 0
IsRowNf Registers n = (n ≡ 0) ⊎ (n ≡ 1) ⊎ (n ≡ 3) ⊎ (n ≡ 7)

each-nf : (P : Row → Type 0) (op : Op) (k : Nf) → ((nf : ℕ) → IsRowNf k nf → P (row_with op nf)) → Each P (map (row_with op) (row_nfs k))
each-nf P op Absent each r k at = each-cons P (row_with op 0) [] (each 0 refl) (λ r k at. cc) r k at
each-nf P op Any each r k at = each-cons P (row_with op 0) [] (each 0 refl) (λ r k at. cc) r k at
each-nf P op Registers each r k at =
    each-cons P (row_with op 0) (map (row_with op) (1 ∷ 3 ∷ 7 ∷ [])) (each 0 (inl refl))
    (each-cons P (row_with op 1) (map (row_with op) (3 ∷ 7 ∷ [])) (each 1 (inr (inl refl)))
    (each-cons P (row_with op 3) (map (row_with op) (7 ∷ [])) (each 3 (inr (inr (inl refl))))
    (each-cons P (row_with op 7) [] (each 7 (inr (inr (inr refl)))) (λ r k at. cc))))
    r k at

each-op : (P : Row → Type 0) → ((op : Op) (nf : ℕ) → IsRowNf (layout_of (shape_of op)).nf nf → P (row_with op nf)) → (ops : List Op) → Each P (flat_map rows_of ops)
each-op P each [] r k at = cc
each-op P each (op ∷ ops) r k at =
    each-append P (rows_of op) (flat_map rows_of ops) (each-nf P op (layout_of (shape_of op)).nf (each op)) (each-op P each ops) r k at

-- each row of the table is one of its operation's
pub record IsRow (r : Row) : Type 0 where
  pub nf : ℕ
  pub is_nf : IsRowNf (layout_of (shape_of r.op)).nf nf
  pub is : r ≡ row_with r.op nf

pub are_rows : Each IsRow table
are_rows = each-op IsRow (λ op nf is. record { nf = nf; is_nf = is; is = refl }) operations

-- the row that a word means is one of its operation's, and has the word's bits
pub record Means (word : ℕ) (r : Row) : Type 0 where
  pub row : IsRow r
  pub has : has_bits_of word r ≡ true

pub means : (word : ℕ) (r : Row) → row_of word ≡ Some r → Means word r
means word r found =
    let i = find-at (has_bits_of word) table r found in
    record { row = are_rows r i.place i.at; has = i.passes }

-- the instruction of a word with this operation
pub decoded-operation : (word : ℕ) (op : Op) → Some op ≡ operation_of word → Some (with_operands word op (layout_of (shape_of op))) ≡ decoded word
decoded-operation word op is =
    ap (option_map (λ op. with_operands word op (layout_of (shape_of op)))) is
    ∙ sym (shaped word (row_of word) (λ r found. ap (λ (s : Row). s.shape) (means word r found).row.is))

-- all bits of a word
pub and_all : (word : ℕ) → word < 2 ^ 32 → bit_and word 0xffffffff ≡ word
and_all word fits = and_mask word 32 ∙ mod-eq_of_lt fits

pub and_none : (word : ℕ) → bit_and word 0 ≡ 0
and_none word = and_mask word 0 ∙ omega arith
