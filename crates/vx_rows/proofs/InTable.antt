-- Each operation's rows are in the table, and a word with the fixed bits of one means it.
use Rattle.std.proofs.Common.{◌≡◌, ℕ, zero, suc, ◌<◌, Bool, true, false, ◌⊎◌, inl, inr, List, [], ◌∷◌, ◌++◌, map, Some, slice_get, length, find, refl, sym, ap, subst, arith}
use Rattle.std.proofs.lemmas.Bool.{and_parts}
use Rattle.std.specs.List.{list_all, flat_map, slice_index_or}
use denote.Enum.Declared.{tag_of}
use Rattle.vx_rows.specs.Table.{operations, scalar_operations, set_operations, elem_operations, widen_operations, fixed_operations, mask_operations, perm_operations, memory_operations, rows_of, has_bits_of, table, HasItsRows}
use Rattle.vx_rows.specs.contracts.op.ScalarOp as scalar
use Rattle.vx_rows.specs.contracts.op.SetOp as set
use Rattle.vx_rows.specs.contracts.op.ElemOp as elem
use Rattle.vx_rows.specs.contracts.op.WidenOp as widen
use Rattle.vx_rows.specs.contracts.op.FixedOp as fixed
use Rattle.vx_rows.specs.contracts.op.MaskOp as mask
use Rattle.vx_rows.specs.contracts.op.PermOp as perm
use Rattle.vx_rows.specs.contracts.op.MemoryOp as memory
use Rattle.vx_rows.specs.declared.op.Op.{Op}
use Rattle.vx_rows.specs.declared.op.Op.TheVariants.{Scalar, Set, Elem, Widen, Fixed, Mask, Perm, Memory}
use Rattle.vx_rows.specs.declared.op.ScalarOp.{ScalarOp}
use Rattle.vx_rows.specs.declared.op.ScalarOp.TheVariants.{Lui}
use Rattle.vx_rows.specs.declared.op.SetOp.{SetOp}
use Rattle.vx_rows.specs.declared.op.SetOp.TheVariants.{Vsetvli}
use Rattle.vx_rows.specs.declared.op.ElemOp.{ElemOp}
use Rattle.vx_rows.specs.declared.op.ElemOp.TheVariants.{VaddVv}
use Rattle.vx_rows.specs.declared.op.WidenOp.{WidenOp}
use Rattle.vx_rows.specs.declared.op.WidenOp.TheVariants.{VadcVvm}
use Rattle.vx_rows.specs.declared.op.FixedOp.{FixedOp}
use Rattle.vx_rows.specs.declared.op.FixedOp.TheVariants.{VsadduVv}
use Rattle.vx_rows.specs.declared.op.MaskOp.{MaskOp}
use Rattle.vx_rows.specs.declared.op.MaskOp.TheVariants.{VredsumVs}
use Rattle.vx_rows.specs.declared.op.PermOp.{PermOp}
use Rattle.vx_rows.specs.declared.op.PermOp.TheVariants.{VrgatherVv}
use Rattle.vx_rows.specs.declared.op.MemoryOp.{MemoryOp}
use Rattle.vx_rows.specs.declared.op.MemoryOp.TheVariants.{Vle8}
use Rattle.vx_rows.specs.declared.row.Row.{Row}
use Rattle.vx_rows.proofs.Apart.{is_apart, are_apart, not_both}

-- x is an element
abbrev pub In : {X : Type 0} → X → List X → Type 0
In x [] = ⊥
In x (y ∷ ys) = (y ≡ x) ⊎ In x ys

in-get : {X : Type 0} (xs : List X) (k : ℕ) (x : X) → slice_get xs k ≡ Some x → In x xs
in-get [] k x at = cc
in-get (y ∷ xs) zero x at = inl cc
in-get (y ∷ xs) (suc k) x at = inr (in-get xs k x at)

in-Contains : {X : Type 0} (xs : List X) (x : X) (k : ℕ) → k < length xs → slice_index_or xs k x ≡ x → In x xs
in-Contains [] x k below at = absurd (omega arith)
in-Contains (y ∷ xs) x zero below at = inl at
in-Contains (y ∷ xs) x (suc k) below at = inr (in-Contains xs x k (omega arith) at)

in-map : {X Y : Type 0} (f : X → Y) (xs : List X) (x : X) → In x xs → In (f x) (map f xs)
in-map f [] x i = i
in-map f (y ∷ xs) x (inl e) = inl (ap f e)
in-map f (y ∷ xs) x (inr i) = inr (in-map f xs x i)

in-left : {X : Type 0} (xs ys : List X) (x : X) → In x xs → In x (xs ++ ys)
in-left [] ys x i = absurd i
in-left (y ∷ xs) ys x (inl e) = inl e
in-left (y ∷ xs) ys x (inr i) = inr (in-left xs ys x i)

in-right : {X : Type 0} (xs ys : List X) (x : X) → In x ys → In x (xs ++ ys)
in-right [] ys x i = i
in-right (y ∷ xs) ys x i = inr (in-right xs ys x i)

in-flat_map : {X Y : Type 0} (f : X → List Y) (xs : List X) (x : X) (y : Y) → In x xs → In y (f x) → In y (flat_map f xs)
in-flat_map f [] x y i j = absurd i
in-flat_map f (z ∷ xs) x y (inl e) j = in-left (f z) (flat_map f xs) y (subst (λ w. In y (f w)) (sym e) j)
in-flat_map f (z ∷ xs) x y (inr i) j = in-right (f z) (flat_map f xs) y (in-flat_map f xs x y i j)

-- ---- the operations, each part in the order of its type

at_scalar : (op : ScalarOp) → slice_get scalar_operations (tag_of scalar.the_type op) ≡ Some op
at_scalar Lui = refl
at_scalar op = refl

at_set : (op : SetOp) → slice_get set_operations (tag_of set.the_type op) ≡ Some op
at_set Vsetvli = refl
at_set op = refl

at_elem : (op : ElemOp) → slice_get elem_operations (tag_of elem.the_type op) ≡ Some op
at_elem VaddVv = refl
at_elem op = refl

at_widen : (op : WidenOp) → slice_get widen_operations (tag_of widen.the_type op) ≡ Some op
at_widen VadcVvm = refl
at_widen op = refl

at_fixed : (op : FixedOp) → slice_get fixed_operations (tag_of fixed.the_type op) ≡ Some op
at_fixed VsadduVv = refl
at_fixed op = refl

at_mask : (op : MaskOp) → slice_get mask_operations (tag_of mask.the_type op) ≡ Some op
at_mask VredsumVs = refl
at_mask op = refl

at_perm : (op : PermOp) → slice_get perm_operations (tag_of perm.the_type op) ≡ Some op
at_perm VrgatherVv = refl
at_perm op = refl

pub at_memory : (op : MemoryOp) → slice_get memory_operations (tag_of memory.the_type op) ≡ Some op
at_memory Vle8 = refl
at_memory op = refl

module _ (a : List ScalarOp) (b : List SetOp) (c : List ElemOp) (d : List WidenOp) (e : List FixedOp) (f : List MaskOp) (g : List PermOp) (h : List MemoryOp) where
  abbrev to_scalar : List Op
  to_scalar = map Scalar a

  abbrev to_set : List Op
  to_set = to_scalar ++ map Set b

  abbrev to_elem : List Op
  to_elem = to_set ++ map Elem c

  abbrev to_widen : List Op
  to_widen = to_elem ++ map Widen d

  abbrev to_fixed : List Op
  to_fixed = to_widen ++ map Fixed e

  abbrev to_mask : List Op
  to_mask = to_fixed ++ map Mask f

  abbrev to_perm : List Op
  to_perm = to_mask ++ map Perm g

  abbrev to_memory : List Op
  to_memory = to_perm ++ map Memory h

  in-scalar : (op : ScalarOp) → In op a → In (Scalar op) to_memory
  in-scalar op i = in-left to_perm (map Memory h) (Scalar op) (in-left to_mask (map Perm g) (Scalar op) (in-left to_fixed (map Mask f) (Scalar op) (in-left to_widen (map Fixed e) (Scalar op) (in-left to_elem (map Widen d) (Scalar op) (in-left to_set (map Elem c) (Scalar op) (in-left to_scalar (map Set b) (Scalar op) (in-map Scalar a op i)))))))

  in-set : (op : SetOp) → In op b → In (Set op) to_memory
  in-set op i = in-left to_perm (map Memory h) (Set op) (in-left to_mask (map Perm g) (Set op) (in-left to_fixed (map Mask f) (Set op) (in-left to_widen (map Fixed e) (Set op) (in-left to_elem (map Widen d) (Set op) (in-left to_set (map Elem c) (Set op) (in-right to_scalar (map Set b) (Set op) (in-map Set b op i)))))))

  in-elem : (op : ElemOp) → In op c → In (Elem op) to_memory
  in-elem op i = in-left to_perm (map Memory h) (Elem op) (in-left to_mask (map Perm g) (Elem op) (in-left to_fixed (map Mask f) (Elem op) (in-left to_widen (map Fixed e) (Elem op) (in-left to_elem (map Widen d) (Elem op) (in-right to_set (map Elem c) (Elem op) (in-map Elem c op i))))))

  in-widen : (op : WidenOp) → In op d → In (Widen op) to_memory
  in-widen op i = in-left to_perm (map Memory h) (Widen op) (in-left to_mask (map Perm g) (Widen op) (in-left to_fixed (map Mask f) (Widen op) (in-left to_widen (map Fixed e) (Widen op) (in-right to_elem (map Widen d) (Widen op) (in-map Widen d op i)))))

  in-fixed : (op : FixedOp) → In op e → In (Fixed op) to_memory
  in-fixed op i = in-left to_perm (map Memory h) (Fixed op) (in-left to_mask (map Perm g) (Fixed op) (in-left to_fixed (map Mask f) (Fixed op) (in-right to_widen (map Fixed e) (Fixed op) (in-map Fixed e op i))))

  in-mask : (op : MaskOp) → In op f → In (Mask op) to_memory
  in-mask op i = in-left to_perm (map Memory h) (Mask op) (in-left to_mask (map Perm g) (Mask op) (in-right to_fixed (map Mask f) (Mask op) (in-map Mask f op i)))

  in-perm : (op : PermOp) → In op g → In (Perm op) to_memory
  in-perm op i = in-left to_perm (map Memory h) (Perm op) (in-right to_mask (map Perm g) (Perm op) (in-map Perm g op i))

  in-memory : (op : MemoryOp) → In op h → In (Memory op) to_memory
  in-memory op i = in-right to_perm (map Memory h) (Memory op) (in-map Memory h op i)

pub in-operations : (op : Op) → In op operations
unfolding operations
in-operations (Scalar op) = in-scalar scalar_operations set_operations elem_operations widen_operations fixed_operations mask_operations perm_operations memory_operations op (in-get scalar_operations (tag_of scalar.the_type op) op (at_scalar op))
in-operations (Set op) = in-set scalar_operations set_operations elem_operations widen_operations fixed_operations mask_operations perm_operations memory_operations op (in-get set_operations (tag_of set.the_type op) op (at_set op))
in-operations (Elem op) = in-elem scalar_operations set_operations elem_operations widen_operations fixed_operations mask_operations perm_operations memory_operations op (in-get elem_operations (tag_of elem.the_type op) op (at_elem op))
in-operations (Widen op) = in-widen scalar_operations set_operations elem_operations widen_operations fixed_operations mask_operations perm_operations memory_operations op (in-get widen_operations (tag_of widen.the_type op) op (at_widen op))
in-operations (Fixed op) = in-fixed scalar_operations set_operations elem_operations widen_operations fixed_operations mask_operations perm_operations memory_operations op (in-get fixed_operations (tag_of fixed.the_type op) op (at_fixed op))
in-operations (Mask op) = in-mask scalar_operations set_operations elem_operations widen_operations fixed_operations mask_operations perm_operations memory_operations op (in-get mask_operations (tag_of mask.the_type op) op (at_mask op))
in-operations (Perm op) = in-perm scalar_operations set_operations elem_operations widen_operations fixed_operations mask_operations perm_operations memory_operations op (in-get perm_operations (tag_of perm.the_type op) op (at_perm op))
in-operations (Memory op) = in-memory scalar_operations set_operations elem_operations widen_operations fixed_operations mask_operations perm_operations memory_operations op (in-get memory_operations (tag_of memory.the_type op) op (at_memory op))

-- ---- the rows

in-all : (test : Row → Bool) (rows : List Row) (r : Row) → list_all test rows ≡ true → In r rows → test r ≡ true
in-all test [] r a i = absurd i
in-all test (t ∷ rows) r a (inl e) = subst (λ s. test s ≡ true) e (and_parts _ _ a).0
in-all test (t ∷ rows) r a (inr i) = in-all test rows r (and_parts _ _ a).1 i

not_true : (b : Bool) → (b ≡ true → ⊥) → b ≡ false
not_true true n = absurd (n refl)
not_true false n = refl

found : (word : ℕ) (r : Row) (rows : List Row) → are_apart rows ≡ true → In r rows → has_bits_of word r ≡ true → find (has_bits_of word) rows ≡ Some r
found word r [] a i has = absurd i
found word r (t ∷ rows) a (inl e) has =
    let here : has_bits_of word t ≡ true = subst (λ s. has_bits_of word s ≡ true) (sym e) has in
    rw (here, e) refl
found word r (t ∷ rows) a (inr i) has =
    let apart : is_apart t r ≡ true = in-all (is_apart t) rows r (and_parts _ _ a).0 i in
    let not_here : has_bits_of word t ≡ false = not_true _ (λ p. not_both word t r apart p has) in
    rw not_here (found word r rows (and_parts _ _ a).1 i has)

pub are_apart-table : are_apart table ≡ true
unfolding operations
are_apart-table = refl

pub has_rows : HasItsRows table
has_rows word op r i has =
    found word r table are_apart-table (in-flat_map rows_of operations op r (in-operations op) (in-Contains (rows_of op) r i.0 i.1 i.2)) has
