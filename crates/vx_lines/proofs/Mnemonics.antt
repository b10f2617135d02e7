-- Each row's mnemonic names the row.
use Rattle.std.proofs.Common.{◌≡◌, ℕ, List, map, Some, refl}
use Rattle.vx_decode.specs.declared.instr.Instr.{Instr}
use Rattle.vx_rows.specs.Layouts.{layout_of}
use Rattle.vx_rows.specs.Table.{operations, mnemonic, shape_of}
use Rattle.vx_rows.specs.declared.op.Op.{Op}
use Rattle.vx_rows.specs.declared.op.Op.TheVariants.{Scalar, Set, Elem, Widen, Fixed, Mask, Perm, Memory}
use Rattle.vx_rows.specs.declared.op.ScalarOp.{ScalarOp}
use Rattle.vx_rows.specs.declared.op.ScalarOp.TheVariants.{Lui}
use Rattle.vx_rows.specs.declared.op.SetOp.{SetOp}
use Rattle.vx_rows.specs.declared.op.SetOp.TheVariants.{Vsetvli}
use Rattle.vx_rows.specs.declared.op.ElemOp.{ElemOp}
use Rattle.vx_rows.specs.declared.op.ElemOp.TheVariants.{VaddVv}
use Rattle.vx_rows.specs.declared.op.WidenOp.{WidenOp}
use Rattle.vx_rows.specs.declared.op.WidenOp.TheVariants.{VadcVvm}
use Rattle.vx_rows.specs.declared.op.FixedOp.{FixedOp}
use Rattle.vx_rows.specs.declared.op.FixedOp.TheVariants.{VsadduVv}
use Rattle.vx_rows.specs.declared.op.MaskOp.{MaskOp}
use Rattle.vx_rows.specs.declared.op.MaskOp.TheVariants.{VredsumVs}
use Rattle.vx_rows.specs.declared.op.PermOp.{PermOp}
use Rattle.vx_rows.specs.declared.op.PermOp.TheVariants.{VrgatherVv}
use Rattle.vx_rows.specs.declared.op.MemoryOp.{MemoryOp}
use Rattle.vx_rows.specs.declared.op.MemoryOp.TheVariants.{Vle8}
use Rattle.vx_language.specs.Names.{bare_instr, instr_named, named_nfs}

abbrev pub with_nf : Op → ℕ → Instr
with_nf op n = record (bare_instr op) { nf = n }

-- the fields nf of an operation's rows
abbrev pub nfs : Op → List ℕ
nfs op = named_nfs (layout_of (shape_of op)).nf

unfoldable pub IsNamed : Op → Type 0
IsNamed op = map (λ (n : ℕ). instr_named (mnemonic op n)) (nfs op) ≡ map (λ (n : ℕ). Some (with_nf op n)) (nfs op)

scalar-named : (op : ScalarOp) → IsNamed (Scalar op)
unfolding IsNamed instr_named operations
scalar-named Lui = refl
scalar-named other = refl

set-named : (op : SetOp) → IsNamed (Set op)
unfolding IsNamed instr_named operations
set-named Vsetvli = refl
set-named other = refl

elem-named : (op : ElemOp) → IsNamed (Elem op)
unfolding IsNamed instr_named operations
elem-named VaddVv = refl
elem-named other = refl

widen-named : (op : WidenOp) → IsNamed (Widen op)
unfolding IsNamed instr_named operations
widen-named VadcVvm = refl
widen-named other = refl

fixed-named : (op : FixedOp) → IsNamed (Fixed op)
unfolding IsNamed instr_named operations
fixed-named VsadduVv = refl
fixed-named other = refl

mask-named : (op : MaskOp) → IsNamed (Mask op)
unfolding IsNamed instr_named operations
mask-named VredsumVs = refl
mask-named other = refl

perm-named : (op : PermOp) → IsNamed (Perm op)
unfolding IsNamed instr_named operations
perm-named VrgatherVv = refl
perm-named other = refl

memory-named : (op : MemoryOp) → IsNamed (Memory op)
unfolding IsNamed instr_named operations
memory-named Vle8 = refl
memory-named other = refl

pub op-named : (op : Op) → IsNamed op
op-named (Scalar op) = scalar-named op
op-named (Set op) = set-named op
op-named (Elem op) = elem-named op
op-named (Widen op) = widen-named op
op-named (Fixed op) = fixed-named op
op-named (Mask op) = mask-named op
op-named (Perm op) = perm-named op
op-named (Memory op) = memory-named op
