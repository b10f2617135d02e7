-- Operations by the names of their rows.
use Rattle.std.proofs.Common.{◌≡◌, Bool, true, false, cond, List, [], ◌∷◌, ◌++◌, map, find, Option, Some, option_map, refl, ap, ◌∙◌}
use Rattle.std.specs.List.{flat_map}
use Rattle.vx_rows.specs.Layouts.{layout_of, row_nfs}
use Rattle.vx_rows.specs.Table.{row_with, rows_of, shape_of, operations, table}
use Rattle.vx_rows.specs.declared.op.Op.{Op}
use Rattle.vx_rows.specs.declared.row.Nf.{Nf}
use Rattle.vx_rows.specs.declared.row.Nf.TheVariants.{Absent, Any, Registers}
use Rattle.vx_rows.specs.declared.row.Row.{Row}

-- the operation of the first row that is found behind rows of one operation
found-row : (q : Op → Bool) (op : Op) (nf : Nf) (b : Bool) (rest : List Row) → q op ≡ b → option_map (λ (r : Row). r.op) (find (λ (r : Row). q r.op) (map (row_with op) (row_nfs nf) ++ rest)) ≡ cond b (Some op) (option_map (λ (r : Row). r.op) (find (λ (r : Row). q r.op) rest))
found-row q op Absent true rest e = rw e refl
found-row q op Absent false rest e = rw e refl
found-row q op Any true rest e = rw e refl
found-row q op Any false rest e = rw e refl
found-row q op Registers true rest e = rw e refl
found-row q op Registers false rest e = rw e refl

-- the first row of which an operation is so is one of the first operation that is
found-rows : (q : Op → Bool) (ops : List Op) → option_map (λ (r : Row). r.op) (find (λ (r : Row). q r.op) (flat_map rows_of ops)) ≡ find q ops
found-rows q [] = refl
found-rows q (op ∷ ops) =
    found-row q op (layout_of (shape_of op)).nf (q op) (flat_map rows_of ops) refl
    ∙ ap (λ (o : Option Op). cond (q op) (Some op) o) (found-rows q ops)

pub found-in-table : (q : Op → Bool) (rows : List Row) (r : Option Row) → find (λ (r : Row). q r.op) rows ≡ find (λ (r : Row). q r.op) table → r ≡ find (λ (r : Row). q r.op) rows → option_map (λ (r : Row). r.op) r ≡ find q operations
found-in-table q rows r e h =
    ap (option_map (λ (r : Row). r.op)) (h ∙ e) ∙ found-rows q operations
