-- A row by some of its fixed bits. This project's own.
use Rattle.std.specs.Prelude.{ℕ, Bool, ◌==◌, bit_and, List, Option, option_map, filter, find}
use Rattle.vx_rows.specs.Table.{row_of, table}
use Rattle.vx_rows.specs.declared.op.Op.{Op}
use Rattle.vx_rows.specs.declared.row.Row.{Row}

-- the operation of the row that a word means, where it means one
abbrev pub operation_of : ℕ → Option Op
operation_of word = option_map (λ (r : Row). r.op) (row_of word)

-- a word whose bits at k are these may have the row's fixed bits
abbrev pub may_fit : ℕ → ℕ → Row → Bool
may_fit k bits r = bit_and r.value k == bit_and bits r.mask

-- the rows of this mask among those
abbrev pub rows_among : (k bits mask : ℕ) → List Row
rows_among k bits mask = filter (λ (r : Row). r.mask == mask) (filter (may_fit k bits) table)

-- the operation of the first of them whose fixed bits are `value`
abbrev pub operation_among : (k bits mask value : ℕ) → Option Op
operation_among k bits mask value = option_map (λ (r : Row). r.op) (find (λ (r : Row). value == r.value) (rows_among k bits mask))
