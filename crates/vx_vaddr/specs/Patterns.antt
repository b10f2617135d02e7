-- What an access pattern keeps of a load or store: what doesn't depend on the element.
use Rattle.std.specs.Prelude.{◌≡◌, ℕ, ◌+◌, ◌*◌, ◌<◌, ◌≤◌, ◌^◌, if◌then◌else◌}
use Rattle.vx_decode.specs.Groups.{bits_of_eew}
use Rattle.vx_rows.specs.declared.row.Addressing.{Addressing}
use Rattle.vx_rows.specs.declared.row.Addressing.TheVariants.{Unit, FaultOnlyFirst, Whole, MaskBits, Strided, Unordered, Ordered}
use Rattle.vx_vector.specs.Accesses.{Movement, access_bytes, fields_of, registers_of_field, movement_count}
use Rattle.vx_vector.specs.Batches.{has_indices}

-- from one element's address to the next one's: elements of so many bytes, or a stride
abbrev pub step_by : Addressing → (bytes stride : ℕ) → ℕ
step_by Unit bytes stride = bytes
step_by FaultOnlyFirst bytes stride = bytes
step_by Whole bytes stride = bytes
step_by MaskBits bytes stride = bytes
step_by Strided bytes stride = stride
step_by Unordered bytes stride = 0
step_by Ordered bytes stride = 0

-- the width of the indices, 0 where there are none
abbrev pub index_width_by : Addressing → (width : ℕ) → ℕ
index_width_by addressing width = if has_indices addressing then width else 0

-- these numbers are those of a movement
pub record IsPattern (m : Movement) (step index_width bytes fields registers count : ℕ) : Type 0 where
  pub step_is : step ≡ step_by m.addressing (fields_of m * access_bytes m) m.stride
  pub index_is : index_width ≡ index_width_by m.addressing (bits_of_eew m.encoded)
  pub bytes_are : bytes ≡ access_bytes m
  pub fields_are : fields ≡ fields_of m
  pub registers_are : registers ≡ registers_of_field m
  pub count_is : count ≡ movement_count m

-- the numbers of an access fit the fields of an item: of element i, field f, with so many bytes, in a group of so many
-- registers from one on
pub record IsSized (bytes registers register i f : ℕ) : Type 0 where
  pub few_fields : f < 8
  pub few_bytes : bytes ≤ 8
  pub offset : f * bytes ≤ 64
  pub span : f * registers < 32
  pub inside : register + f * registers < 32
  pub byte : i * bytes < 2 ^ 16
