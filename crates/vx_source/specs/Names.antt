-- The names of registers in text. The integer registers': RISC-V psABI, integer register convention. The vector and the
-- control registers': RISC-V "V" 1.0, section 3 (additional vector registers).
use Rattle.std.specs.Prelude.{ℕ, ◌==◌, List, [], ◌∷◌, codes, Option, option_map, find}
use Rattle.std.specs.List.{slice_index_or}

-- the names of the integer registers, from x0 on
unfoldable pub register_names : List (List ℕ)
register_names =
    codes "zero" ∷ codes "ra" ∷ codes "sp" ∷ codes "gp" ∷ codes "tp" ∷ codes "t0" ∷ codes "t1" ∷ codes "t2" ∷
    codes "s0" ∷ codes "s1" ∷ codes "a0" ∷ codes "a1" ∷ codes "a2" ∷ codes "a3" ∷ codes "a4" ∷ codes "a5" ∷
    codes "a6" ∷ codes "a7" ∷ codes "s2" ∷ codes "s3" ∷ codes "s4" ∷ codes "s5" ∷ codes "s6" ∷ codes "s7" ∷
    codes "s8" ∷ codes "s9" ∷ codes "s10" ∷ codes "s11" ∷ codes "t3" ∷ codes "t4" ∷ codes "t5" ∷ codes "t6" ∷
    []

-- the name of the integer register of that number, below 32
abbrev pub register_name : ℕ → List ℕ
register_name n = slice_index_or register_names n []

-- the names of the vector registers, from v0 on
unfoldable pub vector_names : List (List ℕ)
vector_names =
    codes "v0" ∷ codes "v1" ∷ codes "v2" ∷ codes "v3" ∷ codes "v4" ∷ codes "v5" ∷ codes "v6" ∷ codes "v7" ∷
    codes "v8" ∷ codes "v9" ∷ codes "v10" ∷ codes "v11" ∷ codes "v12" ∷ codes "v13" ∷ codes "v14" ∷ codes "v15" ∷
    codes "v16" ∷ codes "v17" ∷ codes "v18" ∷ codes "v19" ∷ codes "v20" ∷ codes "v21" ∷ codes "v22" ∷ codes "v23" ∷
    codes "v24" ∷ codes "v25" ∷ codes "v26" ∷ codes "v27" ∷ codes "v28" ∷ codes "v29" ∷ codes "v30" ∷ codes "v31" ∷
    []

-- the name of the vector register of that number, below 32
abbrev pub vector_name : ℕ → List ℕ
vector_name n = slice_index_or vector_names n []

-- a control register that has a name in text
pub record NamedControl : Type 0 where
  pub number : ℕ
  pub name : List ℕ

-- all of them
unfoldable pub named_controls : List NamedControl
named_controls =
    record { number = 0x008; name = codes "vstart" } ∷
    record { number = 0x009; name = codes "vxsat" } ∷
    record { number = 0x00a; name = codes "vxrm" } ∷
    record { number = 0x00f; name = codes "vcsr" } ∷
    record { number = 0xc20; name = codes "vl" } ∷
    record { number = 0xc21; name = codes "vtype" } ∷
    record { number = 0xc22; name = codes "vlenb" } ∷
    []

-- the name of the control register of that number, where it has one
abbrev pub control_name : ℕ → Option (List ℕ)
control_name n = option_map (λ (c : NamedControl). c.name) (find (λ (c : NamedControl). n == c.number) named_controls)
