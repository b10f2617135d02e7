-- vtype in text: RISC-V "V" 1.0, sections 3.4 and 6.1. That a number without words stands as it is, is this project's own.
use Rattle.std.specs.Prelude.{ℕ, ◌^◌, Bool, not, ◌==◌, ◌&&◌, nat_lt, nat_le, List, [], ◌∷◌, ◌++◌, codes, decimal, if◌then◌else◌}
use Rattle.std.specs.List.{slice_index_or}
use Rattle.vx_base.specs.Numbers.{field}
use Rattle.vx_vstate.specs.Vtype.{vlmul, vsew}
use Rattle.vx_source.specs.declared.vtype.VtypeField.{VtypeField}
use Rattle.vx_source.specs.declared.vtype.VtypeField.TheVariants.{Sew, Lmul, Tail, Mask}

-- where a field of vtype stands, how many bits it has, and its words by its numbers from 0 on
pub record VtypeWords : Type 0 where
  pub low : ℕ
  pub count : ℕ
  pub words : List (List ℕ)

-- vlmul 4 is reserved: its word is empty
unfoldable pub vtype_words : VtypeField → VtypeWords
vtype_words Sew = record { low = 3; count = 3; words = codes "e8" ∷ codes "e16" ∷ codes "e32" ∷ codes "e64" ∷ [] }
vtype_words Lmul = record { low = 0; count = 3; words = codes "m1" ∷ codes "m2" ∷ codes "m4" ∷ codes "m8" ∷ [] ∷ codes "mf8" ∷ codes "mf4" ∷ codes "mf2" ∷ [] }
vtype_words Tail = record { low = 6; count = 1; words = codes "tu" ∷ codes "ta" ∷ [] }
vtype_words Mask = record { low = 7; count = 1; words = codes "mu" ∷ codes "ma" ∷ [] }

-- the word of a field in a vtype
abbrev pub vtype_word : VtypeField → ℕ → List ℕ
vtype_word f vtype = slice_index_or (vtype_words f).words (field vtype (vtype_words f).low (vtype_words f).count) []

-- each field of a vtype has a word, and it has no other bits
abbrev pub has_words : ℕ → Bool
has_words vtype = nat_lt vtype (2 ^ 8) && (not (vlmul vtype == 4) && nat_le (vsew vtype) 3)

-- a vtype by its words, as `e32, m2, ta, ma`
abbrev pub in_words : ℕ → List ℕ
in_words vtype =
    vtype_word Sew vtype ++ codes ", " ++ vtype_word Lmul vtype ++ codes ", " ++ vtype_word Tail vtype ++ codes ", " ++ vtype_word Mask vtype

-- a vtype by its words where it has them, or else by its number
unfoldable pub vtype_text : ℕ → List ℕ
vtype_text vtype = if has_words vtype then in_words vtype else decimal vtype
