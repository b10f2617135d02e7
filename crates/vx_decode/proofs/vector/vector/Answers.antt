use Rattle.std.proofs.Common.{◌≡◌, ℕ, ◌==◌, false, List, [], ◌∷◌, bit_and, refl, rules, tests}
use Rattle.std.specs.List.{list_any}
use Rattle.vx_rows.specs.Table.{operations}
use Rattle.vx_decode.proofs.Rows.{operation_of-none}
use Rattle.vx_decode.proofs.vector.vector.Goals as goal

-- the categories
abbrev heads : List ℕ
heads = 0x57 ∷ 0x2057 ∷ 0x3057 ∷ 0x4057 ∷ 0x6057 ∷ 0x7057 ∷ []

pub returns-in_default : goal.returns-in_default
unfolding operations
returns-in_default c =
    let other : list_any (λ o. bit_and c.args.word 0x707f == o) heads ≡ false = search (rules, tests) in
    operation_of-none c.args.word 0x7f 0x57 0x707f heads c.requires refl other
