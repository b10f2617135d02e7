-- How mnemonics begin.
use Rattle.std.specs.Prelude.{ℕ, Bool, false, ◌==◌, List, [], ◌∷◌}

-- a name begins with `v`, as the mnemonics of vector instructions and no others do
unfoldable pub begins_with_v : List ℕ → Bool
begins_with_v [] = false
begins_with_v (first ∷ rest) = first == 118
