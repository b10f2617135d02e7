-- A word that was decoded. This project's own.
use Rattle.std.specs.Prelude.{◌≡◌, ℕ, Option, option_map}
use Rattle.vx_decode.specs.Decoded.{decoded}
use Rattle.vx_decode.specs.declared.known.Known.{Known}

-- this is the instruction that the word means, where it means one
abbrev pub Means : ℕ → Option Known → Type 0
Means word known = option_map (λ (k : Known). k.instr) known ≡ decoded word
