-- The definitions at numbers that were worked out by the standard: RISC-V "V" 1.0, sections 3.4, 6.1 and 6.2.
use Rattle.std.proofs.Common.{◌≡◌, ℕ, ◌+◌, ◌-◌, ◌*◌, ◌^◌, List, [], ◌∷◌, ◌++◌, map, refl}
use Rattle.std.specs.Prelude.{filter}
use Rattle.std.specs.List.{range_with_len}
use Rattle.vx_vstate.specs.Vtype.{vill, vlmax, is_accepted}
use Rattle.vx_vstate.specs.Configuration.{Configuration, configured}
use Rattle.vx_vstate.specs.declared.avl.Avl.TheVariants.{Value}

-- the vtypes: e8 at mf8 to m8, e16 at mf4 to m8, e32 at mf2 to m8, e64 at m1 to m8
abbrev settings : List ℕ
settings = 5 ∷ 6 ∷ 7 ∷ 0 ∷ 1 ∷ 2 ∷ 3 ∷ 14 ∷ 15 ∷ 8 ∷ 9 ∷ 10 ∷ 11 ∷ 23 ∷ 16 ∷ 17 ∷ 18 ∷ 19 ∷ 24 ∷ 25 ∷ 26 ∷ 27 ∷ []

-- VLMAX at each of them, of registers of 128 and of 256 bits
abbrev lengths_128 : List ℕ
lengths_128 = 2 ∷ 4 ∷ 8 ∷ 16 ∷ 32 ∷ 64 ∷ 128 ∷ 2 ∷ 4 ∷ 8 ∷ 16 ∷ 32 ∷ 64 ∷ 2 ∷ 4 ∷ 8 ∷ 16 ∷ 32 ∷ 2 ∷ 4 ∷ 8 ∷ 16 ∷ []

abbrev lengths_256 : List ℕ
lengths_256 = 4 ∷ 8 ∷ 16 ∷ 32 ∷ 64 ∷ 128 ∷ 256 ∷ 4 ∷ 8 ∷ 16 ∷ 32 ∷ 64 ∷ 128 ∷ 4 ∷ 8 ∷ 16 ∷ 32 ∷ 64 ∷ 4 ∷ 8 ∷ 16 ∷ 32 ∷ []

pub vlmax_128 : map (vlmax 128) settings ≡ lengths_128
vlmax_128 = refl

pub vlmax_256 : map (vlmax 256) settings ≡ lengths_256
vlmax_256 = refl

-- of the numbers below 2 ^ 8 those are accepted, with vta and vma set or not, and no number of one higher bit more is
abbrev accepted : List ℕ
accepted = 0 ∷ 1 ∷ 2 ∷ 3 ∷ 5 ∷ 6 ∷ 7 ∷ 8 ∷ 9 ∷ 10 ∷ 11 ∷ 14 ∷ 15 ∷ 16 ∷ 17 ∷ 18 ∷ 19 ∷ 23 ∷ 24 ∷ 25 ∷ 26 ∷ 27 ∷ []

pub accepted_low : filter is_accepted (range_with_len 0 256) ≡ accepted ++ map (λ (v : ℕ). 64 + v) accepted ++ map (λ (v : ℕ). 128 + v) accepted ++ map (λ (v : ℕ). 192 + v) accepted
accepted_low = refl

pub accepted_high : filter is_accepted (map (λ (bit : ℕ). 2 ^ bit + 24) (range_with_len 8 56)) ≡ []
accepted_high = refl

-- vl where the length asked for is 0, VLMAX - 1, VLMAX, VLMAX + 1, 2 * VLMAX and 2 ^ 64 - 1
abbrev answers : (vlen vlmax vtype : ℕ) → List Configuration
answers vlen vlmax vtype = map (λ (n : ℕ). configured vlen (record { vl = 0; vtype = vill }) (Value n) vtype) (0 ∷ (vlmax - 1) ∷ vlmax ∷ (vlmax + 1) ∷ (2 * vlmax) ∷ (2 ^ 64 - 1) ∷ [])

abbrev wanted : (vlmax vtype : ℕ) → List Configuration
wanted vlmax vtype = map (λ (n : ℕ). record { vl = n; vtype = vtype }) (0 ∷ (vlmax - 1) ∷ vlmax ∷ vlmax ∷ vlmax ∷ vlmax ∷ [])

abbrev each : (ℕ → ℕ → List Configuration) → List ℕ → List ℕ → List (List Configuration)
each f [] vtypes = []
each f lengths [] = []
each f (n ∷ lengths) (vtype ∷ vtypes) = f n vtype ∷ each f lengths vtypes

pub lengths_of_128 : each (answers 128) lengths_128 settings ≡ each wanted lengths_128 settings
lengths_of_128 = refl

pub lengths_of_256 : each (answers 256) lengths_256 settings ≡ each wanted lengths_256 settings
lengths_of_256 = refl
