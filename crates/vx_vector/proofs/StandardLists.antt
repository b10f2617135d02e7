-- The rules of lists at lists that were worked out apart from them, by the words of the standard: RISC-V "V" 1.0, sections 14,
-- 15.2 to 15.6 and 16. For each: the family; SEW, vl, vs2, vs1, the number, and which elements are active; and the results, of
-- which 2 ^ 64 stands for an element that stays.
use Rattle.std.proofs.Common.{◌≡◌, ℕ, ◌^◌, Bool, true, false, ◌&&◌, nat_eq, List, [], ◌∷◌, map, unwrap_or, refl}
use Rattle.std.specs.List.{range_with_len}
use Rattle.vx_rows.specs.declared.family.Family.{Family}
use Rattle.vx_rows.specs.declared.family.Family.TheVariants.{Vredsum, Vredand, Vredor, Vredxor, Vredminu, Vredmin, Vredmaxu, Vredmax, Vwredsumu, Vwredsum, Vrgather, Vrgatherei16, Vslideup, Vslidedown, Vslide1up, Vslide1down, Vcompress, Vcpop, Vfirst, Vmsbf, Vmsif, Vmsof, Viota, VmvXS}
use Rattle.vx_vector.specs.Lists.{Lists, joined_with, packed}
use Rattle.vx_vector.specs.Rules.{Rule, rule_of}
use Rattle.vx_vector.specs.Rules.Rule.{Each, Index, Permute, Reduce, Pack, Put, Tell}

abbrev lists : (sew vl : ℕ) → (vs2 vs1 : List ℕ) → (x : ℕ) → (active : List Bool) → Lists
lists sew vl vs2 vs1 x active = record { sew = sew; vl = vl; vs2 = vs2; vs1 = vs1; x = x; active = active }

-- what a rule of lists gives: one result, or one for each element up to vl
abbrev results : Rule → Lists → List ℕ
results (Each f) s = []
results (Index f) s = []
results (Permute f) s = map (λ (i : ℕ). unwrap_or (f s i) (2 ^ 64)) (range_with_len 0 s.vl)
results (Reduce f) s = joined_with (f s.sew) s ∷ []
results Pack s = packed s
results Put s = []
results (Tell f) s = f s ∷ []

abbrev are_same : List ℕ → List ℕ → Bool
are_same [] [] = true
are_same [] (y ∷ ys) = false
are_same (x ∷ xs) [] = false
are_same (x ∷ xs) (y ∷ ys) = nat_eq x y && are_same xs ys

abbrev gives : Family → Lists → List ℕ → Bool
gives family s values = are_same (results (rule_of family) s) values

vredsum : (gives Vredsum (lists 8 5 (242 ∷ 38 ∷ 101 ∷ 166 ∷ 12 ∷ 18 ∷ 210 ∷ 137 ∷ []) (17 ∷ []) 0 (true ∷ true ∷ true ∷ true ∷ true ∷ [])) (64 ∷ [])
    && gives Vredsum (lists 8 1 (23 ∷ 141 ∷ 108 ∷ 15 ∷ 211 ∷ 144 ∷ 31 ∷ 242 ∷ []) (149 ∷ []) 1 (true ∷ [])) (172 ∷ [])) ≡ true
vredsum = refl

vredand : (gives Vredand (lists 8 1 (147 ∷ 149 ∷ 101 ∷ 12 ∷ 249 ∷ 56 ∷ 11 ∷ 142 ∷ []) (107 ∷ []) 9223372036854775808 (true ∷ [])) (3 ∷ [])
    && gives Vredand (lists 8 1 (138 ∷ 30 ∷ 146 ∷ 78 ∷ 143 ∷ 208 ∷ 174 ∷ 46 ∷ []) (163 ∷ []) 0 (true ∷ [])) (130 ∷ [])) ≡ true
vredand = refl

vredor : (gives Vredor (lists 8 1 (95 ∷ 24 ∷ 140 ∷ 182 ∷ 16 ∷ 144 ∷ 15 ∷ 158 ∷ []) (136 ∷ []) 1 (true ∷ [])) (223 ∷ [])
    && gives Vredor (lists 8 5 (198 ∷ 80 ∷ 119 ∷ 149 ∷ 236 ∷ 116 ∷ 92 ∷ 76 ∷ []) (224 ∷ []) 1 (false ∷ true ∷ true ∷ true ∷ true ∷ [])) (255 ∷ [])) ≡ true
vredor = refl

vredxor : (gives Vredxor (lists 8 5 (186 ∷ 114 ∷ 73 ∷ 155 ∷ 250 ∷ 18 ∷ 30 ∷ 131 ∷ []) (19 ∷ []) 7 (true ∷ true ∷ false ∷ true ∷ false ∷ [])) (64 ∷ [])
    && gives Vredxor (lists 8 8 (146 ∷ 202 ∷ 224 ∷ 209 ∷ 80 ∷ 87 ∷ 177 ∷ 89 ∷ []) (79 ∷ []) 8 (true ∷ false ∷ true ∷ true ∷ true ∷ true ∷ true ∷ false ∷ [])) (90 ∷ [])) ≡ true
vredxor = refl

vredminu : (gives Vredminu (lists 8 8 (147 ∷ 254 ∷ 174 ∷ 210 ∷ 114 ∷ 72 ∷ 183 ∷ 98 ∷ []) (101 ∷ []) 18446744073709551615 (true ∷ false ∷ true ∷ true ∷ true ∷ true ∷ true ∷ false ∷ [])) (72 ∷ [])
    && gives Vredminu (lists 8 5 (234 ∷ 223 ∷ 127 ∷ 20 ∷ 42 ∷ 114 ∷ 102 ∷ 140 ∷ []) (91 ∷ []) 3 (false ∷ false ∷ false ∷ true ∷ true ∷ [])) (20 ∷ [])) ≡ true
vredminu = refl

vredmin : (gives Vredmin (lists 8 8 (226 ∷ 97 ∷ 245 ∷ 59 ∷ 38 ∷ 21 ∷ 45 ∷ 38 ∷ []) (81 ∷ []) 1 (true ∷ true ∷ false ∷ true ∷ true ∷ true ∷ true ∷ true ∷ [])) (226 ∷ [])
    && gives Vredmin (lists 8 1 (176 ∷ 219 ∷ 131 ∷ 243 ∷ 158 ∷ 167 ∷ 173 ∷ 189 ∷ []) (222 ∷ []) 0 (true ∷ [])) (176 ∷ [])) ≡ true
vredmin = refl

vredmaxu : (gives Vredmaxu (lists 8 8 (204 ∷ 143 ∷ 100 ∷ 101 ∷ 102 ∷ 100 ∷ 26 ∷ 123 ∷ []) (137 ∷ []) 18446744073709551615 (true ∷ true ∷ false ∷ true ∷ true ∷ true ∷ true ∷ true ∷ [])) (204 ∷ [])
    && gives Vredmaxu (lists 8 1 (242 ∷ 93 ∷ 157 ∷ 6 ∷ 18 ∷ 223 ∷ 53 ∷ 157 ∷ []) (64 ∷ []) 7 (true ∷ [])) (242 ∷ [])) ≡ true
vredmaxu = refl

vredmax : (gives Vredmax (lists 8 5 (154 ∷ 93 ∷ 121 ∷ 31 ∷ 29 ∷ 217 ∷ 124 ∷ 254 ∷ []) (122 ∷ []) 7 (true ∷ true ∷ true ∷ false ∷ false ∷ [])) (122 ∷ [])
    && gives Vredmax (lists 8 8 (41 ∷ 132 ∷ 5 ∷ 52 ∷ 243 ∷ 243 ∷ 135 ∷ 92 ∷ []) (232 ∷ []) 1 (true ∷ false ∷ false ∷ true ∷ true ∷ true ∷ false ∷ true ∷ [])) (92 ∷ [])) ≡ true
vredmax = refl

vwredsumu : (gives Vwredsumu (lists 8 5 (91 ∷ 197 ∷ 57 ∷ 136 ∷ 138 ∷ 199 ∷ 128 ∷ 84 ∷ []) (26259 ∷ []) 18446744073709551615 (true ∷ false ∷ false ∷ false ∷ false ∷ [])) (26350 ∷ [])
    && gives Vwredsumu (lists 8 5 (51 ∷ 132 ∷ 126 ∷ 91 ∷ 187 ∷ 7 ∷ 253 ∷ 7 ∷ []) (47390 ∷ []) 9223372036854775808 (true ∷ true ∷ true ∷ false ∷ true ∷ [])) (47886 ∷ [])) ≡ true
vwredsumu = refl

vwredsum : (gives Vwredsum (lists 8 8 (244 ∷ 249 ∷ 93 ∷ 20 ∷ 56 ∷ 26 ∷ 58 ∷ 120 ∷ []) (43292 ∷ []) 1 (true ∷ true ∷ false ∷ true ∷ true ∷ false ∷ true ∷ true ∷ [])) (43527 ∷ [])
    && gives Vwredsum (lists 8 5 (232 ∷ 99 ∷ 200 ∷ 182 ∷ 192 ∷ 51 ∷ 122 ∷ 227 ∷ []) (26305 ∷ []) 1 (true ∷ true ∷ true ∷ false ∷ false ∷ [])) (26324 ∷ [])) ≡ true
vwredsum = refl

vrgather : (gives Vrgather (lists 8 5 (190 ∷ 242 ∷ 21 ∷ 185 ∷ 40 ∷ 43 ∷ 254 ∷ 32 ∷ []) (5 ∷ 8 ∷ 2 ∷ 1 ∷ 7 ∷ 7 ∷ 1 ∷ 0 ∷ []) 0 (true ∷ false ∷ false ∷ true ∷ false ∷ [])) (43 ∷ 0 ∷ 21 ∷ 242 ∷ 32 ∷ [])
    && gives Vrgather (lists 8 5 (107 ∷ 213 ∷ 33 ∷ 15 ∷ 232 ∷ 189 ∷ 90 ∷ 229 ∷ []) ([]) 0 (true ∷ true ∷ false ∷ true ∷ false ∷ [])) (107 ∷ 107 ∷ 107 ∷ 107 ∷ 107 ∷ [])
    && gives Vrgather (lists 8 5 (63 ∷ 48 ∷ 70 ∷ 10 ∷ 197 ∷ 25 ∷ 129 ∷ 115 ∷ []) ([]) 3 (true ∷ false ∷ false ∷ true ∷ true ∷ [])) (10 ∷ 10 ∷ 10 ∷ 10 ∷ 10 ∷ [])
    && gives Vrgather (lists 8 5 (61 ∷ 109 ∷ 18 ∷ 54 ∷ 171 ∷ 77 ∷ 200 ∷ 31 ∷ []) ([]) 7 (false ∷ true ∷ false ∷ true ∷ true ∷ [])) (31 ∷ 31 ∷ 31 ∷ 31 ∷ 31 ∷ [])
    && gives Vrgather (lists 8 5 (4 ∷ 98 ∷ 84 ∷ 132 ∷ 159 ∷ 75 ∷ 131 ∷ 245 ∷ []) ([]) 8 (true ∷ false ∷ false ∷ false ∷ true ∷ [])) (0 ∷ 0 ∷ 0 ∷ 0 ∷ 0 ∷ [])
    && gives Vrgather (lists 8 5 (240 ∷ 4 ∷ 162 ∷ 22 ∷ 205 ∷ 66 ∷ 21 ∷ 155 ∷ []) ([]) 18446744073709551615 (false ∷ true ∷ false ∷ true ∷ true ∷ [])) (0 ∷ 0 ∷ 0 ∷ 0 ∷ 0 ∷ [])
    && gives Vrgather (lists 8 8 (248 ∷ 72 ∷ 153 ∷ 62 ∷ 177 ∷ 75 ∷ 11 ∷ 117 ∷ []) (2 ∷ 1 ∷ 2 ∷ 1 ∷ 0 ∷ 2 ∷ 5 ∷ 0 ∷ []) 1 (true ∷ true ∷ true ∷ false ∷ false ∷ true ∷ true ∷ false ∷ [])) (153 ∷ 72 ∷ 153 ∷ 72 ∷ 248 ∷ 153 ∷ 75 ∷ 248 ∷ [])
    && gives Vrgather (lists 8 8 (99 ∷ 195 ∷ 83 ∷ 184 ∷ 252 ∷ 126 ∷ 38 ∷ 72 ∷ []) ([]) 0 (false ∷ true ∷ true ∷ false ∷ false ∷ true ∷ false ∷ false ∷ [])) (99 ∷ 99 ∷ 99 ∷ 99 ∷ 99 ∷ 99 ∷ 99 ∷ 99 ∷ [])
    && gives Vrgather (lists 8 8 (128 ∷ 229 ∷ 137 ∷ 23 ∷ 168 ∷ 134 ∷ 16 ∷ 190 ∷ []) ([]) 3 (false ∷ true ∷ true ∷ true ∷ false ∷ true ∷ false ∷ false ∷ [])) (23 ∷ 23 ∷ 23 ∷ 23 ∷ 23 ∷ 23 ∷ 23 ∷ 23 ∷ [])
    && gives Vrgather (lists 8 8 (228 ∷ 140 ∷ 51 ∷ 79 ∷ 250 ∷ 21 ∷ 239 ∷ 121 ∷ []) ([]) 7 (true ∷ true ∷ false ∷ false ∷ true ∷ true ∷ true ∷ false ∷ [])) (121 ∷ 121 ∷ 121 ∷ 121 ∷ 121 ∷ 121 ∷ 121 ∷ 121 ∷ [])
    && gives Vrgather (lists 8 8 (214 ∷ 101 ∷ 30 ∷ 240 ∷ 237 ∷ 50 ∷ 182 ∷ 3 ∷ []) ([]) 8 (false ∷ true ∷ true ∷ true ∷ false ∷ true ∷ true ∷ true ∷ [])) (0 ∷ 0 ∷ 0 ∷ 0 ∷ 0 ∷ 0 ∷ 0 ∷ 0 ∷ [])
    && gives Vrgather (lists 8 8 (73 ∷ 124 ∷ 12 ∷ 233 ∷ 237 ∷ 140 ∷ 32 ∷ 43 ∷ []) ([]) 18446744073709551615 (true ∷ true ∷ true ∷ false ∷ false ∷ true ∷ true ∷ true ∷ [])) (0 ∷ 0 ∷ 0 ∷ 0 ∷ 0 ∷ 0 ∷ 0 ∷ 0 ∷ [])) ≡ true
vrgather = refl

vrgatherei16 : (gives Vrgatherei16 (lists 8 5 (3 ∷ 204 ∷ 248 ∷ 185 ∷ 166 ∷ 26 ∷ 134 ∷ 191 ∷ []) (2 ∷ 7 ∷ 1 ∷ 200 ∷ 7 ∷ 2 ∷ 2 ∷ 7 ∷ []) 1 (true ∷ false ∷ false ∷ true ∷ true ∷ [])) (248 ∷ 191 ∷ 204 ∷ 0 ∷ 191 ∷ [])
    && gives Vrgatherei16 (lists 8 8 (121 ∷ 71 ∷ 128 ∷ 167 ∷ 51 ∷ 63 ∷ 129 ∷ 198 ∷ []) (7 ∷ 200 ∷ 200 ∷ 1 ∷ 8 ∷ 8 ∷ 200 ∷ 7 ∷ []) 0 (true ∷ false ∷ true ∷ true ∷ true ∷ true ∷ true ∷ true ∷ [])) (198 ∷ 0 ∷ 0 ∷ 71 ∷ 0 ∷ 0 ∷ 0 ∷ 198 ∷ [])) ≡ true
vrgatherei16 = refl

vslideup : (gives Vslideup (lists 8 5 (128 ∷ 33 ∷ 136 ∷ 38 ∷ 134 ∷ 130 ∷ 4 ∷ 223 ∷ []) ([]) 0 (true ∷ true ∷ true ∷ false ∷ true ∷ [])) (128 ∷ 33 ∷ 136 ∷ 38 ∷ 134 ∷ [])
    && gives Vslideup (lists 8 5 (129 ∷ 155 ∷ 131 ∷ 51 ∷ 177 ∷ 70 ∷ 115 ∷ 130 ∷ []) ([]) 3 (true ∷ true ∷ false ∷ true ∷ false ∷ [])) (18446744073709551616 ∷ 18446744073709551616 ∷ 18446744073709551616 ∷ 129 ∷ 155 ∷ [])
    && gives Vslideup (lists 8 5 (226 ∷ 35 ∷ 247 ∷ 119 ∷ 56 ∷ 191 ∷ 243 ∷ 24 ∷ []) ([]) 7 (true ∷ true ∷ false ∷ false ∷ true ∷ [])) (18446744073709551616 ∷ 18446744073709551616 ∷ 18446744073709551616 ∷ 18446744073709551616 ∷ 18446744073709551616 ∷ [])
    && gives Vslideup (lists 8 5 (67 ∷ 69 ∷ 10 ∷ 231 ∷ 199 ∷ 46 ∷ 69 ∷ 193 ∷ []) ([]) 8 (true ∷ true ∷ false ∷ false ∷ true ∷ [])) (18446744073709551616 ∷ 18446744073709551616 ∷ 18446744073709551616 ∷ 18446744073709551616 ∷ 18446744073709551616 ∷ [])
    && gives Vslideup (lists 8 5 (141 ∷ 106 ∷ 237 ∷ 234 ∷ 68 ∷ 159 ∷ 33 ∷ 11 ∷ []) ([]) 18446744073709551615 (true ∷ true ∷ true ∷ true ∷ true ∷ [])) (18446744073709551616 ∷ 18446744073709551616 ∷ 18446744073709551616 ∷ 18446744073709551616 ∷ 18446744073709551616 ∷ [])
    && gives Vslideup (lists 8 8 (35 ∷ 232 ∷ 134 ∷ 192 ∷ 129 ∷ 145 ∷ 213 ∷ 208 ∷ []) ([]) 0 (false ∷ false ∷ true ∷ false ∷ true ∷ true ∷ true ∷ true ∷ [])) (35 ∷ 232 ∷ 134 ∷ 192 ∷ 129 ∷ 145 ∷ 213 ∷ 208 ∷ [])
    && gives Vslideup (lists 8 8 (126 ∷ 216 ∷ 97 ∷ 19 ∷ 122 ∷ 233 ∷ 175 ∷ 73 ∷ []) ([]) 3 (false ∷ true ∷ true ∷ true ∷ true ∷ true ∷ false ∷ true ∷ [])) (18446744073709551616 ∷ 18446744073709551616 ∷ 18446744073709551616 ∷ 126 ∷ 216 ∷ 97 ∷ 19 ∷ 122 ∷ [])
    && gives Vslideup (lists 8 8 (53 ∷ 19 ∷ 148 ∷ 23 ∷ 36 ∷ 191 ∷ 134 ∷ 67 ∷ []) ([]) 7 (false ∷ true ∷ false ∷ true ∷ false ∷ false ∷ true ∷ false ∷ [])) (18446744073709551616 ∷ 18446744073709551616 ∷ 18446744073709551616 ∷ 18446744073709551616 ∷ 18446744073709551616 ∷ 18446744073709551616 ∷ 18446744073709551616 ∷ 53 ∷ [])
    && gives Vslideup (lists 8 8 (70 ∷ 218 ∷ 12 ∷ 71 ∷ 26 ∷ 13 ∷ 213 ∷ 169 ∷ []) ([]) 8 (true ∷ false ∷ true ∷ true ∷ true ∷ true ∷ true ∷ false ∷ [])) (18446744073709551616 ∷ 18446744073709551616 ∷ 18446744073709551616 ∷ 18446744073709551616 ∷ 18446744073709551616 ∷ 18446744073709551616 ∷ 18446744073709551616 ∷ 18446744073709551616 ∷ [])
    && gives Vslideup (lists 8 8 (142 ∷ 171 ∷ 100 ∷ 30 ∷ 42 ∷ 164 ∷ 41 ∷ 19 ∷ []) ([]) 18446744073709551615 (true ∷ false ∷ true ∷ true ∷ false ∷ false ∷ true ∷ true ∷ [])) (18446744073709551616 ∷ 18446744073709551616 ∷ 18446744073709551616 ∷ 18446744073709551616 ∷ 18446744073709551616 ∷ 18446744073709551616 ∷ 18446744073709551616 ∷ 18446744073709551616 ∷ [])) ≡ true
vslideup = refl

vslidedown : (gives Vslidedown (lists 8 5 (121 ∷ 158 ∷ 185 ∷ 30 ∷ 142 ∷ 15 ∷ 83 ∷ 174 ∷ []) ([]) 0 (true ∷ true ∷ false ∷ true ∷ true ∷ [])) (121 ∷ 158 ∷ 185 ∷ 30 ∷ 142 ∷ [])
    && gives Vslidedown (lists 8 5 (241 ∷ 237 ∷ 66 ∷ 236 ∷ 143 ∷ 228 ∷ 241 ∷ 51 ∷ []) ([]) 3 (false ∷ true ∷ true ∷ true ∷ true ∷ [])) (236 ∷ 143 ∷ 228 ∷ 241 ∷ 51 ∷ [])
    && gives Vslidedown (lists 8 5 (110 ∷ 254 ∷ 131 ∷ 103 ∷ 86 ∷ 107 ∷ 50 ∷ 91 ∷ []) ([]) 7 (true ∷ false ∷ true ∷ true ∷ true ∷ [])) (91 ∷ 0 ∷ 0 ∷ 0 ∷ 0 ∷ [])
    && gives Vslidedown (lists 8 5 (38 ∷ 137 ∷ 235 ∷ 131 ∷ 146 ∷ 126 ∷ 179 ∷ 83 ∷ []) ([]) 8 (true ∷ true ∷ true ∷ true ∷ true ∷ [])) (0 ∷ 0 ∷ 0 ∷ 0 ∷ 0 ∷ [])
    && gives Vslidedown (lists 8 5 (51 ∷ 238 ∷ 79 ∷ 160 ∷ 78 ∷ 135 ∷ 194 ∷ 52 ∷ []) ([]) 18446744073709551615 (true ∷ true ∷ true ∷ true ∷ true ∷ [])) (0 ∷ 0 ∷ 0 ∷ 0 ∷ 0 ∷ [])
    && gives Vslidedown (lists 8 8 (34 ∷ 163 ∷ 92 ∷ 245 ∷ 26 ∷ 96 ∷ 213 ∷ 115 ∷ []) ([]) 0 (true ∷ true ∷ true ∷ true ∷ true ∷ true ∷ false ∷ false ∷ [])) (34 ∷ 163 ∷ 92 ∷ 245 ∷ 26 ∷ 96 ∷ 213 ∷ 115 ∷ [])
    && gives Vslidedown (lists 8 8 (145 ∷ 34 ∷ 3 ∷ 123 ∷ 15 ∷ 124 ∷ 68 ∷ 248 ∷ []) ([]) 3 (true ∷ true ∷ true ∷ true ∷ true ∷ true ∷ true ∷ true ∷ [])) (123 ∷ 15 ∷ 124 ∷ 68 ∷ 248 ∷ 0 ∷ 0 ∷ 0 ∷ [])
    && gives Vslidedown (lists 8 8 (124 ∷ 100 ∷ 6 ∷ 40 ∷ 0 ∷ 243 ∷ 125 ∷ 174 ∷ []) ([]) 7 (true ∷ true ∷ true ∷ true ∷ true ∷ false ∷ true ∷ false ∷ [])) (174 ∷ 0 ∷ 0 ∷ 0 ∷ 0 ∷ 0 ∷ 0 ∷ 0 ∷ [])
    && gives Vslidedown (lists 8 8 (226 ∷ 7 ∷ 207 ∷ 194 ∷ 161 ∷ 102 ∷ 233 ∷ 224 ∷ []) ([]) 8 (false ∷ true ∷ false ∷ true ∷ false ∷ true ∷ false ∷ true ∷ [])) (0 ∷ 0 ∷ 0 ∷ 0 ∷ 0 ∷ 0 ∷ 0 ∷ 0 ∷ [])
    && gives Vslidedown (lists 8 8 (49 ∷ 62 ∷ 23 ∷ 44 ∷ 87 ∷ 142 ∷ 23 ∷ 81 ∷ []) ([]) 18446744073709551615 (true ∷ true ∷ true ∷ false ∷ false ∷ true ∷ true ∷ true ∷ [])) (0 ∷ 0 ∷ 0 ∷ 0 ∷ 0 ∷ 0 ∷ 0 ∷ 0 ∷ [])) ≡ true
vslidedown = refl

vslide1up : (gives Vslide1up (lists 8 5 (64 ∷ 9 ∷ 3 ∷ 4 ∷ 187 ∷ 129 ∷ 141 ∷ 250 ∷ []) ([]) 4660 (true ∷ true ∷ false ∷ true ∷ false ∷ [])) (52 ∷ 64 ∷ 9 ∷ 3 ∷ 4 ∷ [])
    && gives Vslide1up (lists 8 8 (96 ∷ 69 ∷ 86 ∷ 192 ∷ 15 ∷ 127 ∷ 71 ∷ 147 ∷ []) ([]) 4660 (false ∷ true ∷ true ∷ true ∷ false ∷ true ∷ true ∷ true ∷ [])) (52 ∷ 96 ∷ 69 ∷ 86 ∷ 192 ∷ 15 ∷ 127 ∷ 71 ∷ [])) ≡ true
vslide1up = refl

vslide1down : (gives Vslide1down (lists 8 5 (110 ∷ 168 ∷ 126 ∷ 139 ∷ 213 ∷ 227 ∷ 100 ∷ 248 ∷ []) ([]) 4660 (true ∷ true ∷ false ∷ true ∷ false ∷ [])) (168 ∷ 126 ∷ 139 ∷ 213 ∷ 52 ∷ [])
    && gives Vslide1down (lists 8 8 (102 ∷ 165 ∷ 114 ∷ 110 ∷ 244 ∷ 79 ∷ 217 ∷ 208 ∷ []) ([]) 4660 (false ∷ true ∷ true ∷ false ∷ false ∷ true ∷ true ∷ true ∷ [])) (165 ∷ 114 ∷ 110 ∷ 244 ∷ 79 ∷ 217 ∷ 208 ∷ 52 ∷ [])) ≡ true
vslide1down = refl

vcompress : (gives Vcompress (lists 8 5 (180 ∷ 186 ∷ 162 ∷ 35 ∷ 103 ∷ 253 ∷ 88 ∷ 251 ∷ []) (0 ∷ 0 ∷ 1 ∷ 1 ∷ 0 ∷ 1 ∷ 1 ∷ 1 ∷ []) 0 (false ∷ true ∷ true ∷ false ∷ true ∷ [])) (162 ∷ 35 ∷ [])
    && gives Vcompress (lists 8 8 (100 ∷ 238 ∷ 237 ∷ 237 ∷ 211 ∷ 135 ∷ 218 ∷ 119 ∷ []) (1 ∷ 1 ∷ 0 ∷ 0 ∷ 1 ∷ 1 ∷ 0 ∷ 0 ∷ []) 7 (true ∷ true ∷ true ∷ true ∷ true ∷ false ∷ false ∷ true ∷ [])) (100 ∷ 238 ∷ 211 ∷ 135 ∷ [])) ≡ true
vcompress = refl

vcpop : (gives Vcpop (lists 8 0 (1 ∷ 0 ∷ 0 ∷ 1 ∷ 1 ∷ 0 ∷ 1 ∷ 1 ∷ []) ([]) 3 ([])) (0 ∷ [])
    && gives Vcpop (lists 8 0 (0 ∷ 0 ∷ 0 ∷ 0 ∷ 0 ∷ 0 ∷ 0 ∷ 0 ∷ []) ([]) 9223372036854775808 ([])) (0 ∷ [])
    && gives Vcpop (lists 8 5 (0 ∷ 0 ∷ 0 ∷ 0 ∷ 1 ∷ 1 ∷ 1 ∷ 0 ∷ []) ([]) 7 (true ∷ false ∷ true ∷ true ∷ false ∷ [])) (0 ∷ [])
    && gives Vcpop (lists 8 5 (0 ∷ 0 ∷ 0 ∷ 0 ∷ 0 ∷ 0 ∷ 0 ∷ 0 ∷ []) ([]) 8 (true ∷ true ∷ false ∷ false ∷ true ∷ [])) (0 ∷ [])
    && gives Vcpop (lists 8 8 (0 ∷ 0 ∷ 0 ∷ 1 ∷ 1 ∷ 1 ∷ 0 ∷ 0 ∷ []) ([]) 3 (true ∷ true ∷ true ∷ true ∷ true ∷ false ∷ true ∷ true ∷ [])) (2 ∷ [])
    && gives Vcpop (lists 8 8 (0 ∷ 0 ∷ 0 ∷ 0 ∷ 0 ∷ 0 ∷ 0 ∷ 0 ∷ []) ([]) 7 (false ∷ true ∷ false ∷ true ∷ true ∷ false ∷ true ∷ false ∷ [])) (0 ∷ [])) ≡ true
vcpop = refl

vfirst : (gives Vfirst (lists 8 0 (1 ∷ 0 ∷ 0 ∷ 1 ∷ 1 ∷ 0 ∷ 1 ∷ 1 ∷ []) ([]) 3 ([])) (18446744073709551615 ∷ [])
    && gives Vfirst (lists 8 0 (0 ∷ 0 ∷ 0 ∷ 0 ∷ 0 ∷ 0 ∷ 0 ∷ 0 ∷ []) ([]) 9223372036854775808 ([])) (18446744073709551615 ∷ [])
    && gives Vfirst (lists 8 5 (0 ∷ 0 ∷ 0 ∷ 0 ∷ 1 ∷ 1 ∷ 1 ∷ 0 ∷ []) ([]) 7 (true ∷ false ∷ true ∷ true ∷ false ∷ [])) (18446744073709551615 ∷ [])
    && gives Vfirst (lists 8 5 (0 ∷ 0 ∷ 0 ∷ 0 ∷ 0 ∷ 0 ∷ 0 ∷ 0 ∷ []) ([]) 8 (true ∷ true ∷ false ∷ false ∷ true ∷ [])) (18446744073709551615 ∷ [])
    && gives Vfirst (lists 8 8 (0 ∷ 0 ∷ 0 ∷ 1 ∷ 1 ∷ 1 ∷ 0 ∷ 0 ∷ []) ([]) 3 (true ∷ true ∷ true ∷ true ∷ true ∷ false ∷ true ∷ true ∷ [])) (3 ∷ [])
    && gives Vfirst (lists 8 8 (0 ∷ 0 ∷ 0 ∷ 0 ∷ 0 ∷ 0 ∷ 0 ∷ 0 ∷ []) ([]) 7 (false ∷ true ∷ false ∷ true ∷ true ∷ false ∷ true ∷ false ∷ [])) (18446744073709551615 ∷ [])) ≡ true
vfirst = refl

vmsbf : (gives Vmsbf (lists 8 0 (1 ∷ 0 ∷ 0 ∷ 1 ∷ 1 ∷ 0 ∷ 1 ∷ 1 ∷ []) ([]) 3 ([])) ([])
    && gives Vmsbf (lists 8 0 (0 ∷ 0 ∷ 0 ∷ 0 ∷ 0 ∷ 0 ∷ 0 ∷ 0 ∷ []) ([]) 9223372036854775808 ([])) ([])
    && gives Vmsbf (lists 8 5 (0 ∷ 0 ∷ 0 ∷ 0 ∷ 1 ∷ 1 ∷ 1 ∷ 0 ∷ []) ([]) 7 (true ∷ false ∷ true ∷ true ∷ false ∷ [])) (1 ∷ 1 ∷ 1 ∷ 1 ∷ 1 ∷ [])
    && gives Vmsbf (lists 8 5 (0 ∷ 0 ∷ 0 ∷ 0 ∷ 0 ∷ 0 ∷ 0 ∷ 0 ∷ []) ([]) 8 (true ∷ true ∷ false ∷ false ∷ true ∷ [])) (1 ∷ 1 ∷ 1 ∷ 1 ∷ 1 ∷ [])
    && gives Vmsbf (lists 8 8 (0 ∷ 0 ∷ 0 ∷ 1 ∷ 1 ∷ 1 ∷ 0 ∷ 0 ∷ []) ([]) 3 (true ∷ true ∷ true ∷ true ∷ true ∷ false ∷ true ∷ true ∷ [])) (1 ∷ 1 ∷ 1 ∷ 0 ∷ 0 ∷ 0 ∷ 0 ∷ 0 ∷ [])
    && gives Vmsbf (lists 8 8 (0 ∷ 0 ∷ 0 ∷ 0 ∷ 0 ∷ 0 ∷ 0 ∷ 0 ∷ []) ([]) 7 (false ∷ true ∷ false ∷ true ∷ true ∷ false ∷ true ∷ false ∷ [])) (1 ∷ 1 ∷ 1 ∷ 1 ∷ 1 ∷ 1 ∷ 1 ∷ 1 ∷ [])) ≡ true
vmsbf = refl

vmsif : (gives Vmsif (lists 8 0 (1 ∷ 0 ∷ 0 ∷ 1 ∷ 1 ∷ 0 ∷ 1 ∷ 1 ∷ []) ([]) 3 ([])) ([])
    && gives Vmsif (lists 8 0 (0 ∷ 0 ∷ 0 ∷ 0 ∷ 0 ∷ 0 ∷ 0 ∷ 0 ∷ []) ([]) 9223372036854775808 ([])) ([])
    && gives Vmsif (lists 8 5 (0 ∷ 0 ∷ 0 ∷ 0 ∷ 1 ∷ 1 ∷ 1 ∷ 0 ∷ []) ([]) 7 (true ∷ false ∷ true ∷ true ∷ false ∷ [])) (1 ∷ 1 ∷ 1 ∷ 1 ∷ 1 ∷ [])
    && gives Vmsif (lists 8 5 (0 ∷ 0 ∷ 0 ∷ 0 ∷ 0 ∷ 0 ∷ 0 ∷ 0 ∷ []) ([]) 8 (true ∷ true ∷ false ∷ false ∷ true ∷ [])) (1 ∷ 1 ∷ 1 ∷ 1 ∷ 1 ∷ [])
    && gives Vmsif (lists 8 8 (0 ∷ 0 ∷ 0 ∷ 1 ∷ 1 ∷ 1 ∷ 0 ∷ 0 ∷ []) ([]) 3 (true ∷ true ∷ true ∷ true ∷ true ∷ false ∷ true ∷ true ∷ [])) (1 ∷ 1 ∷ 1 ∷ 1 ∷ 0 ∷ 0 ∷ 0 ∷ 0 ∷ [])
    && gives Vmsif (lists 8 8 (0 ∷ 0 ∷ 0 ∷ 0 ∷ 0 ∷ 0 ∷ 0 ∷ 0 ∷ []) ([]) 7 (false ∷ true ∷ false ∷ true ∷ true ∷ false ∷ true ∷ false ∷ [])) (1 ∷ 1 ∷ 1 ∷ 1 ∷ 1 ∷ 1 ∷ 1 ∷ 1 ∷ [])) ≡ true
vmsif = refl

vmsof : (gives Vmsof (lists 8 0 (1 ∷ 0 ∷ 0 ∷ 1 ∷ 1 ∷ 0 ∷ 1 ∷ 1 ∷ []) ([]) 3 ([])) ([])
    && gives Vmsof (lists 8 0 (0 ∷ 0 ∷ 0 ∷ 0 ∷ 0 ∷ 0 ∷ 0 ∷ 0 ∷ []) ([]) 9223372036854775808 ([])) ([])
    && gives Vmsof (lists 8 5 (0 ∷ 0 ∷ 0 ∷ 0 ∷ 1 ∷ 1 ∷ 1 ∷ 0 ∷ []) ([]) 7 (true ∷ false ∷ true ∷ true ∷ false ∷ [])) (0 ∷ 0 ∷ 0 ∷ 0 ∷ 0 ∷ [])
    && gives Vmsof (lists 8 5 (0 ∷ 0 ∷ 0 ∷ 0 ∷ 0 ∷ 0 ∷ 0 ∷ 0 ∷ []) ([]) 8 (true ∷ true ∷ false ∷ false ∷ true ∷ [])) (0 ∷ 0 ∷ 0 ∷ 0 ∷ 0 ∷ [])
    && gives Vmsof (lists 8 8 (0 ∷ 0 ∷ 0 ∷ 1 ∷ 1 ∷ 1 ∷ 0 ∷ 0 ∷ []) ([]) 3 (true ∷ true ∷ true ∷ true ∷ true ∷ false ∷ true ∷ true ∷ [])) (0 ∷ 0 ∷ 0 ∷ 1 ∷ 0 ∷ 0 ∷ 0 ∷ 0 ∷ [])
    && gives Vmsof (lists 8 8 (0 ∷ 0 ∷ 0 ∷ 0 ∷ 0 ∷ 0 ∷ 0 ∷ 0 ∷ []) ([]) 7 (false ∷ true ∷ false ∷ true ∷ true ∷ false ∷ true ∷ false ∷ [])) (0 ∷ 0 ∷ 0 ∷ 0 ∷ 0 ∷ 0 ∷ 0 ∷ 0 ∷ [])) ≡ true
vmsof = refl

viota : (gives Viota (lists 8 0 (1 ∷ 0 ∷ 0 ∷ 1 ∷ 1 ∷ 0 ∷ 1 ∷ 1 ∷ []) ([]) 3 ([])) ([])
    && gives Viota (lists 8 0 (0 ∷ 0 ∷ 0 ∷ 0 ∷ 0 ∷ 0 ∷ 0 ∷ 0 ∷ []) ([]) 9223372036854775808 ([])) ([])
    && gives Viota (lists 8 5 (0 ∷ 0 ∷ 0 ∷ 0 ∷ 1 ∷ 1 ∷ 1 ∷ 0 ∷ []) ([]) 7 (true ∷ false ∷ true ∷ true ∷ false ∷ [])) (0 ∷ 0 ∷ 0 ∷ 0 ∷ 0 ∷ [])
    && gives Viota (lists 8 5 (0 ∷ 0 ∷ 0 ∷ 0 ∷ 0 ∷ 0 ∷ 0 ∷ 0 ∷ []) ([]) 8 (true ∷ true ∷ false ∷ false ∷ true ∷ [])) (0 ∷ 0 ∷ 0 ∷ 0 ∷ 0 ∷ [])
    && gives Viota (lists 8 8 (0 ∷ 0 ∷ 0 ∷ 1 ∷ 1 ∷ 1 ∷ 0 ∷ 0 ∷ []) ([]) 3 (true ∷ true ∷ true ∷ true ∷ true ∷ false ∷ true ∷ true ∷ [])) (0 ∷ 0 ∷ 0 ∷ 0 ∷ 1 ∷ 2 ∷ 2 ∷ 2 ∷ [])
    && gives Viota (lists 8 8 (0 ∷ 0 ∷ 0 ∷ 0 ∷ 0 ∷ 0 ∷ 0 ∷ 0 ∷ []) ([]) 7 (false ∷ true ∷ false ∷ true ∷ true ∷ false ∷ true ∷ false ∷ [])) (0 ∷ 0 ∷ 0 ∷ 0 ∷ 0 ∷ 0 ∷ 0 ∷ 0 ∷ [])) ≡ true
viota = refl

vmv_x_s : (gives VmvXS (lists 8 5 (0 ∷ []) ([]) 0 (false ∷ true ∷ true ∷ true ∷ false ∷ [])) (0 ∷ [])
    && gives VmvXS (lists 8 0 (127 ∷ []) ([]) 18446744073709551615 ([])) (127 ∷ [])
    && gives VmvXS (lists 8 5 (128 ∷ []) ([]) 1 (true ∷ true ∷ true ∷ true ∷ false ∷ [])) (18446744073709551488 ∷ [])
    && gives VmvXS (lists 8 5 (255 ∷ []) ([]) 0 (true ∷ false ∷ true ∷ false ∷ true ∷ [])) (18446744073709551615 ∷ [])) ≡ true
vmv_x_s = refl
