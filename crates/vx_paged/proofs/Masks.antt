-- The bytes that a mask names.
use Rattle.std.proofs.Common.{◌≡◌, ℕ, zero, suc, ◌+◌, ◌-◌, ◌*◌, ◌%◌, ◌^◌, ◌<◌, Bool, true, false, ◌&&◌, eqb, refl, sym, ap, subst, ◌∙◌, inl, inr, IsTrue, arith}
use Rattle.std.specs.Prelude.{◌||◌, not, nat_le, nat_lt}
use Rattle.std.proofs.lemmas.Bool.{cases_Bool, eqb-true, eq-eqb, false≢true}
use Rattle.vx_base.specs.Numbers.{field, truth}
use Rattle.vx_scalar.specs.Operands.{is_access_width}

-- one of four widths
by_width : (P : ℕ → Type 0) (n : ℕ) → IsTrue (is_access_width n) → P 1 → P 2 → P 4 → P 8 → P n
by_width P n is p1 p2 p4 p8 =
    elim (cases_Bool (eqb n 1)) [
      | inl one ↦ subst P (sym (eqb-true n 1 one)) p1
      | inr not1 ↦ elim (cases_Bool (eqb n 2)) [
        | inl two ↦ subst P (sym (eqb-true n 2 two)) p2
        | inr not2 ↦ elim (cases_Bool (eqb n 4)) [
          | inl four ↦ subst P (sym (eqb-true n 4 four)) p4
          | inr not4 ↦ elim (cases_Bool (eqb n 8)) [
            | inl eight ↦ subst P (sym (eqb-true n 8 eight)) p8
            | inr not8 ↦ absurd (false≢true (rw (not1, not2, not4, not8) at is))
          ]
        ]
      ]
    ]

abbrev every_below : ℕ → (ℕ → Bool) → Bool
every_below zero p = true
every_below (suc n) p = p n && every_below n p

both : (a b : Bool) → (a && b) ≡ true → (a ≡ true) × (b ≡ true)
both true b h = (refl, h)
both false b h = absurd (false≢true h)

every-below : (n : ℕ) (p : ℕ → Bool) → every_below n p ≡ true → (k : ℕ) → k < n → p k ≡ true
every-below zero p all k below = absurd (omega arith)
every-below (suc n) p all k below =
    let parts = both (p n) (every_below n p) all in
    elim (cases_Bool (eqb k n)) [
      | inl is ↦ ap p (eqb-true k n is) ∙ parts.0
      | inr other ↦ every-below n p parts.1 k (grind (arith, λ (same : k ≡ n). false≢true (sym other ∙ eq-eqb k n same)))
    ]

abbrev names_at : (width from j : ℕ) → Bool
names_at width from j = eqb (field ((2 ^ width - 1) * 2 ^ from % 2 ^ 8) j 1) (truth (nat_le from j && nat_lt j (from + width)))

abbrev names_all : (width : ℕ) → Bool
names_all width = every_below 8 (λ from. every_below 8 (λ j. not (eqb (from % width) 0) || names_at width from j))

or_else : (a b : Bool) → (not a || b) ≡ true → a ≡ true → b ≡ true
or_else true b h is = h
or_else false b h is = absurd (false≢true is)

named_by : (width : ℕ) → names_all width ≡ true → (from j : ℕ) → from < 8 → from % width ≡ 0 → j < 8 → field ((2 ^ width - 1) * 2 ^ from % 2 ^ 8) j 1 ≡ truth (nat_le from j && nat_lt j (from + width))
named_by width all from j below aligned within =
    eqb-true _ _ (or_else (eqb (from % width) 0) (names_at width from j)
    (every-below 8 (λ k. not (eqb (from % width) 0) || names_at width from k)
    (every-below 8 (λ f. every_below 8 (λ k. not (eqb (f % width) 0) || names_at width f k)) all from below) j within) (eq-eqb (from % width) 0 aligned))

pub mask_names : (width address : ℕ) → IsTrue (is_access_width width) → address % width ≡ 0 → (j : ℕ) → j < 8 → field ((2 ^ width - 1) * 2 ^ (address % 8) % 2 ^ 8) j 1 ≡ truth (nat_le (address % 8) j && nat_lt j (address % 8 + width))
mask_names width address is =
    by_width (λ w. address % w ≡ 0 → (j : ℕ) → j < 8 → field ((2 ^ w - 1) * 2 ^ (address % 8) % 2 ^ 8) j 1 ≡ truth (nat_le (address % 8) j && nat_lt j (address % 8 + w))) width is
    (λ aligned j within. named_by 1 refl (address % 8) j (omega arith) (omega arith) within)
    (λ aligned j within. named_by 2 refl (address % 8) j (omega arith) (omega arith) within)
    (λ aligned j within. named_by 4 refl (address % 8) j (omega arith) (omega arith) within)
    (λ aligned j within. named_by 8 refl (address % 8) j (omega arith) (omega arith) within)
