-- Pages in rising order lie in regions in rising order.
use Rattle.std.proofs.Common.{◌≢◌, true, false, eqb, [], ◌∷◌, refl, ◌≡◌, ℕ, zero, suc, ◌/◌, ◌<◌, ◌≤◌, inl, inr, List, length, get_or, ap, arith}
use Rattle.std.proofs.Math.Nat.{div-add-mod, mul-le-mul_left}
use Rattle.std.proofs.lemmas.Bool.{cases_lt, eq-eqb, ne_eqb}
use Rattle.std.proofs.Math.Bool.{or-true}
use Rattle.vx_tables.specs.Building.{IsFrom}
use Rattle.vx_tables.specs.Tables.{has_region}
use Rattle.vx_base.specs.Pages.{IsPageList}
use Rattle.vx_base.specs.declared.perm.PageEntry.{PageEntry}

pub nothing : PageEntry
nothing = record { page = 0; perm = record { bits = 0 } }

-- quotients keep the order
quotients_rise : (a b size : ℕ) → 0 < size → a ≤ b → a / size ≤ b / size
quotients_rise a b size some le =
    elim (cases_lt (b / size) (a / size)) [
      | inl lt ↦ absurd (omega (arith, mul-le-mul_left size (more (b / size) (a / size) lt), div-add-mod a size, div-add-mod b size))
      | inr ge ↦ ge
    ]
  where
    more : (m n : ℕ) → m < n → suc m ≤ n
    more m n lt = omega arith

pub regions_rise : (pages : List PageEntry) (size k j : ℕ) (d : PageEntry) → IsPageList pages → 0 < size → k ≤ j → j < length pages → (get_or pages k d).page / size ≤ (get_or pages j d).page / size
regions_rise pages size k j d listed some le within =
    elim (cases_lt k j) [
      | inl lt ↦ quotients_rise (get_or pages k d).page (get_or pages j d).page size some (let rises = listed.rising k j d lt within in omega arith)
      | inr ge ↦ let e : k ≡ j = omega arith in omega (arith, ap (λ (n : ℕ). (get_or pages n d).page / size) e)
    ]

-- the search of a region
module _ (pages : List PageEntry) (size region : ℕ) where
  pub region-there : (k : ℕ) (d : PageEntry) → k < length pages → (get_or pages k d).page / size ≡ region → has_region size region pages ≡ true
  region-there k d within is = go pages k within is
    where
      go : (ps : List PageEntry) (j : ℕ) → j < length ps → (get_or ps j d).page / size ≡ region → has_region size region ps ≡ true
      go [] j lt at = absurd (omega arith)
      go (p ∷ ps) zero lt at = rw (eq-eqb (p.page / size) region at) refl
      go (p ∷ ps) (suc j) lt at = rw (go ps j (omega arith) at) (or-true (eqb (p.page / size) region))

  pub region-nowhere : ((k : ℕ) (d : PageEntry) → k < length pages → (get_or pages k d).page / size ≢ region) → has_region size region pages ≡ false
  region-nowhere none = go pages none
    where
      go : (ps : List PageEntry) → ((k : ℕ) (d : PageEntry) → k < length ps → (get_or ps k d).page / size ≢ region) → has_region size region ps ≡ false
      go [] all = refl
      go (p ∷ ps) all = rw (ne_eqb (p.page / size) region (all 0 p (omega arith))) (go ps (λ k d lt. all (suc k) d (omega arith)))

  -- the first page at or above the region tells
  pub region-past : (index : ℕ) → IsFrom size region pages index → length pages ≤ index → has_region size region pages ≡ false
  region-past index is past = region-nowhere (λ k d lt same. omega (arith, is.before k d (omega arith), same))

  pub region-above : (index : ℕ) → IsPageList pages → 0 < size → IsFrom size region pages index → ((d : PageEntry) → region < (get_or pages index d).page / size) → index < length pages → has_region size region pages ≡ false
  region-above index listed some is above within =
      region-nowhere (λ k d lt same.
      elim (cases_lt k index) [
        | inl less ↦ omega (arith, is.before k d less, same)
        | inr more ↦ omega (arith, regions_rise pages size index k d listed some more lt, above d, same)
      ])
