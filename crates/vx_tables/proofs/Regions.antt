-- Regions that have pages: how many lie below one, and which one has so many below it.
use Rattle.std.proofs.Common.{◌≡◌, ℕ, zero, suc, ◌+◌, ◌-◌, ◌<◌, ◌≤◌, ◌≢◌, Bool, true, false, cond, eqb, ltb, inl, inr, List, [], ◌∷◌, Some, refl, sym, ap, ◌∙◌, arith}
use Rattle.std.specs.Prelude.{filter, find, unwrap_or, Option}
use Rattle.std.specs.List.{list_any}
use Rattle.std.proofs.lemmas.Bool.{cases_Bool, cases_lt, lt-ltb, le-ltb, eqb-true, eq-eqb, ne_eqb, false≢true}
use Rattle.std.proofs.Math.Bool.{or-true}
use Rattle.vx_image.specs.Tables.{distinct_count}

-- a number is in a list
abbrev pub isin : ℕ → List ℕ → Bool
isin n ns = list_any (λ m. eqb m n) ns

-- the numbers below one, and how many different ones these are
abbrev pub lower : ℕ → List ℕ → List ℕ
lower n ns = filter (λ m. ltb m n) ns

abbrev pub below : ℕ → List ℕ → ℕ
below n ns = distinct_count (lower n ns)

-- the lower ones have a number that is lower
isin-lower : (m n : ℕ) (ns : List ℕ) → m < n → isin m (lower n ns) ≡ isin m ns
isin-lower m n [] lt = refl
isin-lower m n (k ∷ ks) lt =
    elim (cases_lt k n) [
      | inl less ↦ rw (lt-ltb k n less, isin-lower m n ks lt) refl
      | inr more ↦ rw (le-ltb k n more, ne_eqb k m (λ same. omega arith)) (isin-lower m n ks lt)
    ]

-- one number more
pub below-step : (n : ℕ) (ns : List ℕ) → below (suc n) ns ≡ below n ns + cond (isin n ns) 1 0
below-step n [] = refl
below-step n (k ∷ ks) =
    elim (cases_lt k n) [
      | inl less ↦
          let wider : k < suc n = omega arith in
          rw (lt-ltb k n less, lt-ltb k (suc n) wider, ne_eqb k n (λ same. omega arith), isin-lower k n ks less, isin-lower k (suc n) ks wider)
          (let rest = below-step n ks in omega (arith, rest))
      | inr more ↦ elim (cases_lt n k) [
        | inl above ↦
            rw (le-ltb k n more, le-ltb k (suc n) above, ne_eqb k n (λ same. omega arith)) (below-step n ks)
        | inr under ↦
            let same : k ≡ n = omega arith in
            let wider : n < suc n = omega arith in
            let least : n ≤ n = omega arith in
            rw (same, le-ltb n n least, lt-ltb n (suc n) wider, eq-eqb n n refl, isin-lower n (suc n) ks wider)
            (one_of (isin n ks) (below n ks) (below (suc n) ks) (below-step n ks))
      ]
    ]
  where
    one_of : (b : Bool) (x y : ℕ) → y ≡ x + cond b 1 0 → cond b 0 1 + y ≡ x + 1
    one_of true x y e = omega (arith, e)
    one_of false x y e = omega (arith, e)

-- more numbers, no fewer below
pub below-more : (n d : ℕ) (ns : List ℕ) → below n ns ≤ below (n + d) ns
below-more n zero ns = let e : n + 0 ≡ n = omega arith in rw e (omega arith)
below-more n (suc d) ns =
    let e : n + suc d ≡ suc (n + d) = omega arith in
    rw e (omega (arith, below-more n d ns, below-step (n + d) ns))

-- a number of the list is one more for those above it
pub below-rises : (n m : ℕ) (ns : List ℕ) → n < m → isin n ns ≡ true → below n ns + 1 ≤ below m ns
below-rises n m ns lt is =
    let step : below (suc n) ns ≡ below n ns + 1 = below-step n ns ∙ ap (λ (b : Bool). below n ns + cond b 1 0) is in
    let e : suc n + (m - suc n) ≡ m = omega arith in
    let more : below (suc n) ns ≤ below (suc n + (m - suc n)) ns = below-more (suc n) (m - suc n) ns in
    let more' : below (suc n) ns ≤ below m ns = rw e at more in
    omega (arith, step, more')

-- two numbers of the list with as many below them
pub below-same : (n m : ℕ) (ns : List ℕ) → isin n ns ≡ true → isin m ns ≡ true → below n ns ≡ below m ns → n ≡ m
below-same n m ns is are same =
    elim (cases_lt n m) [
      | inl less ↦ absurd (omega (arith, below-rises n m ns less is))
      | inr more ↦ elim (cases_lt m n) [
        | inl above ↦ absurd (omega (arith, below-rises m n ns above are))
        | inr under ↦ omega arith
      ]
    ]

-- a number above all of a list
above : List ℕ → ℕ
above [] = 0
above (n ∷ ns) = suc n + above ns

lower-all : (limit : ℕ) (ns : List ℕ) → above ns ≤ limit → lower limit ns ≡ ns
unfolding above
lower-all limit [] le = refl
lower-all limit (n ∷ ns) le =
    let first : n < limit = omega arith in
    rw (lt-ltb n limit first, lower-all limit ns (omega arith)) refl

below-all : (ns : List ℕ) → below (above ns) ns ≡ distinct_count ns
below-all ns = ap distinct_count (lower-all (above ns) ns (omega arith))

isin-above : (n : ℕ) (ns : List ℕ) → isin n ns ≡ true → n < above ns
unfolding above
isin-above n [] is = absurd (false≢true is)
isin-above n (k ∷ ks) is =
    elim (cases_Bool (eqb k n)) [
      | inl same ↦ omega (arith, eqb-true k n same)
      | inr differs ↦ let rest = rw differs at is in omega (arith, isin-above n ks rest)
    ]

-- fewer lie below a number of the list than there are
pub below-within : (n : ℕ) (ns : List ℕ) → isin n ns ≡ true → below n ns < distinct_count ns
below-within n ns is = omega (arith, below-rises n (above ns) ns (isin-above n ns is) is, below-all ns)

pub below-bound : (n : ℕ) (ns : List ℕ) → below n ns ≤ distinct_count ns
below-bound n ns =
    elim (cases_lt n (above ns)) [
      | inl less ↦
          let e : n + (above ns - n) ≡ above ns = omega arith in
          let more = rw e at (below-more n (above ns - n) ns) in
          omega (arith, more, below-all ns)
      | inr more ↦ let e = ap distinct_count (lower-all n ns more) in omega (arith, e)
    ]

-- some number of the list has so many below it
reached : (n : ℕ) (ns : List ℕ) (j : ℕ) → j < below n ns → (r : ℕ) × ((isin r ns ≡ true) × (below r ns ≡ j))
reached zero ns j lt = absurd (omega (arith, none ns))
  where
    none : (ms : List ℕ) → below zero ms ≡ 0
    none [] = refl
    none (m ∷ ms) = let e : 0 ≤ m = omega arith in rw (le-ltb m 0 e) (none ms)
reached (suc n) ns j lt =
    elim (cases_Bool (isin n ns)) [
      | inr differs ↦
          let same : below (suc n) ns ≡ below n ns + 0 = below-step n ns ∙ ap (λ (b : Bool). below n ns + cond b 1 0) differs in
          reached n ns j (omega (arith, same))
      | inl is ↦
          let more : below (suc n) ns ≡ below n ns + 1 = below-step n ns ∙ ap (λ (b : Bool). below n ns + cond b 1 0) is in
          elim (cases_lt j (below n ns)) [
            | inl less ↦ reached n ns j less
            | inr least ↦ (n, (is, omega (arith, more)))
          ]
    ]

-- the first number of the list that passes, where one alone does
find-one : (p : ℕ → Bool) (r : ℕ) (ns : List ℕ) → p r ≡ true → isin r ns ≡ true → ((n : ℕ) → isin n ns ≡ true → p n ≡ true → n ≡ r) → find p ns ≡ Some r
find-one p r [] passes is one = absurd (false≢true is)
find-one p r (k ∷ ks) passes is one =
    elim (cases_Bool (p k)) [
      | inl here ↦ let same : k ≡ r = one k (rw (eq-eqb k k refl) refl) here in rw here (ap Some same)
      | inr fails ↦
          let apart : k ≢ r = λ same. false≢true (sym fails ∙ ap p same ∙ passes) in
          let rest = rw (ne_eqb k r apart) at is in
          rw fails (find-one p r ks passes rest (λ n member given. one n (later n k ks member) given))
    ]
  where
    later : (n k : ℕ) (ks : List ℕ) → isin n ks ≡ true → isin n (k ∷ ks) ≡ true
    later n k ks member = rw member (or-true (eqb k n))

-- the number of the list that has so many below it
abbrev pub after : ℕ → List ℕ → ℕ
after j ns = unwrap_or (find (λ n. eqb (below n ns) j) ns) 0

pub after-below : (r : ℕ) (ns : List ℕ) → isin r ns ≡ true → after (below r ns) ns ≡ r
after-below r ns is =
    ap (λ (o : Option ℕ). unwrap_or o 0)
    (find-one (λ n. eqb (below n ns) (below r ns)) r ns (eq-eqb (below r ns) (below r ns) refl) is
    (λ n member passes. below-same n r ns member is (eqb-true (below n ns) (below r ns) passes)))

pub below-after : (j : ℕ) (ns : List ℕ) → j < distinct_count ns → (isin (after j ns) ns ≡ true) × (below (after j ns) ns ≡ j)
below-after j ns lt =
    let found = reached (above ns) ns j (omega (arith, below-all ns)) in
    let r = found.0 in
    let same : after j ns ≡ r = ap (λ (i : ℕ). after i ns) (sym found.1.1) ∙ after-below r ns found.1.0 in
    rw same found.1
