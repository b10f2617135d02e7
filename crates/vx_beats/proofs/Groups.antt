-- How many groups some words in a row make.
use Rattle.std.proofs.Common.{◌≡◌, ℕ, zero, suc, ◌+◌, ◌-◌, ◌*◌, ◌/◌, ◌<◌, ◌≤◌, Bool, true, false, ◌||◌, nat_eq, if◌then◌else◌, IsTrue, List, [], ◌∷◌, length, map, filter, refl, sym, ap, ◌∙◌, subst, ⊎_elim, min, max, eq-eqb, eq-or-lt_of_le, arith}
use Rattle.std.proofs.lemmas.Bool.{eqb-true, or_cases, cases_lt, false≢true, ne_eqb}
use Rattle.std.specs.List.{range_with_len}
use Rattle.vx_base.specs.Options.{is_lane_count}
use Rattle.vx_episode.specs.Footprint.{groups_made, groups_of, is_not_empty, words_of_group, words_up_to}
use Rattle.vx_vector.specs.Reading.{Reading}

-- as many beats as groups
pub beats-all : (r : Reading) (groups : List (List ℕ)) → length (groups_made r groups) ≡ length groups
beats-all r [] = refl
beats-all r (words ∷ []) = refl
beats-all r (words ∷ others ∷ groups) = ap suc (beats-all r (others ∷ groups))

-- ---- lanes

pub by_lanes : (P : ℕ → Type 0) (n : ℕ) → IsTrue (is_lane_count n) → P 1 → P 2 → P 4 → P 8 → P n
by_lanes P n h a b c d =
    ⊎_elim
    (λ e. ⊎_elim
    (λ f. ⊎_elim
    (λ g. subst P (sym (eqb-true n 1 g)) a)
    (λ g. subst P (sym (eqb-true n 2 g)) b)
    (or_cases (nat_eq n 1) (nat_eq n 2) f))
    (λ f. subst P (sym (eqb-true n 4 f)) c)
    (or_cases (nat_eq n 1 || nat_eq n 2) (nat_eq n 4) e))
    (λ e. subst P (sym (eqb-true n 8 e)) d)
    (or_cases (nat_eq n 1 || nat_eq n 2 || nat_eq n 4) (nat_eq n 8) h)

-- ---- words in a row

pub up-to : (from n : ℕ) → words_up_to (range_with_len from (suc n)) ≡ from + n + 1
up-to from zero = omega arith
up-to from (suc n) = let rest = up-to (from + 1) n in omega (arith, rest)

-- some of them pass, or none
after-pass : (passes : Bool) (from : ℕ) (words : List ℕ) → is_not_empty words ≡ true → is_not_empty (if passes then from ∷ words else words) ≡ true
after-pass true from words h = refl
after-pass false from words h = h

at-pass : (passes : Bool) (from : ℕ) (words : List ℕ) → passes ≡ true → is_not_empty (if passes then from ∷ words else words) ≡ true
at-pass true from words h = refl
at-pass false from words h = absurd (false≢true h)

no-pass : (passes : Bool) (from : ℕ) (words : List ℕ) → passes ≡ false → is_not_empty words ≡ false → is_not_empty (if passes then from ∷ words else words) ≡ false
no-pass true from words h rest = absurd (false≢true (sym h))
no-pass false from words h rest = rest

some-pass : (p : ℕ → Bool) (from n w : ℕ) → from ≤ w → w < from + n → p w ≡ true → is_not_empty (filter p (range_with_len from n)) ≡ true
some-pass p from zero w low high h = absurd (omega arith)
some-pass p from (suc n) w low high h =
    ⊎_elim
    (λ (e : from ≡ w). at-pass (p from) from (filter p (range_with_len (from + 1) n)) (ap p e ∙ h))
    (λ (l : from < w). after-pass (p from) from (filter p (range_with_len (from + 1) n)) (some-pass p (from + 1) n w (omega arith) (omega arith) h))
    (eq-or-lt_of_le low)

none-pass : (p : ℕ → Bool) (from n : ℕ) → ((w : ℕ) → from ≤ w → w < from + n → p w ≡ false) → is_not_empty (filter p (range_with_len from n)) ≡ false
none-pass p from zero h = refl
none-pass p from (suc n) h =
    no-pass (p from) from (filter p (range_with_len (from + 1) n)) (h from (omega arith) (omega arith))
    (none-pass p (from + 1) n (λ w low high. h w (omega arith) (omega arith)))

-- ---- a group has a word where its number lies between those of the first and the last

in-group : (lanes first last g : ℕ) → IsTrue (is_lane_count lanes) → first ≤ last → first / lanes ≤ g → g ≤ last / lanes → (max first (g * lanes) ≤ last) × (max first (g * lanes) / lanes ≡ g)
in-group lanes first last g h order low high =
    by_lanes (λ n. first / n ≤ g → g ≤ last / n → (max first (g * n) ≤ last) × (max first (g * n) / n ≡ g)) lanes h
    (λ l k. (omega arith, omega arith))
    (λ l k. (omega arith, omega arith))
    (λ l k. (omega arith, omega arith))
    (λ l k. (omega arith, omega arith))
    low high

group-between : (lanes first last w : ℕ) → IsTrue (is_lane_count lanes) → first ≤ w → w ≤ last → (first / lanes ≤ w / lanes) × (w / lanes ≤ last / lanes)
group-between lanes first last w h low high =
    by_lanes (λ n. (first / n ≤ w / n) × (w / n ≤ last / n)) lanes h
    (omega arith, omega arith)
    (omega arith, omega arith)
    (omega arith, omega arith)
    (omega arith, omega arith)

-- ---- counting

one-more : (n : ℕ) (group : List ℕ) (groups : List (List ℕ)) → is_not_empty group ≡ true → length (filter is_not_empty groups) ≡ n → length (filter is_not_empty (group ∷ groups)) ≡ suc n
one-more n group groups h rest = rw h (ap suc rest)

none-more : (n : ℕ) (group : List ℕ) (groups : List (List ℕ)) → is_not_empty group ≡ false → length (filter is_not_empty groups) ≡ n → length (filter is_not_empty (group ∷ groups)) ≡ n
none-more n group groups h rest = rw h rest

module _ (f : ℕ → List ℕ) (low high : ℕ) (inside : (g : ℕ) → low ≤ g → g < high → is_not_empty (f g) ≡ true) (before : (g : ℕ) → g < low → is_not_empty (f g) ≡ false) (behind : (g : ℕ) → high ≤ g → is_not_empty (f g) ≡ false) where
  counted : (a n : ℕ) → length (filter is_not_empty (map f (range_with_len a n))) ≡ min high (a + n) - max low a
  counted a zero = omega arith
  counted a (suc n) =
      let rest = counted (a + 1) n in
      ⊎_elim
      (λ (l : a < low). none-more (min high (a + suc n) - max low a) (f a) (map f (range_with_len (a + 1) n)) (before a l) (omega (arith, rest)))
      (λ (l : low ≤ a). ⊎_elim
      (λ (k : a < high).
      let sum : suc (min high (a + suc n) - max low a - 1) ≡ min high (a + suc n) - max low a = omega arith in
      one-more (min high (a + suc n) - max low a - 1) (f a) (map f (range_with_len (a + 1) n)) (inside a l k) (omega (arith, rest)) ∙ sum)
      (λ (k : high ≤ a). none-more (min high (a + suc n) - max low a) (f a) (map f (range_with_len (a + 1) n)) (behind a k) (omega (arith, rest)))
      (cases_lt a high))
      (cases_lt a low)

module _ (lanes first n : ℕ) (h : IsTrue (is_lane_count lanes)) where
  group : ℕ → List ℕ
  group g = words_of_group lanes (range_with_len first (suc n)) g

  inside : (g : ℕ) → first / lanes ≤ g → g < (first + n) / lanes + 1 → is_not_empty (group g) ≡ true
  unfolding group
  inside g low high =
      let w = in-group lanes first (first + n) g h (omega arith) low (omega arith) in
      some-pass (λ w. nat_eq (w / lanes) g) first (suc n) (max first (g * lanes)) (omega arith) (omega (arith, w.0)) (eq-eqb _ g w.1)

  before : (g : ℕ) → g < first / lanes → is_not_empty (group g) ≡ false
  unfolding group
  before g low =
      none-pass (λ w. nat_eq (w / lanes) g) first (suc n)
      (λ w from to. let b = group-between lanes first (first + n) w h from (omega arith) in ne_eqb (w / lanes) g (λ e. omega (arith, e, b.0)))

  behind : (g : ℕ) → (first + n) / lanes + 1 ≤ g → is_not_empty (group g) ≡ false
  unfolding group
  behind g high =
      none-pass (λ w. nat_eq (w / lanes) g) first (suc n)
      (λ w from to. let b = group-between lanes first (first + n) w h from (omega arith) in ne_eqb (w / lanes) g (λ e. omega (arith, e, b.1)))

  enough : min ((first + n) / lanes + 1) (0 + ((first + n + 1) / lanes + 1)) - max (first / lanes) 0 ≡ (first + n) / lanes + 1 - first / lanes
  enough =
      by_lanes (λ m. min ((first + n) / m + 1) (0 + ((first + n + 1) / m + 1)) - max (first / m) 0 ≡ (first + n) / m + 1 - first / m) lanes h
      (omega arith) (omega arith) (omega arith) (omega arith)

  some-groups : length (groups_of lanes (range_with_len first (suc n))) ≡ (first + n) / lanes + 1 - first / lanes
  unfolding group
  some-groups =
      ap (λ most. length (filter is_not_empty (map group (range_with_len 0 (most / lanes + 1))))) (up-to first n)
      ∙ counted group (first / lanes) ((first + n) / lanes + 1) inside before behind 0 ((first + n + 1) / lanes + 1)
      ∙ enough

-- no word from one on, up to one that isn't behind it
empty-groups : (lanes a n : ℕ) → length (filter is_not_empty (map (words_of_group lanes []) (range_with_len a n))) ≡ 0
empty-groups lanes a zero = refl
empty-groups lanes a (suc n) = empty-groups lanes (a + 1) n

pub no-groups : (lanes first after : ℕ) → after ≤ first → length (groups_of lanes (range_with_len first (after - first))) ≡ 0
no-groups lanes first after h =
    let none : after - first ≡ 0 = omega arith in
    ap (λ m. length (groups_of lanes (range_with_len first m))) none ∙ empty-groups lanes 0 (0 / lanes + 1)

pub all-groups : (lanes first after : ℕ) → IsTrue (is_lane_count lanes) → first < after → length (groups_of lanes (range_with_len first (after - first))) ≡ (after - 1) / lanes + 1 - first / lanes
all-groups lanes first after h l =
    let n = after - first - 1 in
    let count : after - first ≡ suc n = omega arith in
    let last : first + n ≡ after - 1 = omega arith in
    ap (λ m. length (groups_of lanes (range_with_len first m))) count
    ∙ some-groups lanes first n h
    ∙ ap (λ m. m / lanes + 1 - first / lanes) last

pub in-order : (lanes first after : ℕ) → IsTrue (is_lane_count lanes) → first < after → first / lanes ≤ (after - 1) / lanes
in-order lanes first after h l = (group-between lanes first (after - 1) first h (omega arith) (omega arith)).1
