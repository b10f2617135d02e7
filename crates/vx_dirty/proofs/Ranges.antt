-- The accesses of a vector load or store, below each element, as its batches go through them.
use Rattle.std.proofs.Common.{◌≡◌, ℕ, zero, suc, ◌+◌, ◌-◌, ◌<◌, ◌≤◌, Bool, true, false, ◌&&◌, ◌||◌, leb, ltb, List, [], ◌∷◌, ◌++◌, map, if◌then◌else◌, refl, sym, ap, ◌∙◌, subst, arith, append_assoc}
use Rattle.std.specs.List.{range_with_len, flat_map}
use Rattle.std.proofs.lemmas.Bool.{ltb-true, ltb-false}
use Rattle.std.proofs.lemmas.Bool.Decides.{nat_tests}
use Rattle.std.proofs.lemmas.Grind.{flat_map-append}
use Rattle.std.proofs.lemmas.List.{map-append}
use Rattle.vx_vstate.specs.Registers.{element}
use Rattle.vx_vector.specs.Accesses as vector
use Rattle.vx_vector.specs.Accesses.{Movement, access_of, access_bytes, fields_of, movement_count, takes_part, accesses_of_element, accesses_between, access_list}
use Rattle.vx_vector.specs.Batches.{batch_at, next_batches, batches}
use Rattle.vx_vector.specs.Numbers.{is_set}
use Rattle.vx_flat.specs.Transfers.{Direction, Transfer}
use Rattle.vx_flat.specs.Transfers.Direction.{Loading, Storing}
use Rattle.vx_episode.specs.Footprint.{Access, Footprint, moved_access, moved_batch}
use Rattle.vx_dirty.proofs.Chains.{IsLink, IsChain, last_after}
use Rattle.vx_dirty.proofs.Lists.{Each, each-more, each-append, each-first, each-second, each-map, head_or, rest_of}

-- ---- ranges

range-parts : (a n k : ℕ) → range_with_len a (n + k) ≡ range_with_len a n ++ range_with_len (a + n) k
range-parts a zero k =
    let none : zero + k ≡ k = omega arith in
    let same : a + zero ≡ a = omega arith in
    λ j. range_with_len (sym same j) (none j)
range-parts a (suc n) k =
    let more : suc n + k ≡ suc (n + k) = omega arith in
    let same : a + 1 + n ≡ a + suc n = omega arith in
    ap (range_with_len a) more
    ∙ ap (λ (l : List ℕ). a ∷ l) (range-parts (a + 1) n k ∙ ap (λ x. range_with_len (a + 1) n ++ range_with_len x k) same)

flat-none : {X : Type 0} (f : ℕ → List X) (a n : ℕ) → ((x : ℕ) → a ≤ x → x < a + n → f x ≡ []) → flat_map f (range_with_len a n) ≡ []
flat-none f a zero h = refl
flat-none f a (suc n) h =
    (λ j. h a (omega arith) (omega arith) j ++ flat_map f (range_with_len (a + 1) n))
    ∙ flat-none f (a + 1) n (λ x low high. h x (omega (arith, low)) (omega (arith, high)))

flat-each : {X : Type 0} (P : X → Type 0) (f : ℕ → List X) (a n : ℕ) → ((x : ℕ) → a ≤ x → x < a + n → Each P (f x)) → Each P (flat_map f (range_with_len a n))
flat-each P f a zero h = tt
flat-each P f a (suc n) h =
    each-append P (f a) (flat_map f (range_with_len (a + 1) n)) (h a (omega arith) (omega arith))
    (flat-each P f (a + 1) n (λ x low high. h x (omega (arith, low)) (omega (arith, high))))

range-each : (P : ℕ → Type 0) → ((x : ℕ) → P x) → (a n : ℕ) → Each P (range_with_len a n)
range-each P h a zero = tt
range-each P h a (suc n) = (h a, range-each P h (a + 1) n)

-- ---- the accesses between elements

module _ (m : Movement) where
  pub in-parts : (a b c : ℕ) → a ≤ b → b ≤ c → accesses_between m a c ≡ accesses_between m a b ++ accesses_between m b c
  in-parts a b c low high =
      let sum : c - a ≡ (b - a) + (c - b) = omega arith in
      let middle : a + (b - a) ≡ b = omega arith in
      ap (λ n. flat_map (accesses_of_element m) (range_with_len a n)) sum
      ∙ ap (flat_map (accesses_of_element m)) (range-parts a (b - a) (c - b) ∙ ap (λ x. range_with_len a (b - a) ++ range_with_len x (c - b)) middle)
      ∙ flat_map-append (accesses_of_element m) (range_with_len a (b - a)) (range_with_len b (c - b))

  -- what is true of each access of each element
  pub between-each : (P : vector.Access → Type 0) (a b : ℕ) → ((x f : ℕ) → a ≤ x → x < b → P (access_of m x f)) → Each P (accesses_between m a b)
  between-each P a b h = flat-each P (accesses_of_element m) a (b - a) (λ x low high. chosen x (takes_part m x) (λ f. h x f low (omega (arith, low, high))))
    where
      chosen : (x : ℕ) (t : Bool) → ((f : ℕ) → P (access_of m x f)) → Each P (if t then map (access_of m x) (range_with_len 0 (fields_of m)) else [])
      chosen x true k = each-map P (access_of m x) (range_with_len 0 (fields_of m)) (range-each (λ f. P (access_of m x f)) k 0 (fields_of m))
      chosen x false k = tt

  first-false : (q r : Bool) → (false && q && r) ≡ false
  first-false true r = refl
  first-false false r = refl

  none-early : (x : ℕ) → x < m.at.vstart → accesses_of_element m x ≡ []
  none-early x l =
      let late : leb m.at.vstart x ≡ false = grind (arith, nat_tests) in
      ap (λ b. if b && ltb x (movement_count m) && (m.i.vm || is_set (element m.at.vlen m.words 0 1 x)) then map (access_of m x) (range_with_len 0 (fields_of m)) else []) late
      ∙ ap (λ b. if b then map (access_of m x) (range_with_len 0 (fields_of m)) else []) (first-false (ltb x (movement_count m)) (m.i.vm || is_set (element m.at.vlen m.words 0 1 x)))

  -- no access lies below the element at which the instruction begins
  pub none-below : accesses_between m 0 m.at.vstart ≡ []
  none-below = flat-none (accesses_of_element m) 0 (m.at.vstart - 0) (λ x low high. none-early x (omega (arith, high)))

-- ---- a list that is split at a first element

begins-so : (j : ℕ) (xs ys lower : List Access) (first : Access) (others : List Access) → Each (λ a. a.element < j) xs → first.element ≡ j → xs ++ ys ≡ lower ++ first ∷ others → (rest : List Access) × (lower ≡ xs ++ rest)
begins-so j [] ys lower first others low at is = (lower, refl)
begins-so j (x ∷ xs) ys [] first others low at is =
    let same : x.element ≡ first.element = ap (λ l. (head_or first l).element) is in
    let less = low.0 in
    absurd (omega (arith, same, less, at))
begins-so j (x ∷ xs) ys (y ∷ lower) first others low at is =
    let same : x ≡ y = ap (head_or x) is in
    let more = begins-so j xs ys lower first others low.1 at (ap rest_of is) in
    (more.0, (λ i. sym same i ∷ more.1 i))

-- ---- a transfer

pub element-is : (d : Direction) (m : Movement) (a : vector.Access) → (moved_access d m a).element ≡ a.element
element-is Loading m a = refl
element-is Storing m a = refl

-- what the laws of batches say
pub record BatchLaws : Type 0 where
  pub within : (m : Movement) (lanes most from : ℕ) → from < movement_count m → (batch_at m lanes most from).after ≤ movement_count m

module _ (L : BatchLaws) (f : Footprint) (t : Transfer) (lanes most : ℕ) where
  abbrev m : Movement
  m = t.movement

  abbrev moved_all : List vector.Access → List Access
  moved_all l = map (moved_access t.direction m) l

  abbrev pub below : ℕ → List Access
  below k = moved_all (accesses_between m 0 k)

  abbrev pub all : List Access
  all = moved_all (access_list m)

  moved-append : (xs ys : List vector.Access) → moved_all (xs ++ ys) ≡ moved_all xs ++ moved_all ys
  moved-append xs ys = map-append (moved_access t.direction m) xs ys

  below-parts : (a b : ℕ) → a ≤ b → below b ≡ below a ++ moved_all (accesses_between m a b)
  below-parts a b l = ap moved_all (in-parts m 0 a b (omega arith) l) ∙ moved-append (accesses_between m 0 a) (accesses_between m a b)

  -- the elements of accesses between two
  bounds : (a b : ℕ) → Each (λ (x : Access). (a ≤ x.element) × (x.element < b)) (moved_all (accesses_between m a b))
  bounds a b =
      each-map (λ (x : Access). (a ≤ x.element) × (x.element < b)) (moved_access t.direction m) (accesses_between m a b)
      (between-each m (λ x. (a ≤ (moved_access t.direction m x).element) × ((moved_access t.direction m x).element < b)) a b
      (λ x f low high. let is = element-is t.direction m (access_of m x f) in (omega (arith, is, low), omega (arith, is, high))))

  cut-so : (from after : ℕ) (lower : List Access) (first : Access) (others : List Access) → moved_all (accesses_between m from after) ≡ lower ++ first ∷ others → (rest : List Access) × (below from ++ lower ≡ below first.element ++ rest)
  cut-so from after lower first others parts =
      let j = first.element in
      let in_bounds = λ (x : Access). (from ≤ x.element) × (x.element < after) in
      let here = (each-second in_bounds lower (first ∷ others) (subst (Each in_bounds) parts (bounds from after))).0 in
      let xs = moved_all (accesses_between m from j) in
      let split = ap moved_all (in-parts m from j after here.0 (omega (arith, here.1))) ∙ moved-append (accesses_between m from j) (accesses_between m j after) in
      let low = each-more (λ (x : Access). (from ≤ x.element) × (x.element < j)) (λ x. x.element < j) (λ x k. k.1) xs (bounds from j) in
      let found = begins-so j xs (moved_all (accesses_between m j after)) lower first others low refl (sym split ∙ parts) in
      (found.0, ap (λ l. below from ++ l) found.1 ∙ sym (append_assoc (below from) xs found.0) ∙ ap (λ l. l ++ found.0) (sym (below-parts from j here.0)))

  link : (from : ℕ) → from < movement_count m → IsLink f below all from (moved_batch t (batch_at m lanes most from))
  link from inside =
      let after = (batch_at m lanes most from).after in
      let forward : from ≤ after = omega arith in
      let within = L.within m lanes most from inside in
      record {
        begins = refl;
        after = below-parts from after forward;
        tail = moved_all (accesses_between m after (movement_count m));
        whole = below-parts after (movement_count m) within;
        cut = cut-so from after;
      }

  chain-from : (n from : ℕ) → IsChain f below all from (map (moved_batch t) (next_batches m lanes most n from))
  chain-from zero from = tt
  chain-from (suc n) from = by_test (ltb from (movement_count m)) (λ e. link from (ltb-true from (movement_count m) e)) (chain-from n (batch_at m lanes most from).after)
    where
      by_test : (b : Bool) → (b ≡ true → IsLink f below all from (moved_batch t (batch_at m lanes most from))) → IsChain f below all (batch_at m lanes most from).after (map (moved_batch t) (next_batches m lanes most n (batch_at m lanes most from).after))
          → IsChain f below all from (map (moved_batch t) (if b then batch_at m lanes most from ∷ next_batches m lanes most n (batch_at m lanes most from).after else []))
      by_test true l c = (l refl, c)
      by_test false l c = tt

  -- its batches go through its accesses
  pub chain : IsChain f below all m.at.vstart (map (moved_batch t) (batches m lanes most))
  chain = chain-from (movement_count m) m.at.vstart

  last-from : (n from : ℕ) → movement_count m ≤ from + n → movement_count m ≤ last_after f below all from (map (moved_batch t) (next_batches m lanes most n from))
  last-from zero from h = omega (arith, h)
  last-from (suc n) from h =
      let after = (batch_at m lanes most from).after in
      let forward : from + 1 ≤ after = omega arith in
      by_test (ltb from (movement_count m)) (λ e. ltb-false from (movement_count m) e) (last-from n after (omega (arith, forward, h)))
    where
      by_test : (b : Bool) → (b ≡ false → movement_count m ≤ from) → movement_count m ≤ last_after f below all (batch_at m lanes most from).after (map (moved_batch t) (next_batches m lanes most n (batch_at m lanes most from).after))
          → movement_count m ≤ last_after f below all from (map (moved_batch t) (if b then batch_at m lanes most from ∷ next_batches m lanes most n (batch_at m lanes most from).after else []))
      by_test true past later = later
      by_test false past later = past refl

  -- behind the last of them, all have been gone through
  pub all-through : (P : Access → Type 0) → Each P (below (last_after f below all m.at.vstart (map (moved_batch t) (batches m lanes most)))) → Each P all
  all-through P h =
      let last = last_after f below all m.at.vstart (map (moved_batch t) (batches m lanes most)) in
      let past : movement_count m ≤ last = last-from (movement_count m) m.at.vstart (omega arith) in
      each-first P all (moved_all (accesses_between m (movement_count m) last)) (subst (Each P) (below-parts (movement_count m) last past) h)

  pub none-below-first : below m.at.vstart ≡ []
  none-below-first = ap moved_all (none-below m)
