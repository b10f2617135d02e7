-- Members of lists, and tests of which one passes.
use Rattle.std.proofs.Common.{◌||◌, ◌≡◌, ℕ, zero, suc, ◌+◌, ◌-◌, ◌<◌, ◌≤◌, Bool, true, false, List, [], ◌∷◌, ◌++◌, length, length-append, map, refl, sym, ap, ◌∙◌, subst, ⊎_elim, eq-or-lt_of_le, arith}
use Rattle.std.specs.List.{Contains, list_any, range_with_len, flat_map}
use Rattle.std.proofs.lemmas.Bool.{or_cases, or_left, or_right, true≢false}
use Rattle.std.proofs.lemmas.List.Elements.{Contains-append_left, Contains-append_right, Contains-append_cases}
use Rattle.std.proofs.lemmas.List.FromFn.{length-range_with_len, get_or-range_with_len}
use Rattle.vx_packed.specs.Joined.{some_below}

-- ---- members

pub member_first : {X : Type 0} (x : X) (xs : List X) → Contains (x ∷ xs) x
member_first x xs = (0, omega arith, refl)

pub member_rest : {X : Type 0} (y : X) (xs : List X) (x : X) → Contains xs x → Contains (y ∷ xs) x
member_rest y xs x h = (suc h.0, omega (arith, h.1), h.2)

pub member_of_range : (from n x : ℕ) → from ≤ x → x < from + n → Contains (range_with_len from n) x
member_of_range from n x low high =
    let below : x - from < n = omega arith in
    let sum : from + (x - from) ≡ x = omega arith in
    (x - from, subst (λ m. x - from < m) (sym (length-range_with_len from n)) below, get_or-range_with_len from n (x - from) x below ∙ sum)

pub member_of_map : {X Y : Type 0} (f : X → Y) (xs : List X) (x : X) → Contains xs x → Contains (map f xs) (f x)
member_of_map f [] x h = absurd (omega (arith, h.1))
member_of_map f (y ∷ ys) x (zero, l, e) = subst (λ z. Contains (map f (y ∷ ys)) (f z)) e (member_first (f y) (map f ys))
member_of_map f (y ∷ ys) x (suc k, l, e) = member_rest (f y) (map f ys) (f x) (member_of_map f ys x (k, omega arith, e))

pub member_before_map : {X Y : Type 0} (f : X → Y) (xs : List X) (y : Y) → Contains (map f xs) y → (x : X) × Contains xs x × (f x ≡ y)
member_before_map f [] y h = absurd (omega (arith, h.1))
member_before_map f (x ∷ xs) y (zero, l, e) = (x, member_first x xs, e)
member_before_map f (x ∷ xs) y (suc k, l, e) = let r = member_before_map f xs y (k, omega arith, e) in (r.0, member_rest x xs r.0 r.1, r.2)

pub range_parts : (from n x : ℕ) → Contains (range_with_len from n) x → (from ≤ x) × (x < from + n)
range_parts from n x c =
    let below : c.0 < n = subst (λ m. c.0 < m) (length-range_with_len from n) c.1 in
    let is : from + c.0 ≡ x = sym (get_or-range_with_len from n c.0 x below) ∙ c.2 in
    (omega arith, omega arith)

pub member_of_flat_map : {X Y : Type 0} (f : X → List Y) (xs : List X) (x : X) (y : Y) → Contains xs x → Contains (f x) y → Contains (flat_map f xs) y
member_of_flat_map f [] x y h m = absurd (omega (arith, h.1))
member_of_flat_map f (z ∷ zs) x y (zero, l, e) m = Contains-append_left (f z) (flat_map f zs) y (subst (λ u. Contains (f u) y) (sym e) m)
member_of_flat_map f (z ∷ zs) x y (suc k, l, e) m = Contains-append_right (f z) (flat_map f zs) y (member_of_flat_map f zs x y (k, omega arith, e) m)

-- ---- tests

pub any_from : {X : Type 0} (p : X → Bool) (xs : List X) (x : X) → Contains xs x → p x ≡ true → list_any p xs ≡ true
any_from p [] x h t = absurd (omega (arith, h.1))
any_from p (y ∷ ys) x (zero, l, e) t = or_left (p y) (list_any p ys) (ap p e ∙ t)
any_from p (y ∷ ys) x (suc k, l, e) t = or_right (p y) (list_any p ys) (any_from p ys x (k, omega arith, e) t)

pub any_one : {X : Type 0} (p : X → Bool) (xs : List X) → list_any p xs ≡ true → (x : X) × Contains xs x × (p x ≡ true)
any_one p [] h = absurd (true≢false (sym h))
any_one p (y ∷ ys) h =
    ⊎_elim
    (λ t. (y, member_first y ys, t))
    (λ t. let r = any_one p ys t in (r.0, member_rest y ys r.0 r.1, r.2))
    (or_cases (p y) (list_any p ys) h)

pub some_from : (n : ℕ) (p : ℕ → Bool) (k : ℕ) → k < n → p k ≡ true → some_below n p ≡ true
unfolding some_below
some_from zero p k h t = absurd (omega arith)
some_from (suc n) p k h t =
    let at_most : k ≤ n = omega arith in
    ⊎_elim
    (λ e. or_right (some_below n p) (p n) (ap p (sym e) ∙ t))
    (λ l. or_left (some_below n p) (p n) (some_from n p k l t))
    (eq-or-lt_of_le at_most)

pub some_one : (n : ℕ) (p : ℕ → Bool) → some_below n p ≡ true → (k : ℕ) × (k < n) × (p k ≡ true)
unfolding some_below
some_one zero p h = absurd (true≢false (sym h))
some_one (suc n) p h =
    ⊎_elim
    (λ t. let r = some_one n p t in (r.0, omega (arith, r.1), r.2))
    (λ t. (n, omega arith, t))
    (or_cases (some_below n p) (p n) h)

-- two tests that pass one where the other does are one
pub same_test : (a b : Bool) → (a ≡ true → b ≡ true) → (b ≡ true → a ≡ true) → a ≡ b
same_test true b f g = sym (f refl)
same_test false true f g = g refl
same_test false false f g = refl

pub some_alike : (n : ℕ) (f g : ℕ → Bool) → ((k : ℕ) → k < n → f k ≡ g k) → some_below n f ≡ some_below n g
unfolding some_below
some_alike zero f g h = refl
some_alike (suc n) f g h = λ i. some_alike n f g (λ k l. h k (omega arith)) i || h n (omega arith) i

-- ---- lists of lists

pub member_before_flat_map : {X Y : Type 0} (f : X → List Y) (xs : List X) (y : Y) → Contains (flat_map f xs) y → (x : X) × Contains xs x × Contains (f x) y
member_before_flat_map f [] y h = absurd (omega (arith, h.1))
member_before_flat_map f (x ∷ xs) y h =
    ⊎_elim
    (λ c. (x, member_first x xs, c))
    (λ c. let r = member_before_flat_map f xs y c in (r.0, member_rest x xs r.0 r.1, r.2))
    (Contains-append_cases (f x) (flat_map f xs) y h)

pub flat_map_alike : {X Y : Type 0} (f g : X → List Y) (xs : List X) → ((x : X) → Contains xs x → f x ≡ g x) → flat_map f xs ≡ flat_map g xs
flat_map_alike f g [] h = refl
flat_map_alike f g (x ∷ xs) h = λ i. h x (member_first x xs) i ++ flat_map_alike f g xs (λ y c. h y (member_rest x xs y c)) i

pub flat_map_lengths : {X Y : Type 0} (f g : X → List Y) (xs : List X) → ((x : X) → Contains xs x → length (f x) ≡ length (g x)) → length (flat_map f xs) ≡ length (flat_map g xs)
flat_map_lengths f g [] h = refl
flat_map_lengths f g (x ∷ xs) h =
    let first = h x (member_first x xs) in
    let rest = flat_map_lengths f g xs (λ y c. h y (member_rest x xs y c)) in
    length-append (f x) (flat_map f xs) ∙ (λ i. first i + rest i) ∙ sym (length-append (g x) (flat_map g xs))

pub flat_map_none : {X Y : Type 0} (f : X → List Y) (xs : List X) → ((x : X) → Contains xs x → f x ≡ []) → flat_map f xs ≡ []
flat_map_none f [] h = refl
flat_map_none f (x ∷ xs) h = λ i. h x (member_first x xs) i ++ flat_map_none f xs (λ y c. h y (member_rest x xs y c)) i

-- the numbers of a range are those of its first and those of its rest
pub range_joined : (a n k : ℕ) → range_with_len a (n + k) ≡ range_with_len a n ++ range_with_len (a + n) k
range_joined a zero k =
    let from : a ≡ a + 0 = omega arith in
    let count : 0 + k ≡ k = omega arith in
    λ i. range_with_len (from i) (count i)
range_joined a (suc n) k =
    let one : suc n + k ≡ suc (n + k) = omega arith in
    let next : (a + 1) + n ≡ a + suc n = omega arith in
    ap (range_with_len a) one
    ∙ ap (λ xs. a ∷ xs) (range_joined (a + 1) n k ∙ ap (λ b. range_with_len (a + 1) n ++ range_with_len b k) next)
