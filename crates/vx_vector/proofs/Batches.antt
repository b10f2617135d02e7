-- The accesses of runs of elements, and the batches that they make.
use Rattle.std.proofs.Common.{◌≡◌, ◌⊎◌, ℕ, zero, suc, ◌+◌, ◌-◌, ◌<◌, ◌≤◌, Bool, true, false, ◌&&◌, ◌||◌, List, [], ◌∷◌, ◌++◌, length, length-append, min, max, leb, ltb, map, if◌then◌else◌, refl, sym, ap, ◌∙◌, subst, inl, inr, ⊎_elim, arith}
use Rattle.std.specs.List.{range_with_len, flat_map}
use Rattle.std.proofs.lemmas.Bool.{cases_lt, leb-true, leb-false, ltb-true, ltb-false}
use Rattle.std.proofs.lemmas.Grind.{flat_map-append}
use Rattle.vx_vector.specs.Accesses.{Access, Movement, movement_count, takes_part, access_of, fields_of, accesses_of_element, accesses_between, access_list}
use Rattle.vx_vector.specs.Batches.{accesses_in, longest_run, batch_at, next_batches, batches, accesses_of_batch}
use Rattle.vx_vector.specs.Numbers.{is_set}
use Rattle.vx_vstate.specs.Registers.{element}
use Rattle.vx_vector.proofs.Members.{range_parts, flat_map_none, range_joined}

-- ---- runs

-- the accesses of n elements from one on
abbrev pub run : Movement → (from n : ℕ) → List Access
run m from n = flat_map (accesses_of_element m) (range_with_len from n)

run-joined : (m : Movement) (from n k : ℕ) → run m from (n + k) ≡ run m from n ++ run m (from + n) k
run-joined m from n k =
    ap (flat_map (accesses_of_element m)) (range_joined from n k)
    ∙ flat_map-append (accesses_of_element m) (range_with_len from n) (range_with_len (from + n) k)

pub between-joined : (m : Movement) (from mid to : ℕ) → from ≤ mid → mid ≤ to → accesses_between m from mid ++ accesses_between m mid to ≡ accesses_between m from to
between-joined m from mid to low high =
    let there : from + (mid - from) ≡ mid = omega arith in
    let all : (mid - from) + (to - mid) ≡ to - from = omega arith in
    ap (λ x. run m from (mid - from) ++ run m x (to - mid)) (sym there)
    ∙ sym (run-joined m from (mid - from) (to - mid))
    ∙ ap (run m from) all

-- as many elements from one on
count-of : (from n : ℕ) → from + n - from ≡ n
count-of from n = omega arith

in-run : (m : Movement) (from n : ℕ) → accesses_in m from n ≡ length (run m from n)
in-run m from n = ap (λ k. length (run m from k)) (count-of from n)

-- more elements have no fewer accesses
pub more : (m : Movement) (from n k : ℕ) → n ≤ k → accesses_in m from n ≤ accesses_in m from k
more m from n k h =
    let rest : n + (k - n) ≡ k = omega arith in
    let all : length (run m from k) ≡ length (run m from n) + length (run m (from + n) (k - n)) =
    ap (λ x. length (run m from x)) (sym rest)
    ∙ ap length (run-joined m from n (k - n))
    ∙ length-append (run m from n) (run m (from + n) (k - n)) in
    let a = in-run m from n in
    let b = in-run m from k in
    omega arith

-- ---- the longest run

pub record IsLongest (m : Movement) (lanes from n k : ℕ) : Type 0 where
  pub most : k ≤ n
  pub few : (k ≡ 0) ⊎ (accesses_in m from k ≤ lanes)
  pub longest : (k ≡ n) ⊎ (lanes < accesses_in m from (suc k))

longer : (m : Movement) (lanes from n k : ℕ) (b : Bool) → (b ≡ true → accesses_in m from (suc n) ≤ lanes) → (b ≡ false → lanes < accesses_in m from (suc n)) → IsLongest m lanes from n k → IsLongest m lanes from (suc n) (if b then suc n else k)
longer m lanes from n k true t f h = record { most = omega arith; few = inr (t refl); longest = inl refl }
longer m lanes from n k false t f h = record {
  most = let l = h.most in omega arith;
  few = h.few;
  longest = ⊎_elim (λ e. inr (subst (λ x. lanes < accesses_in m from (suc x)) (sym e) (f refl))) inr h.longest;
}

pub longest-is : (m : Movement) (lanes from n : ℕ) → IsLongest m lanes from n (longest_run m lanes from n)
unfolding longest_run
longest-is m lanes from zero = record { most = omega arith; few = inl refl; longest = inl refl }
longest-is m lanes from (suc n) =
    longer m lanes from n (longest_run m lanes from n) (leb (accesses_in m from (suc n)) lanes)
    (leb-true (accesses_in m from (suc n)) lanes)
    (leb-false (accesses_in m from (suc n)) lanes)
    (longest-is m lanes from n)

not-shorter : (m : Movement) (lanes from n k j : ℕ) → IsLongest m lanes from n k → IsLongest m lanes from n j → k < j → ⊥
not-shorter m lanes from n k j h g l =
    let top = g.most in
    ⊎_elim
    (λ e. omega arith)
    (λ past. ⊎_elim
    (λ z. omega arith)
    (λ fits. let next : suc k ≤ j = l in let least = more m from (suc k) j next in omega arith)
    g.few)
    h.longest

pub one-longest : (m : Movement) (lanes from n k j : ℕ) → IsLongest m lanes from n k → IsLongest m lanes from n j → k ≡ j
one-longest m lanes from n k j h g =
    ⊎_elim
    (λ l. absurd (not-shorter m lanes from n k j h g l))
    (λ r. ⊎_elim (λ l. absurd (not-shorter m lanes from n j k g h l)) (λ q. omega arith) (cases_lt j k))
    (cases_lt k j)

-- ---- a batch

pub some : (m : Movement) (lanes most from : ℕ) → from < (batch_at m lanes most from).after
some m lanes most from = omega arith

pub few : (m : Movement) (lanes most from : ℕ) → ((batch_at m lanes most from).after ≡ from + 1) ⊎ (length (accesses_of_batch m (batch_at m lanes most from)) ≤ lanes)
few m lanes most from = by_length (longest_run m lanes from n) (longest-is m lanes from n)
  where
    n : ℕ
    n = min most (movement_count m - from)

    by_length : (k : ℕ) → IsLongest m lanes from n k → (from + max 1 k ≡ from + 1) ⊎ (length (accesses_between m from (from + max 1 k)) ≤ lanes)
    by_length zero h = inl refl
    by_length (suc k) h =
        let whole : max 1 (suc k) ≡ suc k = omega arith in
        ⊎_elim
        (λ e. absurd (omega arith))
        (λ l. inr (subst (λ x. accesses_in m from x ≤ lanes) (sym whole) l))
        h.few

pub elements : (m : Movement) (lanes most from : ℕ) → 1 ≤ most → (batch_at m lanes most from).after ≤ from + most
elements m lanes most from h = let l = (longest-is m lanes from (min most (movement_count m - from))).most in omega arith

pub within : (m : Movement) (lanes most from : ℕ) → from < movement_count m → (batch_at m lanes most from).after ≤ movement_count m
within m lanes most from h = let l = (longest-is m lanes from (min most (movement_count m - from))).most in omega arith

pub longest : (m : Movement) (lanes most from : ℕ) → (batch_at m lanes most from).after < from + most → (batch_at m lanes most from).after < movement_count m → lanes < length (accesses_between m from ((batch_at m lanes most from).after + 1))
longest m lanes most from past inside =
    let n = min most (movement_count m - from) in
    let k = longest_run m lanes from n in
    ⊎_elim
    (λ e. absurd (omega arith))
    (λ l. let least = more m from (suc k) (max 1 k + 1) (omega arith) in
    let same : from + (max 1 k + 1) ≡ from + max 1 k + 1 = omega arith in
    let at_least : lanes < accesses_in m from (max 1 k + 1) = omega arith in
    subst (λ x. lanes < length (accesses_between m from x)) same at_least)
    (longest-is m lanes from n).longest

-- ---- all of them

next-cases : (m : Movement) (lanes most n from : ℕ) (b : Bool) → (b ≡ true → from < movement_count m) → (b ≡ false → movement_count m ≤ from) → flat_map (accesses_of_batch m) (next_batches m lanes most n (batch_at m lanes most from).after) ≡ accesses_between m (batch_at m lanes most from).after (movement_count m) → flat_map (accesses_of_batch m) (if b then batch_at m lanes most from ∷ next_batches m lanes most n (batch_at m lanes most from).after else []) ≡ accesses_between m from (movement_count m)
next-cases m lanes most n from true t f h =
    let b = batch_at m lanes most from in
    let low = some m lanes most from in
    let high = within m lanes most from (t refl) in
    ap (λ xs. accesses_of_batch m b ++ xs) h
    ∙ between-joined m from b.after (movement_count m) (omega arith) high
next-cases m lanes most n from false t f h =
    let past = f refl in
    let none : movement_count m - from ≡ 0 = omega arith in
    sym (ap (run m from) none)

pub rest-joined : (m : Movement) (lanes most n from : ℕ) → movement_count m ≤ from + n → flat_map (accesses_of_batch m) (next_batches m lanes most n from) ≡ accesses_between m from (movement_count m)
rest-joined m lanes most zero from h = let none : movement_count m - from ≡ 0 = omega arith in sym (ap (run m from) none)
rest-joined m lanes most (suc n) from h =
    let low = some m lanes most from in
    next-cases m lanes most n from (ltb from (movement_count m))
    (ltb-true from (movement_count m))
    (ltb-false from (movement_count m))
    (rest-joined m lanes most n (batch_at m lanes most from).after (omega arith))

none-first : (a b c : Bool) → (a ≡ true → ⊥) → (a && b && c) ≡ false
none-first true b c h = absurd (h refl)
none-first false b c h = refl

before-start : (m : Movement) (i : ℕ) → i < m.at.vstart → accesses_of_element m i ≡ []
before-start m i h =
    let none : takes_part m i ≡ false =
    none-first (leb m.at.vstart i) (ltb i (movement_count m)) (m.i.vm || is_set (element m.at.vlen m.words 0 1 i)) (λ t. let low = leb-true m.at.vstart i t in absurd (omega arith)) in
    ap (λ b. if b then map (access_of m i) (range_with_len 0 (fields_of m)) else []) none

start-joined : (m : Movement) (count : ℕ) → m.at.vstart ≤ count → accesses_between m m.at.vstart count ≡ accesses_between m 0 count
start-joined m count h =
    let none : accesses_between m 0 m.at.vstart ≡ [] = flat_map_none (accesses_of_element m) (range_with_len 0 (m.at.vstart - 0)) (λ i c. let r = range_parts 0 (m.at.vstart - 0) i c in before-start m i (omega arith)) in
    ap (λ xs. xs ++ accesses_between m m.at.vstart count) (sym none)
    ∙ between-joined m 0 m.at.vstart count (omega arith) h

late-none : (m : Movement) (count : ℕ) → count ≤ m.at.vstart → accesses_between m m.at.vstart count ≡ accesses_between m 0 count
late-none m count h =
    let past : count - m.at.vstart ≡ 0 = omega arith in
    ap (run m m.at.vstart) past
    ∙ sym (flat_map_none (accesses_of_element m) (range_with_len 0 (count - 0)) (λ i c. let r = range_parts 0 (count - 0) i c in before-start m i (omega arith)))

pub all-joined : (m : Movement) (lanes most : ℕ) → flat_map (accesses_of_batch m) (batches m lanes most) ≡ access_list m
all-joined m lanes most =
    rest-joined m lanes most (movement_count m) m.at.vstart (omega arith)
    ∙ ⊎_elim (λ l. start-joined m (movement_count m) (omega arith)) (late-none m (movement_count m)) (cases_lt m.at.vstart (movement_count m))
