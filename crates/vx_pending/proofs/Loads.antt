-- Loads and failures: from a memory of which no byte differs, a load gives the same; and where the first access that fails lies.
use Rattle.std.proofs.Common.{◌≡◌, ℕ, ◌<◌, ◌≤◌, List, [], ◌∷◌, ◌++◌, refl, sym, ap, ◌∙◌, subst, arith}
use Rattle.std.specs.List.{All}
use Rattle.std.specs.Prelude.{Option, Some, None}
use Rattle.std.proofs.lemmas.List.Elements.{All-head, All-tail}
use Rattle.std.proofs.lemmas.Option.{none-some, same_Some}
use Rattle.vx_base.specs.Numbers.{from_little_endian}
use Rattle.vx_image.specs.Pages.{Memory}
use Rattle.vx_vector.specs.Accesses.{Access, Movement, access_list, accesses_between, movement_count, with_loaded}
use Rattle.vx_flat.specs.State.{Flat}
use Rattle.vx_flat.specs.Transfers.{Direction, Failure, access_done, accesses_done, failure_of, failure_or, first_failure}
use Rattle.vx_flat.specs.Transfers.Direction.{Loading}
use Rattle.vx_pending.specs.Alike.{HaveSamePages, StandsFor, StandsExactlyFor, with_memory}
use Rattle.vx_pending.proofs.Between.{between_all, all-in-parts}
use Rattle.vx_pending.proofs.Pages.{Agree, all-bytes-alike}

pub loads-memory : (l : List Access) (s : Flat) → (accesses_done Loading l s).memory ≡ s.memory
loads-memory [] s = refl
loads-memory (a ∷ l) s = loads-memory l (access_done Loading a s)

pub loads-alike : (m : Memory) (l : List Access) (s : Flat) → ((c : ℕ) → Agree m s.memory c) → accesses_done Loading l (with_memory m s) ≡ with_memory m (accesses_done Loading l s)
loads-alike m [] s h = refl
loads-alike m (a ∷ l) s h =
    let number = ap from_little_endian (all-bytes-alike m s.memory h a.width a.address) in
    ap (λ n. accesses_done Loading l (record s { memory = m; v = record s.v { words = with_loaded s.v.vlen s.v.words a n } })) number
    ∙ loads-alike m l (access_done Loading a s) h

-- a state with a memory of which no byte differs
pub exactly : (m : Memory) (t : Flat) → HaveSamePages m t.memory → ((c : ℕ) → Agree m t.memory c) → StandsExactlyFor (with_memory m t) t
exactly m t same h = record { is = refl; pages = same; bytes = h }

pub stands : (u t : Flat) → StandsExactlyFor u t → StandsFor u t
stands u t h = record { is = h.is; alike = record { pages = h.pages; bytes = λ c p. h.bytes c } }

-- ---- the first access that fails

of-failure : (P : Access → Type 0) (a : Access) (c : Option ℕ) (later : Option Failure) (f : Failure) → P a → (later ≡ Some f → P f.access) → failure_or a c later ≡ Some f → P f.access
of-failure P a (Some cause) later f p h e = subst (λ (x : Failure). P x.access) (same_Some (record { access = a; cause = cause }) f e) p
of-failure P a None later f p h e = h e

failure-is-one : (P : Access → Type 0) (d : Direction) (memory : Memory) (l : List Access) (f : Failure) → All P l → first_failure d memory l ≡ Some f → P f.access
failure-is-one P d memory [] f h e = absurd (none-some f e)
failure-is-one P d memory (a ∷ l) f h e =
    of-failure P a (failure_of d memory a) (first_failure d memory l) f (All-head P a l h) (failure-is-one P d memory l f (All-tail P a l h)) e

in-front : (a : Access) (c : Option ℕ) (later all : Option Failure) (f : Failure) → (later ≡ Some f → all ≡ Some f) → failure_or a c later ≡ Some f → failure_or a c all ≡ Some f
in-front a (Some cause) later all f h e = e
in-front a None later all f h e = h e

failures-front : (d : Direction) (memory : Memory) (xs ys : List Access) (f : Failure) → first_failure d memory xs ≡ Some f → first_failure d memory (xs ++ ys) ≡ Some f
failures-front d memory [] ys f e = absurd (none-some f e)
failures-front d memory (a ∷ xs) ys f e =
    in-front a (failure_of d memory a) (first_failure d memory xs) (first_failure d memory (xs ++ ys)) f (failures-front d memory xs ys f) e

module _ (d : Direction) (memory : Memory) (m : Movement) (f : Failure) (h : first_failure d memory (access_list m) ≡ Some f) where
  -- it is of an element from vstart on
  pub failure-start : m.at.vstart ≤ f.access.element
  failure-start = failure-is-one (λ x. m.at.vstart ≤ x.element) d memory (access_list m) f (between_all (λ x. m.at.vstart ≤ x.element) m 0 (movement_count m) (λ x field above below start inside. start)) h

  -- and no access of an element before it fails
  pub failure-first : first_failure d memory (accesses_between m 0 f.access.element) ≡ None
  failure-first = by_first (first_failure d memory (accesses_between m 0 f.access.element)) refl
    where
      by_first : (o : Option Failure) → first_failure d memory (accesses_between m 0 f.access.element) ≡ o → first_failure d memory (accesses_between m 0 f.access.element) ≡ None
      by_first None e = e
      by_first (Some g) e =
          let k = f.access.element in
          let all : first_failure d memory (access_list m) ≡ Some g = ap (first_failure d memory) (all-in-parts m k) ∙ failures-front d memory (accesses_between m 0 k) (accesses_between m k (movement_count m)) g e in
          let same : f ≡ g = same_Some f g (sym h ∙ all) in
          let element : f.access.element ≡ g.access.element = ap (λ (x : Failure). x.access.element) same in
          let before : g.access.element < k = failure-is-one (λ x. x.element < k) d memory (accesses_between m 0 k) g (between_all (λ x. x.element < k) m 0 k (λ x field above below start inside. below)) e in
          absurd (omega (arith, element, before))
