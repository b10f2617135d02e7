-- What a vector load or store leaves of memory, and where it fails.
use Rattle.std.proofs.Common.{◌≡◌, ℕ, ◌*◌, ◌/◌, Bool, true, false, ◌&&◌, nat_eq, leb, ltb, List, [], ◌∷◌, ◌++◌, map, if◌then◌else◌, refl, sym, ap, ◌∙◌, subst}
use Rattle.std.specs.Prelude.{Option, Some, None, is_some, is_none, unwrap_or, option_and_then}
use Rattle.std.proofs.lemmas.Bool.{false≢true, true≢false}
use Rattle.vx_image.specs.Images.{entry_of_page}
use Rattle.vx_image.specs.Pages.{Memory, page_numbered, page_of}
use Rattle.vx_vstate.specs.Registers.{is_byte_width}
use Rattle.vx_vector.specs.Accesses as vector
use Rattle.vx_vector.specs.Accesses.{Movement, access_of, access_bits, movement_count, accesses_between, access_list, value_stored}
use Rattle.vx_flat.specs.Checks.{cause_of}
use Rattle.vx_flat.specs.Outcome.{faulted}
use Rattle.vx_flat.specs.Outcome.Outcome.{Next}
use Rattle.vx_flat.specs.Prefix.{transfer_next, prefix_of, prefix_at}
use Rattle.vx_flat.specs.State.{Flat, completed}
use Rattle.vx_flat.specs.Step.{upcoming}
use Rattle.vx_flat.specs.Transfers.{Direction, Transfer, Failure, access_done, accesses_done, want_of, failure_or, first_failure, below_done, trimmed, is_fault_only_first, fails_at, transferred_by, transferred}
use Rattle.vx_flat.specs.Transfers.Direction.{Loading, Storing}
use Rattle.vx_episode.specs.Batches.{is_refused}
use Rattle.vx_episode.specs.Footprint.{Access, moved_access}
use Rattle.vx_dirty.proofs.Instructions.{memory_in}
use Rattle.vx_dirty.proofs.Pages.{by_width, number-elsewhere, number-entries}
use Rattle.vx_dirty.proofs.Ranges.{between-each, element-is}
use Rattle.vx_dirty.proofs.Lists.{Each, head_or, rest_of, is_empty}

-- ---- accesses done

-- a store passes, and doesn't lie on a page
pub record IsApart (n : ℕ) (a : Access) : Type 0 where
  pub accepted : is_refused a ≡ false
  pub apart : nat_eq (page_of a.address) n ≡ false

abbrev Wide : vector.Access → Type 0
Wide a = is_byte_width (8 * a.width) ≡ true

module _ (m : Movement) (n : ℕ) where
  stores-page : (l : List vector.Access) (s : Flat) → Each Wide l → Each (λ a. IsApart n (moved_access Storing m a)) l → page_numbered n (accesses_done Storing l s).memory ≡ page_numbered n s.memory
  stores-page [] s wide apart = refl
  stores-page (a ∷ l) s wide apart =
      stores-page l (access_done Storing a s) wide.1 apart.1
      ∙ number-elsewhere n (moved_access Storing m a) wide.0 apart.0.accepted apart.0.apart s.memory (value_stored s.v.vlen s.v.words a)

loads-memory : (l : List vector.Access) (s : Flat) → (accesses_done Loading l s).memory ≡ s.memory
loads-memory [] s = refl
loads-memory (a ∷ l) s = loads-memory l (access_done Loading a s)

done-entries : (d : Direction) (l : List vector.Access) (s : Flat) → map entry_of_page (accesses_done d l s).memory ≡ map entry_of_page s.memory
done-entries Loading l s = ap (map entry_of_page) (loads-memory l s)
done-entries Storing [] s = refl
done-entries Storing (a ∷ l) s = done-entries Storing l (access_done Storing a s) ∙ number-entries s.memory a.address a.width (value_stored s.v.vlen s.v.words a)

whole-bytes : (w : ℕ) → is_byte_width w ≡ true → is_byte_width (8 * (w / 8)) ≡ true
whole-bytes w h = by_width (λ w. is_byte_width (8 * (w / 8)) ≡ true) w refl refl refl refl h

all-wide : (m : Movement) → is_byte_width (access_bits m) ≡ true → (a b : ℕ) → Each Wide (accesses_between m a b)
all-wide m h a b = between-each m Wide a b (λ x f low high. whole-bytes (access_bits m) h)

-- accesses between two elements, done, leave a page on which no store lies
pub done-page : (d : Direction) (m : Movement) (n : ℕ) → (d ≡ Storing → is_byte_width (access_bits m) ≡ true) → (a b : ℕ) (s : Flat) → (d ≡ Storing → Each (λ x. IsApart n (moved_access d m x)) (accesses_between m a b))
    → page_numbered n (accesses_done d (accesses_between m a b) s).memory ≡ page_numbered n s.memory
done-page Loading m n wide a b s apart = ap (page_numbered n) (loads-memory (accesses_between m a b) s)
done-page Storing m n wide a b s apart = stores-page m n (accesses_between m a b) s (all-wide m (wide refl) a b) (apart refl)

pub below-entries : (t : Transfer) (k : ℕ) (s : Flat) → map entry_of_page (below_done t k s).memory ≡ map entry_of_page s.memory
below-entries t k s = done-entries t.direction (accesses_between t.movement 0 k) s

-- ---- failures

module _ (d : Direction) (m : Movement) (memory : Memory) where
  abbrev moved : List vector.Access → List Access
  moved l = map (moved_access d m) l

  abbrev pub Clear : Access → Type 0
  Clear a = cause_of memory (want_of d) a.address a.width ≡ None

  cause-is : (a : vector.Access) → cause_of memory (want_of d) (moved_access d m a).address (moved_access d m a).width ≡ cause_of memory (want_of d) a.address a.width
  cause-is a = by_direction d
    where
      by_direction : (e : Direction) → cause_of memory (want_of d) (moved_access e m a).address (moved_access e m a).width ≡ cause_of memory (want_of d) a.address a.width
      by_direction Loading = refl
      by_direction Storing = refl

  pub none-fails : (l : List vector.Access) → Each Clear (moved l) → first_failure d memory l ≡ None
  none-fails [] h = refl
  none-fails (a ∷ l) h = ap (λ c. failure_or a c (first_failure d memory l)) (sym (cause-is a) ∙ h.0) ∙ none-fails l h.1

  pub record FailsAt (l : List vector.Access) (element : ℕ) : Type 0 where
    pub failure : Failure
    pub is : first_failure d memory l ≡ Some failure
    pub at : failure.access.element ≡ element

  fails-here : (a : vector.Access) (l : List vector.Access) (c : Option ℕ) → cause_of memory (want_of d) a.address a.width ≡ c → is_some c ≡ true → (first : Access) → moved_access d m a ≡ first → FailsAt (a ∷ l) first.element
  fails-here a l None e h first is = absurd (false≢true h)
  fails-here a l (Some cause) e h first is = record {
    failure = record { access = a; cause = cause };
    is = ap (λ c. failure_or a c (first_failure d memory l)) e;
    at = sym (element-is d m a) ∙ ap (λ (x : Access). x.element) is;
  }

  fails-later : (a : vector.Access) (l : List vector.Access) (element : ℕ) → cause_of memory (want_of d) a.address a.width ≡ None → FailsAt l element → FailsAt (a ∷ l) element
  fails-later a l element e h = record { failure = h.failure; is = ap (λ c. failure_or a c (first_failure d memory l)) e ∙ h.is; at = h.at }

  -- the first that fails, behind accesses that don't
  pub first-fails : (l : List vector.Access) (lower : List Access) (first : Access) (others : List Access) → moved l ≡ lower ++ first ∷ others → Each Clear lower → is_some (cause_of memory (want_of d) first.address first.width) ≡ true → FailsAt l first.element
  first-fails [] [] first others parts clear fails = absurd (true≢false (ap is_empty parts))
  first-fails [] (x ∷ lower) first others parts clear fails = absurd (true≢false (ap is_empty parts))
  first-fails (a ∷ l) [] first others parts clear fails =
      let same : moved_access d m a ≡ first = ap (head_or first) parts in
      fails-here a l (cause_of memory (want_of d) a.address a.width) refl
      (ap is_some (sym (cause-is a)) ∙ ap (λ (x : Access). is_some (cause_of memory (want_of d) x.address x.width)) same ∙ fails) first same
  first-fails (a ∷ l) (x ∷ lower) first others parts clear fails =
      let same : moved_access d m a ≡ x = ap (head_or x) parts in
      fails-later a l first.element
      (sym (cause-is a) ∙ ap (λ (y : Access). cause_of memory (want_of d) y.address y.width) same ∙ clear.0)
      (first-fails l lower first others (ap rest_of parts) clear.1 fails)

-- ---- what it leads to

-- past its last element
pub passes-all : (t : Transfer) (s : Flat) → first_failure t.direction s.memory (access_list t.movement) ≡ None → transferred t s ≡ Next (completed (below_done t (movement_count t.movement) s))
passes-all t s h = ap (transferred_by t s) h

-- a fault-only-first load behind element 0
pub trims-at : (t : Transfer) (s : Flat) (element : ℕ) → FailsAt t.direction t.movement s.memory (access_list t.movement) element → is_fault_only_first t.movement.addressing ≡ true → ltb 0 element ≡ true → transferred t s ≡ Next (completed (trimmed element (below_done t element s)))
trims-at t s element h first late =
    ap (transferred_by t s) h.is
    ∙ ap (λ k. fails_at t s k h.failure.cause h.failure.access.address) h.at
    ∙ (λ j. if first j && late j then Next (completed (trimmed element (below_done t element s))) else faulted (below_done t element s) h.failure.cause h.failure.access.address)

-- where it fails, memory is that with the elements below done
pub memory-fails : (t : Transfer) (s : Flat) (element : ℕ) → FailsAt t.direction t.movement s.memory (access_list t.movement) element → memory_in s (transferred t s) ≡ (below_done t element s).memory
memory-fails t s element h =
    ap (λ o. memory_in s (transferred_by t s o)) h.is
    ∙ ap (λ k. memory_in s (fails_at t s k h.failure.cause h.failure.access.address)) h.at
    ∙ by_test (is_fault_only_first t.movement.addressing && ltb 0 element)
  where
    by_test : (b : Bool) → memory_in s (if b then Next (completed (trimmed element (below_done t element s))) else faulted (below_done t element s) h.failure.cause h.failure.access.address) ≡ (below_done t element s).memory
    by_test true = refl
    by_test false = refl

-- ---- prefixes

-- the memory with the elements below k of what comes next done
abbrev pub memory_within : (k : ℕ) → Flat → Memory
memory_within k s = (unwrap_or (prefix_at k s) s).memory

abbrev pub IfMoves : (Transfer → Type 0) → Option Transfer → Type 0
IfMoves P None = Unit {0}
IfMoves P (Some t) = P t

-- it is what it was, or that with the accesses of a transfer done
pub within-by : (P : Memory → Type 0) (k : ℕ) (s : Flat) (o : Option Transfer) → transfer_next s (upcoming s) ≡ o → P s.memory → IfMoves (λ t. P (below_done t k s).memory) o → P (memory_within k s)
within-by P k s o next same done = by_start (nat_eq k s.v.vstart)
  where
    by_good : (t : Transfer) → P (below_done t k s).memory → (b : Bool) → P (unwrap_or (if b then Some (below_done t k s) else None) s).memory
    by_good t h true = h
    by_good t h false = same

    by_transfer : (o : Option Transfer) → IfMoves (λ t. P (below_done t k s).memory) o → P (unwrap_or (option_and_then (λ (t : Transfer). prefix_of t k s) o) s).memory
    by_transfer None h = same
    by_transfer (Some t) h = by_good t h (leb s.v.vstart k && is_none (first_failure t.direction s.memory (accesses_between t.movement 0 k)))

    by_start : (b : Bool) → P (unwrap_or (if b then Some s else option_and_then (λ (t : Transfer). prefix_of t k s) (transfer_next s (upcoming s))) s).memory
    by_start true = same
    by_start false = subst (λ o. P (unwrap_or (option_and_then (λ (t : Transfer). prefix_of t k s) o) s).memory) (sym next) (by_transfer o done)
