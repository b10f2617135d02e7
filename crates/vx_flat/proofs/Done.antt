-- Accesses of a vector load or store, done: what they leave, and in what order.
use Rattle.std.proofs.Common.{◌≡◌, ◌≢◌, ℕ, ◌+◌, ◌/◌, ◌%◌, ◌*◌, ◌^◌, ◌<◌, ◌≤◌, Bool, true, false, not, nat_eq, List, [], ◌∷◌, ◌++◌, if◌then◌else◌, refl, sym, ap, ◌∙◌, subst, cond}
use Rattle.std.specs.List.{All, filter}
use Rattle.std.specs.Prelude.{Option, Some, None, is_none}
use Rattle.std.proofs.lemmas.Bool.{false≢true, eqb-true}
use Rattle.std.proofs.lemmas.List.Elements.{All-nil, All-cons, All-head, All-tail}
use Rattle.std.proofs.lemmas.Option.{none-some, same_Some}
use Rattle.vx_base.specs.declared.machine.Want.{Want}
use Rattle.vx_base.specs.Numbers.{little_endian}
use Rattle.vx_image.specs.Pages.{Memory, page_of, permits}
use Rattle.vx_vstate.specs.Registers.{element, with_element, AreApart}
use Rattle.vx_vector.specs.Accesses.{Access, value_stored}
use Rattle.vx_flat.specs.Checks.{cause_of, misaligned, page_fault}
use Rattle.vx_flat.specs.Memory.{byte_at, number_at}
use Rattle.vx_flat.specs.State.{Flat, at_element}
use Rattle.vx_flat.specs.Transfers.{Direction, Failure, access_done, accesses_done, want_of, failure_of, failure_or, first_failure}
use Rattle.vx_flat.specs.Transfers.Direction.{Loading, Storing}
use Rattle.vx_flat.proofs.Puts.{permits-bytes, bytes-stay, length-little_endian}

-- ---- one behind another

pub done-behind : (d : Direction) (xs ys : List Access) (s : Flat) → accesses_done d (xs ++ ys) s ≡ accesses_done d ys (accesses_done d xs s)
done-behind d [] ys s = refl
done-behind d (a ∷ xs) ys s = done-behind d xs ys (access_done d a s)

pub done-at : (k : ℕ) (d : Direction) (l : List Access) (s : Flat) → accesses_done d l (at_element k s) ≡ at_element k (accesses_done d l s)
done-at k d [] s = refl
done-at k Loading (a ∷ l) s = done-at k Loading l (access_done Loading a s)
done-at k Storing (a ∷ l) s = done-at k Storing l (access_done Storing a s)

-- the state with other registers and another memory
abbrev pub with_parts : Flat → (words : List ℕ) → Memory → Flat
with_parts s words memory = record s { v = record s.v { words = words }; memory = memory }

-- no more than these changes
pub done-parts : (d : Direction) (l : List Access) (s : Flat) → accesses_done d l s ≡ with_parts s (accesses_done d l s).v.words (accesses_done d l s).memory
done-parts d [] s = refl
done-parts Loading (a ∷ l) s = done-parts Loading l (access_done Loading a s)
done-parts Storing (a ∷ l) s = done-parts Storing l (access_done Storing a s)

pub loads-memory : (l : List Access) (s : Flat) → (accesses_done Loading l s).memory ≡ s.memory
loads-memory [] s = refl
loads-memory (a ∷ l) s = loads-memory l (access_done Loading a s)

pub stores-words : (l : List Access) (s : Flat) → (accesses_done Storing l s).v.words ≡ s.v.words
stores-words [] s = refl
stores-words (a ∷ l) s = stores-words l (access_done Storing a s)

pub done-permits : (d : Direction) (l : List Access) (s : Flat) (a : ℕ) (want : Want) → permits (accesses_done d l s).memory a want ≡ permits s.memory a want
done-permits d [] s a want = refl
done-permits Loading (x ∷ l) s a want = done-permits Loading l (access_done Loading x s) a want
done-permits Storing (x ∷ l) s a want =
    done-permits Storing l (access_done Storing x s) a want
    ∙ permits-bytes (little_endian x.width (value_stored s.v.vlen s.v.words x)) s.memory x.address a want

-- ---- what stays

-- an access lies on another page than an address, and on one
pub record IsElsewhere (there : ℕ) (a : Access) : Type 0 where
  pub other : page_of a.address ≢ page_of there
  pub fits : a.address % 4096 + a.width ≤ 4096
  pub below : a.address < 2 ^ 64

pub stores-leave : (there : ℕ) (l : List Access) (s : Flat) → All (IsElsewhere there) l → (b : ℕ) → page_of b ≡ page_of there → byte_at (accesses_done Storing l s).memory b ≡ byte_at s.memory b
stores-leave there [] s h b e = refl
stores-leave there (a ∷ l) s h b e =
    let is = All-head (IsElsewhere there) a l h in
    let value = value_stored s.v.vlen s.v.words a in
    let fits = subst (λ n. a.address % 4096 + n ≤ 4096) (sym (length-little_endian a.width value)) is.fits in
    stores-leave there l (access_done Storing a s) (All-tail (IsElsewhere there) a l h) b e
    ∙ bytes-stay (little_endian a.width value) s.memory a.address b (λ q. is.other (q ∙ e)) fits is.below

-- an element that no access lies on stays
pub loads-leave : (other : (vlen : ℕ) (words : List ℕ) (register width index value other_register other_width other_index : ℕ) → AreApart vlen register width index other_register other_width other_index → element vlen (with_element vlen words register width index value) other_register other_width other_index ≡ element vlen words other_register other_width other_index) (l : List Access) (s : Flat) (register width index : ℕ) → All (λ a. AreApart s.v.vlen a.register (8 * a.width) (a.byte / a.width) register width index) l → element s.v.vlen (accesses_done Loading l s).v.words register width index ≡ element s.v.vlen s.v.words register width index
loads-leave other [] s register width index h = refl
loads-leave other (a ∷ l) s register width index h =
    loads-leave other l (access_done Loading a s) register width index (All-tail (λ a. AreApart s.v.vlen a.register (8 * a.width) (a.byte / a.width) register width index) a l h)
    ∙ other s.v.vlen s.v.words a.register (8 * a.width) (a.byte / a.width) (number_at s.memory a.address a.width) register width index (All-head (λ a. AreApart s.v.vlen a.register (8 * a.width) (a.byte / a.width) register width index) a l h)

-- ---- failures

pub failures-alike : (d : Direction) (old new : Memory) → ((a : ℕ) (want : Want) → permits new a want ≡ permits old a want) → (l : List Access) → first_failure d new l ≡ first_failure d old l
failures-alike d old new h [] = refl
failures-alike d old new h (a ∷ l) = λ j. failure_or a (if not (nat_eq (a.address % a.width) 0) then Some (misaligned (want_of d)) else if not (h a.address (want_of d) j) then Some (page_fault (want_of d)) else None) (failures-alike d old new h l j)

neither : (a : Access) (c : Option ℕ) (later : Option Failure) → failure_or a c later ≡ None → (c ≡ None) × (later ≡ None)
neither a (Some cause) later h = absurd (none-some (record { access = a; cause = cause }) (sym h))
neither a None later h = (refl, h)

pub failures-behind : (d : Direction) (memory : Memory) (xs ys : List Access) → first_failure d memory xs ≡ None → first_failure d memory (xs ++ ys) ≡ first_failure d memory ys
failures-behind d memory [] ys h = refl
failures-behind d memory (a ∷ xs) ys h =
    let parts = neither a (failure_of d memory a) (first_failure d memory xs) h in
    ap (λ c. failure_or a c (first_failure d memory (xs ++ ys))) parts.0 ∙ failures-behind d memory xs ys parts.1

pub none-fails : (d : Direction) (memory : Memory) (l : List Access) → first_failure d memory l ≡ None → All (λ a. failure_of d memory a ≡ None) l
none-fails d memory [] h = All-nil (λ a. failure_of d memory a ≡ None)
none-fails d memory (a ∷ l) h =
    let parts = neither a (failure_of d memory a) (first_failure d memory l) h in
    All-cons (λ a. failure_of d memory a ≡ None) a l parts.0 (none-fails d memory l parts.1)

of-failure : (P : Access → Type 0) (a : Access) (c : Option ℕ) (later : Option Failure) (f : Failure) → P a → (later ≡ Some f → P f.access) → failure_or a c later ≡ Some f → P f.access
of-failure P a (Some cause) later f p h e = subst (λ (x : Failure). P x.access) (same_Some (record { access = a; cause = cause }) f e) p
of-failure P a None later f p h e = h e

pub failure-is-one : (P : Access → Type 0) (d : Direction) (memory : Memory) (l : List Access) (f : Failure) → All P l → first_failure d memory l ≡ Some f → P f.access
failure-is-one P d memory [] f h e = absurd (none-some f e)
failure-is-one P d memory (a ∷ l) f h e =
    of-failure P a (failure_of d memory a) (first_failure d memory l) f (All-head P a l h) (failure-is-one P d memory l f (All-tail P a l h)) e

-- what passes the check is aligned, and its page lets it through
pub passes : (memory : Memory) (want : Want) (address width : ℕ) → cause_of memory want address width ≡ None → (address % width ≡ 0) × (permits memory address want ≡ true)
passes memory want address width h = by_tests (nat_eq (address % width) 0) (permits memory address want) (λ e. eqb-true (address % width) 0 e) (λ e. e) h
  where
    by_tests : (p q : Bool) → (p ≡ true → address % width ≡ 0) → (q ≡ true → permits memory address want ≡ true) → (if not p then Some (misaligned want) else if not q then Some (page_fault want) else None) ≡ None → (address % width ≡ 0) × (permits memory address want ≡ true)
    by_tests true true f g e = (f refl, g refl)
    by_tests true false f g e = absurd (none-some (page_fault want) (sym e))
    by_tests false q f g e = absurd (none-some (misaligned want) (sym e))

pub is-none : {A : Type 0} (o : Option A) → is_none o ≡ true → o ≡ None
is-none None h = refl
is-none (Some x) h = absurd (false≢true h)

kept-all : (d : Direction) (memory : Memory) (a : Access) (l : List Access) → failure_of d memory a ≡ None → filter (λ (x : Access). is_none (failure_of d memory x)) (a ∷ l) ≡ a ∷ filter (λ (x : Access). is_none (failure_of d memory x)) l
kept-all d memory a l h = ap (λ (c : Option ℕ). cond (is_none c) (a ∷ filter (λ (x : Access). is_none (failure_of d memory x)) l) (filter (λ (x : Access). is_none (failure_of d memory x)) l)) h

-- where no access fails, all pass
pub all-pass : (d : Direction) (memory : Memory) (l : List Access) → first_failure d memory l ≡ None → filter (λ (x : Access). is_none (failure_of d memory x)) l ≡ l
all-pass d memory [] h = refl
all-pass d memory (a ∷ l) h =
    let parts = neither a (failure_of d memory a) (first_failure d memory l) h in
    kept-all d memory a l parts.0 ∙ ap (λ xs. a ∷ xs) (all-pass d memory l parts.1)
