-- The words that loads leave.
use Rattle.std.proofs.Common.{◌≡◌, ◌≢◌, ℕ, ◌*◌, ◌/◌, ◌^◌, ◌<◌, IsTrue, Bool, cond, nat_eq, List, [], ◌∷◌, length, fold, slice_index, refl, sym, ap, ◌∙◌, subst, ⊎_elim}
use Rattle.std.specs.List.{Contains, filter}
use Rattle.std.proofs.lemmas.Bool.{cases_eq, eq-eqb, ne_eqb}
use Rattle.std.proofs.lemmas.List.{get_or-set_same, get_or-set_other, length-set}
use Rattle.vx_vstate.specs.Registers.{with_element, is_byte_width, is_element_width}
use Rattle.vx_vector.specs.Accesses.{Access, with_loaded}
use Rattle.vx_vector.specs.Batches.{place_of_access}
use Rattle.vx_vector.specs.Movements.{after_loads, with_access, loaded_word}
use Rattle.vx_vector.proofs.Legality.{as_width}
use Rattle.vx_vector.proofs.Members.{member_first, member_rest}

pub count-stays : (vlen : ℕ) (value : Access → ℕ) (accesses : List Access) (words : List ℕ) → length (after_loads vlen value words accesses) ≡ length words
count-stays vlen value [] words = refl
count-stays vlen value (a ∷ later) words =
    count-stays vlen value later (with_loaded vlen words a (value a))
    ∙ length-set words (place_of_access vlen a) (with_access vlen value (slice_index words (place_of_access vlen a)) a)

-- a word as one more access leaves it
one-more : (vlen : ℕ) (value : Access → ℕ) (a : Access) (later : List Access) (words : List ℕ) (place : ℕ) → place < length words → loaded_word vlen value place (slice_index (with_loaded vlen words a (value a)) place) later ≡ loaded_word vlen value place (slice_index words place) (a ∷ later)
one-more vlen value a later words place h = ⊎_elim same other (cases_eq (place_of_access vlen a) place)
  where
    p : ℕ
    p = place_of_access vlen a

    rest : List Access
    rest = filter (λ x. nat_eq (place_of_access vlen x) place) later

    chosen : Bool → ℕ
    chosen t = fold (with_access vlen value) (slice_index words place) (cond t (a ∷ rest) rest)

    same : p ≡ place → loaded_word vlen value place (slice_index (with_loaded vlen words a (value a)) place) later ≡ chosen (nat_eq p place)
    same e =
        let inside : p < length words = subst (λ k. k < length words) (sym e) h in
        let set = get_or-set_same words p (with_access vlen value (slice_index words p) a) 0 inside in
        let set_there : slice_index (with_loaded vlen words a (value a)) place ≡ with_access vlen value (slice_index words place) a =
        subst (λ k. slice_index (with_loaded vlen words a (value a)) k ≡ with_access vlen value (slice_index words k) a) e set in
        ap (λ w. loaded_word vlen value place w later) set_there ∙ ap chosen (sym (eq-eqb p place e))

    other : p ≢ place → loaded_word vlen value place (slice_index (with_loaded vlen words a (value a)) place) later ≡ chosen (nat_eq p place)
    other ne =
        ap (λ w. loaded_word vlen value place w later) (get_or-set_other words p place (with_access vlen value (slice_index words p) a) 0 (λ e. ne (sym e)))
        ∙ ap chosen (sym (ne_eqb p place ne))

pub word-loaded : (vlen : ℕ) (value : Access → ℕ) (accesses : List Access) (words : List ℕ) (place : ℕ) → place < length words → slice_index (after_loads vlen value words accesses) place ≡ loaded_word vlen value place (slice_index words place) accesses
word-loaded vlen value [] words place h = refl
word-loaded vlen value (a ∷ later) words place h =
    let count = length-set words (place_of_access vlen a) (with_access vlen value (slice_index words (place_of_access vlen a)) a) in
    word-loaded vlen value later (with_loaded vlen words a (value a)) place (subst (λ n. place < n) (sym count) h)
    ∙ one-more vlen value a later words place h

pub outside-loads : (vlen : ℕ) (value : Access → ℕ) (accesses : List Access) (words : List ℕ) (place : ℕ) → ((a : Access) → Contains accesses a → place_of_access vlen a ≢ place) → slice_index (after_loads vlen value words accesses) place ≡ slice_index words place
outside-loads vlen value [] words place h = refl
outside-loads vlen value (a ∷ later) words place h =
    outside-loads vlen value later (with_loaded vlen words a (value a)) place (λ x c. h x (member_rest a later x c))
    ∙ get_or-set_other words (place_of_access vlen a) place (with_access vlen value (slice_index words (place_of_access vlen a)) a) 0 (λ e. h a (member_first a later) (sym e))

pub bits-stay : (bits : (vlen : ℕ) (words : List ℕ) (register width index value place : ℕ) → IsTrue (is_element_width width) → slice_index words place < 2 ^ 64 → slice_index (with_element vlen words register width index value) place < 2 ^ 64) (vlen : ℕ) (value : Access → ℕ) (accesses : List Access) (words : List ℕ) (place : ℕ) → ((a : Access) → Contains accesses a → IsTrue (is_byte_width (8 * a.width))) → slice_index words place < 2 ^ 64 → slice_index (after_loads vlen value words accesses) place < 2 ^ 64
bits-stay bits vlen value [] words place h l = l
bits-stay bits vlen value (a ∷ later) words place h l =
    bits-stay bits vlen value later (with_loaded vlen words a (value a)) place (λ x c. h x (member_rest a later x c))
    (bits vlen words a.register (8 * a.width) (a.byte / a.width) (value a) place (as_width (8 * a.width) (h a (member_first a later))) l)
