-- Which pages have D behind walks: those that had it, and those for which a store was walked.
use Rattle.std.proofs.Common.{◌≡◌, ℕ, Bool, true, false, ◌&&◌, ◌||◌, nat_eq, List, [], ◌∷◌, if◌then◌else◌, refl, sym, ap, ◌∙◌}
use Rattle.std.specs.List.{list_any}
use Rattle.std.specs.Option.{option_map_or}
use Rattle.std.specs.Prelude.{Option, Some, None, option_map}
use Rattle.std.proofs.lemmas.Bool.{false≢true, eqb-true, eq-eqb}
use Rattle.vx_base.specs.Permissions.{grants}
use Rattle.vx_base.specs.declared.machine.Want.{Want}
use Rattle.vx_image.specs.Pages.{page_of}
use Rattle.vx_tables.specs.Residency.{Place, PlacedPage, Residency, placed, with_place, is_store, touched, after_walk}
use Rattle.vx_tables.specs.Residency.Place.{Away, Present}
use Rattle.vx_episode.specs.History.{Walk, after_walks}
use Rattle.vx_dirty.specs.Dirty.{is_dirty, is_dirty_at}

-- ---- a page at another place

abbrev moved_if : Bool → Place → PlacedPage → PlacedPage
moved_if b place p = if b then record p { place = place } else p

number-stays : (b : Bool) (place : Place) (p : PlacedPage) → (moved_if b place p).entry.page ≡ p.entry.page
number-stays true place p = refl
number-stays false place p = refl

placed-elsewhere : (n m : ℕ) (place : Place) → nat_eq m n ≡ false → (residency : Residency) → placed n (with_place m place residency) ≡ placed n residency
placed-elsewhere n m place apart [] = refl
placed-elsewhere n m place apart (p ∷ residency) =
    let later = placed n (with_place m place residency) in
    ap (λ x. if nat_eq x n then Some (moved_if (nat_eq p.entry.page m) place p) else later) (number-stays (nat_eq p.entry.page m) place p)
    ∙ by_tests (nat_eq p.entry.page m) (nat_eq p.entry.page n)
    (λ a b. false≢true (sym apart ∙ eq-eqb m n (sym (eqb-true p.entry.page m a) ∙ eqb-true p.entry.page n b)))
    later (placed n residency) (placed-elsewhere n m place apart residency)
  where
    by_tests : (a b : Bool) → (a ≡ true → b ≡ true → ⊥) → (later now : Option PlacedPage) → later ≡ now → (if b then Some (moved_if a place p) else later) ≡ (if b then Some p else now)
    by_tests true true none later now h = absurd (none refl refl)
    by_tests false true none later now h = refl
    by_tests true false none later now h = h
    by_tests false false none later now h = h

abbrev at_place : Place → PlacedPage → PlacedPage
at_place place p = record p { place = place }

placed-there : (n : ℕ) (place : Place) (residency : Residency) → placed n (with_place n place residency) ≡ option_map (at_place place) (placed n residency)
placed-there n place [] = refl
placed-there n place (p ∷ residency) =
    let later = placed n (with_place n place residency) in
    ap (λ x. if nat_eq x n then Some (moved_if (nat_eq p.entry.page n) place p) else later) (number-stays (nat_eq p.entry.page n) place p)
    ∙ by_test (nat_eq p.entry.page n) later (placed n residency) (placed-there n place residency)
  where
    by_test : (b : Bool) (later now : Option PlacedPage) → later ≡ option_map (at_place place) now → (if b then Some (moved_if b place p) else later) ≡ option_map (at_place place) (if b then Some p else now)
    by_test true later now h = refl
    by_test false later now h = h

-- ---- behind one walk

abbrev touched_page : Want → PlacedPage → PlacedPage
touched_page want p = record p { place = touched p.entry.perm.bits want p.place }

-- the page of a number behind a walk
placed-behind : (n : ℕ) (residency : Residency) (address : ℕ) (want : Want) → placed n (after_walk residency address want) ≡ (if nat_eq (page_of address) n then option_map (touched_page want) (placed n residency) else placed n residency)
unfolding after_walk
placed-behind n residency address want = by_page (placed (page_of address) residency) refl (nat_eq (page_of address) n) refl
  where
    after : Option PlacedPage → Residency
    after o = option_map_or (λ (p : PlacedPage). with_place (page_of address) (touched p.entry.perm.bits want p.place) residency) o residency

    same : (b : Bool) (o : Option PlacedPage) → o ≡ None → o ≡ (if b then option_map (touched_page want) o else o)
    same true o h = h ∙ sym (ap (option_map (touched_page want)) h)
    same false o h = refl

    at : (m : ℕ) → nat_eq m n ≡ true → m ≡ n
    at m h = eqb-true m n h

    by_page : (o : Option PlacedPage) → placed (page_of address) residency ≡ o → (b : Bool) → nat_eq (page_of address) n ≡ b
        → placed n (option_map_or (λ (p : PlacedPage). with_place (page_of address) (touched p.entry.perm.bits want p.place) residency) o residency) ≡ (if b then option_map (touched_page want) (placed n residency) else placed n residency)
    by_page None is true eq =
        let here : placed n residency ≡ None = ap (λ m. placed m residency) (sym (at (page_of address) eq)) ∙ is in
        same true (placed n residency) here
    by_page None is false eq = refl
    by_page (Some p) is true eq =
        let here : placed n residency ≡ Some p = ap (λ m. placed m residency) (sym (at (page_of address) eq)) ∙ is in
        let place = touched p.entry.perm.bits want p.place in
        ap (λ m. placed n (with_place m place residency)) (at (page_of address) eq)
        ∙ placed-there n place residency
        ∙ ap (option_map (at_place place)) here
        ∙ sym (ap (option_map (touched_page want)) here)
    by_page (Some p) is false eq = placed-elsewhere n (page_of address) (touched p.entry.perm.bits want p.place) eq residency

-- the page of a number grants an access
abbrev pub lets : Residency → (page : ℕ) → Want → Bool
lets residency page want = option_map_or (λ (p : PlacedPage). grants p.entry.perm.bits want) (placed page residency) false

abbrev pub is_present : Place → Bool
is_present Away = false
is_present (Present frame accessed dirty) = true

-- it is in a frame too
abbrev pub takes : Residency → (page : ℕ) → Want → Bool
takes residency page want = option_map_or (λ (p : PlacedPage). is_present p.place && grants p.entry.perm.bits want) (placed page residency) false

-- a walk of a page, for a store that it takes, sets D
abbrev pub sets : Residency → (page address : ℕ) → Want → Bool
sets residency page address want = nat_eq (page_of address) page && (is_store want && takes residency page want)

abbrev dirty_of : Option PlacedPage → Bool
dirty_of o = option_map_or (λ (p : PlacedPage). is_dirty_at p.place) o false

abbrev granted_of : Want → Option PlacedPage → Bool
granted_of want o = option_map_or (λ (p : PlacedPage). grants p.entry.perm.bits want) o false

abbrev taken_of : Want → Option PlacedPage → Bool
taken_of want o = option_map_or (λ (p : PlacedPage). is_present p.place && grants p.entry.perm.bits want) o false

module _ (want : Want) where
  touched-dirty : (bits : ℕ) (place : Place) → is_dirty_at (touched bits want place) ≡ (is_dirty_at place || (is_store want && (is_present place && grants bits want)))
  touched-dirty bits Away = none (is_store want) (grants bits want)
    where
      none : (s g : Bool) → false ≡ (false || (s && (false && g)))
      none true true = refl
      none true false = refl
      none false true = refl
      none false false = refl
  touched-dirty bits (Present frame accessed dirty) = by_test (grants bits want) (is_store want) dirty
    where
      by_test : (g s d : Bool) → is_dirty_at (if g then Present frame true (d || s) else Present frame accessed d) ≡ (d || (s && (true && g)))
      by_test true true true = refl
      by_test true true false = refl
      by_test true false true = refl
      by_test true false false = refl
      by_test false true true = refl
      by_test false true false = refl
      by_test false false true = refl
      by_test false false false = refl

  touched-present : (bits : ℕ) (place : Place) → is_present (touched bits want place) ≡ is_present place
  touched-present bits Away = refl
  touched-present bits (Present frame accessed dirty) = by_test (grants bits want)
    where
      by_test : (g : Bool) → is_present (if g then Present frame true (dirty || is_store want) else Present frame accessed dirty) ≡ true
      by_test true = refl
      by_test false = refl

  kept : (b : Bool) → b ≡ (b || false)
  kept true = refl
  kept false = refl

  none-stored : (b s : Bool) → false ≡ (false || (b && (s && false)))
  none-stored true true = refl
  none-stored true false = refl
  none-stored false true = refl
  none-stored false false = refl

  dirty-one : (b : Bool) (o : Option PlacedPage) → dirty_of (if b then option_map (touched_page want) o else o) ≡ (dirty_of o || (b && (is_store want && taken_of want o)))
  dirty-one true None = none-stored true (is_store want)
  dirty-one true (Some p) = touched-dirty p.entry.perm.bits p.place
  dirty-one false o = kept (dirty_of o)

  granted-one : (b : Bool) (other : Want) (o : Option PlacedPage) → granted_of other (if b then option_map (touched_page want) o else o) ≡ granted_of other o
  granted-one true other None = refl
  granted-one true other (Some p) = refl
  granted-one false other o = refl

  taken-one : (b : Bool) (other : Want) (o : Option PlacedPage) → taken_of other (if b then option_map (touched_page want) o else o) ≡ taken_of other o
  taken-one true other None = refl
  taken-one true other (Some p) = ap (λ b. b && grants p.entry.perm.bits other) (touched-present p.entry.perm.bits p.place)
  taken-one false other o = refl

dirty-behind : (n : ℕ) (residency : Residency) (address : ℕ) (want : Want) → is_dirty n (after_walk residency address want) ≡ (is_dirty n residency || sets residency n address want)
dirty-behind n residency address want = ap dirty_of (placed-behind n residency address want) ∙ dirty-one want (nat_eq (page_of address) n) (placed n residency)

lets-behind : (n : ℕ) (residency : Residency) (address : ℕ) (want other : Want) → lets (after_walk residency address want) n other ≡ lets residency n other
lets-behind n residency address want other = ap (granted_of other) (placed-behind n residency address want) ∙ granted-one want (nat_eq (page_of address) n) other (placed n residency)

takes-behind : (n : ℕ) (residency : Residency) (address : ℕ) (want other : Want) → takes (after_walk residency address want) n other ≡ takes residency n other
takes-behind n residency address want other = ap (taken_of other) (placed-behind n residency address want) ∙ taken-one want (nat_eq (page_of address) n) other (placed n residency)

-- ---- behind some walks

pub lets-all : (residency : Residency) (walks : List Walk) (n : ℕ) (other : Want) → lets (after_walks residency walks) n other ≡ lets residency n other
lets-all residency [] n other = refl
lets-all residency (w ∷ walks) n other = lets-behind n (after_walks residency walks) w.address w.want other ∙ lets-all residency walks n other

pub takes-all : (residency : Residency) (walks : List Walk) (n : ℕ) (other : Want) → takes (after_walks residency walks) n other ≡ takes residency n other
takes-all residency [] n other = refl
takes-all residency (w ∷ walks) n other = takes-behind n (after_walks residency walks) w.address w.want other ∙ takes-all residency walks n other

-- a walk that set D of a page
abbrev pub dirties : Residency → (page : ℕ) → Walk → Bool
dirties residency page w = sets residency page w.address w.want

either-order : (c s x : Bool) → ((c || x) || s) ≡ (c || (s || x))
either-order true true true = refl
either-order true true false = refl
either-order true false true = refl
either-order true false false = refl
either-order false true true = refl
either-order false true false = refl
either-order false false true = refl
either-order false false false = refl

-- a page has D where it had it, or a walk set it
pub dirty-all : (residency : Residency) (n : ℕ) (walks : List Walk) → is_dirty n (after_walks residency walks) ≡ (is_dirty n residency || list_any (dirties residency n) walks)
dirty-all residency n [] = or-false (is_dirty n residency)
  where
    or-false : (b : Bool) → b ≡ (b || false)
    or-false true = refl
    or-false false = refl
dirty-all residency n (w ∷ walks) =
    dirty-behind n (after_walks residency walks) w.address w.want
    ∙ (λ j. dirty-all residency n walks j || (nat_eq (page_of w.address) n && (is_store w.want && takes-all residency walks n w.want j)))
    ∙ either-order (is_dirty n residency) (dirties residency n w) (list_any (dirties residency n) walks)
