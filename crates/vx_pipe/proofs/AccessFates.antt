-- The fates of accesses agree with the flat machine: those that are good don't fail there, and those that fail do, on pages that are
-- present.
use Rattle.std.proofs.Common.{◌≡◌, ℕ, ◌==◌, nat_eq, Bool, true, false, List, [], ◌∷◌, refl, sym, ap, subst, ◌∙◌, arith}
use Rattle.std.specs.Prelude.{All, find, not, ◌&&◌, ◌||◌, ◌%◌, Option, Some, None, if◌then◌else◌}
use Rattle.std.specs.Option.{option_map_or}
use Rattle.std.proofs.lemmas.Bool.{eqb-true}
use Rattle.std.proofs.lemmas.List.Elements.{All-head, All-tail, All-cons}
use Rattle.vx_base.specs.declared.machine.Want.{Want}
use Rattle.vx_base.specs.declared.perm.PageEntry.{PageEntry}
use Rattle.vx_flat.specs.Checks.{cause_of, misaligned, page_fault}
use Rattle.vx_image.specs.Pages.{Memory, is_canonical, is_granted, page_of}
use Rattle.vx_look.specs.Fetches.{is_away}
use Rattle.vx_tables.specs.Residency.{IsOf, Place, PlacedPage, Residency, found_at, page_map, pages_of, placed}
use Rattle.vx_tables.specs.Residency.Place.{Away, Present}
use Rattle.vx_tables.specs.declared.look.Look.{Look}
use Rattle.vx_tables.specs.declared.look.Look.TheVariants.{Hit, Denied, Miss}
use Rattle.vx_tables.specs.declared.walked.Walked.{Walked}
use Rattle.vx_tables.specs.declared.walked.Walked.TheVariants as walked
use Rattle.vx_base.specs.Permissions.{grants}
use Rattle.vx_episode.specs.Batches.{Fate, fate_by_walk, fate_looked, fate_of, fate_walked, is_failing, is_of_page, is_unknown, look_of, walk_behind, walks_of, walks_with}
use Rattle.vx_episode.specs.Batches.Fate.{Good, Fails, Unknown}
use Rattle.vx_episode.specs.Footprint.{Access}
use Rattle.vx_episode.specs.History.{History, Walk, BatchTimes, fills_of, after_walks, walks_of_batches}
use Rattle.vx_episode.specs.Organisation.{Start, data_entries}
use Rattle.vx_pipe.specs.Present.{IsPresent, ArePresent}
use Rattle.vx_pipe.proofs.AccessTruths.{AreAnswered, IsAnswered, LookSays, PagesStay, Says, answer-says, fills-true, granted, grants_of, look-says}

-- ---- pages that are present

away-granted : (b : Bool) (frame bits : ℕ) (dirty : Bool) → is_away (if b then walked.Leaf frame (record { bits = bits }) dirty else walked.Denied) ≡ false
away-granted true frame bits dirty = refl
away-granted false frame bits dirty = refl

away-at : (bits : ℕ) (want : Want) (place : Place) → IsPresent place → is_away (found_at bits want place) ≡ false
away-at bits want Away h = absurd h
away-at bits want (Present frame accessed dirty) h = away-granted (grants bits want) frame bits _

away-if : (b : Bool) (want : Want) (p : PlacedPage) (later : Option PlacedPage) → IsPresent p.place
    → is_away (option_map_or (λ (p : PlacedPage). found_at p.entry.perm.bits want p.place) later walked.Denied) ≡ false
    → is_away (option_map_or (λ (p : PlacedPage). found_at p.entry.perm.bits want p.place) (if b then Some p else later) walked.Denied) ≡ false
away-if true want p later h rest = away-at p.entry.perm.bits want p.place h
away-if false want p later h rest = rest

away-in : (number : ℕ) (want : Want) (residency : Residency) → ArePresent residency → is_away (option_map_or (λ (p : PlacedPage). found_at p.entry.perm.bits want p.place) (placed number residency) walked.Denied) ≡ false
away-in number want [] h = refl
away-in number want (p ∷ residency) h =
    away-if (nat_eq p.entry.page number) want p (placed number residency) (All-head (λ (p : PlacedPage). IsPresent p.place) p residency h)
    (away-in number want residency (All-tail (λ (p : PlacedPage). IsPresent p.place) p residency h))

pub not-away : (residency : Residency) (address : ℕ) (want : Want) → ArePresent residency → is_away (page_map residency address want) ≡ false
unfolding page_map
not-away residency address want h = away-in (page_of address) want residency h

abbrev pub StayThere : Type 0
StayThere = (residency : Residency) (address : ℕ) (want : Want) (walks : List Walk) → is_away (page_map (after_walks residency walks) address want) ≡ is_away (page_map residency address want)

answer-there : StayThere → (residency : Residency) (w : Walk) → ArePresent residency → IsAnswered residency w → is_away w.answer ≡ false
answer-there stay residency w present h = ap is_away h.1 ∙ stay residency w.address w.want h.0 ∙ not-away residency w.address w.want present

-- ---- the walks of a batch

module _ (P : Walk → Type 0) (start : Start) (history : History) (before : List BatchTimes) (want : Want) (started : ℕ) (each : (walks : List Walk) (a : Access) → P (walk_behind start history before want started walks a)) where
  all-with : (b : Bool) (walks : List Walk) (a : Access) → All P walks → All P (if b then walk_behind start history before want started walks a ∷ walks else walks)
  all-with true walks a h = All-cons P (walk_behind start history before want started walks a) walks (each walks a) h
  all-with false walks a h = h

  all-if : (b : Bool) (one all : List Walk) → All P one → All P all → All P (elim b as (λ _. List Walk) [ true ↦ one | false ↦ all ])
  all-if true one all h g = h
  all-if false one all h g = g

  all-behind : (walks : List Walk) (accesses : List Access) → All P walks → All P (walks_of start history before want started walks accesses)
  all-behind walks [] h = h
  all-behind walks (a ∷ accesses) h =
      let one = all-with (is_unknown (fate_of start history before want started walks a)) walks a h in
      all-if (is_failing (fate_of start history before want started (walks_with start history before want started walks a) a)) (walks_with start history before want started walks a)
      (walks_of start history before want started (walks_with start history before want started walks a) accesses) one
      (all-behind (walks_with start history before want started walks a) accesses one)

-- a walk of a batch that wants this
abbrev pub IsOwnWalk : Residency → Want → Walk → Type 0
IsOwnWalk residency want w = IsAnswered residency w × (w.want ≡ want)

pub own-walks : (start : Start) (history : History) (before : List BatchTimes) (want : Want) (started : ℕ) (accesses : List Access) → All (IsOwnWalk start.residency want) (walks_of start history before want started [] accesses)
own-walks start history before want started accesses =
    all-behind (IsOwnWalk start.residency want) start history before want started (λ walks a. ((_, refl), refl)) [] accesses (λ k d less. absurd (omega arith))

-- ---- fates

-- what a fate says of whether the access is granted
abbrev FateSays : Bool → Fate → Type 0
FateSays g (Good cycle word) = g ≡ true
FateSays g (Fails cycle is_away) = (is_away ≡ false) × (g ≡ false)
FateSays g Unknown = Unit {0}

walked-says : (a : Access) (ended : ℕ) (want : Want) (g : Want → Bool) (answer : Walked) → is_away answer ≡ false → Says g want answer → FateSays (g want) (fate_walked a ended answer)
walked-says a ended want g (walked.Leaf frame perm dirty) there h = h.1
walked-says a ended want g walked.Away there h = absurd (cc)
walked-says a ended want g walked.Denied there h = (refl, h)

module _ (pages : PagesStay) (stay : StayThere) (residency : Residency) (present : ArePresent residency) (want : Want) (a : Access) where
  abbrev grant : Bool
  grant = grants_of (pages_of residency) (page_of a.address) want

  one-says : (w : Walk) → IsOwnWalk residency want w → page_of w.address ≡ page_of a.address → FateSays grant (fate_walked a w.ended w.answer)
  one-says w h same =
      let its : FateSays (grants_of (pages_of residency) (page_of w.address) w.want) (fate_walked a w.ended w.answer) =
      walked-says a w.ended w.want (grants_of (pages_of residency) (page_of w.address)) w.answer (answer-there stay residency w present h.0) (answer-says pages residency w h.0) in
      subst (λ (b : Bool). FateSays b (fate_walked a w.ended w.answer)) (λ i. grants_of (pages_of residency) (same i) (h.1 i)) its

  found-if : (b : Bool) (w : Walk) (later : Option Walk) → nat_eq (page_of w.address) (page_of a.address) ≡ b → IsOwnWalk residency want w → FateSays grant (fate_by_walk a later) → FateSays grant (fate_by_walk a (if b then Some w else later))
  found-if true w later same h rest = one-says w h (eqb-true (page_of w.address) (page_of a.address) same)
  found-if false w later same h rest = rest

  found-says : (walks : List Walk) → All (IsOwnWalk residency want) walks → FateSays grant (fate_by_walk a (find (is_of_page (page_of a.address)) walks))
  found-says [] all = tt
  found-says (w ∷ walks) all =
      found-if (nat_eq (page_of w.address) (page_of a.address)) w (find (is_of_page (page_of a.address)) walks) refl (All-head (IsOwnWalk residency want) w walks all)
      (found-says walks (All-tail (IsOwnWalk residency want) w walks all))

  looked-says : (started : ℕ) (walks : List Walk) (l : Look) → All (IsOwnWalk residency want) walks → LookSays grant l → FateSays grant (fate_looked started walks a l)
  looked-says started walks (Hit frame) all h = h
  looked-says started walks Denied all h = (refl, h)
  looked-says started walks Miss all h = found-says walks all

-- ---- the flat machine

-- the access fails for a cause there, or it doesn't, as its fate says
abbrev pub Agrees : (cause : Option ℕ) → Fate → Type 0
Agrees cause (Good cycle word) = cause ≡ None
Agrees cause (Fails cycle is_away) = (is_away ≡ false) × ((n : ℕ) × (cause ≡ Some n))
Agrees cause Unknown = Unit {0}

agree-by : (aligned canonical g : Bool) (m p started : ℕ) (fate : Fate) → FateSays g fate
    → Agrees (if not aligned then Some m else if not (canonical && g) then Some p else None) (if not aligned || not canonical then Fails started false else fate)
agree-by false canonical g m p started fate h = (refl, (m, refl))
agree-by true false g m p started fate h = (refl, (p, refl))
agree-by true true g m p started (Good cycle word) h = ap (λ (b : Bool). if not b then Some p else None) h
agree-by true true g m p started (Fails cycle is_away) h = (h.0, (p, ap (λ (b : Bool). if not b then Some p else None) h.1))
agree-by true true g m p started Unknown h = tt

pub fate-agrees : PagesStay → StayThere → (start : Start) (history : History) (before : List BatchTimes) (want : Want) (started : ℕ) (walks : List Walk) (a : Access) (memory : Memory) → ArePresent start.residency → IsOf start.residency memory
    → AreAnswered start.residency (walks_of_batches before) → All (IsOwnWalk start.residency want) walks
    → Agrees (cause_of memory want a.address a.width) (fate_of start history before want started walks a)
fate-agrees pages stay start history before want started walks a memory present of answered own =
    let grants-is : grants_of (pages_of start.residency) (page_of a.address) want ≡ is_granted memory a.address want =
    ap (λ (entries : List PageEntry). grants_of entries (page_of a.address) want) of ∙ sym (granted memory a.address want) in
    let says : FateSays (grants_of (pages_of start.residency) (page_of a.address) want) (fate_looked started walks a (look_of start history before want started a)) =
    looked-says pages stay start.residency present want a started walks (look_of start history before want started a) own
    (look-says (pages_of start.residency) data_entries (page_of a.address) want _ (fills_of (walks_of_batches before)) (fills-true pages start.residency (walks_of_batches before) answered)) in
    agree-by (a.address % a.width == 0) (is_canonical a.address) (is_granted memory a.address want) (misaligned want) (page_fault want) started (fate_looked started walks a (look_of start history before want started a))
    (subst (λ (b : Bool). FateSays b (fate_looked started walks a (look_of start history before want started a))) grants-is says)
