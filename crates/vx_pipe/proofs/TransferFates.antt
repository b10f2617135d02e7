-- What is known of a batch's accesses once its walks have ended: something of each, where none fails.
use Rattle.std.proofs.Common.{◌≡◌, ℕ, ◌+◌, Bool, true, false, List, [], ◌∷◌, refl, ap, arith}
use Rattle.std.specs.Prelude.{map, find, Option, Some, None, if◌then◌else◌}
use Rattle.std.proofs.lemmas.Bool.{eq-eqb}
use Rattle.std.proofs.lemmas.List.Elements.{All-cons}
use Rattle.vx_base.specs.declared.machine.Want.{Want}
use Rattle.vx_image.specs.Pages.{page_of}
use Rattle.vx_tables.specs.declared.look.Look.{Look}
use Rattle.vx_tables.specs.declared.look.Look.TheVariants.{Hit, Denied, Miss}
use Rattle.vx_tables.specs.declared.walked.Walked.{Walked}
use Rattle.vx_tables.specs.declared.walked.Walked.TheVariants as walked
use Rattle.vx_episode.specs.Batches.{Fate, is_refused, fate_walked, fate_by_walk, fate_looked, is_of_page, is_failing, is_unknown, look_of, fate_of, walk_behind, walks_with, walks_of}
use Rattle.vx_episode.specs.Batches.Fate.{Good, Fails, Unknown}
use Rattle.vx_episode.specs.Footprint.{Access}
use Rattle.vx_episode.specs.History.{History, Walk, BatchTimes}
use Rattle.vx_episode.specs.Organisation.{Start}
use Rattle.vx_serve.specs.InTurn.{is_good, AreGood}
use Rattle.vx_serve.specs.Serving.{failing_from}

-- ---- fates

walked-known : (a : Access) (ended : ℕ) (answer : Walked) → is_unknown (fate_walked a ended answer) ≡ false
walked-known a ended (walked.Leaf frame perm dirty) = refl
walked-known a ended walked.Away = refl
walked-known a ended walked.Denied = refl

found-known : (a : Access) (w : Walk) (later : Option Walk) (b : Bool) → is_unknown (fate_by_walk a later) ≡ false → is_unknown (fate_by_walk a (if b then Some w else later)) ≡ false
found-known a w later true h = walked-known a w.ended w.answer
found-known a w later false h = h

looked-more : (started : ℕ) (w : Walk) (walks : List Walk) (a : Access) (l : Look) → is_unknown (fate_looked started walks a l) ≡ false → is_unknown (fate_looked started (w ∷ walks) a l) ≡ false
looked-more started w walks a (Hit frame) h = refl
looked-more started w walks a Denied h = refl
looked-more started w walks a Miss h = found-known a w (find (is_of_page (page_of a.address)) walks) (is_of_page (page_of a.address) w) h

refused-more : (started : ℕ) (w : Walk) (walks : List Walk) (a : Access) (l : Look) (b : Bool) → is_unknown (if b then Fails started false else fate_looked started walks a l) ≡ false → is_unknown (if b then Fails started false else fate_looked started (w ∷ walks) a l) ≡ false
refused-more started w walks a l true h = refl
refused-more started w walks a l false h = looked-more started w walks a l h

own-found : (a : Access) (w : Walk) (later : Option Walk) (b : Bool) → b ≡ true → is_unknown (fate_by_walk a (if b then Some w else later)) ≡ false
own-found a w later true e = walked-known a w.ended w.answer
own-found a w later false e = absurd (cc)

own-looked : (started : ℕ) (w : Walk) (walks : List Walk) (a : Access) (l : Look) → w.address ≡ a.address → is_unknown (fate_looked started (w ∷ walks) a l) ≡ false
own-looked started w walks a (Hit frame) e = refl
own-looked started w walks a Denied e = refl
own-looked started w walks a Miss e =
    own-found a w (find (is_of_page (page_of a.address)) walks) (is_of_page (page_of a.address) w) (eq-eqb (page_of w.address) (page_of a.address) (ap page_of e))

own-refused : (started : ℕ) (w : Walk) (walks : List Walk) (a : Access) (l : Look) (b : Bool) → w.address ≡ a.address → is_unknown (if b then Fails started false else fate_looked started (w ∷ walks) a l) ≡ false
own-refused started w walks a l true e = refl
own-refused started w walks a l false e = own-looked started w walks a l e

good-by : (f : Fate) → is_failing f ≡ false → is_unknown f ≡ false → is_good f ≡ true
good-by (Good cycle word) fails unknown = refl
good-by (Fails cycle is_away) fails unknown = absurd (cc)
good-by Unknown fails unknown = absurd (cc)

none-from : (number : ℕ) (f : Fate) (fates : List Fate) → failing_from number (f ∷ fates) ≡ None → (is_failing f ≡ false) × (failing_from (number + 1) fates ≡ None)
none-from number (Good cycle word) fates h = (refl, h)
none-from number (Fails cycle is_away) fates h = absurd (cc h)
none-from number Unknown fates h = (refl, h)

module _ (start : Start) (history : History) (before : List BatchTimes) (want : Want) (started : ℕ) where
  abbrev fate : List Walk → Access → Fate
  fate walks a = fate_of start history before want started walks a

  abbrev with : List Walk → Access → List Walk
  with walks a = walks_with start history before want started walks a

  abbrev walks-behind : List Walk → List Access → List Walk
  walks-behind walks accesses = walks_of start history before want started walks accesses

  -- ---- none is unknown

  known-more : (w : Walk) (walks : List Walk) (a : Access) → is_unknown (fate walks a) ≡ false → is_unknown (fate (w ∷ walks) a) ≡ false
  known-more w walks a h = refused-more started w walks a (look_of start history before want started a) (is_refused a) h

  known-with : (b : Bool) (w : Walk) (walks : List Walk) (a : Access) → is_unknown (fate walks a) ≡ false → is_unknown (fate (if b then w ∷ walks else walks) a) ≡ false
  known-with true w walks a h = known-more w walks a h
  known-with false w walks a h = h

  own-with : (b : Bool) (walks : List Walk) (a : Access) → is_unknown (fate walks a) ≡ b → is_unknown (fate (if b then walk_behind start history before want started walks a ∷ walks else walks) a) ≡ false
  own-with true walks a h = own-refused started (walk_behind start history before want started walks a) walks a (look_of start history before want started a) (is_refused a) refl
  own-with false walks a h = h

  own-known : (walks : List Walk) (a : Access) → is_unknown (fate (with walks a) a) ≡ false
  own-known walks a = own-with (is_unknown (fate walks a)) walks a refl

  known-if : (b : Bool) (one all : List Walk) (a : Access) → is_unknown (fate one a) ≡ false → is_unknown (fate all a) ≡ false → is_unknown (fate (elim b as (λ _. List Walk) [ true ↦ one | false ↦ all ]) a) ≡ false
  known-if true one all a h k = h
  known-if false one all a h k = k

  known-behind : (walks : List Walk) (accesses : List Access) (a : Access) → is_unknown (fate walks a) ≡ false → is_unknown (fate (walks-behind walks accesses) a) ≡ false
  known-behind walks [] a h = h
  known-behind walks (b ∷ accesses) a h =
      let one = known-with (is_unknown (fate walks b)) (walk_behind start history before want started walks b) walks a h in
      known-if (is_failing (fate (with walks b) b)) (with walks b) (walks-behind (with walks b) accesses) a one (known-behind (with walks b) accesses a one)

  good-if : (b : Bool) (number : ℕ) (one all : List Walk) (a : Access) (accesses : List Access) → is_failing (fate one a) ≡ b → is_unknown (fate all a) ≡ false
      → (failing_from (number + 1) (map (fate all) accesses) ≡ None → AreGood (fate all) accesses)
      → failing_from number (map (fate (elim b as (λ _. List Walk) [ true ↦ one | false ↦ all ])) (a ∷ accesses)) ≡ None
      → AreGood (fate (elim b as (λ _. List Walk) [ true ↦ one | false ↦ all ])) (a ∷ accesses)
  good-if true number one all a accesses h known rest none =
      let off : is_failing (fate one a) ≡ false = (none-from number (fate one a) (map (fate one) accesses) none).0 in
      absurd (cc)
  good-if false number one all a accesses h known rest none =
      let parts = none-from number (fate all a) (map (fate all) accesses) none in
      All-cons (λ (a : Access). is_good (fate all a) ≡ true) a accesses (good-by (fate all a) parts.0 known) (rest parts.1)

  pub all-good : (walks : List Walk) (accesses : List Access) (number : ℕ) → failing_from number (map (fate (walks-behind walks accesses)) accesses) ≡ None → AreGood (fate (walks-behind walks accesses)) accesses
  all-good walks [] number none = λ k d lt. absurd (omega arith)
  all-good walks (a ∷ accesses) number none =
      good-if (is_failing (fate (with walks a) a)) number (with walks a) (walks-behind (with walks a) accesses) a accesses refl
      (known-behind (with walks a) accesses a (own-known walks a)) (all-good (with walks a) accesses (number + 1)) none
