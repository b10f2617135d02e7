-- The walks of a batch that starts at a cycle: they begin then or later, one behind another, and have ended by the end of its
-- look-ups. So what is known of an access is known between the two.
use Rattle.std.proofs.Common.{◌≡◌, ℕ, ◌≤◌, Bool, true, false, List, [], ◌∷◌, refl, arith}
use Rattle.std.specs.Prelude.{◌&&◌, nat_le, find, Option, Some, if◌then◌else◌}
use Rattle.std.specs.List.{list_all}
use Rattle.std.proofs.lemmas.Bool.{and_parts, and_from, le-leb}
use Rattle.vx_base.specs.declared.machine.Want.{Want}
use Rattle.vx_image.specs.Pages.{page_of}
use Rattle.vx_tables.specs.declared.look.Look.{Look}
use Rattle.vx_tables.specs.declared.look.Look.TheVariants.{Hit, Denied, Miss}
use Rattle.vx_tables.specs.declared.walked.Walked.{Walked}
use Rattle.vx_tables.specs.declared.walked.Walked.TheVariants as walked
use Rattle.vx_episode.specs.Batches.{Fate, fate_walked, fate_by_walk, fate_looked, fate_of, is_of_page, is_refused, look_of, is_unknown, is_failing, walks_end, walk_behind, walks_with, walks_of}
use Rattle.vx_episode.specs.Batches.Fate.{Good, Fails, Unknown}
use Rattle.vx_episode.specs.Footprint.{Access}
use Rattle.vx_episode.specs.History.{History, Walk, BatchTimes}
use Rattle.vx_episode.specs.Organisation.{Start}
use Rattle.vx_batching.proofs.Lists.{all-more, le-more}

-- a walk that begins at a cycle or later, and has ended by another one
abbrev pub is_between : (first last : ℕ) → Walk → Bool
is_between first last w = nat_le first w.begun && nat_le first w.ended && nat_le w.ended last

pub record AreBetween (started : ℕ) (walks : List Walk) : Type 0 where
  pub from : started ≤ walks_end started walks
  pub each : list_all (is_between started (walks_end started walks)) walks ≡ true

between-more : (first last n : ℕ) → last ≤ n → (w : Walk) → is_between first last w ≡ true → is_between first n w ≡ true
between-more first last n few w h =
    let parts = and_parts (nat_le first w.begun && nat_le first w.ended) (nat_le w.ended last) h in
    and_from (nat_le first w.begun && nat_le first w.ended) (nat_le w.ended n) parts.0 (le-more last n w.ended few parts.1)

between-at : (first : ℕ) (w : Walk) → first ≤ w.begun → w.begun ≤ w.ended → is_between first w.ended w ≡ true
between-at first w few less =
    and_from (nat_le first w.begun && nat_le first w.ended) (nat_le w.ended w.ended)
    (and_from (nat_le first w.begun) (nat_le first w.ended) (le-leb first w.begun few) (le-leb first w.ended (omega arith)))
    (le-leb w.ended w.ended (omega arith))

walked-more : (started : ℕ) (walks : List Walk) (w : Walk) → walks_end started walks ≤ w.begun → w.begun ≤ w.ended → AreBetween started walks → AreBetween started (w ∷ walks)
walked-more started walks w few less turn =
    let from = turn.from in
    let after : started ≤ w.begun = omega arith in
    let until : walks_end started walks ≤ w.ended = omega arith in
    record {
      from = omega arith;
      each = and_from (is_between started w.ended w) (list_all (is_between started w.ended) walks) (between-at started w after less)
          (all-more (is_between started (walks_end started walks)) (is_between started w.ended) (between-more started (walks_end started walks) w.ended until) walks turn.each);
    }

pub by-cases : {A : Type 0} (P : A → Type 0) (b : Bool) (x y : A) → P x → P y → P (elim b as (λ _. A) [ true ↦ x | false ↦ y ])
by-cases P true x y p q = p
by-cases P false x y p q = q

-- ---- what is known of an access

-- it is known between two cycles
abbrev pub is_known : (first last : ℕ) → Fate → Bool
is_known first last (Good cycle word) = nat_le first cycle && nat_le cycle last
is_known first last (Fails cycle is_away) = true
is_known first last Unknown = true

known-walked : (first last : ℕ) (a : Access) (ended : ℕ) → (nat_le first ended && nat_le ended last) ≡ true → (w : Walked) → is_known first last (fate_walked a ended w) ≡ true
known-walked first last a ended h (walked.Leaf frame perm dirty) = h
known-walked first last a ended h walked.Away = refl
known-walked first last a ended h walked.Denied = refl

-- by the first walk of its page
known-if : (first last : ℕ) (a : Access) (b : Bool) (w : Walk) (rest : Option Walk) → is_between first last w ≡ true → is_known first last (fate_by_walk a rest) ≡ true → is_known first last (fate_by_walk a (if b then Some w else rest)) ≡ true
known-if first last a true w rest h k =
    let parts = and_parts (nat_le first w.begun && nat_le first w.ended) (nat_le w.ended last) h in
    let ended = and_parts (nat_le first w.begun) (nat_le first w.ended) parts.0 in
    known-walked first last a w.ended (and_from (nat_le first w.ended) (nat_le w.ended last) ended.1 parts.1) w.answer
known-if first last a false w rest h k = k

known-found : (first last : ℕ) (a : Access) (p : Walk → Bool) (walks : List Walk) → list_all (is_between first last) walks ≡ true → is_known first last (fate_by_walk a (find p walks)) ≡ true
known-found first last a p [] h = refl
known-found first last a p (w ∷ walks) h =
    let parts = and_parts (is_between first last w) (list_all (is_between first last) walks) h in
    known-if first last a (p w) w (find p walks) parts.0 (known-found first last a p walks parts.1)

known-looked : (started : ℕ) (walks : List Walk) → AreBetween started walks → (a : Access) (look : Look) → is_known started (walks_end started walks) (fate_looked started walks a look) ≡ true
known-looked started walks turn a (Hit frame) =
    let from = turn.from in
    and_from (nat_le started started) (nat_le started (walks_end started walks)) (le-leb started started (omega arith)) (le-leb started (walks_end started walks) from)
known-looked started walks turn a Denied = refl
known-looked started walks turn a Miss = known-found started (walks_end started walks) a (is_of_page (page_of a.address)) walks turn.each

known-refused : (first last started : ℕ) (b : Bool) (fate : Fate) → is_known first last fate ≡ true → is_known first last (if b then Fails started false else fate) ≡ true
known-refused first last started true fate h = refl
known-refused first last started false fate h = h

module _ (start : Start) (history : History) (before : List BatchTimes) (want : Want) (started : ℕ) where
  with-walk : (walks : List Walk) (a : Access) (b : Bool) → AreBetween started walks → AreBetween started (if b then walk_behind start history before want started walks a ∷ walks else walks)
  with-walk walks a true turn = walked-more started walks (walk_behind start history before want started walks a) (omega arith) (omega arith) turn
  with-walk walks a false turn = turn

  pub walks-between : (accesses : List Access) (walks : List Walk) → AreBetween started walks → AreBetween started (walks_of start history before want started walks accesses)
  walks-between [] walks turn = turn
  walks-between (a ∷ accesses) walks turn =
      let next : List Walk = walks_with start history before want started walks a in
      let here : AreBetween started next = with-walk walks a (is_unknown (fate_of start history before want started walks a)) turn in
      by-cases (AreBetween started) (is_failing (fate_of start history before want started next a)) next (walks_of start history before want started next accesses) here (walks-between accesses next here)

  pub fates-known : (walks : List Walk) → AreBetween started walks → (a : Access) → is_known started (walks_end started walks) (fate_of start history before want started walks a) ≡ true
  fates-known walks turn a =
      known-refused started (walks_end started walks) started (is_refused a) (fate_looked started walks a (look_of start history before want started a))
      (known-looked started walks turn a (look_of start history before want started a))

pub none-between : (started : ℕ) → AreBetween started []
none-between started = record { from = omega arith; each = refl }
