-- The fates of accesses, and the walks of a batch, an access at a time.
use Rattle.std.proofs.Common.{◌≡◌, ℕ, true, false, eqb, inl, inr, List, [], ◌∷◌, Some, None, refl, sym, ap, ◌∙◌}
use Rattle.std.specs.Prelude.{Option, Bool, find, ◌&&◌, ◌==◌, if◌then◌else◌}
use Rattle.std.proofs.lemmas.Bool.{cases_Bool, eqb-true, eq-eqb, ne_eqb, false≢true}
use Rattle.vx_base.specs.declared.machine.Want.{Want}
use Rattle.vx_image.specs.Pages.{page_of}
use Rattle.vx_episode.specs.Batches.{Fate, is_refused, fate_walked, fate_by_walk, is_of_page, fate_looked, is_failing, is_unknown, look_of, fate_of, walk_behind, walks_with, walks_of}
use Rattle.vx_episode.specs.Batches.Fate.{Fails}
use Rattle.vx_episode.specs.Footprint.{Access}
use Rattle.vx_episode.specs.History.{History, Walk, BatchTimes}
use Rattle.vx_episode.specs.Organisation.{Start}
use Rattle.vx_look.specs.LookUps.{updated}
use Rattle.vx_tables.specs.declared.look.Look.{Look}
use Rattle.vx_tables.specs.declared.look.Look.TheVariants.{Hit, Denied, Miss}
use Rattle.vx_tables.specs.declared.walked.Walked.{Walked}
use Rattle.vx_tables.specs.declared.walked.Walked.TheVariants as walked

fate_walked-known : (a : Access) (ended : ℕ) (answered : Walked) → is_unknown (fate_walked a ended answered) ≡ false
fate_walked-known a ended (walked.Leaf frame perm dirty) = refl
fate_walked-known a ended walked.Away = refl
fate_walked-known a ended walked.Denied = refl

none-by_walk : (a : Access) (o : Option Walk) → is_unknown (fate_by_walk a o) ≡ true → o ≡ None
none-by_walk a None unknown = refl
none-by_walk a (Some w) unknown = absurd (false≢true (sym (fate_walked-known a w.ended w.answer) ∙ unknown))

none-looked : (started : ℕ) (walks : List Walk) (a : Access) (l : Look) → is_unknown (fate_looked started walks a l) ≡ true → find (is_of_page (page_of a.address)) walks ≡ None
none-looked started walks a (Hit frame) unknown = absurd (false≢true unknown)
none-looked started walks a Denied unknown = absurd (false≢true unknown)
none-looked started walks a Miss unknown = none-by_walk a (find (is_of_page (page_of a.address)) walks) unknown

none-judged : (started : ℕ) (walks : List Walk) (a : Access) (refused : Bool) (l : Look) → is_unknown (if refused then Fails started false else fate_looked started walks a l) ≡ true → find (is_of_page (page_of a.address)) walks ≡ None
none-judged started walks a true l unknown = absurd (false≢true unknown)
none-judged started walks a false l unknown = none-looked started walks a l unknown

and-false : (b : Bool) → (b && false) ≡ false
and-false true = refl
and-false false = refl

updated-other : (page ended : ℕ) (answered : Walked) (a : Access) (fate : Fate) → eqb (page_of a.address) page ≡ false → updated page ended answered a fate ≡ fate
updated-other page ended answered a fate differs = ap (λ (b : Bool). if is_unknown fate && b then fate_walked a ended answered else fate) differs ∙ ap (λ (b : Bool). if b then fate_walked a ended answered else fate) (and-false (is_unknown fate))

updated-own : (page ended : ℕ) (answered : Walked) (a : Access) (fate : Fate) → page_of a.address ≡ page → is_unknown fate ≡ true → updated page ended answered a fate ≡ fate_walked a ended answered
updated-own page ended answered a fate same unknown =
    ap (λ (b : Bool). if b && page_of a.address == page then fate_walked a ended answered else fate) unknown
    ∙ ap (λ (b : Bool). if b then fate_walked a ended answered else fate) (eq-eqb (page_of a.address) page same)

module _ (started : ℕ) (walks : List Walk) (a b : Access) (w : Walk) (same : page_of w.address ≡ page_of a.address) (none : find (is_of_page (page_of a.address)) walks ≡ None) where
  by_walk-behind : fate_by_walk b (find (is_of_page (page_of b.address)) (w ∷ walks)) ≡ updated (page_of a.address) w.ended w.answer b (fate_by_walk b (find (is_of_page (page_of b.address)) walks))
  by_walk-behind =
      elim (cases_Bool (eqb (page_of w.address) (page_of b.address))) [
        | inl here ↦
            let e : page_of b.address ≡ page_of a.address = sym (eqb-true (page_of w.address) (page_of b.address) here) ∙ same in
            let unknown : is_unknown (fate_by_walk b (find (is_of_page (page_of b.address)) walks)) ≡ true =
            ap (λ (n : ℕ). is_unknown (fate_by_walk b (find (is_of_page n) walks))) e ∙ ap (λ (o : Option Walk). is_unknown (fate_by_walk b o)) none in
            ap (λ (t : Bool). fate_by_walk b (if t then Some w else find (is_of_page (page_of b.address)) walks)) here
            ∙ sym (updated-own (page_of a.address) w.ended w.answer b (fate_by_walk b (find (is_of_page (page_of b.address)) walks)) e unknown)
        | inr differs ↦
            let apart : eqb (page_of b.address) (page_of a.address) ≡ false =
            ne_eqb (page_of b.address) (page_of a.address) (λ e. false≢true (sym differs ∙ eq-eqb (page_of w.address) (page_of b.address) (same ∙ sym e))) in
            ap (λ (t : Bool). fate_by_walk b (if t then Some w else find (is_of_page (page_of b.address)) walks)) differs
            ∙ sym (updated-other (page_of a.address) w.ended w.answer b (fate_by_walk b (find (is_of_page (page_of b.address)) walks)) apart)
      ]

  judged-behind : (refused : Bool) (l : Look) → (if refused then Fails started false else fate_looked started (w ∷ walks) b l) ≡ updated (page_of a.address) w.ended w.answer b (if refused then Fails started false else fate_looked started walks b l)
  judged-behind true l = refl
  judged-behind false (Hit frame) = refl
  judged-behind false Denied = refl
  judged-behind false Miss = by_walk-behind

module _ (start : Start) (history : History) (earlier : List BatchTimes) (want : Want) (started : ℕ) where
  abbrev pub fate : List Walk → Access → Fate
  fate walks a = fate_of start history earlier want started walks a

  -- the fates once the page of an access that nothing is known of is walked
  pub fate-behind : (walks : List Walk) (a b : Access) (w : Walk) → is_unknown (fate walks a) ≡ true → page_of w.address ≡ page_of a.address → fate (w ∷ walks) b ≡ updated (page_of a.address) w.ended w.answer b (fate walks b)
  fate-behind walks a b w unknown same =
      judged-behind started walks a b w same
      (none-judged started walks a (is_refused a) (look_of start history earlier want started a) unknown)
      (is_refused b) (look_of start history earlier want started b)

  pub fate-own : (walks : List Walk) (a : Access) (w : Walk) → is_unknown (fate walks a) ≡ true → page_of w.address ≡ page_of a.address → fate (w ∷ walks) a ≡ fate_walked a w.ended w.answer
  fate-own walks a w unknown same = fate-behind walks a a w unknown same ∙ updated-own (page_of a.address) w.ended w.answer a (fate walks a) refl unknown

  -- the walks once an access is judged
  pub walks_with-known : (walks : List Walk) (a : Access) → is_unknown (fate walks a) ≡ false → walks_with start history earlier want started walks a ≡ walks
  walks_with-known walks a known = ap (λ (b : Bool). if b then walk_behind start history earlier want started walks a ∷ walks else walks) known

  pub walks_with-unknown : (walks : List Walk) (a : Access) → is_unknown (fate walks a) ≡ true → walks_with start history earlier want started walks a ≡ walk_behind start history earlier want started walks a ∷ walks
  walks_with-unknown walks a unknown = ap (λ (b : Bool). if b then walk_behind start history earlier want started walks a ∷ walks else walks) unknown

  either : (b : Bool) (walks : List Walk) → (elim b as (λ _. List Walk) [ true ↦ walks | false ↦ walks ]) ≡ walks
  either true walks = refl
  either false walks = refl

  pub walks_of-one : (walks : List Walk) (a : Access) → walks_of start history earlier want started walks (a ∷ []) ≡ walks_with start history earlier want started walks a
  walks_of-one walks a = either (is_failing (fate (walks_with start history earlier want started walks a) a)) (walks_with start history earlier want started walks a)
