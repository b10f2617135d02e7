-- Walks that end behind a cycle change nothing that is known by then.
use Rattle.std.proofs.Common.{◌≡◌, ℕ, ◌+◌, ◌<◌, true, false, inl, inr, List, [], ◌∷◌, refl, sym, ap, subst, ◌∙◌, arith}
use Rattle.std.specs.Prelude.{Bool, ◌==◌, ◌&&◌, if◌then◌else◌}
use Rattle.std.proofs.lemmas.Bool.{cases_Bool, lt-leb, false≢true}
use Rattle.vx_base.specs.declared.machine.Want.{Want}
use Rattle.vx_image.specs.Pages.{page_of}
use Rattle.vx_episode.specs.Batches.{Fate as Meant, is_unknown, is_failing, fate_walked, fate_of, walks_end, walk_behind, walks_with, walks_of}
use Rattle.vx_episode.specs.Batches.Fate.{Good, Fails, Unknown}
use Rattle.vx_episode.specs.Footprint.{Access}
use Rattle.vx_episode.specs.History.{History, Walk, BatchTimes}
use Rattle.vx_episode.specs.Instructions.{walk_time}
use Rattle.vx_episode.specs.Organisation.{Start}
use Rattle.vx_look.proofs.Judging.{fate, fate-behind, walks_with-known, walks_with-unknown}
use Rattle.vx_look.proofs.Reached.{walks-stop, walks-go}
use Rattle.vx_look.specs.Aheads.{is_known_by, AgreeAt, ended_by}
use Rattle.vx_look.specs.LookUps.{updated}
use Rattle.vx_tables.specs.declared.walked.Walked.{Walked}
use Rattle.vx_tables.specs.declared.walked.Walked.TheVariants as walked

pub AgreeAt-join : (last : ℕ) (x y z : Meant) → AgreeAt last x y → AgreeAt last y z → AgreeAt last x z
AgreeAt-join last x y z (inl e) (inl f) = inl (e ∙ f)
AgreeAt-join last x y z (inl e) (inr f) = inr (ap (is_known_by last) e ∙ f.0, f.1)
AgreeAt-join last x y z (inr e) (inl f) = inr (e.0, ap (is_known_by last) (sym f) ∙ e.1)
AgreeAt-join last x y z (inr e) (inr f) = inr (e.0, f.1)

unknown-unknown : (last : ℕ) (f : Meant) → is_unknown f ≡ true → is_known_by last f ≡ false
unknown-unknown last (Good cycle word) unknown = absurd (false≢true unknown)
unknown-unknown last (Fails cycle is_away) unknown = absurd (false≢true unknown)
unknown-unknown last Unknown unknown = refl

walked-later : (last ended : ℕ) (a : Access) (answered : Walked) → last < ended → is_known_by last (fate_walked a ended answered) ≡ false
walked-later last ended a (walked.Leaf frame perm dirty) late = lt-leb ended last late
walked-later last ended a walked.Away late = lt-leb ended last late
walked-later last ended a walked.Denied late = lt-leb ended last late

updated-agree : (last page ended : ℕ) (answered : Walked) (b : Access) (f : Meant) → last < ended → AgreeAt last f (updated page ended answered b f)
updated-agree last page ended answered b f late = go (is_unknown f) (page_of b.address == page) refl
  where
    go : (t s : Bool) → is_unknown f ≡ t → AgreeAt last f (if t && s then fate_walked b ended answered else f)
    go false s known = inl refl
    go true false unknown = inl refl
    go true true unknown = inr (unknown-unknown last f unknown, walked-later last ended b answered late)

module _ (start : Start) (history : History) (earlier : List BatchTimes) (want : Want) (started last : ℕ) where
  -- what more walks leave of these
  pub record IsSame (walks more : List Walk) : Type 0 where
    pub made : ended_by last more ≡ ended_by last walks
    pub agree : (b : Access) → AgreeAt last (fate_of start history earlier want started walks b) (fate_of start history earlier want started more b)

  -- no walk behind these ends by the cycle
  abbrev pub IsLate : List Walk → Type 0
  IsLate walks = last < walks_end started walks + walk_time start.machine

  same-none : (walks : List Walk) → IsSame walks walks
  same-none walks = record { made = refl; agree = λ b. inl refl }

  same-join : (x y z : List Walk) → IsSame x y → IsSame y z → IsSame x z
  same-join x y z first second = record {
    made = second.made ∙ first.made;
    agree = λ b. AgreeAt-join last (fate start history earlier want started x b) (fate start history earlier want started y b) (fate start history earlier want started z b) (first.agree b) (second.agree b);
  }

  record IsLater (walks more : List Walk) : Type 0 where
    same : IsSame walks more
    late : IsLate more

  later-with : (walks : List Walk) (a : Access) → IsLate walks → IsLater walks (walks_with start history earlier want started walks a)
  later-with walks a late =
      elim (cases_Bool (is_unknown (fate start history earlier want started walks a))) [
        | inr known ↦ subst (λ (ws : List Walk). IsLater walks ws) (sym (walks_with-known start history earlier want started walks a known)) (record { same = same-none walks; late = late })
        | inl unknown ↦
            let w : Walk = walk_behind start history earlier want started walks a in
            let more : IsLater walks (w ∷ walks) = record {
              same = record {
                made = ap (λ (b : Bool). if b then w ∷ ended_by last walks else ended_by last walks) (lt-leb w.ended last late);
                agree = λ b. subst (AgreeAt last (fate start history earlier want started walks b)) (sym (fate-behind start history earlier want started walks a b w unknown refl))
                    (updated-agree last (page_of a.address) w.ended w.answer b (fate start history earlier want started walks b) late);
              };
              late = longer w.ended (walk_time start.machine) late;
            } in
            subst (λ (ws : List Walk). IsLater walks ws) (sym (walks_with-unknown start history earlier want started walks a unknown)) more
      ]
    where
      longer : (n m : ℕ) → last < n → last < n + m
      longer n m lt = omega arith

  pub late-all : (walks : List Walk) (accesses : List Access) → IsLate walks → IsSame walks (walks_of start history earlier want started walks accesses)
  late-all walks [] late = same-none walks
  late-all walks (a ∷ accesses) late =
      let with_one : List Walk = walks_with start history earlier want started walks a in
      let later : IsLater walks with_one = later-with walks a late in
      elim (cases_Bool (is_failing (fate start history earlier want started with_one a))) [
        | inl fails ↦ subst (λ (ws : List Walk). IsSame walks ws) (sym (walks-stop start history earlier want started 0 [] walks a accesses fails)) later.same
        | inr goes ↦
            subst (λ (ws : List Walk). IsSame walks ws) (sym (walks-go start history earlier want started 0 [] walks a accesses goes))
            (same-join walks with_one (walks_of start history earlier want started with_one accesses) later.same (late-all with_one accesses later.late))
      ]
