-- What walks leave of the page map.
use Rattle.std.proofs.Common.{◌≡◌, ℕ, true, false, eqb, inl, inr, List, [], ◌∷◌, Some, None, refl, sym, ap, subst, ◌∙◌}
use Rattle.std.specs.Prelude.{Option, Bool, ◌||◌}
use Rattle.std.specs.Option.{option_map_or}
use Rattle.std.proofs.lemmas.Bool.{cases_Bool, eqb-true, eq-eqb, false≢true}
use Rattle.vx_base.specs.Permissions.{grants}
use Rattle.vx_base.specs.declared.machine.Want.{Want}
use Rattle.vx_base.specs.declared.perm.PageEntry.{PageEntry}
use Rattle.vx_image.specs.Pages.{page_of}
use Rattle.vx_tables.specs.Residency.{Place, PlacedPage, Residency, placed, with_place, is_store, found_at, touched, page_map, after_walk}
use Rattle.vx_tables.specs.Residency.Place.{Away, Present}
use Rattle.vx_tables.specs.Walking.{PlacesAgree, PagesAgree, Agree}
use Rattle.vx_tables.specs.declared.walked.Walked.{Walked}
use Rattle.vx_tables.specs.declared.walked.Walked.TheVariants as walked
use Rattle.vx_episode.specs.History.{Walk, after_walks}
use Rattle.vx_look.specs.Fetches.{is_away}
use Rattle.vx_look.proofs.Orders.{placed-other, placed-same, moved-none, place_left, after_walk-moves}

-- what an access finds of a page
abbrev pub answer_of : Want → Option PlacedPage → Walked
answer_of want o = option_map_or (λ (p : PlacedPage). found_at p.entry.perm.bits want p.place) o walked.Denied

pub page_map-is : (residency : Residency) (address : ℕ) (want : Want) → page_map residency address want ≡ answer_of want (placed (page_of address) residency)
unfolding page_map
page_map-is residency address want = refl

-- something of the answers stays, where it stays of each place that is touched
module _ (T : Type 0) (told : Walked → T) (want wanted : Want)
    (each : (bits : ℕ) (place : Place) → told (found_at bits want (touched bits wanted place)) ≡ told (found_at bits want place)) where
  told-same : (n : ℕ) (residency : Residency) (o : Option PlacedPage) → placed n residency ≡ o → told (answer_of want (placed n (with_place n (place_left wanted o) residency))) ≡ told (answer_of want o)
  told-same n residency None none = ap (λ (r : Residency). told (answer_of want (placed n r))) (moved-none n Away residency none) ∙ ap (λ (o : Option PlacedPage). told (answer_of want o)) none
  told-same n residency (Some p) is =
      ap (λ (o : Option PlacedPage). told (answer_of want o)) (placed-same n (touched p.entry.perm.bits wanted p.place) residency p is) ∙ each p.entry.perm.bits p.place

  told-moved : (n m : ℕ) (residency : Residency) → told (answer_of want (placed n (with_place m (place_left wanted (placed m residency)) residency))) ≡ told (answer_of want (placed n residency))
  told-moved n m residency =
      elim (cases_Bool (eqb n m)) [
        | inl same ↦ subst (λ (k : ℕ). told (answer_of want (placed n (with_place k (place_left wanted (placed k residency)) residency))) ≡ told (answer_of want (placed n residency))) (eqb-true n m same) (told-same n residency (placed n residency) refl)
        | inr differs ↦ ap (λ (o : Option PlacedPage). told (answer_of want o)) (placed-other m (place_left wanted (placed m residency)) n residency (λ e. false≢true (sym differs ∙ eq-eqb n m e)))
      ]

  told-after : (residency : Residency) (address other : ℕ) → told (page_map (after_walk residency other wanted) address want) ≡ told (page_map residency address want)
  told-after residency address other =
      ap (λ (r : Residency). told (page_map r address want)) (after_walk-moves residency other wanted)
      ∙ ap told (page_map-is (with_place (page_of other) (place_left wanted (placed (page_of other) residency)) residency) address want)
      ∙ told-moved (page_of address) (page_of other) residency
      ∙ ap told (sym (page_map-is residency address want))

-- a walk that isn't for a store
or-false : (b : Bool) → (b || false) ≡ b
or-false true = refl
or-false false = refl

found-accessed : (want wanted : Want) → is_store wanted ≡ false → (bits : ℕ) (place : Place) → found_at bits want (touched bits wanted place) ≡ found_at bits want place
found-accessed want wanted not_store bits Away = refl
found-accessed want wanted not_store bits (Present frame a d) =
    elim (cases_Bool (grants bits wanted)) [
      | inl granted ↦ rw (granted, not_store, or-false d) refl
      | inr fails ↦ rw fails refl
    ]

pub page_map-accessed : (residency : Residency) (address other : ℕ) (want wanted : Want) → is_store wanted ≡ false → page_map (after_walk residency other wanted) address want ≡ page_map residency address want
page_map-accessed residency address other want wanted not_store =
    told-after Walked (λ (w : Walked). w) want wanted (found-accessed want wanted not_store) residency address other

-- a page that is away stays so, and no other becomes so
away-touched : (want wanted : Want) (bits : ℕ) (place : Place) → is_away (found_at bits want (touched bits wanted place)) ≡ is_away (found_at bits want place)
away-touched want wanted bits Away = refl
away-touched want wanted bits (Present frame a d) =
    elim (cases_Bool (grants bits wanted)) [
      | inl granted ↦ elim (cases_Bool (grants bits want)) [
        | inl ours ↦ rw (granted, ours) refl
        | inr fails ↦ rw (granted, fails) refl
      ]
      | inr fails ↦ rw fails refl
    ]

pub away-after : (residency : Residency) (address : ℕ) (want : Want) (walks : List Walk) → is_away (page_map (after_walks residency walks) address want) ≡ is_away (page_map residency address want)
away-after residency address want [] = refl
away-after residency address want (w ∷ walks) =
    told-after Bool is_away want w.want (away-touched want w.want) (after_walks residency walks) address w.address ∙ away-after residency address want walks

-- where a walk saw what is there now, but for bits that others set, it is answered the same
found-agree : (bits : ℕ) (want : Want) (seen now : Place) → PlacesAgree bits want seen now → found_at bits want now ≡ found_at bits want seen
found-agree bits want Away Away agree = refl
found-agree bits want Away (Present g b e) agree = absurd agree
found-agree bits want (Present f a d) Away agree = absurd agree
found-agree bits want (Present f a d) (Present g b e) agree =
    elim (cases_Bool (grants bits want)) [
      | inl granted ↦ rw (granted, agree.0, agree.1.1 granted) refl
      | inr fails ↦ rw fails refl
    ]

answer-agree : (want : Want) (o u : Option PlacedPage) → PagesAgree want o u → answer_of want u ≡ answer_of want o
answer-agree want None None is = refl
answer-agree want None (Some q) is = absurd is
answer-agree want (Some p) None is = absurd is
answer-agree want (Some p) (Some q) is =
    ap (λ (e : PageEntry). found_at e.perm.bits want q.place) is.0 ∙ found-agree p.entry.perm.bits want p.place q.place is.1

pub page_map-agree : (address : ℕ) (want : Want) (seen now : Residency) → Agree address want seen now → page_map now address want ≡ page_map seen address want
page_map-agree address want seen now agree =
    page_map-is now address want ∙ answer-agree want (placed (page_of address) seen) (placed (page_of address) now) agree.page ∙ sym (page_map-is seen address want)
