-- What walks that end leave of what another one has seen.
use Rattle.std.proofs.Common.{◌≡◌, ◌≢◌, ℕ, zero, suc, ◌<◌, Bool, true, false, eqb, inl, inr, Some, None, refl, sym, ap, subst, ◌∙◌, arith}
use Rattle.std.specs.Prelude.{Option, IsTrue, ◌||◌}
use Rattle.std.specs.Option.{option_map_or}
use Rattle.std.proofs.lemmas.Bool.{cases_Bool, eqb-true, eq-eqb, false≢true}
use Rattle.vx_base.specs.Pages.{IsPageList, is_page_permission}
use Rattle.vx_base.specs.Permissions.{grants}
use Rattle.vx_base.specs.declared.machine.Want.{Want}
use Rattle.vx_base.specs.declared.machine.Want.TheVariants.{Fetch, Load, Store}
use Rattle.vx_base.specs.declared.perm.PageEntry.{PageEntry}
use Rattle.vx_image.specs.Pages.{page_of}
use Rattle.vx_tables.specs.Residency.{Place, PlacedPage, Residency, pages_of, placed, with_place, is_store, found_at, touched, page_map, after_walk}
use Rattle.vx_tables.specs.Residency.Place.{Away, Present}
use Rattle.vx_tables.specs.Walking.{PlacesAgree, PagesAgree, Agree}
use Rattle.vx_tables.specs.Walks.{walk_port}
use Rattle.vx_tables.specs.declared.walked.Walked.TheVariants as walked
use Rattle.vx_tables.proofs.Decoded.{permission_small}
use Rattle.vx_tables.proofs.Descents.{placed-mapped}
use Rattle.vx_tables.proofs.Moving.{pages_of-with_place, placed-other, placed-same}

-- what is seen agrees with itself
PlacesAgree-same : (bits : ℕ) (want : Want) (place : Place) → PlacesAgree bits want place place
PlacesAgree-same bits want Away = tt
PlacesAgree-same bits want (Present frame a d) = (refl, (λ set. set, λ granted. refl))

PagesAgree-same : (want : Want) (o : Option PlacedPage) → PagesAgree want o o
PagesAgree-same want None = tt
PagesAgree-same want (Some p) = (refl, PlacesAgree-same p.entry.perm.bits want p.place)

pub Agree-same : (address : ℕ) (want : Want) (residency : Residency) → Agree address want residency residency
Agree-same address want residency = record { pages = refl; page = PagesAgree-same want (placed (page_of address) residency) }

-- and with what is left of what it agrees with
PlacesAgree-join : (bits : ℕ) (want : Want) (x y z : Place) → PlacesAgree bits want x y → PlacesAgree bits want y z → PlacesAgree bits want x z
PlacesAgree-join bits want Away Away z first second = second
PlacesAgree-join bits want Away (Present g b e) z first second = absurd first
PlacesAgree-join bits want (Present f a d) Away z first second = absurd first
PlacesAgree-join bits want (Present f a d) (Present g b e) Away first second = absurd second
PlacesAgree-join bits want (Present f a d) (Present g b e) (Present h c k) first second =
    (second.0 ∙ first.0, (λ set. second.1.0 (first.1.0 set), λ granted. second.1.1 granted ∙ first.1.1 granted))

PagesAgree-join : (want : Want) (x y z : Option PlacedPage) → PagesAgree want x y → PagesAgree want y z → PagesAgree want x z
PagesAgree-join want None None z first second = second
PagesAgree-join want None (Some q) z first second = absurd first
PagesAgree-join want (Some p) None z first second = absurd first
PagesAgree-join want (Some p) (Some q) None first second = absurd second
PagesAgree-join want (Some p) (Some q) (Some r) first second =
    let same : PlacesAgree p.entry.perm.bits want q.place r.place = subst (λ (e : PageEntry). PlacesAgree e.perm.bits want q.place r.place) first.0 second.1 in
    (second.0 ∙ first.0, PlacesAgree-join p.entry.perm.bits want p.place q.place r.place first.1 same)

pub Agree-join : (address : ℕ) (want : Want) (x y z : Residency) → Agree address want x y → Agree address want y z → Agree address want x z
Agree-join address want x y z first second = record {
  pages = second.pages ∙ first.pages;
  page = PagesAgree-join want (placed (page_of address) x) (placed (page_of address) y) (placed (page_of address) z) first.page second.page;
}

-- no page grants both a fetch and a store
never_both : (bits : ℕ) → bits < 8 → IsTrue (is_page_permission bits) → grants bits Store ≡ true → grants bits Fetch ≡ true → ⊥
never_both zero small is store fetch = false≢true store
never_both (suc zero) small is store fetch = false≢true store
never_both (suc (suc zero)) small is store fetch = false≢true fetch
never_both (suc (suc (suc zero))) small is store fetch = false≢true is
never_both (suc (suc (suc (suc zero)))) small is store fetch = false≢true store
never_both (suc (suc (suc (suc (suc zero))))) small is store fetch = false≢true store
never_both (suc (suc (suc (suc (suc (suc zero)))))) small is store fetch = false≢true fetch
never_both (suc (suc (suc (suc (suc (suc (suc zero))))))) small is store fetch = false≢true is
never_both (suc (suc (suc (suc (suc (suc (suc (suc bits)))))))) small is store fetch = absurd (omega arith)

or-false : (b : Bool) → (b || false) ≡ b
or-false true = refl
or-false false = refl

dirty-stays : (bits : ℕ) (want other : Want) (d : Bool) → IsTrue (is_page_permission bits) → walk_port want ≢ walk_port other → grants bits other ≡ true → grants bits want ≡ true → (d || is_store other) ≡ d
dirty-stays bits want Fetch d is apart theirs ours = or-false d
dirty-stays bits want Load d is apart theirs ours = or-false d
dirty-stays bits Fetch Store d is apart theirs ours = absurd (never_both bits (permission_small bits is) is theirs ours)
dirty-stays bits Load Store d is apart theirs ours = absurd (apart refl)
dirty-stays bits Store Store d is apart theirs ours = absurd (apart refl)

PlacesAgree-touched : (bits : ℕ) (want other : Want) (place : Place) → IsTrue (is_page_permission bits) → walk_port want ≢ walk_port other → PlacesAgree bits want place (touched bits other place)
PlacesAgree-touched bits want other Away is apart = tt
PlacesAgree-touched bits want other (Present frame a d) is apart =
    elim (cases_Bool (grants bits other)) [
      | inl granted ↦ rw granted (refl, (λ set. refl, λ ours. dirty-stays bits want other d is apart granted ours))
      | inr fails ↦ rw fails (refl, (λ set. set, λ ours. refl))
    ]

-- a walk on the other port ends
pub Agree-other : (residency : Residency) (address other_address : ℕ) (want other : Want) → IsPageList (pages_of residency) → walk_port want ≢ walk_port other → Agree address want residency (after_walk residency other_address other)
unfolding after_walk
Agree-other residency address other_address want other listed apart = go (placed (page_of other_address) residency) refl
  where
    here : (p : PlacedPage) → placed (page_of other_address) residency ≡ Some p → PagesAgree want (placed (page_of other_address) residency) (placed (page_of other_address) (with_place (page_of other_address) (touched p.entry.perm.bits other p.place) residency))
    here p is =
        let place : Place = touched p.entry.perm.bits other p.place in
        let later : placed (page_of other_address) (with_place (page_of other_address) place residency) ≡ Some (record p { place = place }) = placed-same (page_of other_address) place residency p is in
        let one : PagesAgree want (Some p) (Some (record p { place = place })) =
        (refl, PlacesAgree-touched p.entry.perm.bits want other p.place (placed-mapped (page_of other_address) residency p listed.mapped is).permission apart) in
        subst (λ (o : Option PlacedPage). PagesAgree want o (placed (page_of other_address) (with_place (page_of other_address) place residency))) (sym is)
        (subst (λ (o : Option PlacedPage). PagesAgree want (Some p) o) (sym later) one)

    each : (p : PlacedPage) (n : ℕ) → placed (page_of other_address) residency ≡ Some p → PagesAgree want (placed n residency) (placed n (with_place (page_of other_address) (touched p.entry.perm.bits other p.place) residency))
    each p n is =
        let place : Place = touched p.entry.perm.bits other p.place in
        elim (cases_Bool (eqb n (page_of other_address))) [
          | inl same ↦ subst (λ (k : ℕ). PagesAgree want (placed k residency) (placed k (with_place (page_of other_address) place residency))) (sym (eqb-true n (page_of other_address) same)) (here p is)
          | inr differs ↦
              let apart : n ≢ page_of other_address = λ e. false≢true (sym differs ∙ eq-eqb n (page_of other_address) e) in
              subst (λ (o : Option PlacedPage). PagesAgree want (placed n residency) o) (sym (placed-other (page_of other_address) place n residency apart)) (PagesAgree-same want (placed n residency))
        ]

    go : (o : Option PlacedPage) → placed (page_of other_address) residency ≡ o → Agree address want residency (option_map_or (λ (p : PlacedPage). with_place (page_of other_address) (touched p.entry.perm.bits other p.place) residency) o residency)
    go None none = Agree-same address want residency
    go (Some p) is = record {
      pages = pages_of-with_place (page_of other_address) (touched p.entry.perm.bits other p.place) residency;
      page = each p (page_of address) is;
    }

-- the page map is what it was
found-agree : (bits : ℕ) (want : Want) (seen now : Place) → PlacesAgree bits want seen now → found_at bits want seen ≡ found_at bits want now
found-agree bits want Away Away agree = refl
found-agree bits want Away (Present g b e) agree = absurd agree
found-agree bits want (Present f a d) Away agree = absurd agree
found-agree bits want (Present f a d) (Present g b e) agree =
    elim (cases_Bool (grants bits want)) [
      | inl granted ↦ rw (granted, agree.0, agree.1.1 granted) refl
      | inr fails ↦ rw fails refl
    ]

pub page_map-agree : (address : ℕ) (want : Want) (seen now : Residency) → Agree address want seen now → page_map seen address want ≡ page_map now address want
unfolding page_map
page_map-agree address want seen now agree = go (placed (page_of address) seen) (placed (page_of address) now) agree.page
  where
    go : (o u : Option PlacedPage) → PagesAgree want o u → option_map_or (λ (p : PlacedPage). found_at p.entry.perm.bits want p.place) o walked.Denied ≡ option_map_or (λ (p : PlacedPage). found_at p.entry.perm.bits want p.place) u walked.Denied
    go None None is = refl
    go None (Some q) is = absurd is
    go (Some p) None is = absurd is
    go (Some p) (Some q) is = found-agree p.entry.perm.bits want p.place q.place is.1 ∙ ap (λ (e : PageEntry). found_at e.perm.bits want q.place) (sym is.0)
