-- The pages that caches keep lie in frames of the memory.
use Rattle.std.proofs.Common.{◌≡◌, ℕ, suc, ◌<◌, ◌≤◌, ◌%◌, eqb, inl, inr, List, [], ◌∷◌, length, Some, None, sym, subst, ◌∙◌, arith}
use Rattle.std.specs.Prelude.{Option, Bool, find, IfSome, not, ◌&&◌}
use Rattle.std.proofs.lemmas.Bool.{cases_Bool}
use Rattle.vx_base.specs.Permissions.{grants}
use Rattle.vx_base.specs.declared.machine.Want.{Want}
use Rattle.vx_image.specs.Pages.{page_of}
use Rattle.vx_look.proofs.PageMaps.{answer_of, page_map-is}
use Rattle.vx_look.specs.Fates.{IsHitBelow}
use Rattle.vx_look.specs.Filled.{IsFilled, IsFoundBelow, AreFilledBelow}
use Rattle.vx_tables.specs.Caches.{Fill, look_at, look_for, last_fill, look_up, filled_by}
use Rattle.vx_tables.specs.Residency.{Place, PlacedPage, Residency, placed, is_store, found_at, page_map, IsBelow, AreBelow}
use Rattle.vx_tables.specs.Residency.Place.{Away, Present}
use Rattle.vx_tables.specs.declared.walked.Walked.{Walked}
use Rattle.vx_tables.specs.declared.walked.Walked.TheVariants as walked
use Rattle.vx_tlb.specs.Kept.{StandsFor}
use Rattle.vx_tlb.specs.declared.tlb.Kept.{Kept}

-- ---- look-ups

find-below : (frames : ℕ) (test : Fill → Bool) (fills : List Fill) → AreFilledBelow frames fills → IfSome (find test fills) (λ (f : Fill). f.frame < frames)
find-below frames test [] all = tt
find-below frames test (f ∷ fills) all =
    elim (cases_Bool (test f)) [
      | inl here ↦ rw here all.0
      | inr fails ↦ rw fails (find-below frames test fills all.1)
    ]

at-below : (frames : ℕ) (want : Want) (f : Fill) → f.frame < frames → IsHitBelow frames (look_at want f)
at-below frames want f lt =
    elim (cases_Bool (grants f.perm.bits want)) [
      | inl granted ↦ elim (cases_Bool (is_store want && not f.dirty)) [
        | inl again ↦ rw (granted, again) tt
        | inr done ↦ rw (granted, done) lt
      ]
      | inr fails ↦ rw fails tt
    ]

for-below : (frames page : ℕ) (want : Want) (o : Option Fill) → IfSome o (λ (f : Fill). f.frame < frames) → IsHitBelow frames (look_for page want o)
for-below frames page want None is = tt
for-below frames page want (Some f) is =
    elim (cases_Bool (eqb f.page page)) [
      | inl same ↦ rw same (at-below frames want f is)
      | inr differs ↦ rw differs tt
    ]

pub look-below : (entries frames page : ℕ) (want : Want) (fills : List Fill) → AreFilledBelow frames fills → IsHitBelow frames (look_up entries fills page want)
look-below entries frames page want fills all =
    for-below frames page want (last_fill entries (page % entries) fills) (find-below frames (λ (f : Fill). eqb (f.page % entries) (page % entries)) fills all)

-- ---- fills

pub filled-below : (frames page : ℕ) (answered : Walked) (fills : List Fill) → IsFoundBelow frames answered → AreFilledBelow frames fills → AreFilledBelow frames (filled_by page answered fills)
filled-below frames page (walked.Leaf frame perm dirty) fills found all = (found, all)
filled-below frames page walked.Away fills found all = all
filled-below frames page walked.Denied fills found all = all

pub IsFilled-learned : (entries page : ℕ) (old new : List (Option Kept)) (answered : Walked) → length new ≡ length old → ((fills : List Fill) → StandsFor old fills → StandsFor new (filled_by page answered fills)) → IsFoundBelow 16384 answered → IsFilled entries old → IsFilled entries new
IsFilled-learned entries page old new answered same learned found filled = record {
  size = same ∙ filled.size;
  fills = filled_by page answered filled.fills;
  stands = learned filled.fills filled.stands;
  below = filled-below 16384 page answered filled.fills found filled.below;
}

-- ---- walks

placed-below : (frames number : ℕ) (residency : Residency) → AreBelow frames residency → IfSome (placed number residency) (λ (p : PlacedPage). IsBelow frames p.place)
placed-below frames number [] all = tt
placed-below frames number (q ∷ residency) all =
    elim (cases_Bool (eqb q.entry.page number)) [
      | inl same ↦ rw same (all 0 q (omega arith))
      | inr differs ↦ rw differs (placed-below frames number residency (λ k d lt. all (suc k) d (omega arith)))
    ]

found-below : (frames bits : ℕ) (want : Want) (place : Place) → IsBelow frames place → IsFoundBelow frames (found_at bits want place)
found-below frames bits want Away is = tt
found-below frames bits want (Present frame a d) is =
    elim (cases_Bool (grants bits want)) [
      | inl granted ↦ rw granted is
      | inr fails ↦ rw fails tt
    ]

answer-below : (frames : ℕ) (want : Want) (o : Option PlacedPage) → IfSome o (λ (p : PlacedPage). IsBelow frames p.place) → IsFoundBelow frames (answer_of want o)
answer-below frames want None is = tt
answer-below frames want (Some p) is = found-below frames p.entry.perm.bits want p.place is

wider : (frames : ℕ) (answered : Walked) → frames ≤ 16384 → IsFoundBelow frames answered → IsFoundBelow 16384 answered
wider frames (walked.Leaf frame perm dirty) le lt = omega arith
wider frames walked.Away le found = tt
wider frames walked.Denied le found = tt

pub page_map-below : (frames : ℕ) (residency : Residency) (address : ℕ) (want : Want) → AreBelow frames residency → IsFoundBelow frames (page_map residency address want)
page_map-below frames residency address want all =
    subst (IsFoundBelow frames) (sym (page_map-is residency address want))
    (answer-below frames want (placed (page_of address) residency) (placed-below frames (page_of address) residency all))

pub answered-below : (frames : ℕ) (residency : Residency) (address : ℕ) (want : Want) (answered : Walked) → frames ≤ 16384 → AreBelow frames residency → answered ≡ page_map residency address want → IsFoundBelow 16384 answered
answered-below frames residency address want answered le all is =
    subst (IsFoundBelow 16384) (sym (is ∙ page_map-is residency address want))
    (wider frames (answer_of want (placed (page_of address) residency)) le
    (answer-below frames want (placed (page_of address) residency) (placed-below frames (page_of address) residency all)))
