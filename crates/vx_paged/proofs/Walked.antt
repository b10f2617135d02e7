-- Walks leave pages in their frames, and what is shown.
use Rattle.std.proofs.Common.{◌≡◌, ℕ, zero, suc, ◌+◌, ◌-◌, ◌*◌, ◌/◌, ◌%◌, ◌<◌, ◌≤◌, Bool, true, false, ◌&&◌, eqb, leb, ltb, List, [], ◌∷◌, length, get_or, map, Some, None, refl, sym, ap, subst, ◌∙◌, inl, inr, arith}
use Rattle.std.specs.Prelude.{Option, ◌⊎◌, if◌then◌else◌}
use Rattle.std.specs.Option.{option_map_or}
use Rattle.std.proofs.lemmas.Bool.{cases_Bool, eq-eqb, ne_eqb, eqb-true, false≢true, leb-true, ltb-true}
use Rattle.std.proofs.Math.Bool.{and-false}
use Rattle.std.proofs.lemmas.List.Folds.{list_any_none}
use Rattle.vx_base.specs.Numbers.{field}
use Rattle.vx_base.specs.Page.{byte_of_words}
use Rattle.vx_base.specs.Permissions.{grants}
use Rattle.vx_base.specs.declared.machine.Want.{Want}
use Rattle.vx_base.specs.declared.perm.PageEntry.{PageEntry}
use Rattle.vx_cells.specs.Cells.{CellsState}
use Rattle.vx_episode.specs.History.{Walk, after_walks}
use Rattle.vx_image.specs.Pages.{page_of}
use Rattle.vx_paged.specs.Framed.{IsPlacement, entries_of, framed, shown}
use Rattle.vx_hart.specs.Rest.{Rest}
use Rattle.vx_paged.specs.Left.{is_framed, rest_of}
use Rattle.vx_paged.specs.Placed.{AreAlone, IsPlacedAs, frame_of}
use Rattle.vx_paged.specs.declared.placement.FramedPage.{FramedPage}
use Rattle.vx_paged.proofs.Found.{framed_at}
use Rattle.vx_paged.proofs.Joined.{framed_there, present_there}
use Rattle.vx_paged.proofs.Shown.{rising, shown_same}
use Rattle.vx_tables.specs.Residency.{Place, PlacedPage, Residency, pages_of, placed, moved, with_place, touched, after_walk, is_store}
use Rattle.vx_tables.specs.Residency.Place.{Away, Present}
use Rattle.vx_tables.specs.Tables.{SameBut, table_count}

abbrev frames_of : Residency → List (Option ℕ)
frames_of residency = map (λ (p : PlacedPage). frame_of p.place) residency

-- ---- a page that is moved within its frame

moved-entry : (number : ℕ) (place : Place) (q : PlacedPage) → (moved number place q).entry ≡ q.entry
moved-entry number place q =
    elim (cases_Bool (eqb q.entry.page number)) [
      | inl here ↦ rw here refl
      | inr other ↦ rw other refl
    ]

with-entries : (number : ℕ) (place : Place) (residency : Residency) → pages_of (with_place number place residency) ≡ pages_of residency
with-entries number place [] = refl
with-entries number place (q ∷ residency) = λ i. moved-entry number place q i ∷ with-entries number place residency i

-- each page of that number is in the frame
abbrev AreIn : (number : ℕ) (frame : Option ℕ) → Residency → Type 0
AreIn number frame residency = (k : ℕ) (d : PlacedPage) → k < length residency → (get_or residency k d).entry.page ≡ number → frame ≡ frame_of (get_or residency k d).place

moved-frame : (number : ℕ) (place : Place) (q : PlacedPage) → (q.entry.page ≡ number → frame_of place ≡ frame_of q.place) → frame_of (moved number place q).place ≡ frame_of q.place
moved-frame number place q is =
    elim (cases_Bool (eqb q.entry.page number)) [
      | inl here ↦ rw here (is (eqb-true q.entry.page number here))
      | inr other ↦ rw other refl
    ]

with-frames : (number : ℕ) (place : Place) (residency : Residency) → AreIn number (frame_of place) residency → frames_of (with_place number place residency) ≡ frames_of residency
with-frames number place [] each = refl
with-frames number place (q ∷ residency) each =
    λ i. moved-frame number place q (each 0 q (omega arith)) i ∷ with-frames number place residency (λ k d below. each (suc k) d (omega arith)) i

touched-frame : (permissions : ℕ) (want : Want) (place : Place) → frame_of (touched permissions want place) ≡ frame_of place
touched-frame permissions want Away = refl
touched-frame permissions want (Present frame accessed dirty) =
    elim (cases_Bool (grants permissions want)) [
      | inl granted ↦ rw granted refl
      | inr other ↦ rw other refl
    ]

-- ---- numbers rise, so a page that is found is the only one of its number

abbrev AreRising : Residency → Type 0
AreRising residency = (i j : ℕ) (d : PlacedPage) → i < j → j < length residency → (get_or residency i d).entry.page < (get_or residency j d).entry.page

only : (number : ℕ) (residency : Residency) (p : PlacedPage) → AreRising residency → placed number residency ≡ Some p → (k : ℕ) (d : PlacedPage) → k < length residency → (get_or residency k d).entry.page ≡ number → get_or residency k d ≡ p
only number [] p rise found k d below same = absurd (omega arith)
only number (q ∷ residency) p rise found zero d below same =
    let it : Some q ≡ Some p = rw (eq-eqb q.entry.page number same) at found in cc
only number (q ∷ residency) p rise found (suc k) d below same =
    let apart : eqb q.entry.page number ≡ false = ne_eqb q.entry.page number (λ here. omega (arith, rise 0 (suc k) d (omega arith) below, same, here)) in
    only number residency p (λ i j e less within. rise (suc i) (suc j) e (omega arith) (omega arith)) (rw apart at found) k d (omega arith) same

placed-entry : (placement : List FramedPage) (residency : Residency) → pages_of residency ≡ entries_of placement → (k : ℕ) (d : PlacedPage) (e : FramedPage) → k < length residency → (get_or residency k d).entry.page ≡ (get_or placement k e).entry.page
placed-entry placement [] same k d e below = absurd (omega arith)
placed-entry [] (q ∷ residency) same k d e below = cc
placed-entry (p ∷ placement) (q ∷ residency) same zero d e below =
    let first : q.entry ≡ p.entry = cc in
    ap (λ (entry : PageEntry). entry.page) first
placed-entry (p ∷ placement) (q ∷ residency) same (suc k) d e below =
    let rest : pages_of residency ≡ entries_of placement = cc in
    placed-entry placement residency rest k d e (omega arith)

same-length : (placement : List FramedPage) (residency : Residency) → pages_of residency ≡ entries_of placement → length residency ≡ length placement
same-length [] [] same = refl
same-length (p ∷ placement) [] same = cc
same-length [] (q ∷ residency) same = cc
same-length (p ∷ placement) (q ∷ residency) same =
    let rest : pages_of residency ≡ entries_of placement = cc in
    ap suc (same-length placement residency rest)

residency-rises : (placement : List FramedPage) (residency : Residency) → IsPlacement placement → pages_of residency ≡ entries_of placement → (default : FramedPage) → AreRising residency
residency-rises placement residency kept same default i j d less below =
    omega (arith, rising placement kept i j default less (omega (arith, same-length placement residency same)), placed-entry placement residency same i d default (omega arith), placed-entry placement residency same j d default below)

-- ---- walks

walk-by : (placement : List FramedPage) (residency : Residency) (number : ℕ) (want : Want) (found : Option PlacedPage) → IsPlacement placement → IsPlacedAs placement residency → placed number residency ≡ found
    → IsPlacedAs placement (option_map_or (λ (p : PlacedPage). with_place number (touched p.entry.perm.bits want p.place) residency) found residency)
walk-by placement residency number want None kept is found = is
walk-by placement residency number want (Some p) kept is found =
    let default : FramedPage = record { entry = record { page = 0; perm = record { bits = 0 } }; frame = 0 } in
    record {
      entries = with-entries number (touched p.entry.perm.bits want p.place) residency ∙ is.entries;
      frames = with-frames number (touched p.entry.perm.bits want p.place) residency (λ k d below same.
          touched-frame p.entry.perm.bits want p.place
          ∙ ap (λ (q : PlacedPage). frame_of q.place) (sym (only number residency p (residency-rises placement residency kept is.entries default) found k d below same)))
          ∙ is.frames;
    }

walk-placed : (placement : List FramedPage) (residency : Residency) (address : ℕ) (want : Want) → IsPlacement placement → IsPlacedAs placement residency → IsPlacedAs placement (after_walk residency address want)
unfolding after_walk
walk-placed placement residency address want kept is = walk-by placement residency (page_of address) want (placed (page_of address) residency) kept is refl

pub walks-placed : (placement : List FramedPage) (residency : Residency) (walks : List Walk) → IsPlacement placement → IsPlacedAs placement residency → IsPlacedAs placement (after_walks residency walks)
walks-placed placement residency [] kept is = is
walks-placed placement residency (w ∷ walks) kept is =
    walk-placed placement (after_walks residency walks) w.address w.want kept (walks-placed placement residency walks kept is)

-- ---- two residencies that are placed alike

-- in the frames of one placement, pages are alone by either
pub alone-by : (placement : List FramedPage) (one other : Residency) (first : ℕ) → IsPlacedAs placement one → IsPlacedAs placement other → AreAlone first one → AreAlone first other
alone-by placement one other first is_one is_other alone number p frame accessed dirty found present =
    let there = framed_there placement other number frame p accessed dirty is_other found present in
    let back = present_there placement one number there.page is_one there.found in
    let at : back.page.place ≡ Present frame back.accessed back.dirty = back.present ∙ ap (λ (f : ℕ). Present f back.accessed back.dirty) there.in_frame in
    let apart = alone number back.page frame back.accessed back.dirty back.found at in
    let pages : pages_of one ≡ pages_of other = is_one.entries ∙ sym is_other.entries in (
      subst (λ (es : List PageEntry). (frame < first) ⊎ (first + table_count es ≤ frame)) pages apart.0,
      λ number_there q a d found_there present_q.
          let far = framed_there placement other number_there frame q a d is_other found_there present_q in
          let near = present_there placement one number_there far.page is_one far.found in
          apart.1 number_there near.page near.accessed near.dirty near.found (near.present ∙ ap (λ (f : ℕ). Present f near.accessed near.dirty) far.in_frame),
    )

-- ---- what is shown

byte-same : (before after : List ℕ) (byte : ℕ) → get_or after (byte / 8) 0 ≡ get_or before (byte / 8) 0 → byte_of_words after byte ≡ byte_of_words before byte
byte-same before after byte same = ap (λ (w : ℕ). field w (8 * (byte % 8)) 8) same

leb-not : (a b : ℕ) → b < a → leb a b ≡ false
leb-not a b less =
    elim (cases_Bool (leb a b)) [
      | inl holds ↦ absurd (omega (arith, leb-true a b holds, less))
      | inr is ↦ is
    ]

ltb-not : (a b : ℕ) → b ≤ a → ltb a b ≡ false
ltb-not a b le =
    elim (cases_Bool (ltb a b)) [
      | inl holds ↦ absurd (omega (arith, ltb-true a b holds, le))
      | inr is ↦ is
    ]

outside : (first count word frame : ℕ) → word / 512 ≡ frame → (frame < first) ⊎ (first + count ≤ frame) → (leb (512 * first) word && ltb word (512 * (first + count))) ≡ false
outside first count word frame at (inl below) = rw (leb-not (512 * first) word (omega (arith, at, below))) refl
outside first count word frame at (inr behind) = rw (ltb-not word (512 * (first + count)) (omega (arith, at, behind))) (and-false (leb (512 * first) word))

pub shown-stays : (placement : List FramedPage) (first : ℕ) (residency : Residency) (before after : List ℕ) → IsPlacement placement → IsPlacedAs placement residency → AreAlone first residency → SameBut first (table_count (pages_of residency)) before after → shown placement after ≡ shown placement before
unfolding shown
shown-stays placement first residency before after kept is alone same =
    shown_same (byte_of_words after) (byte_of_words before) placement (λ k d below byte from to.
    let p = get_or placement k d in
    let found = framed_at placement (rising placement kept) p.entry.page k d below refl in
    let there = present_there placement residency p.entry.page p is found in
    let apart = (alone p.entry.page there.page p.frame there.accessed there.dirty there.found there.present).0 in
    let at : byte / 8 / 512 ≡ p.frame = omega (arith, from, to) in
    byte-same before after byte (same (byte / 8) (outside first (table_count (pages_of residency)) (byte / 8) p.frame at apart)))

-- a frame that no page is in
pub not-framed : (placement : List FramedPage) (residency : Residency) (frame : ℕ) → IsPlacement placement → IsPlacedAs placement residency
    → ((number : ℕ) (p : PlacedPage) (accessed dirty : Bool) → placed number residency ≡ Some p → p.place ≡ Present frame accessed dirty → ⊥) → is_framed placement frame ≡ false
not-framed placement residency frame kept is none =
    list_any_none (λ (p : FramedPage). eqb p.frame frame) placement (λ k d below.
    let p = get_or placement k d in
    let found = framed_at placement (rising placement kept) p.entry.page k d below refl in
    let there = present_there placement residency p.entry.page p is found in
    ne_eqb p.frame frame (λ here.
    none p.entry.page there.page there.accessed there.dirty there.found (there.present ∙ ap (λ (f : ℕ). Present f there.accessed there.dirty) here)))

-- what is left tells the placement
same-framed : (one other : List FramedPage) → entries_of one ≡ entries_of other → map (λ (p : FramedPage). p.frame) one ≡ map (λ (p : FramedPage). p.frame) other → one ≡ other
same-framed [] [] entries frames = refl
same-framed [] (q ∷ other) entries frames = cc
same-framed (p ∷ one) [] entries frames = cc
same-framed (p ∷ one) (q ∷ other) entries frames =
    let entry : p.entry ≡ q.entry = cc in
    let frame : p.frame ≡ q.frame = cc in
    let more_entries : entries_of one ≡ entries_of other = cc in
    let more_frames : map (λ (p : FramedPage). p.frame) one ≡ map (λ (p : FramedPage). p.frame) other = cc in
    λ i. record { entry = entry i; frame = frame i } ∷ same-framed one other more_entries more_frames i

pub same-placement : (one other : List FramedPage) (before after : CellsState) → rest_of other after ≡ rest_of one before → other ≡ one
same-placement one other before after same = same-framed other one (ap (λ (r : Rest). r.pages) same) (ap (λ (r : Rest). r.places) same)
