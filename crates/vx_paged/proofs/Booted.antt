-- An image on physical memory: its tables, and its pages behind them.
use Rattle.std.proofs.Common.{◌≡◌, ℕ, suc, ◌+◌, ◌<◌, ◌≤◌, List, [], ◌∷◌, length, get_or, map, Some, refl, sym, ap, subst, ◌∙◌, inr, arith}
use Rattle.vx_base.specs.Pages.{IsPageList}
use Rattle.vx_base.specs.declared.perm.PageEntry.{PageEntry}
use Rattle.vx_cells.specs.Cells.{CellsState, IsMemory, Makes}
use Rattle.vx_flat.specs.State.{Flat}
use Rattle.vx_image.specs.Images.{entry_of_page}
use Rattle.vx_image.specs.Pages.{Memory}
use Rattle.vx_image.specs.Tables.{table_frames}
use Rattle.vx_paged.specs.Booting.{Boots, page_frame, page_writes, residency_at}
use Rattle.vx_paged.specs.Framed.{IsPlacement, IsWithin, in_turn, shown}
use Rattle.vx_paged.specs.Left.{rest_of}
use Rattle.vx_paged.specs.Placed.{AreAlone, IsPlacedAs}
use Rattle.vx_paged.specs.declared.placement.FramedPage.{FramedPage}
use Rattle.vx_paged.proofs.InTurn.{entries-in_turn, length-in_turn, frame-in_turn, IsPlacement-in_turn, IsWithin-in_turn}
use Rattle.vx_paged.proofs.Joined.{IsPlacedAs-boot, alike_back, framed_there}
use Rattle.vx_paged.proofs.Shown.{IsAt, place_in}
use Rattle.vx_paged.proofs.Staying.{held_stays}
use Rattle.vx_paged.proofs.Turns.{Joins}
use Rattle.vx_pending.specs.Alike.{AreAlike}
use Rattle.vx_tables.specs.Building.{Builds, table_writes}
use Rattle.vx_tables.specs.Residency.{Residency, pages_of, at_boot, placed, IsOf}
use Rattle.vx_tables.specs.Tables.{AreHeld, table_count}

-- a page in a frame in turn stands at the place behind the first that the frame is
place_of_frame : (first : ℕ) (pages : List PageEntry) (number : ℕ) (p : FramedPage) → (spot : IsAt (in_turn first pages) number p) → p.frame ≡ first + spot.place
place_of_frame first pages number p spot =
    let inside : spot.place < length pages = omega (arith, spot.within, length-in_turn first pages) in
    sym (ap (λ (q : FramedPage). q.frame) (spot.item p)) ∙ frame-in_turn first pages spot.place p inside

-- pages in turn, behind the tables, are alone
pub alone_in_turn : (first page : ℕ) (entries : List PageEntry) → first + table_count (pages_of (at_boot (Some page) entries)) ≤ page → AreAlone first (at_boot (Some page) entries)
alone_in_turn first page entries behind number p frame accessed dirty found present =
    let residency = at_boot (Some page) entries in
    let placement = in_turn page entries in
    let same = IsPlacedAs-boot page entries in
    let there = framed_there placement residency number frame p accessed dirty same found present in
    let spot = place_in number placement there.page there.found in
    let at_place : there.page.frame ≡ page + spot.place = place_of_frame page entries number there.page spot in (
      inr (omega (arith, behind, at_place, there.in_frame)),
      λ other q a d found_other present_other.
          let elsewhere = framed_there placement residency other frame q a d same found_other present_other in
          let other_spot = place_in other placement elsewhere.page elsewhere.found in
          let other_place : elsewhere.page.frame ≡ page + other_spot.place = place_of_frame page entries other elsewhere.page other_spot in
          let here : other_spot.place ≡ spot.place = omega (arith, at_place, other_place, there.in_frame, elsewhere.in_frame) in
          sym other_spot.number_is
          ∙ sym (ap (λ (r : FramedPage). r.entry.page) (other_spot.item there.page))
          ∙ ap (λ (n : ℕ). (get_or placement n there.page).entry.page) here
          ∙ ap (λ (r : FramedPage). r.entry.page) (spot.item there.page)
          ∙ spot.number_is,
    )

abbrev pub CountsTables : Type 0
CountsTables = (residency : Residency) (memory : Memory) → IsOf residency memory → table_count (pages_of residency) ≡ table_frames memory

boot_pages_of : (page : ℕ) (entries : List PageEntry) → pages_of (at_boot (Some page) entries) ≡ entries
boot_pages_of page entries = (IsPlacedAs-boot page entries).entries ∙ entries-in_turn page entries

length_pages : (pages : Memory) → length (map entry_of_page pages) ≡ length pages
length_pages [] = refl
length_pages (p ∷ pages) = ap suc (length_pages pages)

-- how many frames the tables of an image's pages take
pub count_of_tables : CountsTables → (pages : Memory) (entries : List PageEntry) → entries ≡ map entry_of_page pages → table_count entries ≡ table_frames pages
count_of_tables counts pages entries same =
    ap table_count (sym (boot_pages_of 0 entries)) ∙ counts (at_boot (Some 0) entries) pages (boot_pages_of 0 entries ∙ same)

pub length_of_pages : (pages : Memory) (entries : List PageEntry) → entries ≡ map entry_of_page pages → length entries ≡ length pages
length_of_pages pages entries same = ap length same ∙ length_pages pages

-- the facts of a boot, as its steps give them
pub record Begun (before middle after : CellsState) (first : ℕ) (pages : Memory) (entries : List PageEntry) (page : ℕ) (placement : List FramedPage) : Type 0 where
  pub memory : IsMemory before
  pub room : first + table_frames pages + length pages ≤ before.frames
  pub listed : IsPageList entries
  pub entries_are : entries ≡ map entry_of_page pages
  pub page_is : page ≡ first + table_frames pages
  pub placed : placement ≡ in_turn page entries
  pub builds : Builds before middle first (at_boot (Some page) entries)
  pub held : AreHeld middle first (at_boot (Some page) entries)
  pub makes : Makes middle after (page_writes middle.cycle placement pages (length placement))
  pub memory_after : IsMemory after
  pub rest : rest_of placement after ≡ rest_of placement middle
  pub is_shown : shown placement after.contents ≡ pages

module _ (counts : CountsTables) (itself : (s : Flat) → AreAlike s s.memory) (joins : Joins) (before middle after : CellsState) (first : ℕ) (pages : Memory) where
  boots_at : (placement : List FramedPage) → placement ≡ in_turn (page_frame first pages) (map entry_of_page pages) → Begun before middle after first pages (map entry_of_page pages) (page_frame first pages) placement → Boots before after first pages placement
  boots_at placement placed begun =
      let entries = map entry_of_page pages in
      let page : ℕ = page_frame first pages in
      let residency = residency_at first pages in
      let count : table_count (pages_of residency) ≡ table_frames pages = counts residency pages (boot_pages_of page entries) in
      let long : length entries ≡ length pages = length_pages pages in
      let few : page + length entries ≤ before.frames = omega (arith, begun.room, long) in
      let kept : IsPlacement placement = subst IsPlacement (sym placed) (IsPlacement-in_turn page entries begun.listed (omega (arith, few, begun.memory.limit))) in
      let same : IsPlacedAs placement residency = subst (λ (p : List FramedPage). IsPlacedAs p residency) (sym placed) (IsPlacedAs-boot page entries) in
      let alone : AreAlone first residency = alone_in_turn first page entries (omega (arith, count)) in
      let frames : after.frames ≡ before.frames = begun.makes.frames ∙ begun.builds.makes.frames in
      let within : IsWithin after.frames placement = subst (IsWithin after.frames) (sym placed) (IsWithin-in_turn page entries after.frames (omega (arith, few, frames))) in
      let held : AreHeld after first residency = held_stays placement middle after first residency kept same alone begun.held begun.rest in
      let tables : Makes before middle (table_writes before.cycle residency first (table_frames pages)) = subst (λ (n : ℕ). Makes before middle (table_writes before.cycle residency first n)) count begun.builds.makes in
      let number : length placement ≡ length pages = ap length placed ∙ length-in_turn page entries ∙ long in
      let written : Makes middle after (page_writes before.cycle placement pages (length pages)) =
      subst (λ (n : ℕ). Makes middle after (page_writes before.cycle placement pages n)) number
      (subst (λ (cycle : ℕ). Makes middle after (page_writes cycle placement pages (length placement))) begun.builds.makes.cycle begun.makes) in
      record {
        placed = placed;
        kept = kept;
        fits = record { memory = begun.memory_after; within = within };
        same = same;
        alone = alone;
        held = held;
        is_shown = begun.is_shown;
        shows = λ s mem.
            alike_back placement (record { pc = s.pc; x = s.x; v = s.v }) after first residency s same refl refl refl held alone
            (subst (AreAlike s) (mem ∙ sym begun.is_shown) (itself s));
        makes = joins before middle after _ _ tables written;
      }

  pub boots : (entries : List PageEntry) (page : ℕ) (placement : List FramedPage) → Begun before middle after first pages entries page placement → Boots before after first pages placement
  boots entries page placement begun =
      let with_entries : Begun before middle after first pages (map entry_of_page pages) page placement = subst (λ (es : List PageEntry). Begun before middle after first pages es page placement) begun.entries_are begun in
      let with_page : Begun before middle after first pages (map entry_of_page pages) (page_frame first pages) placement = subst (λ (n : ℕ). Begun before middle after first pages (map entry_of_page pages) n placement) begun.page_is with_entries in
      boots_at placement with_page.placed with_page
