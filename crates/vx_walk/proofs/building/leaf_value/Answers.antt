-- The first page at or above the number is the page, or there is none.
use Rattle.std.proofs.Common.{◌≡◌, ◌+◌, ◌<◌, List, ℕ, length, get_or, sym, ap, ◌∙◌, arith}
use Rattle.std.specs.Prelude.{Option, option_map}
use Rattle.std.specs.Option.{option_map_or}
use Rattle.vx_base.specs.declared.perm.PageEntry.{PageEntry}
use Rattle.vx_tables.specs.Entries.{page_entry}
use Rattle.vx_tables.specs.Residency.{PlacedPage, place_at_boot}
use Rattle.vx_walk.proofs.Ordered.{nothing}
use Rattle.vx_walk.proofs.building.leaf_value.Goals as goal

pub returns-then-index-len : goal.returns-then-index-len
returns-then-index-len c =
    sym (ap (λ (o : Option PlacedPage). option_map_or (λ (p : PlacedPage). page_entry p.entry.perm.bits p.place) o 0)
    (c.tables_are_built_in_turn.ensures.missing c.args.frame c.args.pages.now c.args.number c.first_from-index.result c.len.ensures.kept c.first_from-index.ensures
    (λ d within. absurd (omega arith))))

pub returns-then-entry-number : goal.returns-then-entry-number
returns-then-entry-number c =
    sym (ap (λ (o : Option PlacedPage). option_map_or (λ (p : PlacedPage). page_entry p.entry.perm.bits p.place) o 0)
    (c.tables_are_built_in_turn.ensures.missing c.args.frame c.args.pages.now c.args.number c.first_from-index.result c.len.ensures.kept c.first_from-index.ensures
    (λ d within same. c.if-entry-number.true (ap (λ (e : PageEntry). e.page) (c.entry_at-entry.ensures d) ∙ same))))

pub returns : goal.returns
returns c =
    let index : ℕ = c.first_from-index.result in
    let pages : List PageEntry = c.args.pages.now in
    let entry : c.entry_at-entry.result ≡ get_or pages index nothing = c.entry_at-entry.ensures nothing in
    let within : index < length pages = omega arith in
    let page = sym (ap (λ (e : PageEntry). e.page) entry) ∙ c.if-entry-number.false in
    let found = c.tables_are_built_in_turn.ensures.found c.args.frame pages c.args.number index nothing c.first_from-index.ensures within page in
    c.page_value.ensures
    ∙ ap (λ (f : Option ℕ). page_entry c.entry_at-entry.result.perm.bits (place_at_boot f)) c.frame_behind.ensures
    ∙ ap (λ (e : PageEntry). page_entry e.perm.bits (place_at_boot (option_map (λ f. f + index) c.args.frame))) entry
    ∙ sym (ap (λ (o : Option PlacedPage). option_map_or (λ (p : PlacedPage). page_entry p.entry.perm.bits p.place) o 0) found)
