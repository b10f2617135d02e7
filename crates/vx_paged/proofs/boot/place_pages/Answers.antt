-- One page more, and all of them.
use Rattle.std.proofs.Common.{◌≡◌, ℕ, ◌+◌, ◌-◌, ◌*◌, ◌<◌, List, length, map, get_or, take, drop, refl, ap, subst, ◌∙◌, arith}
use Rattle.vx_cells.specs.Cells.{with_accesses}
use Rattle.vx_paged.specs.Booting.{framed_at, page_at, page_writes}
use Rattle.vx_paged.specs.Framed.{entries_of, shown}
use Rattle.vx_paged.specs.Left.{blanked}
use Rattle.vx_paged.specs.declared.placement.FramedPage.{FramedPage}
use Rattle.vx_paged.proofs.Placing.{count_is, bytes_of_page, whole_of, small-more, shown-pages, blanked-pages}
use Rattle.vx_paged.proofs.Turns.{no-pages, page-more}
use Rattle.vx_paged.proofs.boot.place_pages.Goals as goal

pub loop-i-init : goal.loop-i-init
loop-i-init g c = record {
  memory = c.frames-frames.ensures.memory;
  frames = refl;
  makes = no-pages c.accesses_are_made_in_turn.ensures.none (g.C.Cells.state c.args.cells.now) c.args.placement.now c.args.image.now.pages;
  small = λ k below. absurd (omega arith);
}

pub overflow_mul-start : goal.overflow_mul-start
overflow_mul-start g c =
    let whole = c.contents-contents.ensures.kept.whole in
    let count = count_is c.args.placement.now c.args.image.now.pages c.contents-contents.result.entries.now c.contents-contents.result.bytes.now c.requires.pages c.contents-contents.ensures.pages in
    let same = ap length c.pages-pages.ensures.pages in
    omega (arith, whole, count, same)

pub overflow_add-start : goal.overflow_add-start
overflow_add-start g c =
    let whole = c.contents-contents.ensures.kept.whole in
    let count = count_is c.args.placement.now c.args.image.now.pages c.contents-contents.result.entries.now c.contents-contents.result.bytes.now c.requires.pages c.contents-contents.ensures.pages in
    let same = ap length c.pages-pages.ensures.pages in
    omega (arith, whole, count, same)

pub slice_bounds-write_page-end : goal.slice_bounds-write_page-end
slice_bounds-write_page-end g c =
    let whole = c.contents-contents.ensures.kept.whole in
    let count = count_is c.args.placement.now c.args.image.now.pages c.contents-contents.result.entries.now c.contents-contents.result.bytes.now c.requires.pages c.contents-contents.ensures.pages in
    let same = ap length c.pages-pages.ensures.pages in
    omega (arith, whole, count, same)

pub loop-i-preserved : goal.loop-i-preserved
loop-i-preserved g c =
    let placement = c.args.placement.now in
    let pages = c.args.image.now.pages in
    let entries = c.contents-contents.result.entries.now in
    let bytes = c.contents-contents.result.bytes.now in
    let i : ℕ = c.loop-i.i in
    let count = count_is placement pages entries bytes c.requires.pages c.contents-contents.ensures.pages in
    let same = ap length c.pages-pages.ensures.pages in
    let wide : 4096 * i + 4096 - 4096 * i ≡ 4096 = omega arith in
    let piece = bytes_of_page pages entries bytes i (4096 * i + 4096 - 4096 * i) c.contents-contents.ensures.pages (omega (arith, count, same)) wide in
    record {
      memory = c.accesses_are_made_in_turn.ensures.memory (g.C.Cells.state c.loop-i.cells) (g.C.Cells.state c.write_page.new.cells) _ c.write_page.ensures.makes c.loop-i.invariant.memory;
      frames = c.write_page.ensures.makes.frames ∙ c.loop-i.invariant.frames;
      makes = page-more c.accesses_are_made_in_turn.ensures.joined (g.C.Cells.state c.args.cells.now) (g.C.Cells.state c.loop-i.cells) (g.C.Cells.state c.write_page.new.cells) placement pages i
          (framed_at c.pages-pages.result.now i).frame (take (4096 * i + 4096 - 4096 * i) (drop (4096 * i) bytes))
          (ap (λ (p : List FramedPage). (framed_at p i).frame) c.pages-pages.ensures.pages) piece c.loop-i.invariant.makes c.write_page.ensures.makes;
      small = small-more pages i (take (4096 * i + 4096 - 4096 * i) (drop (4096 * i) bytes)) c.loop-i.invariant.small piece c.write_page.ensures.small;
    }

pub returns-clause-rest : goal.returns-clause-rest
returns-clause-rest g c =
    let placement = c.args.placement.now in
    let pages = c.args.image.now.pages in
    let before = g.C.Cells.state c.args.cells.now in
    let last : c.loop-i.i ≡ length placement = omega (arith, ap length c.pages-pages.ensures.pages) in
    let small = subst (λ (n : ℕ). (k : ℕ) → k < n → (j : ℕ) → get_or (page_at pages k).bytes j 0 < 256) last c.loop-i.invariant.small in
    let words : blanked placement 0 (g.C.Cells.state c.loop-i.cells).contents ≡ blanked placement 0 before.contents =
    ap (blanked placement 0) (c.loop-i.invariant.makes.contents ∙ ap (λ (n : ℕ). with_accesses before.contents (page_writes before.cycle placement pages n)) last)
    ∙ blanked-pages c.words_are_merged_by_bytes.ensures.whole before.cycle placement c.pages-pages.ensures.kept pages before.contents before.frames c.frames-frames.ensures.memory.whole c.requires.within (length placement) (omega arith) small in
    λ i. record { frames = c.loop-i.invariant.makes.frames i; cycle = c.loop-i.invariant.makes.cycle i; words = words i; pages = entries_of placement; places = map (λ (p : FramedPage). p.frame) placement }

pub returns-clause-shown : goal.returns-clause-shown
returns-clause-shown g c =
    let placement = c.args.placement.now in
    let pages = c.args.image.now.pages in
    let before = g.C.Cells.state c.args.cells.now in
    let entries = c.contents-contents.result.entries.now in
    let bytes = c.contents-contents.result.bytes.now in
    let last : c.loop-i.i ≡ length placement = omega (arith, ap length c.pages-pages.ensures.pages) in
    let small = subst (λ (n : ℕ). (k : ℕ) → k < n → (j : ℕ) → get_or (page_at pages k).bytes j 0 < 256) last c.loop-i.invariant.small in
    ap (shown placement) (c.loop-i.invariant.makes.contents ∙ ap (λ (n : ℕ). with_accesses before.contents (page_writes before.cycle placement pages n)) last)
    ∙ shown-pages c.words_are_merged_by_bytes.ensures.whole before.cycle placement c.pages-pages.ensures.kept pages before.contents before.frames c.frames-frames.ensures.memory.whole c.requires.within small c.requires.pages
    (whole_of pages entries bytes c.contents-contents.ensures.pages c.contents-contents.ensures.kept.whole)
