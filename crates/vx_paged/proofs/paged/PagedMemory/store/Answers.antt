-- The bytes that are put are those at the address, and the word is one of a page's frame.
use Rattle.std.proofs.Common.{◌≡◌, ℕ, ◌+◌, ◌*◌, ◌/◌, ◌%◌, ◌<◌, List, length, map, get_or, set, sym, ap, subst, ◌∙◌, arith}
use Rattle.vx_base.specs.declared.machine.Want.TheVariants.{Store}
use Rattle.vx_cells.specs.Merging.{merged}
use Rattle.vx_paged.specs.Framed.{IsPlacement, entries_of, shown}
use Rattle.vx_paged.specs.Granted.{IsGrantedIn}
use Rattle.vx_paged.specs.Left.{blanked}
use Rattle.vx_paged.specs.declared.placement.FramedPage.{FramedPage}
use Rattle.vx_paged.proofs.Accesses.{below_frames, permitted_there, put_there, left_there, within_word}
use Rattle.vx_paged.proofs.paged.PagedMemory.store.Goals as goal

pub word_index-requires : goal.word_index-requires
word_index-requires g c =
    let granted = rw c.deref.ensures.value at c.in-Some.ensures.frame in
    below_frames c.self.inside.pages.items c.args.address c.in-Some.frame Store granted 16384 c.self.invariant.kept.limit

pub write-requires : goal.write-requires
write-requires g c =
    let granted = rw c.deref.ensures.value at c.in-Some.ensures.frame in
    let here = subst (λ (p : List FramedPage). IsGrantedIn p c.args.address Store c.in-Some.frame) c.self.view_is granted in
    let below = below_frames c.args.self.now c.args.address c.in-Some.frame Store here (g.C.Cells.state c.args.physical.now).frames c.requires.fits.within in
    omega (arith, below, c.word_index.ensures)

pub returns-clause-rest : goal.returns-clause-rest
returns-clause-rest g c =
    let granted = rw c.deref.ensures.value at c.in-Some.ensures.frame in
    let contents = (g.C.Cells.state c.args.physical.now).contents in
    let made = merged c.bytes_named.result (get_or contents c.word_index.result 0) (merged c.bytes_named.result 0 c.moved_up.result) in
    let words : blanked c.self.inside.pages.items 0 (g.C.Cells.state c.write.new.self).contents ≡ blanked c.args.self.now 0 contents =
    ap (blanked c.self.inside.pages.items 0) c.write.ensures.makes.contents
    ∙ ap (λ (n : ℕ). blanked c.self.inside.pages.items 0 (set contents n made)) c.word_index.ensures
    ∙ left_there c.self.inside.pages.items c.args.address c.in-Some.frame Store granted contents made
    ∙ ap (λ (p : List FramedPage). blanked p 0 contents) c.self.view_is in
    λ i. record { frames = c.write.ensures.makes.frames i; cycle = c.write.ensures.makes.cycle i; words = words i; pages = entries_of (c.self.view_is i); places = map (λ (p : FramedPage). p.frame) (c.self.view_is i) }

pub returns-clause-stored : goal.returns-clause-stored
returns-clause-stored g c =
    let granted = rw c.deref.ensures.value at c.in-Some.ensures.frame in
    let here = subst (λ (p : List FramedPage). IsGrantedIn p c.args.address Store c.in-Some.frame) c.self.view_is granted in
    sym (permitted_there c.args.self.now c.args.address c.in-Some.frame Store here (g.C.Cells.state c.args.physical.now).contents)

pub returns-clause-memory : goal.returns-clause-memory
returns-clause-memory g c =
    let granted = rw c.deref.ensures.value at c.in-Some.ensures.frame in
    let here = subst (λ (p : List FramedPage). IsGrantedIn p c.args.address Store c.in-Some.frame) c.self.view_is granted in
    let kept = subst IsPlacement c.self.view_is c.self.invariant.kept in
    let contents = (g.C.Cells.state c.args.physical.now).contents in
    let below = below_frames c.args.self.now c.args.address c.in-Some.frame Store here (g.C.Cells.state c.args.physical.now).frames c.requires.fits.within in
    let room = within_word c.args.width c.args.address c.requires.width c.requires.aligned c.ranges.address.fits in
    let mask = c.bytes_named.result in
    let inside : 512 * c.in-Some.frame + c.args.address % 4096 / 8 < length contents = omega (arith, below, c.requires.fits.memory.whole) in
    ap (shown c.self.inside.pages.items) c.write.ensures.makes.contents
    ∙ ap (λ (p : List FramedPage). shown p (set contents c.word_index.result (merged mask (get_or contents c.word_index.result 0) (merged mask 0 c.moved_up.result)))) c.self.view_is
    ∙ ap (λ (n : ℕ). shown c.args.self.now (set contents n (merged mask (get_or contents n 0) (merged mask 0 c.moved_up.result)))) c.word_index.ensures
    ∙ ap (λ (v : ℕ). shown c.args.self.now (set contents (512 * c.in-Some.frame + c.args.address % 4096 / 8) (merged mask (get_or contents (512 * c.in-Some.frame + c.args.address % 4096 / 8) 0) (merged mask 0 v)))) c.moved_up.ensures
    ∙ put_there c.args.self.now c.args.address c.in-Some.frame Store here c.words_are_merged_by_bytes.ensures.byte kept contents c.args.width mask c.args.value inside room.0 room.1 c.bytes_named.ensures
