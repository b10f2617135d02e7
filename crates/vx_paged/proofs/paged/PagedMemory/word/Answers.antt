-- The word that is read is that of the four bytes at the address.
use Rattle.std.proofs.Common.{ℕ, ◌*◌, ◌%◌, List, refl, sym, ap, subst, ◌∙◌}
use Rattle.vx_base.specs.Numbers.{field}
use Rattle.vx_base.specs.declared.machine.Want.TheVariants.{Fetch}
use Rattle.vx_paged.specs.Granted.{IsGrantedIn}
use Rattle.vx_paged.specs.declared.placement.FramedPage.{FramedPage}
use Rattle.vx_paged.proofs.Accesses.{below_frames, permitted_there, number_there, within_word}
use Rattle.vx_paged.proofs.paged.PagedMemory.word.Goals as goal

pub read_word-word-requires : goal.read_word-word-requires
read_word-word-requires g c =
    let granted = rw c.deref.ensures.value at c.in_ok-frame.ensures.frame in
    let here = subst (λ (p : List FramedPage). IsGrantedIn p c.args.address Fetch c.in_ok-frame.frame) c.self.view_is granted in
    below_frames c.args.self.now c.args.address c.in_ok-frame.frame Fetch here (g.C.Cells.state c.args.physical.now).frames c.requires.fits.within

pub returns-clause-word : goal.returns-clause-word
returns-clause-word g c =
    let granted = rw c.deref.ensures.value at c.in_ok-frame.ensures.frame in
    let here = subst (λ (p : List FramedPage). IsGrantedIn p c.args.address Fetch c.in_ok-frame.frame) c.self.view_is granted in
    let contents = (g.C.Cells.state c.args.physical.now).contents in
    let room = within_word 4 c.args.address refl c.requires.aligned c.ranges.address.fits in (
      permitted_there c.args.self.now c.args.address c.in_ok-frame.frame Fetch here contents,
      c.half_of.ensures
          ∙ ap (λ (w : ℕ). field w (8 * (c.args.address % 8)) 32) c.read_word-word.ensures.value
          ∙ sym (number_there c.args.self.now c.args.address c.in_ok-frame.frame Fetch here contents 4 room.0 room.1),
    )
