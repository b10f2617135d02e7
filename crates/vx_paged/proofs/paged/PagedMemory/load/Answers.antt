-- The number that is read is that of the bytes at the address.
use Rattle.std.proofs.Common.{ℕ, ◌*◌, ◌%◌, List, sym, ap, subst, ◌∙◌}
use Rattle.vx_base.specs.Numbers.{field}
use Rattle.vx_base.specs.declared.machine.Want.TheVariants.{Load}
use Rattle.vx_paged.specs.Granted.{IsGrantedIn}
use Rattle.vx_paged.specs.declared.placement.FramedPage.{FramedPage}
use Rattle.vx_paged.proofs.Accesses.{below_frames, permitted_there, number_there, within_word}
use Rattle.vx_paged.proofs.paged.PagedMemory.load.Goals as goal

pub read_word-word-requires : goal.read_word-word-requires
read_word-word-requires g c =
    let granted = rw c.deref.ensures.value at c.in_ok-frame.ensures.frame in
    let here = subst (λ (p : List FramedPage). IsGrantedIn p c.args.address Load c.in_ok-frame.frame) c.self.view_is granted in
    below_frames c.args.self.now c.args.address c.in_ok-frame.frame Load here (g.C.Cells.state c.args.physical.now).frames c.requires.fits.within

pub returns-clause-number : goal.returns-clause-number
returns-clause-number g c =
    let granted = rw c.deref.ensures.value at c.in_ok-frame.ensures.frame in
    let here = subst (λ (p : List FramedPage). IsGrantedIn p c.args.address Load c.in_ok-frame.frame) c.self.view_is granted in
    let contents = (g.C.Cells.state c.args.physical.now).contents in
    let room = within_word c.args.width c.args.address c.requires.width c.requires.aligned c.ranges.address.fits in (
      permitted_there c.args.self.now c.args.address c.in_ok-frame.frame Load here contents,
      c.part_of.ensures
          ∙ ap (λ (w : ℕ). field w (8 * (c.args.address % 8)) (8 * c.args.width)) c.read_word-word.ensures.value
          ∙ sym (number_there c.args.self.now c.args.address c.in_ok-frame.frame Load here contents c.args.width room.0 room.1),
    )
