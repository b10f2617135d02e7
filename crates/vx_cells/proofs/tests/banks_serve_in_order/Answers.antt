-- The words that wait are of the one frame.
use Rattle.std.proofs.Common.{◌≡◌, ℕ, [], ◌∷◌, ◌++◌, List, sym, ap, subst, ◌∙◌, arith}
use Rattle.vx_cells.specs.Banks.{BanksView, AreWithin}
use Rattle.vx_cells.specs.Cells.{CellsState}
use Rattle.vx_cells.specs.declared.banks.Queued.{Queued}
use Rattle.vx_cells.proofs.Queues.{AreWithin-more}
use Rattle.vx_cells.proofs.tests.banks_serve_in_order.Goals as goal

pub serve-requires-clause-within : goal.serve-requires-clause-within
serve-requires-clause-within g c =
    let frames : c.in_ok-cells.cells.frames ≡ 1 = ap (λ (s : CellsState). s.frames) c.in_ok-cells.ensures in
    let none : AreWithin c.new-banks.result.queued c.in_ok-cells.cells.frames = subst (λ (v : BanksView). AreWithin v.queued c.in_ok-cells.cells.frames) (sym c.new-banks.ensures) (λ k d lt. absurd (omega arith)) in
    let one = AreWithin-more c.new-banks.result.queued c.queued.result c.in_ok-cells.cells.frames none (omega (arith, frames, c.queued.ensures)) in
    let one' : AreWithin c.offer.new.self.queued c.in_ok-cells.cells.frames = subst (λ (v : BanksView). AreWithin v.queued c.in_ok-cells.cells.frames) (sym c.offer.ensures) one in
    let two = AreWithin-more c.offer.new.self.queued c.queued-2.result c.in_ok-cells.cells.frames one' (omega (arith, frames, c.queued-2.ensures)) in
    let two' : AreWithin c.offer-2.new.self.queued c.in_ok-cells.cells.frames = subst (λ (v : BanksView). AreWithin v.queued c.in_ok-cells.cells.frames) (sym c.offer-2.ensures) two in
    let three = AreWithin-more c.offer-2.new.self.queued c.queued-3.result c.in_ok-cells.cells.frames two' (omega (arith, frames, c.queued-3.ensures)) in
    subst (λ (v : BanksView). AreWithin v.queued c.in_ok-cells.cells.frames) (sym c.offer-3.ensures) three
