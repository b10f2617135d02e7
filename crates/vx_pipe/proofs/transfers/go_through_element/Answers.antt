use Rattle.std.proofs.Common.{◌∷◌, [], sym, ap, ◌∙◌, arith}
use Rattle.vx_vaddr.specs.Items.{accesses_of_items}
use Rattle.vx_vaddr.specs.Views.{movement_with}
use Rattle.vx_vector.specs.Accesses.{Movement, accesses_of_element}
use Rattle.vx_pipe.specs.Transfers.{element_batch}
use Rattle.vx_pipe.proofs.TransferItems.{element-wide, batch-of}
use Rattle.vx_pipe.proofs.transfers.go_through_element.Goals as goal

pub go_through_one-requires-clause-width : goal.go_through_one-requires-clause-width
go_through_one-requires-clause-width g c =
    let wide = element-wide (movement_with c.args.pattern.now (g.S.WordFile.words c.args.file.now)) c.args.i (c.in-Some.item ∷ []) c.requires.sound.width c.in-Some.ensures in
    wide 0 c.in-Some.item (omega arith)

pub returns-in-Some-clause-gone : goal.returns-in-Some-clause-gone
returns-in-Some-clause-gone g c start history e earlier f t bank wanted moved fetched ready stands =
    c.go_through_one.ensures.gone start history e earlier f (element_batch t c.args.i) bank wanted
    (batch-of c.accesses_are_of_their_items.ensures t c.args.i (c.in-Some.item ∷ []) (c.in-Some.ensures ∙ ap (λ (m : Movement). accesses_of_element m c.args.i) (sym moved)))
    fetched ready stands

pub go_through-requires-clause-widths : goal.go_through-requires-clause-widths
go_through-requires-clause-widths g c =
    element-wide (movement_with c.args.pattern.now (g.S.WordFile.words c.args.file.now)) c.args.i c.slice.result.now c.requires.sound.width (ap accesses_of_items c.slice.ensures ∙ c.fill.ensures)

pub returns-clause-gone : goal.returns-clause-gone
returns-clause-gone g c start history e earlier f t bank wanted moved fetched ready stands =
    c.go_through.ensures.gone start history e earlier f (element_batch t c.args.i) bank wanted
    (batch-of c.accesses_are_of_their_items.ensures t c.args.i c.slice.result.now
    (ap accesses_of_items c.slice.ensures ∙ c.fill.ensures ∙ ap (λ (m : Movement). accesses_of_element m c.args.i) (sym moved)))
    fetched ready stands
