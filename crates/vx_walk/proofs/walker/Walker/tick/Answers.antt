-- A step reads the next entry of the tables, or ends with the page map.
use Rattle.std.proofs.Common.{◌≡◌, ℕ, [], ◌∷◌, sym, ap, subst, ◌∙◌, arith}
use Rattle.std.specs.Prelude.{slice_index}
use Rattle.vx_cells.specs.Cells.{CellsState, Makes, read_at}
use Rattle.vx_tables.specs.Walking.{Walking, stage_after, Agree, CanTick, IsWalk, WalkGoesOn, WalkEnds}
use Rattle.vx_tables.specs.Walks.{entry_word}
use Rattle.vx_tables.specs.declared.stage.Stage.{Stage}
use Rattle.vx_tables.specs.declared.stage.Stage.TheVariants as stage
use Rattle.vx_walk.proofs.walker.Walker.tick.Goals as goal

pub entry_word-requires-clause-frame : goal.entry_word-requires-clause-frame
entry_word-requires-clause-frame g c =
    let at : c.args.self.now.stage ≡ stage.Reads c.in-Reads.level c.in-Reads.frame = sym (ap (λ (w : Walking). w.stage) c.self.view_is) ∙ c.in-Reads.is in
    let there = subst (λ (s : Stage). CanTick (g.C.Cells.state c.args.cells.now) s) at c.requires in
    omega (arith, there, c.frames-frames.ensures.memory.limit)

pub read-value-requires : goal.read-value-requires
read-value-requires g c =
    let at : c.args.self.now.stage ≡ stage.Reads c.in-Reads.level c.in-Reads.frame = sym (ap (λ (w : Walking). w.stage) c.self.view_is) ∙ c.in-Reads.is in
    let there = subst (λ (s : Stage). CanTick (g.C.Cells.state c.args.cells.now) s) at c.requires in
    omega (arith, there, c.entry_word.ensures)

pub stage_after-self-inside-requires-clause-frame : goal.stage_after-self-inside-requires-clause-frame
stage_after-self-inside-requires-clause-frame g c =
    let at : c.args.self.now.stage ≡ stage.Reads c.in-Reads.level c.in-Reads.frame = sym (ap (λ (w : Walking). w.stage) c.self.view_is) ∙ c.in-Reads.is in
    let there = subst (λ (s : Stage). CanTick (g.C.Cells.state c.args.cells.now) s) at c.requires in
    omega (arith, there, c.frames-frames.ensures.memory.limit)

pub returns-in-Reads-clause-walk : goal.returns-in-Reads-clause-walk
returns-in-Reads-clause-walk g c seen residency root done held agree going =
    let before : CellsState = g.C.Cells.state c.args.cells.now in
    let after : CellsState = g.C.Cells.state c.read-value.new.self in
    let level : ℕ = c.in-Reads.level in
    let frame : ℕ = c.in-Reads.frame in
    let here : Walking = record { address = c.self.inside.address; want = c.self.inside.want; port = c.self.inside.port; stage = c.self.inside.stage } in
    let next : Stage = c.stage_after-self-inside.result in
    let word : c.entry_word.result ≡ entry_word frame here.address level = c.entry_word.ensures in
    let makes : Makes before after (read_at before here.port (entry_word frame here.address level) ∷ []) =
    subst (λ (n : ℕ). Makes before after (read_at before here.port n ∷ [])) word c.read-value.ensures.makes in
    let value : c.read-value.result ≡ slice_index before.contents (entry_word frame here.address level) =
    c.read-value.ensures.value ∙ ap (slice_index before.contents) word in
    let becomes : next ≡ stage_after here.want here.address level frame (slice_index before.contents (entry_word frame here.address level)) =
    c.stage_after-self-inside.ensures.value ∙ ap (stage_after here.want here.address level frame) value in
    let P : Walking → Type 0 = λ w. Agree w.address w.want seen residency → IsWalk seen root w done → WalkGoesOn before after residency root w (record { address = here.address; want = here.want; port = here.port; stage = next }) done in
    subst P c.self.view_is
    (λ same started. subst (λ (s : Stage). WalkGoesOn before after residency root here (record { address = here.address; want = here.want; port = here.port; stage = s }) done) (sym becomes)
    (c.steps_follow_the_tables.ensures.reads before after seen residency root level frame here done held same started c.in-Reads.is makes))
    agree going

pub returns-in-Ends-clause-walk : goal.returns-in-Ends-clause-walk
returns-in-Ends-clause-walk g c seen residency root done held agree going =
    let before : CellsState = g.C.Cells.state c.args.cells.now in
    let after : CellsState = g.C.Cells.state c.write_entry.new.cells in
    let here : Walking = record { address = c.self.inside.address; want = c.self.inside.want; port = c.self.inside.port; stage = c.self.inside.stage } in
    let P : Walking → Type 0 = λ w. Agree w.address w.want seen residency → IsWalk seen root w done → WalkEnds before after seen residency root w done c.in-Ends.answer in
    subst P c.self.view_is
    (λ same started. c.steps_follow_the_tables.ensures.ends before after seen residency root c.in-Ends.answer c.in-Ends.write here done held same started c.in-Ends.is c.write_entry.ensures)
    agree going
