-- The word is merged from what was there, and the access noted.
use Rattle.std.proofs.Common.{◌≡◌, ℕ, ◌*◌, ◌<◌, [], ◌∷◌, length, get_or, refl, sym, ap, subst, ◌∙◌, arith}
use Rattle.std.specs.Prelude.{slice_set}
use Rattle.std.proofs.lemmas.List.{get_or_read}
use Rattle.vx_cells.specs.Cells.{Makes, write_at}
use Rattle.vx_cells.specs.LogCells.{LogCellsView, log_cells_told, after_access}
use Rattle.vx_cells.specs.Merging.{merged}
use Rattle.vx_cells.proofs.Logged.{Makes-after_access}
use Rattle.vx_cells.proofs.Merged.{merged-twice}
use Rattle.vx_cells.proofs.log_cells.LogCellsCells.write.Goals as goal

pub returns-clause-exact : goal.returns-clause-exact
returns-clause-exact c =
    let words = c.self.inside.words.items in
    let word = c.args.word in
    let bytes = c.args.bytes in
    let value = c.args.value in
    let frames = ap (λ (s : LogCellsView). s.frames) c.self.view_is in
    let within : word < length words = omega (arith, frames, c.self.invariant.0, c.self.inside.words.ok.0) in
    let old : c.index_mut-place.result.now ≡ get_or words word 0 = get_or_read words word _ within c.index_mut-place.ensures.value 0 in
    let new : c.merged.result ≡ merged bytes (get_or words word 0) (merged bytes 0 value) =
    c.merged.ensures ∙ ap (λ (n : ℕ). merged bytes n value) old ∙ sym (merged-twice bytes (get_or words word 0) value) in
    rw (← c.self.view_is, new, c.note-self-inside.ensures.over, c.note-self-inside.ensures.entries, c.merged-2.ensures) refl

pub returns-clause-makes : goal.returns-clause-makes
returns-clause-makes c =
    subst (λ (s : LogCellsView). Makes (log_cells_told c.args.self.now) (log_cells_told s) (write_at (log_cells_told c.args.self.now) c.args.port c.args.word c.args.value c.args.bytes ∷ [])) (sym (returns-clause-exact c))
    (Makes-after_access c.args.self.now (write_at (log_cells_told c.args.self.now) c.args.port c.args.word c.args.value c.args.bytes))
