-- The word is merged from what was there.
use Rattle.std.proofs.Common.{◌≡◌, ℕ, ◌*◌, ◌<◌, List, length, get_or, sym, ap, ◌∙◌, arith}
use Rattle.std.specs.Prelude.{slice_set}
use Rattle.std.proofs.lemmas.List.{get_or_read}
use Rattle.vx_cells.specs.Cells.{CellsState}
use Rattle.vx_cells.specs.Merging.{merged}
use Rattle.vx_cells.proofs.Merged.{merged-twice}
use Rattle.vx_cells.proofs.vec_cells.VecCellsCells.write.Goals as goal

pub returns-clause-makes : goal.returns-clause-makes
returns-clause-makes c =
    let words = c.self.inside.words.items in
    let word = c.args.word in
    let bytes = c.args.bytes in
    let value = c.args.value in
    let frames = ap (λ (s : CellsState). s.frames) c.self.view_is in
    let within : word < length words = omega (arith, frames, c.self.invariant.0, c.self.inside.words.ok.0) in
    let old : c.index_mut-place.result.now ≡ get_or words word 0 = get_or_read words word _ within c.index_mut-place.ensures.value 0 in
    let new : c.merged.result ≡ merged bytes (get_or words word 0) (merged bytes 0 value) =
    c.merged.ensures ∙ ap (λ (n : ℕ). merged bytes n value) old ∙ sym (merged-twice bytes (get_or words word 0) value) in
    let frames_are = ap (λ (s : CellsState). s.frames) c.self.view_is in
    let cycle_is = ap (λ (s : CellsState). s.cycle) c.self.view_is in
    let contents_are = ap (λ (s : CellsState). s.contents) c.self.view_is in
    record {
      frames = frames_are;
      cycle = cycle_is;
      contents = ap (slice_set words word) new ∙ ap (λ (ws : List ℕ). slice_set ws word (merged bytes (get_or ws word 0) (merged bytes 0 value))) contents_are;
      log = tt;
    }
