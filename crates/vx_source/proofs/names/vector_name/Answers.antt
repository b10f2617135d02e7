use Rattle.std.proofs.Common.{List, [], Bor, ◌<◌, length, ◌∙◌, sym, ap, get_or, arith}
use Rattle.std.specs.Prelude.{ℕ}
use Rattle.std.proofs.lemmas.List.{get_or-map}
use Rattle.vx_source.specs.Names.{vector_names}
use Rattle.vx_source.proofs.names.vector_name.Goals as goal

pub returns : goal.returns
returns c =
    let names = c.vector_names.result.now in
    let n = c.from.result in
    let within : n < length names = omega arith in
    sym (get_or-map (λ (x : Bor (List ℕ)). x.now) names n _ [] within)
    ∙ (ap (λ (l : List (List ℕ)). get_or l n []) c.vector_names.ensures.names ∙ ap (λ k. get_or vector_names k []) c.from.ensures)
