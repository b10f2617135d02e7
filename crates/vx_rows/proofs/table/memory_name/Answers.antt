use Rattle.std.proofs.Common.{◌≡◌, ℕ, ◌%◌, List, [], map, get_or, length, Bor, sym, ap, ◌∙◌, arith}
use Rattle.std.proofs.lemmas.List.{get_or-map, length-map}
use denote.Enum.Declared.{tag_of}
use Rattle.vx_rows.specs.contracts.op.MemoryOp as memory
use Rattle.vx_rows.specs.Table.{all_memory_names}
use Rattle.vx_rows.proofs.Named.{named, within, eight}
use Rattle.vx_rows.proofs.table.memory_name.Goals as goal

pub returns : goal.returns
returns c =
    let names = c.memory_names.result.now in
    let texts = λ (xs : List (Bor (List ℕ))). map (λ (x : Bor (List ℕ)). x.now) xs in
    let k = tag_of memory.the_type c.args.op in
    let at : get_or (map texts names) k [] ≡ texts (get_or names k []) = get_or-map texts names k [] [] (rw c.memory_names.ensures.count (within c.args.op)) in
    let row : texts (get_or names k []) ≡ get_or all_memory_names k [] = sym at ∙ ap (λ l. get_or l k []) c.memory_names.ensures.names in
    let long : length (get_or names k []) ≡ 8 = sym (length-map (get_or names k []) (λ (x : Bor (List ℕ)). x.now)) ∙ ap length row ∙ eight c.args.op in
    let n : c.from.result ≡ c.args.nf % 8 = omega arith in
    sym (get_or-map (λ (x : Bor (List ℕ)). x.now) (get_or names k []) c.from.result _ [] (omega arith))
    ∙ ap (λ l. get_or l c.from.result []) row
    ∙ ap (λ i. get_or (get_or all_memory_names k []) i []) n
    ∙ named c.args.op c.args.nf c.requires
