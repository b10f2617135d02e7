-- The search by number finds the page, or none has it.
use Rattle.std.proofs.Common.{rules, sym, ap, ◌∙◌}
use Rattle.std.proofs.lemmas.List.Sorted.{answers_always}
use Rattle.vx_paged.specs.declared.placement.FramedPage.{FramedPage}
use Rattle.vx_paged.proofs.Found.{searched, answer_at}
use Rattle.vx_paged.proofs.paged.page_numbered.Goals as goal

pub returns-in-Ok : goal.returns-in-Ok
returns-in-Ok c =
    let d : FramedPage = record { entry = record { page = 0; perm = record { bits = 0 } }; frame = 0 } in
    let facts = c.binary_search_by_key.ensures in
    let by_key = facts.position (λ (p : FramedPage). p.entry.page) (answers_always _ _ _ (λ f a r g called. search rules)) in
    ap (answer_at c.args.pages.now d) (sym c.in-Ok.is) ∙ searched c.args.pages.now c.requires c.args.number d _ facts.bound by_key

pub returns-in-Err : goal.returns-in-Err
returns-in-Err c =
    let d : FramedPage = record { entry = record { page = 0; perm = record { bits = 0 } }; frame = 0 } in
    let facts = c.binary_search_by_key.ensures in
    let by_key = facts.position (λ (p : FramedPage). p.entry.page) (answers_always _ _ _ (λ f a r g called. search rules)) in
    ap (answer_at c.args.pages.now d) (sym c.in-Err.is) ∙ searched c.args.pages.now c.requires c.args.number d _ facts.bound by_key
