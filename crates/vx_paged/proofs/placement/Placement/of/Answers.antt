-- One page more, and all of them.
use Rattle.std.proofs.Common.{◌≡◌, ◌<◌, ◌++◌, List, [], ◌∷◌, take, length, sym, ap, subst, ◌∙◌, arith}
use Rattle.std.proofs.lemmas.List.{take_all}
use Rattle.vx_base.specs.declared.perm.PageEntry.{PageEntry}
use Rattle.vx_paged.specs.Framed.{IsPlacement, in_turn}
use Rattle.vx_paged.specs.declared.placement.FramedPage.{FramedPage}
use Rattle.vx_paged.proofs.InTurn.{in_turn-more, IsPlacement-in_turn}
use Rattle.vx_paged.proofs.placement.Placement.of.Goals as goal

pub loop-i-preserved : goal.loop-i-preserved
loop-i-preserved c =
    let d : PageEntry = record { page = 0; perm = record { bits = 0 } } in
    let pages = c.args.pages.now in
    let below : c.loop-i.i < length pages = omega (arith, c.len-i-end.ensures.count) in
    record {
      items =
          c.in_ok-push.ensures.items
          ∙ ap (λ (ps : List FramedPage). ps ++ (record { entry = c.entry_at.result; frame = c.loop-i.frame } ∷ [])) c.loop-i.invariant.items
          ∙ ap (λ (e : PageEntry). in_turn c.args.first (take c.loop-i.i pages) ++ (record { entry = e; frame = c.loop-i.frame } ∷ [])) (c.entry_at.ensures d)
          ∙ sym (in_turn-more c.args.first pages c.loop-i.i d c.loop-i.frame below c.loop-i.invariant.frame);
      frame = omega (arith, c.loop-i.invariant.frame);
    }

pub invariant_of-result : goal.invariant_of-result
invariant_of-result c =
    let pages = c.args.pages.now in
    let all : take c.loop-i.i pages ≡ pages = take_all c.loop-i.i pages (omega (arith, c.len-i-end.ensures.count)) in
    subst IsPlacement (sym (c.loop-i.invariant.items ∙ ap (in_turn c.args.first) all)) (IsPlacement-in_turn c.args.first pages c.len-i-end.ensures.kept c.requires)
