-- One page more, and all of the span.
use Rattle.std.proofs.Common.{◌≡◌, ℕ, Bool, ◌||◌, ◌&&◌, leb, ltb, List, ap, sym, ◌∙◌, arith}
use Rattle.vx_image.specs.Building.{is_among}
use Rattle.vx_image.proofs.Collected.{span_none, span_more}
use Rattle.vx_image.proofs.met.push_span.Goals as goal

pub loop-page-init : goal.loop-page-init
loop-page-init c = record { order = omega arith; met = λ n. span_none _ _ n }

pub loop-page-preserved : goal.loop-page-preserved
loop-page-preserved c =
    let before = c.loop-page.invariant in
    record {
      order = omega (arith, before.order);
      met = λ n.
          ap (λ (ps : List ℕ). is_among ps n) c.in_ok-push.ensures.items
          ∙ span_more c.loop-page.pages.items _ _ c.loop-page.page n before.order (before.met n);
    }

pub returns : goal.returns
returns c n =
    let span = c.span_of-span.ensures in
    let end : c.loop-page.page ≡ c.span_of-span.result.end = omega (arith, c.loop-page.invariant.order, span.some) in
    c.loop-page.invariant.met n
    ∙ ap (λ (b : Bool). is_among c.args.pages.now.items n || b) (ap (λ (m : ℕ). leb c.span_of-span.result.start n && ltb n m) end ∙ sym (span.met n))
