use Rattle.std.proofs.Common.{◌≡◌, ◌≢◌, ℕ, ◌<◌, ◌≤◌, length, get_or, sym, ap, subst, ◌∙◌, arith, length-set, get_or-set_other}
use Rattle.std.proofs.lemmas.List.{get_or_default}
use Rattle.vx_episode.specs.Footprint.{Access}
use Rattle.vx_look.proofs.Settled.{set-more}
use Rattle.vx_look.proofs.batches.settle.Goals as goal
use Rattle.vx_serve.specs.Fates.{told, IsKnownBy}
use Rattle.vx_look.specs.LookUps.{updated}
use Rattle.vx_serve.specs.declared.fate.Fate.{Fate}
use Rattle.vx_vaddr.specs.declared.item.Item.{Item}

pub loop-k-preserved : goal.loop-k-preserved
loop-k-preserved c =
    let within : c.loop-k.k < length c.loop-k.fates = omega (arith, c.loop-k.invariant.count, c.requires.count, c.loop-k-test.true) in
    let item : c.loop-k.k < length c.args.items.now = c.loop-k-test.true in
    let old : c.loop-k.k < length c.args.fates.now = omega (arith, c.requires.count, c.loop-k-test.true) in
    let here : c.loop-k.k ≤ c.loop-k.k = omega arith in
    record {
      count = length-set c.loop-k.fates c.loop-k.k c.fate_settled.result ∙ c.loop-k.invariant.count;
      done = λ j d e a less at.
          set-more Fate (λ (n : ℕ) (f : Fate). (e : Item) (a : Access) → a.address ≡ (get_or c.args.items.now n e).address → told f ≡ updated c.args.page c.args.ended c.args.walked a (told (get_or c.args.fates.now n d)))
          c.loop-k.fates c.loop-k.k c.fate_settled.result d within
          (λ n below e a at. c.loop-k.invariant.done n d e a below at)
          (λ e a at.
          c.fate_settled.ensures.settled a (at ∙ ap (λ (i : Item). i.address) (get_or_default c.args.items.now c.loop-k.k e _ item))
          ∙ ap (λ (f : Fate). updated c.args.page c.args.ended c.args.walked a (told f)) (c.loop-k.invariant.rest c.loop-k.k _ here ∙ get_or_default c.args.fates.now c.loop-k.k _ d old))
          j less e a at;
      known = λ before le all j d less.
          set-more Fate (λ (n : ℕ) (f : Fate). IsKnownBy c.args.ended f) c.loop-k.fates c.loop-k.k c.fate_settled.result d within
          (λ n below. c.loop-k.invariant.known before le all n d below)
          (c.fate_settled.ensures.known before le (subst (IsKnownBy before) (sym (c.loop-k.invariant.rest c.loop-k.k _ here)) (all c.loop-k.k _ old)))
          j less;
      rest = λ j d above.
          let apart : j ≢ c.loop-k.k = omega arith in
          let later : c.loop-k.k ≤ j = omega arith in
          get_or-set_other c.loop-k.fates c.loop-k.k j c.fate_settled.result d apart ∙ c.loop-k.invariant.rest j d later;
    }
