use Rattle.std.proofs.Common.{◌≡◌, ℕ, ◌<◌, List, [], length, get_or, sym, ap, subst, ◌∙◌, arith, length-set}
use Rattle.std.specs.Prelude.{Option}
use Rattle.std.proofs.lemmas.List.{get_or_default}
use Rattle.vx_episode.specs.Batches.{fate_of}
use Rattle.vx_episode.specs.Footprint.{Access}
use Rattle.vx_episode.specs.History.{walks_of_batches, fills_of}
use Rattle.vx_look.proofs.Batched.{fates-each}
use Rattle.vx_look.proofs.Settled.{set-more}
use Rattle.vx_look.proofs.batches.look_each.Goals as goal
use Rattle.vx_serve.specs.Fates.{told, IsKnownBy}
use Rattle.vx_serve.specs.declared.fate.Fate.{Fate}
use Rattle.vx_tlb.specs.Kept.{StandsFor}
use Rattle.vx_tlb.specs.declared.tlb.Kept.{Kept}
use Rattle.vx_vaddr.specs.declared.item.Item.{Item}

pub loop-k-preserved : goal.loop-k-preserved
loop-k-preserved c =
    let within : c.loop-k.k < length c.loop-k.fates = omega (arith, c.loop-k.invariant.count, c.requires.count, c.loop-k-test.true) in
    let item : c.loop-k.k < length c.args.items.now = c.loop-k-test.true in
    record {
      same = c.fate_looked.ensures.same ∙ c.loop-k.invariant.same;
      count = length-set c.loop-k.fates c.loop-k.k c.fate_looked.result ∙ c.loop-k.invariant.count;
      known = λ j d less.
          set-more Fate (λ (n : ℕ) (f : Fate). IsKnownBy c.args.started f) c.loop-k.fates c.loop-k.k c.fate_looked.result d within
          (λ n below. c.loop-k.invariant.known n d below) c.fate_looked.ensures.known j less;
      done = λ j d e a start history earlier less at width stands.
          set-more Fate (λ (n : ℕ) (f : Fate). (e : Item) (a : Access) → a.address ≡ (get_or c.args.items.now n e).address → a.width ≡ (get_or c.args.items.now n e).width → told f ≡ fate_of start history earlier c.args.want c.args.started [] a)
          c.loop-k.fates c.loop-k.k c.fate_looked.result d within
          (λ n below e a at width. c.loop-k.invariant.done n d e a start history earlier below at width stands)
          (λ e a at width.
          c.fate_looked.ensures.looked start history earlier a (at ∙ ap (λ (i : Item). i.address) (get_or_default c.args.items.now c.loop-k.k e _ item))
          (width ∙ ap (λ (i : Item). i.width) (get_or_default c.args.items.now c.loop-k.k e _ item) ∙ sym c.from-width.ensures)
          (subst (λ (ps : List (Option Kept)). StandsFor ps (fills_of (walks_of_batches earlier))) (sym c.loop-k.invariant.same) stands))
          j less e a at width;
    }

pub returns-clause-looked : goal.returns-clause-looked
returns-clause-looked c start history earlier accesses of stands =
    let count : length c.loop-k.fates ≡ length c.args.items.now = c.loop-k.invariant.count ∙ c.requires.count in
    fates-each c.args.items.now accesses of (λ (a : Access). fate_of start history earlier c.args.want c.args.started [] a) c.loop-k.fates count
    (λ k d e a lt at width.
    let below : k < c.loop-k.k = omega (arith, c.loop-k-test.false) in
    c.loop-k.invariant.done k d e a start history earlier below at width stands)
