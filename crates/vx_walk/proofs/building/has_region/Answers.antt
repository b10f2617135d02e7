-- The first page at or above the region tells.
use Rattle.std.proofs.Common.{ℕ, ◌≢◌, inl, inr, eqb, sym, ◌∙◌, arith}
use Rattle.std.proofs.lemmas.Bool.{cases_Bool, cases_lt, eqb-true, eq-eqb, le-ltb, false≢true}
use Rattle.vx_walk.proofs.Ordered.{region-there, region-past, region-above, nothing}
use Rattle.vx_walk.proofs.building.has_region.Goals as goal

pub returns-then-index-len : goal.returns-then-index-len
returns-then-index-len c =
    let index : ℕ = c.first_from-index.result in
    elim (cases_Bool (eqb c.region_at.result c.args.region)) [
      | inl same ↦ same ∙ sym (region-there c.args.pages.now c.args.size c.args.region index nothing (omega arith) (sym (c.region_at.ensures nothing) ∙ eqb-true c.region_at.result c.args.region same))
      | inr differs ↦
          let apart : c.region_at.result ≢ c.args.region = λ e. false≢true (sym differs ∙ eq-eqb c.region_at.result c.args.region e) in
          differs ∙ sym (region-above c.args.pages.now c.args.size c.args.region index c.len.ensures.kept c.requires c.first_from-index.ensures
          (λ d. let at = c.region_at.ensures d in let least = c.first_from-index.ensures.behind index d (omega arith) (omega arith) in
          elim (cases_lt c.args.region c.region_at.result) [
            | inl more ↦ omega (arith, at)
            | inr less ↦ absurd (apart (omega (arith, at, least)))
          ])
          (omega arith))
    ]

pub returns-else-index-len : goal.returns-else-index-len
returns-else-index-len c =
    le-ltb c.first_from-index.result c.len.result c.if-index-len.false
    ∙ sym (region-past c.args.pages.now c.args.size c.args.region c.first_from-index.result c.first_from-index.ensures (omega arith))
