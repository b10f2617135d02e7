-- All lanes are new, or each is chosen by its bit.
use Rattle.std.proofs.Common.{ℕ, ◌/◌, ◌≡◌, false, if◌then◌else◌, bit_and, ap, subst, ◌∙◌, rules}
use Rattle.vx_bits.specs.declared.saturation.Sat.{Sat}
use Rattle.vx_packed.specs.declared.elements.Lane.{Lane}
use Rattle.vx_packed.specs.declared.elements.Made.{Made}
use Rattle.vx_packed.proofs.Lanes.{merged_all, merged_joined}
use Rattle.vx_packed.proofs.merging.merge.Goals as goal

pub returns-then-lanes-all-clause-value : goal.returns-then-lanes-all-clause-value
returns-then-lanes-all-clause-value c =
    merged_all c.args.width c.args.lanes c.args.new c.args.old c.requires c.ranges.new.fits (subst (λ (n : ℕ). bit_and c.args.lanes n ≡ n) c.ones-all.ensures c.if-lanes-all.true)

pub returns-then-lanes-all-clause-joined : goal.returns-then-lanes-all-clause-joined
returns-then-lanes-all-clause-joined c f e =
    merged_all c.args.width c.args.lanes c.args.new c.args.old c.requires c.ranges.new.fits (subst (λ (n : ℕ). bit_and c.args.lanes n ≡ n) c.ones-all.ensures c.if-lanes-all.true)
    ∙ merged_joined c.args.width (64 / c.args.width) c.args.lanes c.args.new c.args.old f e

pub returns-clause-value : goal.returns-clause-value
returns-clause-value c =
    let chosen : Lane → Sat = λ l. record { value = if l.m then l.a else l.d; sat = false } in
    ap (λ (m : Made). m.value) (c.make_even.ensures chosen (λ l s w p. search rules))

pub returns-clause-joined : goal.returns-clause-joined
returns-clause-joined c f e =
    returns-clause-value c ∙ merged_joined c.args.width (64 / c.args.width) c.args.lanes c.args.new c.args.old f e
