-- By the groups of words in a row.
use Rattle.std.proofs.Common.{◌≡◌, ◌+◌, ◌-◌, ◌/◌, ap, sym, ◌∙◌}
use Rattle.vx_beats.proofs.Groups.{all-groups, no-groups}
use Rattle.vx_beats.proofs.count.groups_in.Goals as goal

pub returns-then-span-clause-groups : goal.returns-then-span-clause-groups
returns-then-span-clause-groups c = no-groups c.args.lanes c.args.span.first c.args.span.after c.if-span.true

pub returns-clause-groups : goal.returns-clause-groups
returns-clause-groups c =
    let last : c.group_of.result ≡ (c.args.span.after - 1) / c.args.lanes = c.group_of.ensures ∙ ap (λ n. (c.args.span.after - 1) / n) c.power_of-power.ensures.is in
    let first : c.group_of-2.result ≡ c.args.span.first / c.args.lanes = c.group_of-2.ensures ∙ ap (λ n. c.args.span.first / n) c.power_of-power.ensures.is in
    let all = all-groups c.args.lanes c.args.span.first c.args.span.after c.requires c.if-span.false in
    all ∙ λ j. sym last j + 1 - sym first j
