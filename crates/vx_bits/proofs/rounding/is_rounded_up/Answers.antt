use Rattle.std.proofs.Common.{◌≡◌, ◌+◌, ◌/◌, ◌^◌, ◌<◌, not, ◌&&◌, leb, nat_eq, sym, ap, ◌∙◌, arith, lt-ltb, ne_eqb}
use Rattle.std.specs.Int.{w128}
use Rattle.std.proofs.lemmas.Int.{to_z-of_z}
use Rattle.vx_base.specs.Numbers.{reduced}
use Rattle.vx_bits.specs.Rounding.{rounds_up}
use Rattle.vx_bits.proofs.Ties.{half_of, ties_up, even_above, even_at, even_below, to_odd}
use Rattle.vx_bits.proofs.rounding.is_rounded_up.Goals as goal

pub returns-in-0 : goal.returns-in-0
returns-in-0 c =
    let v = c.args.v in
    let by = c.args.by in
    let lost = c.reduce-lost.ensures.value ∙ ap (reduced by) (to_z-of_z w128 v c.ranges.v) in
    ap (leb (half_of by)) lost ∙ ties_up v by c.requires.shift c.if-by-eq0.false ∙ ap (rounds_up v by) (sym c.in-0.is)

pub returns-then-lost-half : goal.returns-then-lost-half
returns-then-lost-half c =
    let v = c.args.v in
    let by = c.args.by in
    let lost = c.reduce-lost.ensures.value ∙ ap (reduced by) (to_z-of_z w128 v c.ranges.v) in
    let above : half_of by < reduced by v = omega (arith, lost, c.if-lost-half.true) in
    lt-ltb _ _ c.if-lost-half.true ∙ sym (even_above v by c.requires.shift c.if-by-eq0.false above) ∙ ap (rounds_up v by) (sym c.in-1.is)

pub returns-then-lost-half-2 : goal.returns-then-lost-half-2
returns-then-lost-half-2 c =
    let v = c.args.v in
    let by = c.args.by in
    let back = to_z-of_z w128 v c.ranges.v in
    let lost = c.reduce-lost.ensures.value ∙ ap (reduced by) back in
    let odd = c.reduce.ensures.value ∙ ap (reduced (by + 1)) back in
    ap (λ n. nat_eq (n / 2 ^ by) 1) odd ∙ sym (even_at v by c.requires.shift c.if-by-eq0.false (sym lost ∙ c.if-lost-half-2.true)) ∙ ap (rounds_up v by) (sym c.in-1.is)

pub returns-else-lost-half-2 : goal.returns-else-lost-half-2
returns-else-lost-half-2 c =
    let v = c.args.v in
    let by = c.args.by in
    let lost = c.reduce-lost.ensures.value ∙ ap (reduced by) (to_z-of_z w128 v c.ranges.v) in
    let other = c.if-lost-half-2.false in
    let below : reduced by v < half_of by = omega (arith, lost, c.if-lost-half.false) in
    ne_eqb _ _ other ∙ sym (even_below v by c.requires.shift c.if-by-eq0.false below) ∙ ap (rounds_up v by) (sym c.in-1.is)

pub returns-then-not-is_odd : goal.returns-then-not-is_odd
returns-then-not-is_odd c =
    let v = c.args.v in
    let by = c.args.by in
    let back = to_z-of_z w128 v c.ranges.v in
    let lost = c.reduce-lost.ensures.value ∙ ap (reduced by) back in
    let odd = c.reduce.ensures.value ∙ ap (reduced (by + 1)) back in
    let mode : c.args.vxrm ≡ 3 = omega arith in
    sym (ap (λ t. not t && not (nat_eq c.reduce-lost.result 0)) (ne_eqb (c.reduce.result / 2 ^ by) 1 c.if-not-is_odd.true))
    ∙ (λ i. not (nat_eq (odd i / 2 ^ by) 1) && not (nat_eq (lost i) 0))
    ∙ sym (to_odd v by c.if-by-eq0.false) ∙ ap (rounds_up v by) (sym mode)
