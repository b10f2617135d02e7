-- One element, and twice as many until the word is filled.
use Rattle.std.proofs.Common.{◌≡◌, ℕ, ◌/◌, ◌-◌, ◌^◌, bit_and, ap, ◌∙◌, sym, arith}
use Rattle.std.proofs.lemmas.Nat.{and_mask}
use Rattle.vx_packed.specs.Joined.{joined}
use Rattle.vx_packed.proofs.Lanes.{joined_one}
use Rattle.vx_packed.proofs.merging.splat.Goals as goal

-- x cut down to a width is one element
one : (width x ones : ℕ) → ones ≡ 2 ^ width - 1 → bit_and x ones ≡ joined width 1 (λ k. x)
one width x ones e = ap (bit_and x) e ∙ and_mask x width ∙ joined_one width x

at : (width w x : ℕ) → width ≡ w → joined w (64 / w) (λ k. x) ≡ joined width (64 / width) (λ k. x)
at width w x e = ap (λ n. joined n (64 / n) (λ k. x)) (sym e)

pub returns-in-8 : goal.returns-in-8
returns-in-8 c =
    let first = one 8 c.args.x c.ones.result (c.ones.ensures ∙ ap (λ n. 2 ^ n - 1) c.in-8.is) in
    c.doubled-in-8-2.ensures.value c.args.x (c.doubled-in-8.ensures.value c.args.x (c.doubled.ensures.value c.args.x first)) ∙ at c.args.width 8 c.args.x c.in-8.is

pub returns-in-16 : goal.returns-in-16
returns-in-16 c =
    let first = one 16 c.args.x c.ones.result (c.ones.ensures ∙ ap (λ n. 2 ^ n - 1) c.in-16.is) in
    c.doubled-in-16-2.ensures.value c.args.x (c.doubled-in-16.ensures.value c.args.x first) ∙ at c.args.width 16 c.args.x c.in-16.is

pub returns-in-32 : goal.returns-in-32
returns-in-32 c =
    let first = one 32 c.args.x c.ones.result (c.ones.ensures ∙ ap (λ n. 2 ^ n - 1) c.in-32.is) in
    c.doubled-in-32.ensures.value c.args.x first ∙ at c.args.width 32 c.args.x c.in-32.is

pub returns-in_default : goal.returns-in_default
returns-in_default c =
    let rest : c.args.width ≡ 64 = grind (arith, c.requires) in
    one c.args.width c.args.x c.ones.result c.ones.ensures ∙ ap (λ n. joined c.args.width (64 / n) (λ k. c.args.x)) (sym rest)
