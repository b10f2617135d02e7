-- The bytes that are put are those of the number.
use Rattle.std.proofs.Common.{◌≡◌, ℕ, ◌+◌, ◌++◌, List, take, drop, subst, ap, ◌∙◌, arith}
use Rattle.vx_alone.proofs.Numbers.{IsPut, all_put, first_of_eight, more_put, put_none}
use Rattle.vx_alone.proofs.memory.put_low.Goals as goal

pub loop-k-init : goal.loop-k-init
loop-k-init g c = put_none c.args.bytes.now c.to_le_bytes-low.result c.args.at

pub loop-k-preserved : goal.loop-k-preserved
loop-k-preserved g c =
    more_put c.args.bytes.now c.to_le_bytes-low.result c.loop-k.bytes c.args.at c.loop-k.k (omega arith) (omega arith) c.loop-k.invariant

pub returns : goal.returns
returns g c =
    let old = c.args.bytes.now in
    let n = g.row.N in
    let through : c.loop-k.k ≡ n = omega arith in
    let put = subst (λ (k : ℕ). IsPut old c.to_le_bytes-low.result c.args.at k c.loop-k.bytes) through c.loop-k.invariant in
    all_put old c.to_le_bytes-low.result c.loop-k.bytes c.args.at n put
    ∙ ap (λ (xs : List ℕ). take c.args.at old ++ (xs ++ drop (c.args.at + n) old)) (ap (λ (xs : List ℕ). take n xs) c.to_le_bytes-low.ensures ∙ first_of_eight c.args.value n c.requires.count)
