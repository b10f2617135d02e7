use Rattle.std.proofs.Common.{◌≡◌, ℤ, pos, neg_ℤ, ◌&&◌, true, sym, ap, ◌∙◌, rules}
use Rattle.std.specs.Prelude.{int_le}
use Rattle.std.specs.Int.{w128}
use Rattle.std.proofs.lemmas.Int.{to_z-of_z}
use Rattle.vx_code.proofs.Words.{short-loaded, long-loaded}
use Rattle.vx_code.proofs.instrs.push_number_load.Goals as goal

pub returns-then-is_short : goal.returns-then-is_short
returns-then-is_short c =
    let same = to_z-of_z w128 c.args.value c.ranges.value in
    let short : (int_le (neg_ℤ (pos 2048)) c.args.value && int_le c.args.value (pos 2047)) ≡ true = sym (c.is_short.ensures ∙ ap (λ (z : ℤ). int_le (neg_ℤ (pos 2048)) z && int_le z (pos 2047)) same) ∙ c.if-is_short.true in
    short-loaded c.push_scalar.result c.args.rd c.args.value c.args.out.now.items c.push_scalar.new.out.items short (search rules)

pub returns-else-is_short : goal.returns-else-is_short
returns-else-is_short c =
    let same = to_z-of_z w128 c.args.value c.ranges.value in
    long-loaded c.push_upper_load.result c.args.rd c.args.value c.args.out.now.items c.push_upper_load.new.out.items (sym (c.is_short.ensures ∙ ap (λ (z : ℤ). int_le (neg_ℤ (pos 2048)) z && int_le z (pos 2047)) same) ∙ c.if-is_short.false) (rw same at c.push_upper_load.ensures)
