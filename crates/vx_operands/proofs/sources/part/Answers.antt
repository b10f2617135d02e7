-- The bits of the elements begin at the first one's, and lie in one word.
use Rattle.std.proofs.Common.{ℕ, ◌+◌, ◌*◌, ◌/◌, ◌%◌, sym, ap, ◌∙◌, arith}
use Rattle.vx_base.specs.Numbers.{field}
use Rattle.vx_vstate.specs.Registers.{word_at, element_bit}
use Rattle.vx_operands.proofs.Places.{part_element, part_small, registers_small, lane_shifted}
use Rattle.vx_operands.proofs.sources.part.Goals as goal

pub overflow_mul-first : goal.overflow_mul-first
overflow_mul-first g c =
    let small = part_small c.args.w c.args.count c.args.width (c.args.register * (c.args.at.now.vlen / 64)) (c.args.at.now.vlen / 64) c.requires.some c.requires.within (registers_small c.args.at.now.vlen c.args.at.now.vlen_in_range) in
    omega arith

pub returns : goal.returns
returns g c k l =
    let at = part_element c.args.width c.args.count c.args.w k c.requires.some c.requires.divides l in
    lane_shifted c.args.width c.group_word.result (c.args.w * c.args.count * c.args.width % 64) k
    ∙ (λ i. field (c.group_word.ensures i) (sym at.1 i) c.args.width)
    ∙ ap (λ (n : ℕ). field (word_at c.args.at.now.vlen (g.S.WordFile.words c.args.file.now) c.args.register n) (element_bit c.args.width (c.args.w * c.args.count + k)) c.args.width) (sym at.0)
