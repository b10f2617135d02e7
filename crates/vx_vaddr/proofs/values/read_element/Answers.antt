-- The element is the one lane of a part of a word.
use Rattle.std.proofs.Common.{◌≡◌, ◌+◌, ◌*◌, sym, ap, ◌∙◌, arith}
use Rattle.vx_vstate.specs.Registers.{element}
use Rattle.vx_vaddr.proofs.Places.{first_lane}
use Rattle.vx_vaddr.proofs.values.read_element.Goals as goal

pub returns : goal.returns
returns g c =
    let one : c.args.index * 1 + 0 ≡ c.args.index = omega arith in
    c.low.ensures.value
    ∙ sym (first_lane c.args.width c.part.result)
    ∙ c.part.ensures 0 (omega arith)
    ∙ ap (element c.args.at.now.vlen (g.S.WordFile.words c.args.file.now) c.args.register c.args.width) one
