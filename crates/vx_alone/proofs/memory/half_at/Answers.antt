-- The bytes are read as the number that they are.
use Rattle.std.proofs.Common.{◌∙◌, ap, arith, drop, length-drop, take}
use Rattle.std.proofs.lemmas.List.{length-take-le}
use Rattle.std.specs.Int.{from_le_bytes, w16}
use Rattle.vx_alone.proofs.Numbers.{from_two}
use Rattle.vx_alone.proofs.memory.half_at.Goals as goal

pub returns : goal.returns
returns c =
    let rest = drop c.args.at c.args.bytes.now in
    c.from_le_bytes.ensures
    ∙ ap (from_le_bytes w16) c.array_at.ensures
    ∙ from_two (take 2 rest) (length-take-le 2 rest (omega (arith, length-drop c.args.at c.args.bytes.now, c.requires.within)))
