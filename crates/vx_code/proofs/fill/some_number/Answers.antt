use Rattle.std.proofs.Common.{ap, ◌∙◌}
use Rattle.vx_language.specs.Numerals.{number_value}
use Rattle.vx_language.specs.Slots.{Range, is_within}
use Rattle.vx_statement.specs.Lexemes.{piece_of}
use Rattle.vx_statement.specs.Slots.{slot_of}
use Rattle.vx_code.proofs.Taken.{number-within}
use Rattle.vx_code.proofs.fill.some_number.Goals as goal

pub number-requires : goal.number-requires
number-requires c =
    ap (λ (r : Range). is_within r (number_value c.args.token.now.text.now)) c.slot_range.ensures ∙ number-within (slot_of c.args.slot) (piece_of c.args.token.now) c.requires.filled c.requires.number
