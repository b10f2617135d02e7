use Rattle.std.proofs.Common.{◌≤◌, ap, sym, ◌∙◌, [], ℕ, rules, subst, SFits}
use Rattle.std.specs.Prelude.{unsigned_abs}
use Rattle.std.specs.Int.{w128}
use Rattle.std.proofs.lemmas.Int.{to_z-of_z}
use Rattle.vx_statement.specs.Lexemes.{piece_of}
use Rattle.vx_statement.specs.Slots.{slot_of}
use Rattle.vx_code.proofs.Taken.{count-number, count-below, count-first}
use Rattle.vx_code.proofs.chunk.count_in.Goals as goal

pub some_number-requires-clause-number : goal.some_number-requires-clause-number
some_number-requires-clause-number c = count-number c.requires.counts.0 (slot_of c.args.slot) (piece_of c.args.token.now) c.requires.counts.1 c.requires.filled

pub returns-clause-value : goal.returns-clause-value
returns-clause-value c =
    let fits : SFits w128 c.some_number.result = search rules in
    c.magnitude.ensures ∙ ap unsigned_abs (to_z-of_z w128 c.some_number.result fits ∙ c.some_number.ensures.value) ∙ sym (count-first (piece_of c.args.token.now) [])

pub returns-clause-within : goal.returns-clause-within
returns-clause-within c greatest counts =
    let fits : SFits w128 c.some_number.result = search rules in
    subst (λ (n : ℕ). n ≤ greatest) (sym (c.magnitude.ensures ∙ ap unsigned_abs (to_z-of_z w128 c.some_number.result fits ∙ c.some_number.ensures.value))) (count-below greatest (slot_of c.args.slot) (piece_of c.args.token.now) c.requires.filled counts)
