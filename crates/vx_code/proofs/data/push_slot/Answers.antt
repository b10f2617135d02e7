use Rattle.std.proofs.Common.{◌*◌, ◌++◌, ℤ, ℕ, List, sym, ap, ◌∙◌, append-nil, rules, SFits}
use Rattle.std.specs.Int.{w128}
use Rattle.std.proofs.lemmas.Int.{to_z-of_z}
use Rattle.vx_base.specs.Numbers.{reduced, little_endian}
use Rattle.vx_statement.specs.Lexemes.{piece_of}
use Rattle.vx_code.proofs.Taken.{some-bytes, none-bytes}
use Rattle.vx_code.proofs.Words.{on-ok}
use Rattle.vx_code.proofs.data.push_slot.Goals as goal

pub returns-in-Some : goal.returns-in-Some
returns-in-Some c =
    let fits : SFits w128 c.in-Some.value = search rules in
    on-ok c.push_number.result c.args.out.now.items c.push_number.new.out.items _ _ c.push_number.ensures
    (ap (λ (value : ℤ). little_endian c.args.count (reduced (8 * c.args.count) value)) (to_z-of_z w128 c.in-Some.value fits)
    ∙ some-bytes (λ (value : ℤ). little_endian c.args.count (reduced (8 * c.args.count) value)) (piece_of c.args.token.now) c.in-Some.value c.in-Some.ensures.value)

pub returns-in-None : goal.returns-in-None
returns-in-None c =
    sym (ap (λ (l : List ℕ). c.args.out.now.items ++ l) (none-bytes (λ (value : ℤ). little_endian c.args.count (reduced (8 * c.args.count) value)) (piece_of c.args.token.now) c.in-None.ensures.value) ∙ append-nil c.args.out.now.items)
